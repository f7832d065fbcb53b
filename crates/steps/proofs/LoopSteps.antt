-- The `l` step by what its tests answered: questions 31, 56 and 32, and the nogood that it adds.
-- Assumes nothing.
use mathlib.Core.Path.{◌≡◌, refl, sym, ◌∙◌, ap, subst}
use mathlib.Core.Bool.{Bool, true, false, not, true≢false}
use mathlib.Core.List.Memᴰ
use mathlib.Core.List.{List, [], ◌∷◌, map}
use mathlib.Core.Logic.{inl, inr}
use Prim.Native.Nat.{ℕ, ◌+◌, ◌≤◌, ◌<◌}
use native.Mathlib.Omega.{arith}
use lib.Dec.{T}
use lib.IntN.{ℤ, pos}
use lib.ListN.{length, take, get_or}
use Rattle.words.specs.Limits.{largest}
use Rattle.words.specs.Lists.{◌∈◌, all, filter}
use Rattle.words.specs.Literals.{variable, complement, top}
use Rattle.words.proofs.Lists.{itself, any-decides, all-decides, and-decides, eqb-decides, leb-decides, not-decides, if-true, is_true, passed, failed, and_left}
use Rattle.words.proofs.Places.{in-at}
use Rattle.words.proofs.Tops.{top-decides}
use Rattle.words.proofs.Descending.{below?}
use Rattle.aspif.specs.Rules.{Rule, InputRule, expand}
use Rattle.marks.specs.Marks.{listed, marked, Marks}
use Rattle.text.specs.declared.Letter.TheVariants.{Loop}
use Rattle.drupe.specs.Lines.{is_positive}
use Rattle.derivation.specs.States.{State, is_atom}
use Rattle.derivation.specs.Loops.{is_loop}
use Rattle.derivation.specs.Steps.{add, is_external, all_atoms, all_named, by_letter}
use Rattle.names.specs.Queries.{asks, asked_names}
use Rattle.names.specs.declared.queries.Query.TheVariants.{External}
use Rattle.heads.specs.Heads.{Externals}
use Rattle.std.specs.Prelude.{Some, Result, Err}
use Rattle.loops.specs.Edges.{Members}
use Rattle.nogoods.specs.Store.{Stored}
use Rattle.steps.specs.After.{with_added, stored_after}
use Rattle.steps.specs.Held.{Program, PassedLine, name_of, Tracks, Above, LoopNogood, LoopAdded, Fitted, HoldsState, Leaves, gathered}
use Rattle.steps.proofs.Names.{all_named_lem, name-found}
use Rattle.steps.proofs.Letters.{some_number, cited}
use Rattle.steps.proofs.Loops.{all-atoms, external-by, row-gathered, loop-nogood}
use Rattle.steps.proofs.Gathering.{gathered-count}
use Rattle.steps.proofs.Kept.{kept_more}
use Rattle.drupe.specs.declared.ProofFault.TheVariants.{NoAtoms, UnnamedBody, NoLoop}
use Rattle.drupe.specs.declared.ProofFault.{ProofFault}

-- the numbers of an `l` line are positive
positive : (U : List ℤ) → PassedLine Loop U → (x : ℤ) → x ∈ U → T (is_positive x)
positive [] line x i = elim i [ ]
positive (h ∷ hs) line x i = if-true (all-decides (λ x. itself (is_positive x)) (h ∷ hs)) line.signs x i

pub members : (U : List ℤ) → PassedLine Loop U → Members U
members U line = record {
  positive = λ x i. (passed (is_positive x)).to (positive U line x i);
  high = line.literals.high;
  once = line.literals.once;
  few = line.few;
}

-- names are above the atoms of an `l` line
pub names-above : {table : List ℤ} {rules N : ℕ} {ws : List InputRule} {known names : List ℕ} {bodies : List ℤ} (z : State)
    → Tracks N ws known names bodies z.introduced z.named → Program table rules N ws → (U : List ℤ) → PassedLine Loop U → top U ≤ N
    → Above table rules names bodies (get_or U 0 (pos 0)) ws (name_of z.named)
names-above {N = N} z T p U line k = record { holds = p.holds; kept = T.kept; above = above }
  where
    first : variable (get_or U 0 (pos 0)) ≤ N
    first = (all-decides (λ x. leb-decides (variable x) N) U).to ((top-decides N U).from k) (get_or U 0 (pos 0)) (in-at (pos 0) U 0 (some_number Loop refl line))

    above : (L : List ℤ) → ¬ (name_of z.named L ≡ 0) → variable (get_or U 0 (pos 0)) < name_of z.named L
    above L f =
        let x = name-found z.named L f in
        let low = T.proper.low x.0 x.1 in
        let new = T.proper.new x.0 x.1 in
        elim (below? N x.0.name) [
          | inl m ↦ omega (arith, first, x.2.0)
          | inr m ↦ absurd (new ((and-decides (leb-decides 1 x.0.name) (leb-decides x.0.name N)).from (low, omega arith)))
        ]

-- so are those that are asked for
asked-above : {called : List ℤ → ℕ} (h : ℤ) → ((L : List ℤ) → ¬ (called L ≡ 0) → variable h < called L) → (m : List ℕ) (P : List Rule) (v : ℕ)
    → listed (asked_names External m called P) v ≡ true → 1 ≤ v → variable h < v
asked-above {called} h f m P v e k =
    let q = if-true (any-decides (eqb-decides v) (asked_names External m called P)) e in
    let r = Memᴰ.of_map (λ (r : Rule). called r.body) (filter (asks External m) P) q.1 in
    let b = f r.0.body (λ z. omega (arith, r.2, q.2)) in
    omega (arith, r.2, q.2)

-- the nogood of an `l` step from a row of names: the first n + 1 words of w are h and their complements
pub row-nogood : {table : List ℤ} {rules : ℕ} {names : List ℕ} {bodies : List ℤ} {h : ℤ} {ws : List InputRule} {called : List ℤ → ℕ}
    → Above table rules names bodies h ws called → (m : List ℕ) (row w : List ℤ) (n : ℕ) → 1 ≤ variable h → variable h ≤ largest
    → Externals (asked_names External m called (expand ws)) row (Some n) → n + 1 ≤ length w → take (n + 1) w ≡ h ∷ map complement (take n row)
    → LoopNogood (asked_names External m called (expand ws)) h w (Some (n + 1))
row-nogood {h = h} {ws} {called} A m row w n low high E room e =
    let l = asked_names External m called (expand ws) in
    let g = e ∙ row-gathered (listed l) h (take n row) low high E.1 E.2 E.3 (λ v i t k. asked-above h A.above m (expand ws) v t k) in
    (gathered-count (listed l) h largest w (n + 1) room g, g, E.4, room)

module _ {N : ℕ} {ws : List InputRule} {known names : List ℕ} {bodies : List ℤ} (z : State) (tracks : Tracks N ws known names bodies z.introduced z.named)
    (origin size : ℕ) (stored : List Stored) (store : List ℤ) (index : List ℕ) where
  -- what the step of this number leaves
  abbrev LoopLeaves : List ℤ → Result ℕ ProofFault → Type 0
  LoopLeaves U r = Leaves N ws (stored_after origin size Loop U stored) known names bodies store index (by_letter N (expand ws) z Loop U) r

  module _ (U : List ℤ) (line : PassedLine Loop U) where
    atoms-not : N < top U → all_atoms N z U ≡ false
    atoms-not h = failed _ ((not-decides (all-atoms N z U line.literals.low)).from (λ k. omega arith))

    atoms_are : top U ≤ N → all_atoms N z U ≡ true
    atoms_are = is_true (all-atoms N z U line.literals.low)

  pub loop-atoms : (U : List ℤ) → PassedLine Loop U → all (λ x. marked known (variable x)) U ≡ true → N < top U → LoopLeaves U (Err NoAtoms)
  loop-atoms [] line k a = absurd (true≢false (sym line.signs))
  loop-atoms (h ∷ hs) line k a = rw (cited z tracks Loop (h ∷ hs) line refl k, atoms-not (h ∷ hs) line a) refl

  pub loop-not : (U : List ℤ) → PassedLine Loop U → all (λ x. marked known (variable x)) U ≡ true → top U ≤ N
      → is_loop (expand ws) U ≡ false → LoopLeaves U (Err NoLoop)
  loop-not [] line k a l = absurd (true≢false (sym line.signs))
  loop-not (h ∷ hs) line k a l = rw (cited z tracks Loop (h ∷ hs) line refl k, atoms_are (h ∷ hs) line a, l) refl

  -- the names of the external bodies, as they are found by marks of the set
  module _ (inside : List ℕ) where
    abbrev asked : List ℕ
    asked = asked_names External inside (name_of z.named) (expand ws)

    external : (U : List ℤ) → PassedLine Loop U → Marks inside (map variable U) → asked ≡ map (λ r. name_of z.named r.body) (filter (is_external U) (expand ws))
    external U line set =
        ap (λ (f : Rule → Bool). map (λ r. name_of z.named r.body) (filter f (expand ws))) (external-by U set (λ x i. (positive U line x i, line.literals.high x i)))

    named-is : (U : List ℤ) → PassedLine Loop U → Marks inside (map variable U) → not (listed asked 0) ≡ all_named (expand ws) z U
    named-is U line set = ap (λ l. not (listed l 0)) (external U line set) ∙ all_named_lem (expand ws) z tracks.proper U

    loop-named : (U : List ℤ) → PassedLine Loop U → all (λ x. marked known (variable x)) U ≡ true → top U ≤ N
        → is_loop (expand ws) U ≡ true → Marks inside (map variable U)
        → listed asked 0 ≡ true → LoopLeaves U (Err UnnamedBody)
    loop-named [] line k a l set n = absurd (true≢false (sym line.signs))
    loop-named (h ∷ hs) line k a l set n =
        rw (cited z tracks Loop (h ∷ hs) line refl k, atoms_are (h ∷ hs) line a, l, sym (named-is (h ∷ hs) line set) ∙ ap not n) refl

    loop-added : (U : List ℤ) → PassedLine Loop U → all (λ x. marked known (variable x)) U ≡ true → top U ≤ N
        → is_loop (expand ws) U ≡ true → Marks inside (map variable U)
        → listed asked 0 ≡ false → N ≤ largest → (r : Result ℕ ProofFault)
        → Fitted (with_added origin size stored (add z (gathered (listed asked) (get_or U 0 (pos 0)) largest 1 ∷ []))) store index r → LoopLeaves U r
    loop-added [] line k a l set n high r q = absurd (true≢false (sym line.signs))
    loop-added (h ∷ hs) line k a l set n high r q =
        let U = h ∷ hs in
        let all-atoms = atoms_are U line a in
        let atom : T (is_atom N (variable h)) = (passed (is_atom N (variable h))).from (and_left _ _ all-atoms) in
        rw (cited z tracks Loop U line refl k, all-atoms, l, sym (named-is U line set) ∙ ap not n)
        (subst (λ (g : List ℤ). Fitted (with_added origin size stored (add z (g ∷ []))) store index r) (ap (λ l. gathered (listed l) h largest 1) (external U line set) ∙ loop-nogood (expand ws) z tracks.proper h U atom high) q, tracks)

    -- by what is added to the store, which held the state before
    pub loop-ends : (U : List ℤ) → PassedLine Loop U → all (λ x. marked known (variable x)) U ≡ true → top U ≤ N
        → is_loop (expand ws) U ≡ true → Marks inside (map variable U) → N ≤ largest
        → {before : List ℤ} {was : List ℕ} {used : ℕ} → HoldsState before was used z stored → (r : Result ℕ ProofFault)
        → LoopAdded asked (get_or U 0 (pos 0)) size origin stored store index r → LoopLeaves U r
    loop-ends U line k a l set high K r (inl q) = subst (LoopLeaves U) (sym q.1) (loop-named U line k a l set q.0)
    loop-ends U line k a l set high K r (inr q) = loop-added U line k a l set q.0 high r (kept_more K origin size _ store index r q.1)
