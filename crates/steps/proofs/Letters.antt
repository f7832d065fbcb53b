-- What a line leaves, by the answers to the questions of its letter: 26 and 27 as the arrays answer them, then the letter's own.
-- Assumes nothing.
use mathlib.Core.Path.{◌≡◌, refl, sym, ◌∙◌, ap, fun_ext, subst}
use mathlib.Core.Bool.{Bool, true, false, cond, not, ◌&&◌, and-false, and-true, true≢false}
use mathlib.Core.List.Memᴰ
use mathlib.Core.List.{List, [], ◌∷◌, ◌++◌, map}
use Prim.Native.Nat.{ℕ, zero, suc, ◌-◌, ◌≤◌, ◌<◌}
use native.Mathlib.Omega.{arith}
use borrow.Author.Tests.{le-leb, lt-leb}
use lib.Dec.{leb}
use lib.IntN.{ℤ, pos}
use lib.Signed.{lt_z}
use lib.ListN.{length, take, drop, get_or, set}
use lib.Seq.{take_at}
use Rattle.words.specs.Limits.{largest, entries}
use Rattle.words.specs.Lists.{any, all, filter}
use Rattle.words.specs.Literals.{variable, same_list, has, top, ascending}
use Rattle.words.proofs.Lists.{if-true, failed, and_left, and_right, any-decides, all-decides, not-decides, eqb-decides, leb-decides, passed}
use Rattle.words.proofs.Literals.{ascending→}
use Rattle.words.proofs.Tops.{top-decides}
use Rattle.words.proofs.Parts.{tail_of}
use Rattle.words.proofs.Places.{in-at}
use Rattle.text.specs.declared.Letter.{Letter}
use Rattle.text.specs.declared.Letter.TheVariants.{Addition, Body, Completion, Deletion, Extension, Loop, Support}
use Rattle.drupe.specs.Lines.{signs_of, signed, is_positive}
use Rattle.aspif.specs.Rules.{Rule, InputRule, expand}
use Rattle.marks.specs.Marks.{listed, marked, Marks, same_marks}
use Rattle.derivation.specs.States.{State, is_atom, is_known}
use Rattle.derivation.specs.Steps.{Outcome, refused, addition, body, completion, deletion, extension, loop, support, citing, naming, by_letter, is_unnamed_body, is_completion, is_support}
use Rattle.derivation.proofs.Questions.{positive-is}
use Rattle.nogoods.specs.Keeps.{Literals}
use Rattle.nogoods.proofs.Literals.{literals-tail}
use Rattle.nogoods.proofs.Defined.{name-and-literals}
use Rattle.names.specs.Queries.{Kept, is_inside, asks, asked_names, MarksNames, completing}
use Rattle.names.specs.declared.queries.Query.TheVariants.{Head}
use Rattle.names.proofs.Asked.{names_same}
use Rattle.heads.specs.Heads.{is_just_names}
use Rattle.steps.specs.Held.{PassedLine, name_of, Tracks}
use Rattle.steps.proofs.Tracking.{all_known_lem, extended, named}
use Rattle.steps.proofs.Names.{unnamed-test, completes, supports, supports-by-names}
use Rattle.drupe.specs.declared.ProofFault.TheVariants.{UnknownVariable, KnownName}

-- The first number of a line, and the others

abbrev pub first : List ℤ → ℤ
first zs = get_or zs 0 (pos 0)

-- the numbers after the first, as a part of the line
abbrev others : List ℤ → List ℤ
others zs = take (length zs - 1) (drop 1 zs)

-- the numbers after the first, as a part of a copy of the line
pub copied : (zs rest row : List ℤ) → 1 ≤ length zs → row ≡ zs ++ rest → take (length zs - 1) (drop 1 row) ≡ drop 1 zs
copied [] rest row h e = absurd (omega arith)
copied (n ∷ L) rest row h e = rw e (take_at L rest (length (n ∷ L) - 1) (omega arith))

-- a line of `b`, `c`, `e`, `l` or `s`
module _ (x : Letter) {zs : List ℤ} (needed : (signs_of x).needed ≡ true) (line : PassedLine x zs) where
  pub some_number : 1 ≤ length zs
  some_number = by zs line.signs
    where
      by : (l : List ℤ) → signed (signs_of x) l ≡ true → 1 ≤ length l
      by [] e = absurd (true≢false (sym e ∙ ap not needed))
      by (y ∷ l) e = omega arith

  pub first-low : 1 ≤ variable (first zs)
  first-low = line.literals.low (first zs) (in-at (pos 0) zs 0 some_number)

  pub first-high : variable (first zs) ≤ largest
  first-high = line.literals.high (first zs) (in-at (pos 0) zs 0 some_number)

  pub others-literals : Literals (drop 1 zs)
  others-literals = literals-tail (first zs) (drop 1 zs) (name-and-literals zs some_number line.literals)

-- A line's questions by letter: 26, for `b` and `e` with 27, and then the letter's own

abbrev introduces : Letter → Bool
introduces Addition = false
introduces Body = true
introduces Completion = false
introduces Deletion = false
introduces Extension = true
introduces Loop = false
introduces Support = false

module _ (N : ℕ) (P : List Rule) (z : State) where
  abbrev own : Letter → List ℤ → Outcome
  own Addition zs = addition P z zs
  own Body zs = body P z (first zs) (drop 1 zs)
  own Completion zs = completion P z (first zs) (drop 1 zs)
  own Deletion zs = deletion P z zs
  own Extension zs = extension P z (first zs) (drop 1 zs)
  own Loop zs = loop N P z (first zs) (drop 1 zs)
  own Support zs = support N P z (first zs) (drop 1 zs)

  by-letter : (x : Letter) (zs : List ℤ) → PassedLine x zs
      → by_letter N P z x zs ≡ cond (introduces x) (naming N z (first zs) (drop 1 zs) (own x zs)) (citing N z zs (own x zs))
  by-letter Addition zs line = refl
  by-letter Body [] line = absurd (true≢false (sym line.signs))
  by-letter Body (n ∷ L) line = refl
  by-letter Completion [] line = absurd (true≢false (sym line.signs))
  by-letter Completion (n ∷ hs) line = refl
  by-letter Deletion zs line = refl
  by-letter Extension [] line = absurd (true≢false (sym line.signs))
  by-letter Extension (n ∷ L) line = refl
  by-letter Loop [] line = absurd (true≢false (sym line.signs))
  by-letter Loop (h ∷ hs) line = refl
  by-letter Support [] line = absurd (true≢false (sym line.signs))
  by-letter Support (h ∷ ns) line = refl

-- a body that passes question 28 has no name
pub no_name : {N : ℕ} {ws : List InputRule} {known names : List ℕ} {bodies : List ℤ} (z : State) → Tracks N ws known names bodies z.introduced z.named
    → (L : List ℤ) → is_unnamed_body (expand ws) z L ≡ true → name_of z.named (ascending L) ≡ 0
no_name {ws = ws} z tracks L e =
    if-true (unnamed-test z tracks.proper (ascending L)) (and_right (any (λ r. same_list r.body (ascending L)) (expand ws)) _ e)

-- literals, sorted, are variables
pub sorted-low : (L : List ℤ) → Literals L → top (ascending L) ≤ largest
sorted-low L l =
    (top-decides largest (ascending L)).to ((all-decides (λ x. leb-decides (variable x) largest) (ascending L)).from (λ x i. l.high x (ascending→ L i)))

-- of a query for a head no body is left out, the set being empty
asked-heads : (h : ℤ) → asks (Head h) (0 ∷ []) ≡ (λ r. has h r.heads)
asked-heads h = fun_ext (λ r. ap (λ (b : Bool). has h r.heads && not b) (none r.body) ∙ and-true (has h r.heads))
  where
    unmarked : (v : ℕ) → marked (0 ∷ []) v ≡ false
    unmarked zero = refl
    unmarked (suc v) = refl

    none : (ls : List ℤ) → any (is_inside (0 ∷ [])) ls ≡ false
    none [] = refl
    none (x ∷ ls) = rw (unmarked (variable x), and-false (lt_z (pos 0) x)) (none ls)

-- What a line comes to, where the marks of the known variables answer b to question 26 and c to 27

module _ {N : ℕ} {ws : List InputRule} {known names : List ℕ} {bodies : List ℤ} (z : State) (tracks : Tracks N ws known names bodies z.introduced z.named) (x : Letter) (zs : List ℤ) (line : PassedLine x zs) where
  -- a line that introduces no name
  pub cited : introduces x ≡ false → {b : Bool} → all (λ y. marked known (variable y)) zs ≡ b → by_letter N (expand ws) z x zs ≡ cond b (own N (expand ws) z x zs) (refused UnknownVariable)
  cited none e = by-letter N (expand ws) z x zs line ∙ rw (none, ← all_known_lem z tracks zs line.literals.high, e)

  -- a line that introduces a name
  module _ (needed : (signs_of x).needed ≡ true) where
    pub introduced : introduces x ≡ true → {b c : Bool} → all (λ y. marked known (variable y)) (others zs) ≡ b → marked known (variable (first zs)) ≡ c
        → by_letter N (expand ws) z x zs ≡ cond b (cond c (refused KnownName) (own N (expand ws) z x zs)) (refused UnknownVariable)
    introduced one e f =
        by-letter N (expand ws) z x zs line
        ∙ rw (one, ← all_known_lem z tracks (drop 1 zs) (others-literals x needed line).high, ← tail_of 1 zs, e, ← tracks.knows (variable (first zs)) (first-high x needed line), f)

    -- a line that introduces a name and is accepted: the name was unknown
    module _ (new : marked known (variable (first zs)) ≡ false) where
      pub unknown : is_known N z (variable (first zs)) ≡ false
      unknown = sym (tracks.knows (variable (first zs)) (first-high x needed line)) ∙ new

      pub extension-tracks : Tracks N ws (set known (variable (first zs)) 1) names bodies (variable (first zs) ∷ z.introduced) z.named
      extension-tracks = extended z tracks (variable (first zs)) (first-low x needed line) (first-high x needed line) unknown

      pub body-tracks : is_unnamed_body (expand ws) z (drop 1 zs) ≡ true → {names' : List ℕ} {bodies' : List ℤ}
          → Kept names' bodies' (name_of (record { name = variable (first zs); body = ascending (drop 1 zs) } ∷ z.named)) ws
          → Tracks N ws (set known (variable (first zs)) 1) names' bodies' (variable (first zs) ∷ z.introduced)
          (record { name = variable (first zs); body = ascending (drop 1 zs) } ∷ z.named)
      body-tracks e =
          named z tracks (variable (first zs)) (first-low x needed line) (first-high x needed line) unknown (ascending (drop 1 zs))
          (no_name z tracks (drop 1 zs) e)

-- the first number of an `s` line is an atom
first-positive : {zs : List ℤ} → PassedLine Support zs → first zs ≡ pos (variable (first zs))
first-positive {zs} line = by zs line.signs
  where
    by : (l : List ℤ) → signed (signs_of Support) l ≡ true → first l ≡ pos (variable (first l))
    by [] e = absurd (true≢false (sym e))
    by (y ∷ l) e = positive-is y ((passed (is_positive y)).from (and_left _ _ e))

-- Questions 29 and 30, as what is found answers them

module _ {N : ℕ} {ws : List InputRule} {known names : List ℕ} {bodies : List ℤ} (z : State) (tracks : Tracks N ws known names bodies z.introduced z.named) (zs : List ℤ) where
  pub completed : PassedLine Completion zs → {b : Bool} → b ≡ any (completing (name_of z.named) (others zs) (variable (first zs))) (expand ws)
      → b ≡ is_completion (expand ws) z (first zs) (drop 1 zs)
  completed line e = (rw (tail_of 1 zs) at e) ∙ completes (expand ws) z tracks.proper (first zs) (drop 1 zs) (first-low Completion refl line)

  pub no-atom : N < variable (first zs) → is_support N (expand ws) z (first zs) (drop 1 zs) ≡ false
  no-atom k = rw (lt-leb (variable (first zs)) N k, and-false (leb 1 (variable (first zs))))

  -- by the names of the rules with the head
  pub supported-by : PassedLine Support zs → variable (first zs) ≤ N → {v : ℕ} → v ≡ variable (first zs) → {b : Bool}
      → b ≡ is_just_names (name_of z.named) (pos v) (others zs) (expand ws) → b ≡ is_support N (expand ws) z (first zs) (drop 1 zs)
  supported-by line k {v} e {b} f =
      let o = others-literals Support refl line in
      let a : is_atom N (variable (first zs)) ≡ true = rw (le-leb 1 (variable (first zs)) (first-low Support refl line), le-leb (variable (first zs)) N k) in
      let h : pos v ≡ first zs = ap pos e ∙ sym (first-positive line) in
      rw (h, tail_of 1 zs) at f ∙ supports-by-names (expand ws) z tracks.proper (first zs) (drop 1 zs) (λ y i. o.low y i) ∙ sym (rw a)

  -- by marks of all names
  supported-named : PassedLine Support zs → variable (first zs) ≤ N → (h : ℤ) → h ≡ first zs → {l m : List ℕ} → Marks l (map variable (others zs))
      → Marks m (asked_names (Head h) (0 ∷ []) (name_of z.named) (expand ws)) → same_marks entries l m ≡ is_support N (expand ws) z (first zs) (drop 1 zs)
  supported-named line k h e {l} {m} given found =
      let o = others-literals Support refl line in
      let a : is_atom N (variable (first zs)) ≡ true = rw (le-leb 1 (variable (first zs)) (first-low Support refl line), le-leb (variable (first zs)) N k) in
      ap (λ (b : Bool). b && same_marks entries l m) (sym a)
      ∙ supports (expand ws) z tracks.proper (first zs) (drop 1 zs) (λ y i. (o.low y i, o.high y i)) (rw (tail_of 1 zs) at given)
      (subst (λ (f : Rule → Bool). Marks m (map (λ r. name_of z.named r.body) (filter f (expand ws)))) (asked-heads (first zs)) (rw e at found))

  -- or by marks with 0, which no number after the first is
  pub supported : PassedLine Support zs → variable (first zs) ≤ N → (h : ℤ) → h ≡ first zs → {l m : List ℕ} → Marks l (map variable (others zs))
      → MarksNames m (asked_names (Head h) (0 ∷ []) (name_of z.named) (expand ws)) → same_marks entries l m ≡ is_support N (expand ws) z (first zs) (drop 1 zs)
  supported line k h e {l} {m} given found =
      let q = names_same l (given.has 0 (omega arith) ∙ rw (tail_of 1 zs) none) found in
      q.2 ∙ supported-named line k h e given q.1
    where
      none : listed (map variable (drop 1 zs)) 0 ≡ false
      none = failed _ ((not-decides (any-decides (eqb-decides 0) (map variable (drop 1 zs)))).from (λ p.
          let r = Memᴰ.of_map variable (drop 1 zs) p.1 in omega (arith, (others-literals Support refl line).low r.0 r.1, r.2, p.2)))
