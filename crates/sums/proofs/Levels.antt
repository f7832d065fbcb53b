-- `LevelledEnough`, `PlannedIs` and what follows for whole programs. Assumes nothing.
use mathlib.Core.Path.{◌≡◌, refl, sym, ap, ap₂, subst, ◌∙◌}
use mathlib.Core.Logic.{◌⊎◌, inl, inr, ◌↔◌}
use mathlib.Core.Bool.{Bool, true, not, cond}
use mathlib.Core.List.Memᴰ
use mathlib.Core.List.{List, [], ◌∷◌, ◌++◌, append_assoc, append-nil}
use Prim.Native.Nat.{ℕ, zero, suc, ◌+◌, ◌≤◌, ◌<◌, min}
use native.Mathlib.Omega.{arith}
use lib.Dec.{T, leb, ltb}
use lib.ListN.{length, take, drop, take-append-drop, length-drop}
use Rattle.words.specs.Lists.{◌∈◌, concat}
use Rattle.words.proofs.Lists.{Decides, answered, leb-decides, not-decides, and-decides, or-decides, any-decides, all-decides, keep→, keep←, by-test}
use Rattle.weights.specs.Weights.{Weighted, sum}
use Rattle.weights.specs.Claims.{◌⊑◌, Reorder}
use Rattle.weights.proofs.Minimal.{ltb-decides}
use Rattle.weights.proofs.Reordered.{as_it_was}
use Rattle.aspif.specs.Rules.{Body, plain, weights, InputRule, expand, atoms}
use Rattle.aspif.specs.AnswerSets.{AnswerSet}
use Rattle.derivation.specs.Claims.{NoneAsWritten}
use Rattle.derivation.proofs.AsWritten.{soundness-as-written}
use Rattle.sums.specs.Plans.{joined, pairs_of, levels_of, Item, whole, needs, split_item, in_turn, first_new, written, all_needs, program, split, all_definitions}
use Rattle.sums.specs.Levels.{SumShape, few, both, pairs_in, sums_of, levels_for, no_level, is_useful, useful, levelled, divided_by, is_short, chain, chained, plan_body, planned, split_program, chunks}
use Rattle.sums.specs.Extension.{UpTo, Extended}
use Rattle.sums.specs.Claims.{ReachedByLevels, EnoughLevels, WellPlanned, LevelledEnough, LevelsWithin, Shaping, InGroups, PlannedIs, ShortKept, ProgramSound, ProofOfSplit, ProgramKeeps, ProgramAgrees, ProgramConserves, ProgramDetermines, ProgramAtoms}
use Rattle.sums.proofs.Lowest.{Lowest, lowest-at}
use Rattle.sums.proofs.Attained.{sums-in, sums-low, sums-both}
use Rattle.sums.proofs.Extension.{extension-agrees}
use Rattle.sums.proofs.Split.{extends, split-keeps, split-conserves, split-determines, split-sound, split-within, split-reaches}

-- Levels

pub levelled-pairs : (b : ℕ) (rest : List Weighted) (s : SumShape) → pairs_of (levelled b rest s) ≡ pairs_in s
unfolding levelled
levelled-pairs b rest (few l) = refl
levelled-pairs b rest (both s t) =
    ap₂ (λ (k l : List Weighted). k ++ l) (levelled-pairs b (pairs_in t ++ rest) s) (levelled-pairs b (pairs_in s ++ rest) t)

levelled-levels : (b : ℕ) (rest : List Weighted) (s : SumShape) → levels_of (levelled b rest s) ≡ useful b (sums_of b rest) (sums_of b (pairs_in s))
unfolding levelled levels_for
levelled-levels b rest (few l) = refl
levelled-levels b rest (both s t) = refl

-- u reaches the bound beside o, and nothing lower of us does
abbrev Differs : (b o : ℕ) (us : List ℕ) (u : ℕ) → Type 0
Differs b o us u = (b ≤ u + o) × ((v : ℕ) → v ∈ us → (u ≤ v) ⊎ (v + o < b))

useful-decides : (b : ℕ) (others us : List ℕ) (u : ℕ)
    → Decides (is_useful b others us u) ((no_level < u) × ((o : ℕ) × (o ∈ others) × Differs b o us u))
useful-decides b others us u =
    and-decides (ltb-decides no_level u)
    (any-decides (λ o. and-decides (leb-decides b (u + o)) (all-decides (λ v. or-decides (leb-decides u v) (ltb-decides (v + o) b)) us)) others)

-- Levels are within the bound

pub levels-within : LevelsWithin
levels-within b rest s t i =
    let us = sums_of b (pairs_in s) in
    let x = keep→ (is_useful b (sums_of b rest) us) us (subst (λ l. t ∈ l) (levelled-levels b rest s) i) in
    (omega (arith, ((useful-decides b (sums_of b rest) us t).to x.1).0), sums-low b (pairs_in s) x.0)

-- The levels are enough

-- the level of a side that is enough beside o, where a is
record Level (b : ℕ) (rest : List Weighted) (s : SumShape) (o a : ℕ) : Type 0 where
  at : ℕ
  came : at ∈ sums_of b (pairs_in s)
  among : at ∈ 0 ∷ levels_of (levelled b rest s)
  lower : at ≤ a
  reaches : b ≤ at + o

level-at : (b : ℕ) (rest : List Weighted) (s : SumShape) (o a : ℕ) → o ∈ sums_of b rest → a ∈ sums_of b (pairs_in s) → b ≤ a + o → Level b rest s o a
level-at b rest s o a i j h = go (lowest-at (λ n. n) (λ v. leb b (v + o)) us a j ((leb-decides b (a + o)).from h))
  where
    us : List ℕ
    us = sums_of b (pairs_in s)

    go : Lowest (λ n. n) (λ v. leb b (v + o)) us → Level b rest s o a
    go d =
        record {
          at = d.one;
          came = d.among;
          among = place (answered (ltb no_level d.one));
          lower = d.least a j ((leb-decides b (a + o)).from h);
          reaches = reach;
        }
      where
        reach : b ≤ d.one + o
        reach = (leb-decides b (d.one + o)).to d.passes

        lowest-one : (v : ℕ) → v ∈ us → (d.one ≤ v) ⊎ (v + o < b)
        lowest-one v k = pick (answered (leb b (v + o)))
          where
            pick : T (leb b (v + o)) ⊎ T (not (leb b (v + o))) → (d.one ≤ v) ⊎ (v + o < b)
            pick (inl t) = inl (d.least v k t)
            pick (inr t) = inr (let n = (not-decides (leb-decides b (v + o))).to t in omega arith)

        place : T (ltb no_level d.one) ⊎ T (not (ltb no_level d.one)) → d.one ∈ 0 ∷ levels_of (levelled b rest s)
        place (inl t) =
            Memᴰ.tail (subst (λ l. d.one ∈ l) (sym (levelled-levels b rest s))
            (keep← (is_useful b (sums_of b rest) us) d.among
            ((useful-decides b (sums_of b rest) us d.one).from ((ltb-decides no_level d.one).to t, (o, i, (reach, lowest-one))))))
        place (inr t) = let n = (not-decides (ltb-decides no_level d.one)).to t in let e : d.one ≡ 0 = omega arith in Memᴰ.head e

module _ (b : ℕ) (rest : List Weighted) (s t : SumShape) where
  abbrev lefts : List Weighted
  lefts = pairs_in t ++ rest

  abbrev rights : List Weighted
  rights = pairs_in s ++ rest

  -- a level of the node that makes a difference beside o is reached by levels of the two sides
  reached-by-levels : (n o : ℕ) → o ∈ sums_of b rest → b ≤ n + o → ((v : ℕ) → v ∈ sums_of b (pairs_in s ++ pairs_in t) → (n ≤ v) ⊎ (v + o < b))
      → (u v : List Weighted) → u ⊑ pairs_in s → v ⊑ pairs_in t → n ≤ sum u + sum v
      → ReachedByLevels n (levels_of (levelled b lefts s)) (levels_of (levelled b rights t)) (sum u) (sum v)
  reached-by-levels n o i h f u v p q g =
      first (level-at b lefts s (min b (c + o)) a (sums-both b (pairs_in t) rest (sums-in b q) i) (sums-in b p) (omega arith))
    where
      a : ℕ
      a = min b (sum u)

      c : ℕ
      c = min b (sum v)

      first : Level b lefts s (min b (c + o)) a → ReachedByLevels n (levels_of (levelled b lefts s)) (levels_of (levelled b rights t)) (sum u) (sum v)
      first x =
          let r = x.reaches in
          second (level-at b rights t (min b (x.at + o)) c (sums-both b (pairs_in s) rest x.came i) (sums-in b q) (omega arith))
        where
          second : Level b rights t (min b (x.at + o)) c → ReachedByLevels n (levels_of (levelled b lefts s)) (levels_of (levelled b rights t)) (sum u) (sum v)
          second y =
              let k = x.lower in
              let l = y.lower in
              (x.at, x.among, omega arith, (y.at, y.among, omega arith, last (f (min b (x.at + y.at)) (sums-both b (pairs_in s) (pairs_in t) x.came y.came))))
            where
              last : (n ≤ min b (x.at + y.at)) ⊎ (min b (x.at + y.at) + o < b) → n ≤ x.at + y.at
              last (inl m) = omega arith
              last (inr m) = let r = y.reaches in absurd (omega arith)

  joined-enough : (ts : List ℕ) → ((n : ℕ) → n ∈ ts → (o : ℕ) × (o ∈ sums_of b rest) × Differs b o (sums_of b (pairs_in s ++ pairs_in t)) n)
      → EnoughLevels (levelled b lefts s) → EnoughLevels (levelled b rights t) → EnoughLevels (joined ts (levelled b lefts s) (levelled b rights t))
  joined-enough ts f c d = (
    c,
    d,
    λ n i u v p q g. let w = f n i in
        reached-by-levels n w.0 w.1 w.2.0 w.2.1 u v (subst (λ l. u ⊑ l) (levelled-pairs b lefts s) p) (subst (λ l. v ⊑ l) (levelled-pairs b rights t) q) g,
  )

pub levelled-enough : LevelledEnough
unfolding levelled levels_for
levelled-enough b rest (few l) = tt
levelled-enough b rest (both s t) =
    let others = sums_of b rest in
    let us = sums_of b (pairs_in s ++ pairs_in t) in
    joined-enough b rest s t (useful b others us) (λ n i. let x = keep→ (is_useful b others us) us i in ((useful-decides b others us n).to x.1).1)
    (levelled-enough b (pairs_in t ++ rest) s) (levelled-enough b (pairs_in s ++ rest) t)

-- Items

record Covers (r : InputRule) (i : Item) : Type 0 where
  is : written i ≡ r
  well-planned : WellPlanned i

divided-covers : (r : InputRule) (b : ℕ) (l : List Weighted) → r.body ≡ weights b l → (s : SumShape) → Reorder l (pairs_in s) → Covers r (divided_by r b l s)
unfolding sums_of
divided-covers r b l e (few k) o = record { is = refl; well-planned = tt }
divided-covers r b l e (both s t) o =
    record {
      is = ap (λ c. record { kind = r.kind; heads = r.heads; body = c }) (sym e);
      well-planned = (
        subst (Reorder l) (sym (ap₂ (λ (k l : List Weighted). k ++ l) (levelled-pairs b _ s) (levelled-pairs b _ t))) o,
        joined-enough b [] s t (b ∷ []) bound-differs (levelled-enough b _ s) (levelled-enough b _ t),
      );
    }
  where
    bound-differs : (n : ℕ) → n ∈ b ∷ [] → (o : ℕ) × (o ∈ sums_of b []) × Differs b o (sums_of b (pairs_in s ++ pairs_in t)) n
    bound-differs n i = let e = Memᴰ.eq_of_singleton i in (0, Memᴰ.head refl, (omega arith, λ v j. pick v (answered (leb n v))))
      where
        pick : (v : ℕ) → T (leb n v) ⊎ T (not (leb n v)) → (n ≤ v) ⊎ (v + 0 < b)
        pick v (inl t) = inl ((leb-decides n v).to t)
        pick v (inr t) = inr (let e = Memᴰ.eq_of_singleton i in let m = (not-decides (leb-decides n v)).to t in omega arith)

module _ (shape : List Weighted → SumShape) (shaping : Shaping shape) where
  body-covers : (r : InputRule) (c : Body) → r.body ≡ c → Covers r (plan_body shape r c)
  body-covers r (plain ls) e = record { is = refl; well-planned = tt }
  body-covers r (weights b l) e =
      by-test (Covers r) (is_short l) (λ t. record { is = refl; well-planned = tt }) (λ t. divided-covers r b l e (shape l) (shaping l))

  rules-back : (ws : List InputRule) → program (planned shape ws) ≡ ws
  rules-back [] = refl
  rules-back (r ∷ ws) = ap₂ (λ (w : InputRule) (l : List InputRule). w ∷ l) (body-covers r r.body refl).is (rules-back ws)

  all-well-planned : (ws : List InputRule) (i : Item) → i ∈ planned shape ws → WellPlanned i
  all-well-planned ws i m =
      let r = Memᴰ.of_map (λ r. plan_body shape r r.body) ws m in
      subst WellPlanned r.2 (body-covers r.0 r.0.body refl).well-planned

pub planned-is : PlannedIs
planned-is = rules-back

-- a short sum is not split
short-whole : (shape : List Weighted → SumShape) (r : InputRule) (c : Body) → ((b : ℕ) (l : List Weighted) → c ≡ weights b l → is_short l ≡ true)
    → plan_body shape r c ≡ whole r
short-whole shape r (plain ls) h = refl
short-whole shape r (weights b l) h = ap (λ (t : Bool). cond t (whole r) (divided_by r b l (shape l))) (h b l refl)

all_whole : (shape : List Weighted → SumShape) (n : ℕ) (ws : List InputRule)
    → ((r : InputRule) → r ∈ ws → (b : ℕ) (l : List Weighted) → r.body ≡ weights b l → is_short l ≡ true)
    → in_turn split_item n (planned shape ws) ≡ ws
unfolding in_turn
all_whole shape n [] h = refl
all_whole shape n (r ∷ ws) h =
    ap (λ (i : Item). split_item n i ++ in_turn split_item (n + needs i) (planned shape ws)) (short-whole shape r r.body (h r (Memᴰ.head refl)))
    ∙ ap (λ (us : List InputRule). r ∷ us) (all_whole shape (n + 0) ws (λ q m. h q (Memᴰ.tail m)))

pub short-kept : ShortKept
short-kept shape ws h = all_whole shape (first_new (planned shape ws)) ws h

pub program-sound : ProgramSound
program-sound shape g ws h = subst NoneAsWritten (planned-is shape g ws) (split-sound (planned shape ws) (all-well-planned shape g ws) h)

pub proof-of-split : ProofOfSplit
proof-of-split shape g ws ts z e l = program-sound shape g ws (soundness-as-written (split_program shape ws) ts z e l)

pub program-keeps : ProgramKeeps
program-keeps shape g ws M s =
    subst (λ us. AnswerSet (Extended (atoms us) (all_definitions (planned shape ws)) M M) (expand (split_program shape ws))) (planned-is shape g ws)
    (split-keeps (planned shape ws) (all-well-planned shape g ws) M (subst (λ us. AnswerSet M (expand us)) (sym (planned-is shape g ws)) s))

pub program-agrees : ProgramAgrees
program-agrees shape g ws M s =
    let is = planned shape ws in
    subst (λ us. (a : ℕ) → M a ↔ UpTo (atoms us) (Extended (atoms us) (all_definitions is) M M) a) (planned-is shape g ws)
    (extension-agrees (atoms (program is)) (expand (program is)) (expand (split is)) (all_definitions is) (extends is (all-well-planned shape g ws)) M
    (subst (λ us. AnswerSet M (expand us)) (sym (planned-is shape g ws)) s))

pub program-conserves : ProgramConserves
program-conserves shape g ws K s =
    subst (λ us. AnswerSet (UpTo (atoms us) K) (expand us)) (planned-is shape g ws)
    (split-conserves (planned shape ws) (all-well-planned shape g ws) K s)

pub program-determines : ProgramDetermines
program-determines shape g ws K s =
    subst (λ us. (a : ℕ) → K a ↔ Extended (atoms us) (all_definitions (planned shape ws)) (UpTo (atoms us) K) (UpTo (atoms us) K) a) (planned-is shape g ws)
    (split-determines (planned shape ws) (all-well-planned shape g ws) K s)

pub program-atoms : ProgramAtoms
program-atoms shape g ws =
    let is = planned shape ws in
    let e : atoms (split is) ≡ atoms (program is) + all_needs is = omega (arith, split-within is (all-well-planned shape g ws), split-reaches is) in
    subst (λ us. atoms (split_program shape ws) ≡ atoms us + all_needs is) (planned-is shape g ws) e

-- Groups of one size

pub chunks-are : (f k : ℕ) (l : List Weighted) → length l ≤ f → concat (chunks f k l) ≡ l
unfolding chunks
chunks-are zero k [] h = refl
chunks-are zero k (x ∷ l) h = absurd (omega arith)
chunks-are (suc f) k [] h = refl
chunks-are (suc f) k (x ∷ l) h =
    let d = length-drop k l in
    ap (λ (m : List Weighted). x ∷ (take k l ++ m)) (chunks-are f k (drop k l) (omega arith)) ∙ ap (λ (m : List Weighted). x ∷ m) (take-append-drop k l)

chain-pairs : (s : SumShape) (gs : List (List Weighted)) → pairs_in (chain s gs) ≡ pairs_in s ++ concat gs
chain-pairs s [] = sym (append-nil (pairs_in s))
chain-pairs s (g ∷ gs) = chain-pairs (both s (few g)) gs ∙ append_assoc (pairs_in s) g (concat gs)

pub chained-pairs : (gs : List (List Weighted)) → pairs_in (chained gs) ≡ concat gs
chained-pairs [] = refl
chained-pairs (g ∷ gs) = chain-pairs (few g) gs

pub in-groups : InGroups
in-groups k l = subst (Reorder l) (sym (chained-pairs (chunks (length l) k l) ∙ chunks-are (length l) k l (omega arith))) (as_it_was l)
