use mathlib.Core.Path.{◌≡◌, refl, sym, ◌∙◌}
use mathlib.Core.List.{List, [], ◌∷◌, ◌++◌, map, append-nil, append_assoc, map-append}
use Prim.Native.Nat.{ℕ, ◌+◌, ◌≤◌, ◌<◌}
use native.Mathlib.Numerals.{add-one}
use native.Mathlib.Omega.{arith}
use lib.IntN.{ℤ, pos}
use lib.ListN.{length, take, get_or, length-append, length-map}
use lib.Seq.{take-suc, take_all, length-take-le}
use Rattle.std.proofs.Common.{rules}
use Rattle.words.specs.Literals.{variable}
use Rattle.words.proofs.Places.{in-at}
use Rattle.words.proofs.Words.{back}
use Rattle.heads.specs.Heads.{Headed, headed_by, HeadChains}
use Rattle.heads.proofs.enter_heads.Goals as goal
use Rattle.heads.proofs.enter_heads.Goals.{After-variable_of}

pub loop-j-init : goal.loop-j-init
loop-j-init c = ((λ es H e. rw (append-nil es) H), λ i h. refl)

-- one more head
one_more : (hs : List ℤ) (j k : ℕ) → j < length hs → (es : List Headed)
    → es ++ map (headed_by k) (take (j + 1) hs) ≡ (es ++ map (headed_by k) (take j hs)) ++ (headed_by k (get_or hs j (pos 0)) ∷ [])
one_more hs j k h es =
    rw (add-one, take-suc hs j (pos 0) h, map-append (headed_by k) (take j hs) (get_or hs j (pos 0) ∷ []))
    (sym (append_assoc es (map (headed_by k) (take j hs)) (headed_by k (get_or hs j (pos 0)) ∷ [])))

as-head : {index : List ℕ} (es : List Headed) (k v w : ℕ) → v ≡ w → HeadChains index (es ++ (record { rule = k; head = v } ∷ []))
    → HeadChains index (es ++ (record { rule = k; head = w } ∷ []))
as-head es k v w e H = rw e at H

size : (hs : List ℤ) (j k : ℕ) → j ≤ length hs → (es : List Headed) {n : ℕ} → length es ≡ n → length (es ++ map (headed_by k) (take j hs)) ≡ n + j
size hs j k h es e =
    omega (arith, length-append es (map (headed_by k) (take j hs)), length-map (take j hs) (headed_by k), length-take-le j hs h, e)

module _ (c : After-variable_of) where
  abbrev hs : List ℤ
  hs = c.args.heads.now

  abbrev j : ℕ
  j = c.loop-j.j

  tells : c.variable_of.result ≡ variable (get_or hs j (pos 0))
  tells = rw (back (get_or hs j (pos 0)) (search rules)) at c.variable_of.ensures

pub enter_head-requires : goal.enter_head-requires
enter_head-requires c =
    let t = c.loop-j-test.true in (
      c.loop-j.auto.index ∙ c.requires.index.0,
      rw (tells c) (c.requires.heads _ (in-at (pos 0) (hs c) (j c) t)),
      c.requires.index.1,
      omega (arith, t, c.requires.index.2),
    )

pub loop-j-preserved : goal.loop-j-preserved
loop-j-preserved c =
    let v = (goal.at.loop-j-preserved c).After-variable_of in
    let l = v.loop-j in
    let t = v.loop-j-test.true in
    let g = c.enter_head in (
      (λ es H e. rw (one_more (hs v) (j v) v.args.k t es) (
          as-head (es ++ map (headed_by v.args.k) (take (j v) (hs v))) v.args.k _ _ (tells v) (g.ensures.chains (es ++ map (headed_by v.args.k) (take (j v) (hs v))) (l.invariant.0 es H e) (size (hs v) (j v) v.args.k (omega (arith, t)) es e)))),
      λ i h. g.ensures.others i h ∙ l.invariant.1 i h,
    )

pub returns : goal.returns
returns c = let l = c.loop-j in
    let e = take_all l.j c.args.heads.now c.loop-j-test.false in record { chains = (λ es H q. rw (← e) (l.invariant.0 es H q)); others = l.invariant.1 }
