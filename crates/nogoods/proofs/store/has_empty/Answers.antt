-- The loop: the nogoods before i have literals.
use mathlib.Core.Path.{◌≡◌, refl, sym, ap, ◌∙◌}
use mathlib.Core.Bool.{Bool, true, false, not, ◌&&◌, true≢false}
use lib.Dec.{T, eqb, eqb→eq}
use borrow.Author.Tests.{eq-eqb}
use mathlib.Core.List.{List, [], ◌∷◌}
use Prim.Native.Nat.{◌≤◌}
use native.Mathlib.Omega.{arith}
use lib.IntN.{ℤ}
use lib.ListN.{length}
use Rattle.words.specs.Lists.{any}
use Rattle.aspif.specs.Rules.{is_empty}
use Rattle.nogoods.specs.Store.{Stored, live}
use Rattle.nogoods.specs.Keeps.{Holds}
use Rattle.nogoods.specs.Records.{end_at, stored_at}
use Rattle.nogoods.proofs.Live.{live-nil, live-cons, live-past, by_answer}
use Rattle.nogoods.proofs.Recorded.{rest_at, rest-first, rest-next, rest_over, ahead-room}
use Rattle.nogoods.proofs.store.has_empty.Goals as goal
use Rattle.nogoods.proofs.store.has_empty.Goals.{In-loop-i, After-is_empty_at}

-- of the first nogood and the others
empty-first : (g : List ℤ) (gs : List (List ℤ)) → length g ≡ 0 → any is_empty (g ∷ gs) ≡ true
empty-first [] gs e = refl
empty-first (x ∷ g) gs e = absurd (omega arith)

some_first : (g : List ℤ) (gs : List (List ℤ)) → (length g ≡ 0 → ⊥) → any is_empty (g ∷ gs) ≡ any is_empty gs
some_first [] gs e = absurd (e refl)
some_first (x ∷ g) gs e = refl

is-yes : {b : Bool} → b ≡ true → T b
is-yes e = rw e tt

first-empty : (e : Stored) (es : List Stored) → (not e.dead && eqb (length e.literals) 0) ≡ true → any is_empty (live (e ∷ es)) ≡ true
first-empty e es h =
    by_answer e.dead (λ d. absurd (true≢false (sym h ∙ rw d)))
    (λ a. rw (live-cons e es a) (empty-first e.literals (live es) (eqb→eq _ _ (is-yes (rw a at h)))))

first_some : (e : Stored) (es : List Stored) → (not e.dead && eqb (length e.literals) 0) ≡ false
    → any is_empty (live (e ∷ es)) ≡ any is_empty (live es)
first_some e es h =
    by_answer e.dead (λ d. ap (any is_empty) (live-past e es d))
    (λ a. rw (live-cons e es a) (some_first e.literals (live es) (λ z. true≢false (sym (eq-eqb _ _ z) ∙ rw a at h))))

-- the record at i can be read
room : (c : In-loop-i) → let s = c.args.store.now in end_at s c.loop-i.i ≤ length s
room c = ahead-room c.loop-i.invariant c.loop-i-test.true c.requires

-- the record at i
abbrev it : In-loop-i → Stored
it c = stored_at c.args.store.now c.loop-i.i

pub is_empty_at-requires : goal.is_empty_at-requires
is_empty_at-requires c = room c

-- whether it is empty and live, as the call tells
tells : (c : After-is_empty_at) → let k = c.before in let w = k.loop-i.invariant in
    (stored : List Stored) → Holds k.args.store.now k.args.used stored
    → (not (it k).dead && eqb (length (it k).literals) 0) ≡ c.is_empty_at.result
tells c stored H =
    let k = c.before in
    let r = rest_at (k.loop-i.invariant stored H) k.loop-i-test.true in
    ap (λ n. not (it k).dead && eqb n 0) (sym r.count) ∙ sym c.is_empty_at.ensures

pub returns-then-is_empty_at : goal.returns-then-is_empty_at
returns-then-is_empty_at c =
    λ stored H.
    let k = (goal.at.returns-then-is_empty_at c).In-loop-i in
    let w = k.loop-i.invariant stored H in
    let h = k.loop-i-test.true in
    sym (first-empty (it k) (rest_at w h).others (tells (goal.at.returns-then-is_empty_at c).After-is_empty_at stored H ∙ c.if-is_empty_at.true)) ∙ rest-first w h

pub end_at-i-requires : goal.end_at-i-requires
end_at-i-requires c = room (goal.at.end_at-i-requires c).In-loop-i

pub loop-i-preserved : goal.loop-i-preserved
loop-i-preserved c =
    let o = (goal.at.loop-i-preserved c).After-is_empty_at in
    let k = (goal.at.loop-i-preserved c).In-loop-i in
    rw c.end_at-i.ensures (λ stored H.
    let w = k.loop-i.invariant stored H in
    let h = k.loop-i-test.true in
    rest-next w h (λ es q. sym (first_some (it k) es (tells o stored H ∙ c.if-is_empty_at.false)) ∙ q))

pub returns : goal.returns
returns c = λ stored H. rw live-nil at (rest_over (c.loop-i.invariant stored H) c.loop-i-test.false)
