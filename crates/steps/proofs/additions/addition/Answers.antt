use mathlib.Core.Path.{◌≡◌, refl, sym, ap, ◌∙◌}
use mathlib.Core.Bool.{Bool}
use mathlib.Core.List.{List}
use Prim.Native.Nat.{ℕ}
use native.Mathlib.Omega.{arith}
use Rattle.words.proofs.Sorting.{length-ascending}
use lib.IntN.{ℤ}
use Rattle.text.specs.declared.Letter.TheVariants.{Addition}
use Rattle.derivation.specs.States.{State}
use Rattle.derivation.specs.Propagation.{refuted}
use Rattle.nogoods.specs.Store.{Stored, live}
use Rattle.steps.specs.Held.{HoldsState}
use Rattle.nogoods.proofs.Literals.{literals-ascending}
use Rattle.steps.proofs.Kept.{kept-one, kept_more}
use Rattle.steps.proofs.Letters.{cited}
use Rattle.steps.proofs.additions.addition.Goals as goal

-- question 33 of the live nogoods
refutes-live : {store : List ℤ} {index : List ℕ} {used : ℕ} {z : State} {b : List Stored} → HoldsState store index used z b → (L : List ℤ) {r a : Bool} → r ≡ refuted (live b) L → r ≡ a
    → refuted z.live L ≡ a
refutes-live K L e f = sym (e ∙ ap (λ l. refuted l L) K.same) ∙ f

pub returns-then-not-all_marked : goal.returns-then-not-all_marked
returns-then-not-all_marked c = let s = c in record {
  stepped = λ N ws names bodies z b T K.
      rw (cited z T Addition _ s.requires.line refl (sym c.all_marked.ensures ∙ c.if-not-all_marked.true)) refl;
  free = s.requires.free;
}

pub returns-then-not-refutes : goal.returns-then-not-refutes
returns-then-not-refutes c = let k = c in
    let s = c in record {
      stepped = λ N ws names bodies z b T K.
          rw (cited z T Addition _ s.requires.line refl (sym k.all_marked.ensures ∙ k.if-not-all_marked.false), refutes-live K s.args.numbers.now (c.refutes.ensures.refuted b K.keeps) (c.if-not-refutes.true)) refl;
      free = c.refutes.ensures.free;
    }

pub append-requires : goal.append-requires
append-requires c = let s = c in
    let l = s.requires.line in
    let k = s.requires.store.0 in record { held = (k.0, c.refutes.ensures.held k.0 k.1); origin = s.requires.store.1; literals = rw (s.requires.sorted, length-ascending) (literals-ascending _ l.literals, omega (arith, l.few)) }

pub returns : goal.returns
returns c = let m = c in
    let k = c in
    let s = c in record {
      stepped = λ N ws names bodies z b T K. rw (cited z T Addition _ s.requires.line refl (sym k.all_marked.ensures ∙ k.if-not-all_marked.false), refutes-live K s.args.numbers.now (m.refutes.ensures.refuted b K.keeps) (m.if-not-refutes.false)) (
        kept_more K s.args.origin _ _ _ _ c.fitted.result
            (kept-one b s.args.origin _ _ _ c.append.result c.fitted.ensures s.requires.sorted (c.append.ensures b (m.refutes.ensures.held b K.keeps))),
        T,
      );
      free = m.refutes.ensures.free;
    }
