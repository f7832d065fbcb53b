use mathlib.Core.Path.{◌≡◌, refl, sym, ◌∙◌, ap}
use mathlib.Core.List.{List, []}
use Prim.Native.Nat.{ℕ, ◌≤◌}
use native.Mathlib.Omega.{arith}
use lib.IntN.{pos}
use lib.ListN.{length, replicate, length-replicate}
use Rattle.words.proofs.Laws.{zeros}
use Rattle.words.specs.Limits.{longest}
use Rattle.text.specs.Classes.{byte_classes}
use Rattle.aspif.specs.Rules.{InputRule}
use Rattle.drupe.specs.Texts.{Step, steps, steps_of}
use Rattle.steps.specs.Held.{Program}
use Rattle.trimming.specs.Trims.{pass}
use Rattle.trimming.specs.Service.{accepted}
use Rattle.trimming.specs.Passing.{Reads}
use Rattle.trimming.proofs.Turns.{Repeating, reads-start, reads_now, reads_end, reads_on}
use borrow.Author.Rules.{rules}
use Rattle.trimming.proofs.trials.passes.Goals as goal
use Rattle.trimming.proofs.trials.passes.Goals.{After-pass-left}

pub loop-len-init : goal.loop-len-init
loop-len-init c =
    let a = c.args in
    record {
      same_text = search rules;
      same_store = search rules;
      zeros = c.requires.empty;
      room = length-replicate {A = ℕ} longest 0;
      within = omega arith;
      repeating = λ ws ts p r. reads-start (length a.store.now) ws ts a.text.now r;
    }

-- a pass
module _ (c : After-pass-left) where
  abbrev text' : List ℕ
  text' = c.pass-left.new.text

  most : c.pass-left.result ≤ c.loop-len.len
  most = c.pass-left.ensures.within

  same_text : length text' ≡ length c.args.text.now
  same_text = c.pass-left.auto.text ∙ c.loop-len.invariant.same_text

  inside : c.pass-left.result ≤ length text'
  inside = let I = c.loop-len.invariant in omega (arith, most, I.within, I.same_text, same_text)

  module _ (ws : List InputRule) (ts : List Step) (p : Program c.args.table.now c.args.rules c.args.atoms ws) (r : steps_of c.args.text.now ≡ steps ts) where
    abbrev R : Repeating (length c.args.store.now) ws ts c.loop-len.text c.loop-len.len
    R = c.loop-len.invariant.repeating ws ts p r

    after : Reads text' c.pass-left.result (pass (accepted (length c.args.store.now) ws) [] R.steps)
    after =
        rw c.loop-len.invariant.same_store at
        (c.pass-left.ensures.left ws R.steps p (reads_now (length c.args.store.now) ws ts c.args.text.now r c.loop-len.text c.loop-len.len R))

pub pass-left-requires : goal.pass-left-requires
unfolding byte_classes
pass-left-requires c = let k = c in
    let q = k.requires in
    let I = k.loop-len.invariant in record { room = (omega (arith, I.same_text, q.short), I.room); within = I.within; program = q.program; empty = (zeros (pos 0) {n = length k.args.store.now} I.zeros).0; classes = refl {a = byte_classes} }

pub returns-then-left-len : goal.returns-then-left-len
returns-then-left-len c = let d = (goal.at.returns-then-left-len c).After-pass-left in
    let a = d.args in
    let I = d.loop-len.invariant in record {
      within = omega (arith, inside d, same_text d);
      empty = d.pass-left.ensures.empty ∙ ap (λ (n : ℕ). replicate n (pos 0)) I.same_store;
      trimmed = λ ws ts p r.
          reads_end (length a.store.now) ws ts a.text.now r d.loop-len.text d.loop-len.len (R d ws ts p r) I.within (text' d) d.pass-left.result (inside d) (after d ws ts p r) c.if-left-len.true;
    }

pub loop-len-smaller : goal.loop-len-smaller
loop-len-smaller c = let d = (goal.at.loop-len-smaller c).After-pass-left in omega (arith, most d, c.if-left-len.false)

pub loop-len-preserved : goal.loop-len-preserved
loop-len-preserved c =
    let d = (goal.at.loop-len-preserved c).After-pass-left in
    let a = d.args in
    let I = d.loop-len.invariant in
    let k = d.pass-left.auto in
    record {
      same_text = same_text d;
      same_store = k.store ∙ I.same_store;
      zeros = d.pass-left.ensures.empty ∙ ap (λ (n : ℕ). replicate n (pos 0)) I.same_store;
      room = k.trial ∙ I.room;
      within = inside d;
      repeating = λ ws ts p r.
          reads_on (length a.store.now) ws ts a.text.now r d.loop-len.text d.loop-len.len (R d ws ts p r) I.within (text' d) d.pass-left.result (inside d) (after d ws ts p r) c.if-left-len.false;
    }

pub slice_bounds-pass-end : goal.slice_bounds-pass-end
slice_bounds-pass-end c = sym c.loop-len.invariant.room
