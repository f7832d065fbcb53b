use mathlib.Core.Path.{◌≡◌, refl, sym, ap, ◌∙◌, subst}
use mathlib.Core.Bool.{true}
use mathlib.Core.List.{List}
use Prim.Native.Nat.{ℕ, ◌-◌}
use native.Mathlib.Omega.{arith}
use borrow.Rule.Slice.PartMut.{put_mid}
use lib.IntN.{ℤ, pos}
use Rattle.words.proofs.Parts.{tail-filled}
use lib.ListN.{length, take, length-replicate}
use Rattle.words.proofs.Laws.{zeros}
use Rattle.words.specs.Limits.{longest}
use Rattle.aspif.specs.Rules.{InputRule, program_words, atoms}
use Rattle.derivation.specs.States.{is_atom}
use Rattle.steps.specs.Held.{Program}
use Rattle.trees.specs.Sides.{cleared, Standing, side_of, Adds}
use Rattle.trees.specs.declared.sides.Pending.{Pending}
use Rattle.trees.proofs.Constraints.{within, length-cleared, front-cleared, standing-same}
use Rattle.trees.proofs.Outcomes.{text-size, over-limit, text-pending}
use Rattle.trees.proofs.sides.merge_texts.Goals as goal
use Rattle.trees.proofs.sides.merge_texts.Goals.{After-zero_all, After-write}
use Rattle.std.specs.Prelude.{Ok}

-- the table without constraints of the sides
module _ (c : After-zero_all) where
  abbrev used : ℕ
  used = c.args.place.used

  abbrev table : List ℤ
  table = c.args.table.now

  abbrev now-table : List ℤ
  now-table = put_mid used (length table - used) table c.zero_all.new.items

  clear : now-table ≡ cleared used table
  clear = tail-filled used table (pos 0) c.zero_all.new.items (within c.requires.place.1) c.zero_all.ensures

  front : take used now-table ≡ take used table
  front = ap (take used) clear ∙ front-cleared used table (within c.requires.place.1)

  long : length c.args.output.now ≡ longest
  long = ap length c.requires.blank ∙ length-replicate {A = ℕ} longest 0

  module _ {ws : List InputRule} (S : Standing 1 c.args.place table ws) where
    program : Program now-table c.args.place.rules c.args.place.atoms ws
    program = subst (λ (t : List ℤ). Program t c.args.place.rules c.args.place.atoms ws) (sym clear) S.program

    standing : Standing 1 c.args.place now-table ws
    standing = standing-same S front (ap length clear ∙ length-cleared used table (within S))

    atom : is_atom (atoms ws) c.args.v ≡ true
    atom = subst (λ (N : ℕ). is_atom N c.args.v ≡ true) S.program.top c.requires.atom

pub write-requires : goal.write-requires
write-requires c = let d = (goal.at.write-requires c).After-zero_all in
    let S = d.requires.place.1 in
    let P = program d S in record { program = ((d.requires.place.0, P), omega (arith, S.rules)); short = omega (arith, ap (λ (rs : List InputRule). length (program_words rs)) P.holds.are, S.used, S.room); empty = (d.requires.empty, (zeros 0 {n = longest} d.requires.blank).0) }

-- what 57 and 58 left
module _ (c : After-write) where
  abbrev store' : List ℤ
  store' = c.write.new.store

  abbrev output' : List ℕ
  output' = c.write.new.output

  same_store : length store' ≡ length c.args.store.now
  same_store = c.write.auto.store

  same-output : length output' ≡ longest
  same-output = c.write.auto.output ∙ ap length c.requires.blank ∙ length-replicate {A = ℕ} longest 0

pub first_refusal-requires : goal.first_refusal-requires
first_refusal-requires c = let w = (goal.at.first_refusal-requires c).After-write in
    let z = (goal.at.first_refusal-requires c).After-zero_all in
    let q = z.requires in record { place = (q.place.0, standing z q.place.1); atom = q.atom; empty = (zeros (pos 0) {n = length z.args.store.now} w.write.ensures.empty).0 }

pub returns-then-place-size : goal.returns-then-place-size
returns-then-place-size c = let w = (goal.at.returns-then-place-size c).After-write in
    let z = (goal.at.returns-then-place-size c).After-zero_all in
    let x = z.args in record {
      empty = w.write.ensures.empty;
      program = front z;
      side = λ ws S.
          over-limit (length x.store.now) x.place.limit ws x.v x.first.now x.second.now (output' w) x.one.refusal x.two.refusal (atom z S) (same-output w)
          c.in-Ok.size c.in-Ok.is (w.write.ensures.written ws (program z S)) c.if-place-size.true;
      taken = tt;
    }

pub returns-else-place-size : goal.returns-else-place-size
returns-else-place-size c = let w = (goal.at.returns-else-place-size c).After-write in
    let z = (goal.at.returns-else-place-size c).After-zero_all in
    let x = z.args in
    let q = z.requires.place in record {
      empty = w.write.ensures.empty;
      program = front z;
      side = λ ws S.
          text-pending (length x.store.now) x.place.limit ws x.v x.first.now x.second.now (output' w) x.one.refusal x.two.refusal (atom z S) (same-output w)
          c.in-Ok.size c.in-Ok.is (w.write.ensures.written ws (program z S)) (omega (arith, c.if-place-size.false))
          ∙ ap (λ (p : Pending). side_of (length x.store.now) ws (output' w) (Ok p)) (sym c.both.ensures);
      taken = subst (λ (p : Pending). Adds x.one x.two (Ok p)) (sym c.both.ensures) (
        text-size (length x.store.now) x.place.limit q.0 x.v x.first.now x.second.now (output' w) x.one.refusal x.two.refusal (atom z q.1) (same-output w)
            c.in-Ok.size c.in-Ok.is (w.write.ensures.written q.0 (program z q.1)),
        refl,
      );
    }
