use mathlib.Core.Path.{◌≡◌, refl, sym, ◌∙◌, subst}
use mathlib.Core.Logic.{inl}
use mathlib.Core.Bool.{true}
use mathlib.Core.List.{List}
use Prim.Native.Nat.{ℕ}
use lib.ListN.{length, length-replicate}
use Rattle.words.specs.Limits.{entries}
use Rattle.aspif.specs.Rules.{InputRule}
use Rattle.steps.specs.Held.{Program}
use Rattle.splits.specs.Halves.{HalvesChecked}
use Rattle.splits.specs.Joined.{WrittenBy, HalvesHeld}
use Rattle.splits.proofs.Joining.{halves-kept, text-written}
use Rattle.splits.proofs.texts.write_halves.Goals as goal
use Rattle.splits.proofs.texts.write_halves.Goals.{After-accept_halves}

pub accept_halves-requires : goal.accept_halves-requires
accept_halves-requires c = let p = c.requires in record { program = p.program; short = p.short; marks = (length-replicate {A = ℕ} entries 0, length-replicate {A = ℕ} entries 0); names = refl; bodies = p.bodies; empty = p.empty.0 }

-- what the check of the halves left
module _ (c : After-accept_halves) where
  abbrev Checked : List InputRule → Type 0
  Checked ws = let a = c.args in let l = c.accept_halves.new in
      HalvesChecked a.atoms (length a.store.now) ws a.v a.first.now a.second.now l.known1 l.known2
      l.names l.bodies c.accept_halves.result

  checked : (ws : List InputRule) → Program c.args.table.now c.args.rules c.args.atoms ws → Checked ws
  checked ws p = c.accept_halves.ensures.checked ws p

  held : c.accept_halves.result ≡ true → (ws : List InputRule) → Program c.args.table.now c.args.rules c.args.atoms ws
      → (let a = c.args in let l = c.accept_halves.new in
      HalvesHeld a.table.now a.rules a.atoms a.v a.first.now a.second.now l.known1 l.known2
      l.names l.bodies)
  held e ws p = halves-kept p (checked ws p) e

pub returns-then-not-accept_halves : goal.returns-then-not-accept_halves
returns-then-not-accept_halves c = let d = (goal.at.returns-then-not-accept_halves c).After-accept_halves in record { empty = d.accept_halves.ensures.empty; written = λ ws p. inl (refl, sym (checked d ws p).answer ∙ c.if-not-accept_halves.true) }

pub write_merged-wrote-requires : goal.write_merged-wrote-requires
write_merged-wrote-requires c = let d = (goal.at.write_merged-wrote-requires c).After-accept_halves in
    let p = d.requires in record { halves = held d (c.if-not-accept_halves.false) p.program.0.0 p.program.0.1; index = p.index }

pub returns : goal.returns
unfolding held halves-kept
returns c = let d = (goal.at.returns c).After-accept_halves in
    let a = d.args in
    let yes = c.if-not-accept_halves.false in
    let w = c.write_merged-wrote in
    let o = w.new.output in record {
      empty = d.accept_halves.ensures.empty;
      written = λ ws p.
          subst (WrittenBy (length a.store.now) ws a.v a.first.now a.second.now o) (sym c.within.ensures)
          (text-written (length a.store.now) ws a.v a.first.now a.second.now (sym (checked d ws p).answer ∙ yes) a.output.now o w.result
          d.requires.empty.1 w.auto.output (w.ensures (held d yes ws p)));
    }
