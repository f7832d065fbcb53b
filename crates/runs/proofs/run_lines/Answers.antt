use mathlib.Core.Path.{◌≡◌, refl, subst, ◌∙◌}
use mathlib.Core.List.{List}
use Prim.Native.Nat.{ℕ, ◌+◌, ◌<◌}
use native.Mathlib.Omega.{arith}
use lib.IntN.{ℤ, pos}
use lib.ListN.{length, length-replicate}
use Rattle.aspif.specs.Rules.{InputRule}
use Rattle.aspif.proofs.Passes.{ok_in}
use Rattle.words.specs.Limits.{most_numbers}
use Rattle.text.specs.Classes.{byte_classes}
use Rattle.drupe.specs.Lines.{line_at}
use Rattle.steps.specs.Held.{Program}
use Rattle.runs.specs.Held.{LineLeaves}
use Rattle.runs.specs.declared.StepTaken.{StepTaken}
use Rattle.std.specs.Prelude.{Ok, Some}
use Rattle.steps.proofs.Tracking.{same-rules, rules-held, start-tracks}
use Rattle.runs.proofs.Courses.{Going, going_start, going-ends, going-fails, going_on}
use borrow.Author.Rules.{rules}
use Rattle.runs.proofs.run_lines.Goals as goal
use Rattle.runs.proofs.run_lines.Goals.{After-turn_at}

-- where the loop stands, and what the turn there left
module _ (c : After-turn_at) where
  abbrev ws : List InputRule
  ws = c.lines.invariant.0

  abbrev store' : List ℤ
  store' = c.turn_at.new.store

  abbrev index' : List ℕ
  index' = c.turn_at.new.index

  abbrev known' : List ℕ
  known' = c.turn_at.new.known

  abbrev names' : List ℕ
  names' = c.turn_at.new.names

  abbrev bodies' : List ℤ
  bodies' = c.turn_at.new.bodies

  G : Going c.args.atoms ws (length c.args.store.now) c.args.proof.now c.lines.store c.lines.index c.lines.known c.lines.names c.lines.bodies c.lines.state.used c.lines.state.at c.lines.state.steps
  G = c.lines.invariant.2

  turned : LineLeaves c.args.atoms ws known' names' bodies' store' index' c.lines.state.used (c.lines.state.steps + 1) (length c.args.store.now) G.z G.stored (line_at c.args.proof.now c.lines.state.at) c.turn_at.result
  turned =
      subst (λ n. LineLeaves c.args.atoms ws known' names' bodies' store' index' c.lines.state.used (c.lines.state.steps + 1) n G.z G.stored (line_at c.args.proof.now c.lines.state.at) c.turn_at.result)
      G.long (c.turn_at.ensures.left ws c.lines.invariant.1 G.z G.stored G.tracks G.keeps)

  -- as many words as were lent
  same_known : length known' ≡ length c.args.known.now
  same_known = c.turn_at.auto.known ∙ c.lines.invariant.3

  same_names : length names' ≡ length c.args.names.now
  same_names = c.turn_at.auto.names ∙ c.lines.invariant.4

  same-bodies : length bodies' ≡ length c.args.bodies.now
  same-bodies = c.turn_at.auto.bodies ∙ c.lines.invariant.5

  same_numbers : length c.turn_at.new.numbers ≡ most_numbers
  same_numbers = c.turn_at.auto.numbers ∙ c.lines.invariant.6

  same-sorted : length c.turn_at.new.sorted ≡ most_numbers
  same-sorted = c.turn_at.auto.sorted ∙ c.lines.invariant.7

  same_index : length index' ≡ length c.args.index.now
  same_index = c.turn_at.auto.index ∙ c.lines.invariant.9

  -- every program that the table holds is the same
  same : {us : List InputRule} → Program c.args.table.now c.args.rules c.args.atoms us → us ≡ ws
  same q = same-rules q.holds c.lines.invariant.1.holds

pub lines-init : goal.lines-init
lines-init c =
    let q = c.requires in
    let p = q.program.0.1 in
    (q.program.0.0, p, going_start _ _ _ _ c.start-state.ensures.start (rw q.start.1 (start-tracks q.start.0 (omega (arith, q.program.1, rules-held p.holds)) (rw (← p.holds.are) q.bodies))) q.empty refl q.cells, refl, refl, refl, length-replicate {A = ℤ} most_numbers (pos 0), length-replicate {A = ℤ} most_numbers (pos 0), refl, refl)

-- the number of the next step
pub overflow_add-step : goal.overflow_add-step
overflow_add-step c =
    let g = c.lines.invariant.2 in
    let p = c.requires.short in
    search (rules, g.count, g.within, p)

pub slice_bounds-turn_at-end : goal.slice_bounds-turn_at-end
slice_bounds-turn_at-end c = let p = c.lines.invariant.6 in search rules

pub slice_bounds-turn_at-end-in-lines : goal.slice_bounds-turn_at-end-in-lines
slice_bounds-turn_at-end-in-lines c = let p = c.lines.invariant.7 in search rules

pub turn_at-requires : goal.turn_at-requires
unfolding byte_classes
turn_at-requires c = let i = c.lines.invariant in
    let p = c.requires in record { state = (i.0, i.2.z, i.1, i.2.tracks); index = p.index; relevant = p.relevant; store = ((i.2.stored, i.2.keeps.keeps), omega (arith, i.2.count)); short = p.short; classes = refl; rows = (i.6, i.7); free = i.8 }

pub returns-in_default : goal.returns-in_default
returns-in_default c =
    let t = (goal.at.returns-in_default c).After-turn_at in
    λ limit h Q q. rw (same t q) (going-ends _ _ _ _ (G t) (store' t) (index' t) (known' t) (names' t) (bodies' t) (search rules) (ok_in c.in-Ok.is c.in_default.is) (turned t) limit h)

pub returns-in-Err : goal.returns-in-Err
returns-in-Err c =
    let t = (goal.at.returns-in-Err c).After-turn_at in
    λ limit h Q q. rw (same t q) (going-fails _ _ _ _ (G t) (store' t) (index' t) (known' t) (names' t) (bodies' t) (search rules) _ c.in-Err.is (turned t) limit h)

onward : (t : After-turn_at) (taken : StepTaken) → t.turn_at.result ≡ Ok (Some taken)
    → Going t.args.atoms (ws t) (length t.args.store.now) t.args.proof.now (store' t) (index' t) (known' t) (names' t) (bodies' t) taken.used taken.next (t.lines.state.steps + 1)
    × (t.lines.state.at < taken.next)
onward t taken e = going_on _ _ _ _ (G t) (store' t) (index' t) (known' t) (names' t) (bodies' t) (search rules) _ e (turned t)

pub lines-smaller : goal.lines-smaller
lines-smaller c = let o = onward (goal.at.lines-smaller c).After-turn_at c.in-Some.taken (ok_in c.in-Ok.is c.in-Some.is) in omega (arith, o.0.within, o.1)

pub lines-preserved : goal.lines-preserved
lines-preserved c =
    let t = (goal.at.lines-preserved c).After-turn_at in
    let i = t.lines.invariant in
    (i.0, i.1, (onward t c.in-Some.taken (ok_in c.in-Ok.is c.in-Some.is)).0, same_known t, same_names t, same-bodies t, same_numbers t, same-sorted t, t.turn_at.ensures.free, same_index t)
