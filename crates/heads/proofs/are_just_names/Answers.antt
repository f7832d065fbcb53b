use mathlib.Core.Path.{refl, sym, subst, ◌∙◌}
use Prim.Native.Nat.{◌≤◌}
use native.Mathlib.Omega.{arith}
use lib.ListN.{length}
use lib.Seq.{length-take-le}
use Rattle.heads.specs.Heads.{Listed}
use Rattle.heads.proofs.JustNames.{not-just, just-hit}
use Rattle.heads.proofs.are_just_names.Goals as goal
use Rattle.heads.proofs.are_just_names.Goals.{After-all_listed}

pub all_listed-requires : goal.all_listed-requires
all_listed-requires c = let p = c.requires in record { index = (p.index.0 p.index.1, p.program.0, p.program.1); line = (p.line.0, p.line.1, refl) }

-- as many are listed as there is room for hits
room : (c : After-all_listed) → length c.args.listed.now ≤ length c.all_listed.new.hits
room c = omega (arith, c.all_listed.auto.hits, c.requires.line.1)

pub returns-then-all_listed : goal.returns-then-all_listed
returns-then-all_listed c =
    let b = c in
    let l = (goal.at.returns-then-all_listed c).After-all_listed in
    let s = c in
    let a = s.args in
    let hits = l.all_listed.new.hits in
    let L = subst (Listed a.table.now a.rules a.names.now a.v a.listed.now hits) b.if-all_listed.true l.all_listed.ensures in
    λ ws H. rw (← H.are) (λ bodies called K.
    c.all_hit.ensures ∙ just-hit a.table.now a.rules s.requires.program.0 (s.requires.index.0 s.requires.index.1).plain K a.v a.listed.now hits (room l) s.requires.line.2 L)

pub returns : goal.returns
returns c =
    let l = c in
    let s = c in
    let a = s.args in
    let hits = l.all_listed.new.hits in
    let L = subst (Listed a.table.now a.rules a.names.now a.v a.listed.now hits) c.if-all_listed.false l.all_listed.ensures in
    λ ws H. rw (← H.are) (λ bodies called K.
    not-just a.table.now a.rules s.requires.program.0 (s.requires.index.0 s.requires.index.1).plain K a.v a.listed.now hits L)

pub slice_bounds-all_listed-end : goal.slice_bounds-all_listed-end
slice_bounds-all_listed-end c = refl

pub slice_bounds-hits-end : goal.slice_bounds-hits-end
slice_bounds-hits-end c = room (goal.at.slice_bounds-hits-end c).After-all_listed

pub slice_bounds-all_hit-end : goal.slice_bounds-all_hit-end
slice_bounds-all_hit-end c = sym (length-take-le _ _ (room (goal.at.slice_bounds-all_hit-end c).After-all_listed))
