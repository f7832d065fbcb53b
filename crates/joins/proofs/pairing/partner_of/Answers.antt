use Prim.Native.Nat.{◌-◌}
use native.Mathlib.Omega.{arith}
use Rattle.joins.proofs.Partners.{level-low, found-past, found-first-share, found-later, found-missed}
use Rattle.joins.proofs.pairing.partner_of.Goals as goal

pub returns-then-right-j-clause-partner : goal.returns-then-right-j-clause-partner
returns-then-right-j-clause-partner c =
    found-past c.args.level c.args.i c.requires.levels.0 c.requires.levels.1 c.requires.there c.share_level.ensures c.saturating_sub-need.ensures c.shares_below-j.ensures
    c.if-right-j.true

pub returns-then-i-eq0-clause-partner : goal.returns-then-i-eq0-clause-partner
returns-then-i-eq0-clause-partner c =
    found-first-share c.args.level c.args.i c.requires.levels.0 c.requires.levels.1 c.requires.there c.share_level.ensures c.saturating_sub-need.ensures c.shares_below-j.ensures
    c.if-right-j.false c.if-i-eq0.true

pub overflow_add-share_level : goal.overflow_add-share_level
overflow_add-share_level c = record { fits = omega (arith, c.share_level-3.ensures, c.share_level-2.ensures, level-low c.requires.levels.0 (c.args.i - 1), level-low c.requires.levels.1 c.shares_below-j.result) }

pub returns-then-share_level-level-clause-partner : goal.returns-then-share_level-level-clause-partner
returns-then-share_level-level-clause-partner c =
    found-later c.args.level c.args.i c.requires.levels.0 c.requires.levels.1 c.requires.there c.share_level.ensures c.saturating_sub-need.ensures c.shares_below-j.ensures
    c.if-right-j.false c.if-i-eq0.false c.share_level-2.ensures c.share_level-3.ensures c.if-share_level-level.true

pub returns-else-share_level-level-clause-partner : goal.returns-else-share_level-level-clause-partner
returns-else-share_level-level-clause-partner c =
    found-missed c.args.level c.args.i c.requires.levels.0 c.requires.levels.1 c.requires.there c.share_level.ensures c.saturating_sub-need.ensures c.shares_below-j.ensures
    c.if-right-j.false c.if-i-eq0.false c.share_level-2.ensures c.share_level-3.ensures c.if-share_level-level.false
