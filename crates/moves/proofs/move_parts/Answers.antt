-- `moves::move_parts` meets its contract.
-- Assumes nothing.
use mathlib.Core.Path.{◌≡◌}
use mathlib.Core.Bool.{true}
use Prim.Native.Nat.{◌*◌, ◌≤◌}
use native.Mathlib.Omega.{arith}
use Rattle.words.specs.Limits.{most_rules}
use Rattle.packets.specs.Packets.{PacketRead, parts_read}
use Rattle.packets.specs.Parts.{most_words}
use Rattle.packets.specs.Claims.{Bytes}
use Rattle.packets.proofs.Littles.{bytes-all}
use Rattle.moves.proofs.Answers.{moved-early, told-refused, PairTaken, told-taken, moved-61, movable, few_bytes, few_words, moved-52, moved_all}
use Rattle.moves.proofs.move_parts.Goals as goal
use Rattle.moves.proofs.move_parts.Goals.{In-Some}

-- a pair was read
module _ (c : In-Some) where
  abbrev read : PacketRead
  read = parts_read c.args.from c.args.count c.args.words.now c.args.steps c.args.bytes.now

  taken : PairTaken c.args.to read c.in-Some.measured.words c.in-Some.measured.fits
  taken = told-taken _ _ c.in-Some.is c.measure.ensures

  bytes-in : Bytes c.args.bytes.now
  bytes-in = bytes-all c.args.bytes.now (λ i. (c.type_inv.bytes i).fits)

  -- the other version can hold it
  few : c.in-Some.measured.fits ≡ true → c.in-Some.measured.words ≤ most_words * most_rules
  few held = few_words _ _ _ _ _ _ bytes-in c.requires.count_in_bounds.1 taken held

pub returns-then-not-fits : goal.returns-then-not-fits
returns-then-not-fits c = let d = (goal.at.returns-then-not-fits c).In-Some in moved-61 _ _ d.args.output.now (taken d) c.if-not-fits.true d.requires.zeros

pub overflow_mul-size : goal.overflow_mul-size
overflow_mul-size c = let d = (goal.at.overflow_mul-size c).In-Some in record { fits = omega (arith, few d c.if-not-fits.false) }

pub overflow_add-size : goal.overflow_add-size
overflow_add-size c = let d = (goal.at.overflow_add-size c).In-Some in record { fits = omega (arith, few d c.if-not-fits.false) }

pub overflow_add-size-2 : goal.overflow_add-size-2
overflow_add-size-2 c =
    let d = (goal.at.overflow_add-size-2 c).In-Some in
    let held = c.if-not-fits.false in
    record { fits = omega (arith, few d held, few_bytes _ _ _ _ _ _ (bytes-in d) d.requires.count_in_bounds.1 (taken d) held) }

pub returns-then-output-size : goal.returns-then-output-size
returns-then-output-size c =
    let d = (goal.at.returns-then-output-size c).In-Some in
    moved-52 _ _ _ _ _ _ (bytes-in d) d.requires.count_in_bounds.1 (taken d) c.if-not-fits.false d.args.output.now d.requires.zeros c.if-output-size.true

pub write_pair-requires : goal.write_pair-requires
write_pair-requires c =
    let d = (goal.at.write_pair-requires c).In-Some in
    let b = bytes-in d in
    let f = d.requires.count_in_bounds.1 in
    let held = c.if-not-fits.false in
    record { count_in_bounds = (d.requires.count_in_bounds.0, movable _ _ _ _ _ _ b f (taken d) held); bytes_bound = few_bytes _ _ _ _ _ _ b f (taken d) held }

pub returns-in_default : goal.returns-in_default
returns-in_default c =
    moved-early c.args.to (parts_read c.args.from c.args.count c.args.words.now c.args.steps c.args.bytes.now) 53 (told-refused _ _ c.in_default.is c.measure.ensures) c.requires.zeros

pub returns : goal.returns
returns c =
    let d = (goal.at.returns c).In-Some in
    moved_all _ _ _ _ _ _ (bytes-in d) d.requires.count_in_bounds.1 (taken d) c.if-not-fits.false d.args.output.now d.requires.zeros c.if-output-size.false c.write_pair.ensures
