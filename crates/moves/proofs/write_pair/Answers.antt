-- `moves::write_pair` meets its contract.
-- Assumes nothing.
use Rattle.text.proofs.Puts.{put_on}
use Rattle.moves.proofs.write_pair.Goals as goal

pub returns : goal.returns
returns c P e =
    let m = c in
    (put_on m.put_header.ensures (put_on (m.move_rules-end.ensures.0 P e) c.put_bytes.ensures)).stands
