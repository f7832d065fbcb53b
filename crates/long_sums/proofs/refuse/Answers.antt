use Rattle.long_sums.proofs.refuse.Goals as goal

pub returns : goal.returns
returns c = rw (c.zero_all.ensures, c.zero_all-2.ensures)
