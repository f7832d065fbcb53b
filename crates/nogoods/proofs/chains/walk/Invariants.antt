use mathlib.Core.List.{List}
use Rattle.words.proofs.Descending.{Walking}
use Rattle.nogoods.specs.Store.{Stored}
use Rattle.nogoods.specs.Index.{Keeps, Start, Member, Target, key_of, bucket_of, before_of, entry_of}
use Rattle.nogoods.proofs.Indexing.{front, found_entry, found_over}
use Rattle.nogoods.proofs.chains.walk.Given as goal

abbrev pub invariant-loop-next : goal.invariant-loop-next
invariant-loop-next l =
    (stored : List Stored) (K : Keeps l.store l.index l.used stored)
    → Walking (Member K.scale (front K)) (Start K.scale (front K)) (bucket_of l.index) (before_of K.scale l.index)
    (Target (front K) l.literals) (key_of K.scale l.literals)
    (found_entry l.found) (found_over l.found) (entry_of l.over) (entry_of l.next)

abbrev pub decreases-loop-next : goal.decreases-loop-next
decreases-loop-next l = entry_of l.next
