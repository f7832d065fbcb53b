-- A conflict is one of the closure; and where nothing follows any more the assignment has the closure, and there is none.
use mathlib.Core.Path.{◌≡◌, sym, subst}
use mathlib.Core.Bool.{Bool, true, false}
use mathlib.Core.List.{List}
use Prim.Native.Nat.{ℕ, ◌-◌}
use lib.IntN.{ℤ}
use lib.ListN.{length, take}
use lib.Seq.{length-take-le}
use borrow.Rule.Slice.PartMut.{put_mid}
use Rattle.words.proofs.Lists.{passed, failed, not-decides}
use Rattle.words.specs.Lists.{◌∈◌}
use Rattle.derivation.specs.Propagation.{given, refuted}
use Rattle.derivation.proofs.Closure.{refuted-decides}
use Rattle.nogoods.specs.Store.{Stored, live}
use Rattle.nogoods.specs.Keeps.{Literals}
use Rattle.nogoods.specs.Records.{Encodes}
use Rattle.nogoods.specs.Index.{Keeps, Marked}
use Rattle.propagation.specs.Propagate.{Assigns, Ends}
use Rattle.nogoods.proofs.Live.{live-from}
use Rattle.nogoods.proofs.Recorded.{used-words}
use Rattle.nogoods.proofs.Indexing.{keeps-part, marked}
use Rattle.propagation.proofs.Closures.{no-conflict}
use Rattle.propagation.proofs.decide.Goals as goal
use Rattle.propagation.proofs.decide.Goals.{After-run, After-cover, Start}

module _ (s : List ℤ) (stored : List Stored) (enc : Encodes s stored) (L : List ℤ) (lits : Literals L) (m : List ℕ)
    (only : (z : ℤ) → Assigns m z → z ∈ L) (all : (z : ℤ) → z ∈ L → Assigns m z) where
  live-literals : (g : List ℤ) → g ∈ live stored → Literals g
  live-literals g u = let r = live-from stored u in rw (← r.2) (enc.literals r.0 r.1)

  answer : (r : Bool) → Ends s m r → r ≡ refuted (live stored) L
  answer true k = sym ((passed (refuted (live stored) L)).to ((refuted-decides (live stored) L).from (k stored L enc (λ z a. given (only z a)))))
  answer false k =
      sym (failed (refuted (live stored) L) ((not-decides (refuted-decides (live stored) L)).from
      (no-conflict (live stored) L k.0 live-literals lits (λ z u. k.1.kept z (all z u)) (k.2 stored enc))))

-- what is kept after the search
module _ (c : After-run) where
  abbrev k : After-cover
  k = c.before.before.before.before.before

  abbrev s : Start
  s = k.before.before.before

  abbrev index : List ℕ
  index = k.cover.new.index

  abbrev at : ℕ
  at = c.start_of-at.result

  abbrev found : List ℕ
  found = put_mid at (length index - at) index c.run.new.cells

  searched : (stored : List Stored) → Keeps s.args.store.now s.args.index.now s.args.used stored → Keeps s.args.store.now found s.args.used stored
  searched stored K = keeps-part at index c.run.new.cells c.start_of-at.ensures.upper_bound c.run.auto.cells c.start_of-at.ensures.value (k.cover.ensures stored K)

pub slice_bounds-propagate-end : goal.slice_bounds-propagate-end
slice_bounds-propagate-end c =
    let s = c in
    sym (length-take-le s.args.used s.args.store.now s.requires.held.1.holds.fits)

pub propagate-requires : goal.propagate-requires
propagate-requires c = let r = (goal.at.propagate-requires c).After-run in
    let p = (s r).requires.held in
    let K = searched r p.0 p.1 in record {
      encoded = (p.0, used-words _ _ p.0 p.1.holds);
      index = subst (λ (n : ℕ). Marked n (take (s r).args.used (s r).args.store.now) (found r)) K.size (marked K);
      size = c.assign-end.ensures.size.0;
      start = c.assign-end.ensures.size.1;
    }

pub returns : goal.returns
returns c = let r = (goal.at.returns c).After-run in
    let a = c.assign-end in
    let e = a.ensures.literals in record {
      refuted = λ stored K. answer _ stored (used-words (s r).args.store.now (s r).args.used stored K.holds) (s r).args.literals.now (s r).requires.literals _
          (λ z. (e z).0) (λ z. (e z).1) c.propagate.result c.propagate.ensures.decided;
      held = searched r;
      free = c.propagate.ensures.free;
    }
