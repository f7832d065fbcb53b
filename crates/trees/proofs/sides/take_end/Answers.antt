use mathlib.Core.Path.{◌≡◌, refl, sym, ap, ◌∙◌}
use mathlib.Core.List.{List}
use Prim.Native.Nat.{ℕ, ◌≤◌}
use native.Mathlib.Omega.{arith}
use lib.ListN.{length, take, get_or}
use lib.Seq.{length-take-le, take_at}
use Rattle.words.specs.Limits.{longest}
use Rattle.trees.proofs.Outcomes.{first-length}
use Rattle.text.proofs.Puts.{front-put}
use borrow.Author.Rules.{rules}
use Rattle.trees.proofs.sides.take_end.Goals as goal
use Rattle.trees.proofs.sides.take_end.Goals.{Start}

module _ (s : Start) where
  -- the end's bytes
  abbrev n : ℕ
  n = get_or s.args.lengths.now 0 0

  abbrev text : List ℕ
  text = take n s.args.texts.now

  size : length text ≡ n
  size = length-take-le n s.args.texts.now (first-length s.args.texts.now s.args.lengths.now s.requires.ends.0 s.requires.ends.1)

pub slice_bounds-put_bytes-end : goal.slice_bounds-put_bytes-end
slice_bounds-put_bytes-end c = sym (size (goal.at.slice_bounds-put_bytes-end c).Start)

pub put_bytes-requires : goal.put_bytes-requires
put_bytes-requires c = let h : n (goal.at.put_bytes-requires c).Start ≤ longest = search rules in omega (arith, size (goal.at.put_bytes-requires c).Start, h)

pub returns : goal.returns
returns c =
    let s = (goal.at.returns c).Start in
    let h : n s ≤ longest = search rules in
    let p = c.put_bytes in (
      refl,
      h,
      ap (take (n s)) (front-put (text s) s.args.output.now p.new.buffer p.ensures (omega (arith, size s, h, s.requires.room))) ∙ take_at (text s) _ (n s) (size s),
    )
