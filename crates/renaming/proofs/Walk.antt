-- The loop over a half's lines: where it stands, and how it ends or goes on.
-- Assumes nothing.
use mathlib.Core.Path.{◌≡◌, refl, subst}
use mathlib.Core.Bool.{Bool, true, false, cond, not, ◌&&◌}
use mathlib.Core.List.{List, [], ◌∷◌, map}
use Prim.Native.Nat.{ℕ, ◌≤◌, ◌<◌}
use native.Mathlib.Omega.{arith}
use borrow.Author.Tests.{le-ltb}
use lib.IntN.{ℤ}
use lib.ListN.{length}
use Rattle.words.specs.Limits.{largest, longest}
use Rattle.words.specs.Literals.{variable}
use Rattle.text.specs.Line.{any_outside}
use Rattle.text.specs.declared.Letter.{Letter}
use Rattle.text.specs.declared.Letter.TheVariants.{Extension}
use Rattle.drupe.specs.Lines.{LineAt, end, line, line_at}
use Rattle.drupe.specs.Lines as Lines
use Rattle.drupe.specs.Texts.{Step, steps_of}
use Rattle.drupe.specs.Texts as Texts
use Rattle.drupe.proofs.Lines.{passed-line}
use Rattle.merging.specs.Merge.{renamed, addition, one}
use Rattle.merging.proofs.Propagates.{renamed-variable}
use Rattle.renaming.specs.Writing.{Writes}
use Rattle.renaming.specs.Standing.{is_a, first_name, names_added, name_after, is_gone, standing, all_standing, Turned}
use Rattle.std.proofs.Common.{Option, Some, None}
use Rattle.renaming.specs.declared.lines.HalfLine.{HalfLine}
use Rattle.renaming.proofs.Positions.{Left, LeftBy, left-start, left_by}
use Rattle.renaming.proofs.Written.{none_written, then-written, over-more}

-- numbers under new names that are small are small
pub renamed-inside : (f : ℕ → ℕ) → ((v : ℕ) → f v ≤ largest) → (zs : List ℤ) → any_outside (map (renamed f) zs) ≡ false
renamed-inside f h [] = refl
renamed-inside f h (z ∷ zs) = rw (renamed-variable f z, le-ltb largest (f (variable z)) (h (variable z))) (renamed-inside f h zs)

module _ (text : List ℕ) where
  -- what a line at the position tells of the steps that are left
  told : {at : ℕ} {ts : List Step} {l : LineAt} → Left text at ts → line_at text at ≡ l → LeftBy text ts l
  told {ts = ts} left p = subst (LeftBy text ts) p (left_by text left)

  -- The walk, which began with an output and a position in it

  module _ (x : ℤ) (f : ℕ → ℕ) (shared : List ℕ) (has_body has_constraint : Bool) (before : List ℕ) (from : ℕ) where
    -- what is written of the steps that are left is, with what was written, what is written of all
    pub record Walking (ts : List Step) (output : List ℕ) (at name stop : ℕ) : Type 0 where
      pub rest : List Step
      pub left : Left text at rest
      pub onward : (after : List ℕ) (r : Option ℕ) → Writes (all_standing x f shared has_body has_constraint name rest) output after stop r
          → Writes (all_standing x f shared has_body has_constraint 0 ts) before after from r

    -- whatever the text's steps are
    abbrev pub Walks : (output : List ℕ) → (at name stop : ℕ) → Type 0
    Walks output at name stop = (ts : List Step) → steps_of text ≡ Texts.steps ts → Walking ts output at name stop

    pub walk_start : Walks before 0 0 from
    walk_start ts e = record { rest = ts; left = left-start text e; onward = λ after r w. w }

    module _ {output : List ℕ} {at name stop : ℕ} (W : Walks output at name stop) (near : stop ≤ longest) (after : List ℕ) where
      pub walk_ends : {r : Option (Option HalfLine)} → r ≡ Some None → Turned x f shared has_body has_constraint name output after stop (line_at text at) r
          → (ts : List Step) → steps_of text ≡ Texts.steps ts → Writes (all_standing x f shared has_body has_constraint 0 ts) before after from (Some stop)
      walk_ends e t ts q = by (line_at text at) refl (subst (Turned x f shared has_body has_constraint name output after stop (line_at text at)) e t)
        where
          by : (l : LineAt) → line_at text at ≡ l → Turned x f shared has_body has_constraint name output after stop l (Some None)
              → Writes (all_standing x f shared has_body has_constraint 0 ts) before after from (Some stop)
          by end p t =
              let G = W ts q in
              G.onward after (Some stop) (rw (told G.left p, t) (none_written output stop near))
          by (Lines.refused k) p t = let G = W ts q in absurd (told G.left p)
          by (line c zs to) p t = absurd t

      pub walk-over : {r : Option (Option HalfLine)} → r ≡ None → Turned x f shared has_body has_constraint name output after stop (line_at text at) r
          → (ts : List Step) → steps_of text ≡ Texts.steps ts → Writes (all_standing x f shared has_body has_constraint 0 ts) before after from None
      walk-over e t ts q = by (line_at text at) refl (subst (Turned x f shared has_body has_constraint name output after stop (line_at text at)) e t)
        where
          by : (l : LineAt) → line_at text at ≡ l → Turned x f shared has_body has_constraint name output after stop l None
              → Writes (all_standing x f shared has_body has_constraint 0 ts) before after from None
          by end p t = absurd t
          by (Lines.refused k) p t = absurd t
          by (line c zs to) p t =
              let G = W ts q in
              let s = told G.left p in
              G.onward after None (rw s.1 (over-more (standing x f shared has_body has_constraint name c zs) _ output after after stop t))

      pub walk-on : {r : Option (Option HalfLine)} (u : HalfLine) → r ≡ Some (Some u) → Turned x f shared has_body has_constraint name output after stop (line_at text at) r
          → Walks after u.next u.name u.end × ((u.end ≤ longest) × ((at < u.next) × (u.next ≤ length text)))
      walk-on u g t = by (line_at text at) refl (subst (Turned x f shared has_body has_constraint name output after stop (line_at text at)) g t)
        where
          by : (l : LineAt) → line_at text at ≡ l → Turned x f shared has_body has_constraint name output after stop l (Some (Some u))
              → Walks after u.next u.name u.end × ((u.end ≤ longest) × ((at < u.next) × (u.next ≤ length text)))
          by end p t = absurd t
          by (Lines.refused k) p t = absurd t
          by (line c zs to) p (i, j, w) =
              let b = passed-line text at p in
              (rw (i, j) on, (w.2, (omega (arith, b.0, i), omega (arith, b.1, i))))
            where
              on : Walks after to (name_after x name c zs) u.end
              on ts q =
                  let G = W ts q in
                  let s = told G.left p in
                  record {
                    rest = s.0;
                    left = s.2;
                    onward = λ later r k. G.onward later r (rw s.1 (then-written (standing x f shared has_body has_constraint name c zs) _ output after later stop u.end r w k));
                  }

-- a line that was read and written, or went past a limit
module _ (x : ℤ) (f : ℕ → ℕ) (shared : List ℕ) (has_body has_constraint : Bool) (name : ℕ) (before after : List ℕ) (at : ℕ) (c : Letter) (zs : List ℤ) (to : ℕ) where
  pub turned-over : {l : LineAt} {r : Option (Option HalfLine)} {w : Option ℕ} → l ≡ line c zs to → r ≡ None → w ≡ None
      → Writes (standing x f shared has_body has_constraint name c zs) before after at w → Turned x f shared has_body has_constraint name before after at l r
  turned-over p j e k = rw (p, j) (rw e at k)

  pub turned-on : {l : LineAt} {w : Option ℕ} (t : HalfLine) → l ≡ line c zs to → t.next ≡ to → t.name ≡ name_after x name c zs → w ≡ Some t.end
      → Writes (standing x f shared has_body has_constraint name c zs) before after at w → Turned x f shared has_body has_constraint name before after at l (Some (Some t))
  turned-on t p i j e k = rw p (i, j, rw e at k)

-- What stands of a line, by the tests that are made

module _ (x : ℤ) (f : ℕ → ℕ) (shared : List ℕ) (has_body has_constraint : Bool) (name : ℕ) (c : Letter) (zs : List ℤ) where
  pub stands-not : is_gone shared has_constraint name c zs ≡ true → standing x f shared has_body has_constraint name c zs ≡ []
  stands-not g = rw g

  pub stands-widened : is_gone shared has_constraint name c zs ≡ false → is_a c ≡ true → standing x f shared has_body has_constraint name c zs ≡ addition x (map (renamed f) zs)
  stands-widened g a = rw (g, a)

  pub stands-line : is_gone shared has_constraint name c zs ≡ false → is_a c ≡ false → {d : Letter} → d ≡ cond (names_added x c zs && not has_body) Extension c
      → standing x f shared has_body has_constraint name c zs ≡ one d (map (renamed f) zs)
  stands-line g a e = rw (g, a, e)

module _ (x : ℤ) (name : ℕ) (c : Letter) (zs : List ℤ) where
  pub name-given : names_added x c zs ≡ true → name_after x name c zs ≡ first_name zs
  name-given e = rw e

  pub name-kept : names_added x c zs ≡ false → name_after x name c zs ≡ name
  name-kept e = rw e
