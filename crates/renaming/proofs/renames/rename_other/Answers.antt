use mathlib.Core.Path.{refl, sym, ◌∙◌}
use mathlib.Core.Logic.{inl, inr}
use Rattle.renaming.proofs.renames.rename_other.Goals as goal

pub returns-then-not-is_marked : goal.returns-then-not-is_marked
returns-then-not-is_marked c = inl (sym c.is_marked.ensures ∙ c.if-not-is_marked.true, refl, refl)

pub returns : goal.returns
returns c =
    inr (
      sym c.is_marked.ensures ∙ c.if-not-is_marked.false,
      (c.next_free-free.result, c.next_free-free.ensures, (refl, refl)),
    )
