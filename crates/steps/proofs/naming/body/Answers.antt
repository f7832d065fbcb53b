use mathlib.Core.Path.{◌≡◌, refl, sym, ap, ◌∙◌, subst}
use mathlib.Core.Bool.{true, false}
use mathlib.Core.List.{List, ◌∷◌}
use Prim.Native.Nat.{ℕ, ◌-◌}
use lib.IntN.{ℤ}
use lib.ListN.{length, take, drop}
use Rattle.words.specs.Literals.{variable, ascending}
use Rattle.words.proofs.Words.{back}
use Rattle.text.specs.declared.Letter.TheVariants.{Body}
use Rattle.aspif.specs.Rules.{InputRule, expand}
use Rattle.marks.specs.Marks.{marked}
use Rattle.nogoods.specs.Keeps.{Literals}
use Rattle.derivation.specs.States.{State, is_known}
use Rattle.derivation.specs.Steps.{is_unnamed_body}
use Rattle.names.specs.Queries.{HoldsRules, Kept}
use Rattle.steps.specs.Held.{name_of, Tracks}
use Rattle.steps.proofs.Kept.{kept_more}
use Rattle.steps.proofs.Letters.{first, copied, some_number, first-low, first-high, others-literals, introduced, unknown, body-tracks}
use borrow.Author.Rules.{rules}
use Rattle.steps.proofs.naming.body.Goals as goal
use Rattle.steps.proofs.naming.body.Goals.{After-variable_of-name, After-is_marked, After-name_body}

pub slice_bounds-all_marked-count : goal.slice_bounds-all_marked-count
slice_bounds-all_marked-count c = some_number Body refl c.requires.line

pub returns-then-not-all_marked : goal.returns-then-not-all_marked
returns-then-not-all_marked c =
    λ N ws p z stored T K.
    let s = c in
    rw (introduced z T Body _ s.requires.line refl refl (sym c.all_marked.ensures ∙ c.if-not-all_marked.true) refl) refl

pub slice_copy_out-variable_of : goal.slice_copy_out-variable_of
slice_copy_out-variable_of c = search (rules, some_number Body refl c.requires.line)

name : (c : After-variable_of-name) → c.variable_of-name.result ≡ variable (first c.args.numbers.now)
name c = rw (back _ c.variable_of-arg-1.given) at c.variable_of-name.ensures

-- question 27
named : (c : After-is_marked) → let a = c.args in c.is_marked.result ≡ marked a.known.now (variable (first a.numbers.now))
named c = rw (rw (back _ c.variable_of-arg-1.given) at c.variable_of-name.ensures) at c.is_marked.ensures

pub returns-then-is_marked : goal.returns-then-is_marked
returns-then-is_marked c =
    λ N ws p z stored T K.
    let k = c in
    let s = c in
    rw (introduced z T Body _ s.requires.line refl refl (sym k.all_marked.ensures ∙ k.if-not-all_marked.false) (sym (named (goal.at.returns-then-is_marked c).After-is_marked) ∙ c.if-is_marked.true)) refl

pub slice_bounds-name_body-count : goal.slice_bounds-name_body-count
slice_bounds-name_body-count c = some_number Body refl c.requires.line

pub name_body-requires : goal.name_body-requires
name_body-requires c = let v = (goal.at.name_body-requires c).After-variable_of-name in
    let s = c in
    let l = s.requires.line in record {
      program = s.requires.program;
      index = s.requires.index;
      name = (
        rw (name v) (first-low Body refl l),
        rw (name v) (first-high Body refl l),
        subst Literals (sym (copied s.args.numbers.now _ _ (some_number Body refl l) c.copy.ensures)) (others-literals Body refl l),
      );
    }

module _ (c : After-name_body) where
  abbrev numbers : List ℤ
  numbers = c.args.numbers.now

  part : take (length numbers - 1) (drop 1 c.copy.new.destination) ≡ drop 1 numbers
  part = copied numbers _ _ (some_number Body refl c.requires.line) c.copy.ensures

  module _ (N : ℕ) (ws : List InputRule) (p : HoldsRules c.args.table.now c.args.rules ws) (z : State)
      (T : Tracks N ws c.args.known.now c.args.names.now c.args.bodies.now z.introduced z.named) where
    -- question 28
    answer : c.name_body.result ≡ is_unnamed_body (expand ws) z (drop 1 numbers)
    answer = c.name_body.ensures.answer N ws p _ z T ∙ ap (is_unnamed_body (expand ws) z) part

    entered : c.name_body.result ≡ true → is_known N z (variable (first numbers)) ≡ false
        → Kept c.name_body.new.names c.name_body.new.bodies (name_of (record { name = variable (first numbers); body = ascending (drop 1 numbers) } ∷ z.named)) ws
    entered e f =
        let v : c.variable_of-name.result ≡ variable (first numbers) = rw (back _ c.variable_of-arg-1.given) at c.variable_of-name.ensures in
        subst (λ (t : List ℤ). Kept c.name_body.new.names c.name_body.new.bodies (name_of (record { name = variable (first numbers); body = ascending t } ∷ z.named)) ws) part
        (subst (λ (n : ℕ). is_known N z n ≡ false → Kept c.name_body.new.names c.name_body.new.bodies (name_of (record { name = n; body = ascending (take (length numbers - 1) (drop 1 c.copy.new.destination)) } ∷ z.named)) ws) v
        (c.name_body.ensures.named N ws p e _ z T) f)

pub returns-then-not-name_body : goal.returns-then-not-name_body
returns-then-not-name_body c =
    λ N ws p z stored T K.
    let b = (goal.at.returns-then-not-name_body c).After-name_body in
    let m = c in
    let k = c in
    let s = c in
    rw (introduced z T Body _ s.requires.line refl refl (sym k.all_marked.ensures ∙ k.if-not-all_marked.false) (sym (named (goal.at.returns-then-not-name_body c).After-is_marked) ∙ m.if-is_marked.false), sym (answer b N ws p z T) ∙ c.if-not-name_body.true) refl

pub define-requires : goal.define-requires
define-requires c = let s = c in
    let l = s.requires.line in record { store = s.requires.store; line = (l.literals, some_number Body refl l, l.few) }

pub returns : goal.returns
returns c =
    λ N ws p z stored T K.
    let d = c in
    let e = c in
    let b = (goal.at.returns c).After-name_body in
    let m = c in
    let k = c in
    let s = c in
    let f = sym (named (goal.at.returns c).After-is_marked) ∙ m.if-is_marked.false in
    let u = e.if-not-name_body.false in
    let q = sym (answer b N ws p z T) ∙ u in
    rw (introduced z T Body _ s.requires.line refl refl (sym k.all_marked.ensures ∙ k.if-not-all_marked.false) f, q)
    (kept_more K s.args.origin _ _ _ _ d.define.result (d.define.ensures.defined stored K.keeps), rw d.define.ensures.known (body-tracks z T Body _ s.requires.line refl f q (entered b N ws p z T u (unknown z T Body _ s.requires.line refl f))))
