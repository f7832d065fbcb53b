use mathlib.Core.Path.{◌≡◌, refl, sym, ◌∙◌}
use mathlib.Core.List.{List}
use Prim.Native.Nat.{ℕ}
use lib.ListN.{drop}
use Rattle.words.specs.Literals.{variable}
use Rattle.words.proofs.Words.{back}
use Rattle.text.specs.declared.Letter.TheVariants.{Completion}
use Rattle.aspif.specs.Rules.{InputRule, expand}
use Rattle.derivation.specs.States.{State}
use Rattle.derivation.specs.Steps.{is_completion}
use Rattle.names.specs.Queries.{HoldsRules}
use Rattle.steps.specs.Held.{Tracks}
use Rattle.steps.proofs.Kept.{kept_more}
use Rattle.steps.proofs.Letters.{first, some_number, first-low, first-high, cited, completed}
use borrow.Author.Rules.{rules}
use Rattle.steps.proofs.supports.completion.Goals as goal
use Rattle.steps.proofs.supports.completion.Goals.{After-variable_of-name, After-is_completed}

pub returns-then-not-all_marked : goal.returns-then-not-all_marked
returns-then-not-all_marked c =
    λ N ws p z b T K.
    let s = c in
    rw (cited z T Completion _ s.requires.line refl (sym c.all_marked.ensures ∙ c.if-not-all_marked.true)) refl

pub slice_copy_out-variable_of : goal.slice_copy_out-variable_of
slice_copy_out-variable_of c = search (rules, some_number Completion refl c.requires.line)

pub slice_bounds-is_completed-count : goal.slice_bounds-is_completed-count
slice_bounds-is_completed-count c = some_number Completion refl c.requires.line

name : (c : After-variable_of-name) → c.variable_of-name.result ≡ variable (first c.args.numbers.now)
name c = rw (back _ c.variable_of-arg-1.given) at c.variable_of-name.ensures

pub is_completed-requires : goal.is_completed-requires
is_completed-requires c = let v = (goal.at.is_completed-requires c).After-variable_of-name in
    let s = c in
    let l = s.requires.line in record { program = s.requires.program; index = s.requires.index; name = rw (name v) (first-low Completion refl l, first-high Completion refl l) }

-- question 29
answer : (c : After-is_completed) (N : ℕ) (ws : List InputRule) (z : State) → let a = c.args in
    HoldsRules a.table.now a.rules ws → Tracks N ws a.known.now a.names.now a.bodies.now z.introduced z.named
    → c.is_completed.result ≡ is_completion (expand ws) z (first a.numbers.now) (drop 1 a.numbers.now)
answer c N ws z p T =
    let v : c.variable_of-name.result ≡ variable (first c.args.numbers.now) = rw (back _ c.variable_of-arg-1.given) at c.variable_of-name.ensures in
    let s = c in
    completed z T _ s.requires.line (rw v at (c.is_completed.ensures ws p _ T.kept))

pub returns-then-not-is_completed : goal.returns-then-not-is_completed
returns-then-not-is_completed c =
    λ N ws p z b T K.
    let k = c in
    let s = c in
    rw (cited z T Completion _ s.requires.line refl (sym k.all_marked.ensures ∙ k.if-not-all_marked.false), sym (answer (goal.at.returns-then-not-is_completed c).After-is_completed N ws z p T) ∙ c.if-not-is_completed.true) refl

pub join-requires : goal.join-requires
join-requires c = let s = c in
    let l = s.requires.line in record { store = s.requires.store; line = (l.literals, some_number Completion refl l, l.few) }

pub returns : goal.returns
returns c =
    λ N ws p z b T K.
    let m = c in
    let k = c in
    let s = c in
    rw (cited z T Completion _ s.requires.line refl (sym k.all_marked.ensures ∙ k.if-not-all_marked.false), sym (answer (goal.at.returns c).After-is_completed N ws z p T) ∙ m.if-not-is_completed.false)
    (kept_more K s.args.origin _ _ _ _ c.join.result (c.join.ensures b K.keeps), T)
