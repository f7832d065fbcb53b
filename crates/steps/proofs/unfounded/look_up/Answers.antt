use mathlib.Core.Path.{◌≡◌, refl, ap, ◌∙◌}
use mathlib.Core.List.{List, ◌∷◌, map}
use Prim.Native.Nat.{ℕ, ◌+◌, ◌-◌, ◌≤◌}
use native.Mathlib.Omega.{arith}
use lib.IntN.{ℤ, pos}
use lib.ListN.{length, take, drop, get_or}
use borrow.Rule.Slice.PartMut.{put_mid}
use Rattle.words.specs.Limits.{most_held}
use Rattle.words.specs.Literals.{complement}
use Rattle.words.proofs.Words.{back}
use Rattle.text.specs.declared.Letter.TheVariants.{Loop}
use Rattle.aspif.specs.Rules.{InputRule, expand}
use Rattle.names.specs.Queries.{asked_names}
use Rattle.names.specs.declared.queries.Query.TheVariants.{External}
use Rattle.heads.specs.Heads.{Externals}
use Rattle.std.specs.Prelude.{Some}
use Rattle.steps.specs.Held.{Above}
use Rattle.steps.proofs.Tracking.{rules-held}
use Rattle.steps.proofs.Letters.{some_number, first-low, first-high}
use Rattle.steps.proofs.Gathering.{put-others, put-size}
use Rattle.steps.proofs.LoopSteps.{row-nogood}
use borrow.Author.Rules.{rules}
use Rattle.steps.proofs.unfounded.look_up.Goals as goal
use Rattle.steps.proofs.unfounded.look_up.Goals.{In_ok-n, Start}

pub external_names-requires : goal.external_names-requires
external_names-requires c = let p = c.requires in
    let A = p.state.2 in
    let l = p.set.1.literals in record { program = (A.holds.sound, omega (arith, A.kept.rules, rules-held A.holds)); index = p.index; set = (p.set.0, λ x i. (l.low x i, l.high x i)); row = search (rules, p.row) }

-- the names in the row after its first word
module _ (c : In_ok-n) where
  abbrev row : List ℤ
  row = c.external_names.new.row

  abbrev n : ℕ
  n = c.in_ok-n.n

  abbrev put : List ℤ
  put = put_mid 1 (length c.args.row.now - 1) c.args.row.now row

  some : 1 ≤ length c.args.row.now
  some = omega (arith, c.requires.row)

  others : drop 1 put ≡ row
  others = put-others c.args.row.now row some

  long : length put ≡ most_held + 2
  long = put-size c.args.row.now row some ∙ search (rules, c.external_names.auto.row, c.requires.row)

  module _ (ws : List InputRule) (called : List ℤ → ℕ) (A : Above c.args.table.now c.args.rules c.args.names.now c.args.bodies.now (get_or c.args.numbers.now 0 (pos 0)) ws called) where
    externals : Externals (asked_names External c.args.inside.now called (expand ws)) row (Some n)
    externals = c.in_ok-n.ensures ws A.holds c.args.bodies.now called A.kept

  -- as it is known before
  held : (let p = c.requires.state in Externals (asked_names External c.args.inside.now p.1 (expand p.0)) row (Some n))
  held = let p = c.requires.state in externals p.0 p.1 p.2

pub bounds-numbers-0 : goal.bounds-numbers-0
bounds-numbers-0 c = some_number Loop refl (goal.at.bounds-numbers-0 c).In_ok-n.requires.set.1

pub complete-requires : goal.complete-requires
complete-requires c = let f = (goal.at.complete-requires c).In_ok-n in
    let E = held f in record { row = (long f, E.0); names = rw (others f) (λ x i. (E.2 x i).2) }

pub overflow_add-result : goal.overflow_add-result
overflow_add-result c = let E = held (goal.at.overflow_add-result c).In_ok-n in record { fits = omega (arith, E.0) }

pub returns : goal.returns
returns c =
    λ ws called A.
    let f = (goal.at.returns c).In_ok-n in
    let line = f.requires.set.1 in
    let h = get_or f.args.numbers.now 0 (pos 0) in
    let E = externals f ws called A in
    row-nogood A f.args.inside.now (row f) c.complete.new.row (n f) (first-low Loop refl line) (first-high Loop refl line) E
    (omega (arith, c.complete.auto.row, long f, E.0))
    (c.complete.ensures ∙ ap (λ x. x ∷ map complement (take (n f) (drop 1 (put f)))) (back h (search rules))
    ∙ ap (λ l. h ∷ map complement (take (n f) l)) (others f))

pub returns-in_err-n : goal.returns-in_err-n
returns-in_err-n c =
    rw c.from_residual.ensures (λ ws called A. c.in_err-n.ensures ws A.holds c.args.bodies.now called A.kept)
