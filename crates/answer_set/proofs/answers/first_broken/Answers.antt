use mathlib.Core.Path.{◌≡◌, refl, sym, ◌∙◌, ap}
use mathlib.Core.Logic.{inl}
use mathlib.Core.Bool.{Bool, true, false, cond}
use mathlib.Core.List.{List, [], ◌∷◌, map}
use Prim.Native.Nat.{ℕ, ◌+◌, ◌≤◌}
use native.Mathlib.Omega.{arith}
use lib.IntN.{ℤ}
use Rattle.std.specs.Prelude.{Option, Some, None}
use Rattle.std.specs.List.{position_from}
use Rattle.std.proofs.Common.{rules}
use Rattle.std.proofs.lemmas.Iterator.Consumers.{YieldsList-from_first}
use Rattle.std.proofs.lemmas.Iterator.Search.{position_from_yields_List}
use Rattle.std.proofs.lemmas.Iterator.Adapters.{position_from-zero}
use Rattle.aspif.specs.Tables.{rule_at, starts_at, rules_at}
use Rattle.aspif.proofs.Cursors.{few-rules, sound-rules, starts-length, rules_from_starts}
use Rattle.marks.specs.Marks.{marked}
use Rattle.answer_set.specs.SetTest.{is_broken, breaks, broken_from, said_of}
use Rattle.answer_set.specs.declared.SetAnswer.{SetAnswer}
use Rattle.answer_set.specs.declared.SetAnswer.TheVariants.{Yes, Broken}
use Rattle.answer_set.proofs.answers.first_broken.Goals as goal
use Rattle.answer_set.proofs.answers.first_broken.Goals.{After-rules_in, After-position}

-- what is said of the place that a search finds
abbrev said : Option ℕ → SetAnswer
said None = Yes
said (Some i) = Broken (i + 1)

module _ (M : ℕ → Bool) where
  abbrev breaks_at : List ℤ → Bool
  breaks_at ws = is_broken M (rule_at ws)

  search-says : (i : ℕ) (starts : List (List ℤ)) → said (position_from breaks_at i starts) ≡ said_of (broken_from M (i + 1) (map rule_at starts))
  search-says i [] = refl
  search-says i (ws ∷ starts) = by (breaks_at ws) (search-says (i + 1) starts)
    where
      by : (b : Bool) → said (position_from breaks_at (i + 1) starts) ≡ said_of (broken_from M (i + 1 + 1) (map rule_at starts))
          → said (cond b (Some i) (position_from breaks_at (i + 1) starts)) ≡ said_of (cond b (breaks (i + 1)) (broken_from M (i + 1 + 1) (map rule_at starts)))
      by true h = refl
      by false h = h

-- the rules are few
few : (c : After-rules_in) → c.rules_in.result.left ≤ 1024
few c = omega (arith, few-rules _ _ c.requires, c.rules_in.ensures.start.1)

told : (c : After-position) → said c.position.result ≡ said_of (broken_from (marked c.args.inside.now) 1 (rules_at c.args.rules c.args.table.now))
told c =
    let M = marked c.args.inside.now in
    let starts = starts_at c.rules_in.result.left c.rules_in.result.words.now in
    let found : c.position.result ≡ position_from (breaks_at M) 0 starts =
    position_from_yields_List (breaks_at M) c.position.new.self _ c.position.result c.position.ensures.ran (YieldsList-from_first _ _ _ refl) (λ x b q k. search rules) ∙ position_from-zero (breaks_at M) starts in
    ap said found ∙ search-says M 0 starts ∙ rw (c.rules_in.ensures.start.0, c.rules_in.ensures.start.1, rules_from_starts c.args.rules c.args.table.now) refl

pub rules_in-requires : goal.rules_in-requires
rules_in-requires c = sound-rules _ _ c.requires

pub position-requires-clause-fits : goal.position-requires-clause-fits
position-requires-clause-fits c =
    let r = (goal.at.position-requires-clause-fits c).After-rules_in in
    inl (omega (arith, few r, starts-length r.rules_in.result.left r.rules_in.result.words.now))

pub overflow_add-result : goal.overflow_add-result
overflow_add-result c =
    let r = (goal.at.overflow_add-result c).After-rules_in in
    record { fits = omega (arith, few r, c.in-Some.ensures.bound, starts-length r.rules_in.result.left r.rules_in.result.words.now) }

pub returns-in-Some : goal.returns-in-Some
returns-in-Some c = ap said (sym c.in-Some.is) ∙ told (goal.at.returns-in-Some c).After-position

pub returns-in-None : goal.returns-in-None
returns-in-None c = ap said (sym c.in-None.is) ∙ told (goal.at.returns-in-None c).After-position
