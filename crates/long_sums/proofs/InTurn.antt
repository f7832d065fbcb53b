-- Items one after another, until there are too many rules. Assumes nothing.
use mathlib.Core.Path.{◌≡◌, refl, sym, ap, subst, ◌∙◌}
use mathlib.Core.Bool.{Bool, true, false}
use mathlib.Core.List.{List, [], ◌∷◌, map}
use Prim.Native.Nat.{ℕ, ◌+◌, ◌-◌, ◌*◌, ◌≤◌, ◌<◌}
use native.Mathlib.Omega.{arith}
use borrow.Author.Tests.{leb-true, leb-false}
use lib.Dec.{leb}
use lib.IntN.{ℤ}
use lib.ListN.{length}
use Rattle.words.specs.Limits.{most_rules}
use Rattle.aspif.specs.Tables.{rule_at, rules_at, starts_at}
use Rattle.aspif.proofs.Cursors.{starts-length, rules_from_starts}
use Rattle.sums.specs.Plans.{Item, split_item, in_turn}
use Rattle.sums.specs.Levels.{planned, sorted_groups}
use Rattle.totalizer.specs.declared.texts.Place.{Place}
use Rattle.totalizer.specs.Emitting.{Bounded, Emits}
use Rattle.totalizer.proofs.Emitted.{emits_none, emits-full, emits-on}
use Rattle.joins.specs.declared.chains.Numbered.{Numbered}
use Rattle.long_sums.specs.Program.{item_of, most_new, ItemEmitted, ItemsEmitted}

-- none, and any where there are too many already
none_emitted : (before : List ℕ) (q : Numbered) → Bounded q.place → ItemsEmitted [] before before q.place q.atom q
unfolding in_turn
none_emitted before q b = record { rules = emits_none before q.place b; atom = λ h. omega arith }

too_many : (is : List Item) (before : List ℕ) (q : Numbered) (n : ℕ) → Bounded q.place → most_rules < q.place.rules → ItemsEmitted is before before q.place n q
too_many is before q n b m = record { rules = emits-full before q.place b _ m; atom = λ h. absurd (omega (arith, m, h)) }

-- an item and those behind it
module _ {i : Item} {is : List Item} {before between : List ℕ} {p : Place} {n : ℕ} {q : Numbered} (e : ItemEmitted i before between p n q) where
  more-emitted : q.place.rules ≤ most_rules → {after : List ℕ} {u : Numbered} → ItemsEmitted is between after q.place q.atom u
      → ItemsEmitted (i ∷ is) before after p n u
  unfolding in_turn
  more-emitted h {after} {u} f =
      let a = e.atom h in
      record {
        rules = emits-on e.rules (subst (λ (k : ℕ). Emits (in_turn split_item k is) between after q.place u.place) a f.rules);
        atom = λ k. f.atom k ∙ omega (arith, a);
      }

  last-emitted : most_rules < q.place.rules → ItemsEmitted (i ∷ is) before between p n q
  unfolding in_turn
  last-emitted h = record { rules = emits-on e.rules (emits-full between q.place e.rules.bounded _ h); atom = λ k. absurd (omega (arith, h, k)) }

-- where the loop stands: what is left for those behind gives what was asked for all
pub record Standing (g rules : ℕ) (all : List Item) (before : List ℕ) (p : Place) (n : ℕ) (output : List ℕ) (here : Numbered) (starts : List (List ℤ)) : Type 0 where
  pub fewer : length starts ≤ rules
  pub bounded : Bounded here.place
  pub low : here.atom ≤ 10000 + most_new * (rules - length starts)
  pub long : length output ≡ length before
  pub rest : here.place.rules ≤ most_rules → {after : List ℕ} {q : Numbered}
      → ItemsEmitted (planned (sorted_groups (g - 1)) (map rule_at starts)) output after here.place here.atom q → ItemsEmitted all before after p n q
  pub full : most_rules < here.place.rules → ItemsEmitted all before output p n here

pub stands-first : (g : ℕ) (table : List ℤ) (rules : ℕ) (before : List ℕ) (here : Numbered) → Bounded here.place → here.atom ≤ 10000
    → Standing g rules (planned (sorted_groups (g - 1)) (rules_at rules table)) before here.place here.atom before here (starts_at rules table)
stands-first g table rules before here b l = record {
  fewer = omega (arith, starts-length rules table);
  bounded = b;
  low = omega (arith, l);
  long = refl;
  rest = λ m {after} {q} e. rw (rules_from_starts rules table) e;
  full = too_many _ before here here.atom b;
}

module _ {g rules : ℕ} {all : List Item} {before : List ℕ} {p : Place} {n : ℕ} {output : List ℕ} {here : Numbered} {starts : List (List ℤ)}
    (S : Standing g rules all before p n output here starts) where
  pub stands-done : starts ≡ [] → ItemsEmitted all before output p n here
  stands-done h = by (leb here.place.rules most_rules) refl
    where
      by : (t : Bool) → leb here.place.rules most_rules ≡ t → ItemsEmitted all before output p n here
      by true e =
          S.rest (leb-true here.place.rules most_rules e)
          (subst (λ (l : List (List ℤ)). ItemsEmitted (planned (sorted_groups (g - 1)) (map rule_at l)) output output here.place here.atom here)
          (sym h) (none_emitted output here S.bounded))
      by false e = S.full (leb-false here.place.rules most_rules e)

  -- a rule and those behind it
  module _ {ws : List ℤ} {behind : List (List ℤ)} (steps : starts ≡ ws ∷ behind) where
    pub low-atom : rules ≤ most_rules → here.atom ≤ 2000000000
    low-atom h = omega (arith, S.low, S.fewer, ap length steps, h)

    pub stands_on : here.place.rules ≤ most_rules → {after : List ℕ} {q : Numbered} → ItemEmitted (item_of g (rule_at ws)) output after here.place here.atom q
        → length after ≡ length output → Standing g rules all before p n after q behind
    stands_on few {after} {q} e l = record {
      fewer = omega (arith, S.fewer, ap length steps);
      bounded = e.rules.bounded;
      low = omega (arith, S.low, e.low, S.fewer, ap length steps);
      long = l ∙ S.long;
      rest = λ h {after = u} {q = v} f. S.rest few (subst (λ (l : List (List ℤ)). ItemsEmitted (planned (sorted_groups (g - 1)) (map rule_at l)) output u here.place here.atom v)
          (sym steps) (more-emitted e h f));
      full = λ h. S.rest few (subst (λ (l : List (List ℤ)). ItemsEmitted (planned (sorted_groups (g - 1)) (map rule_at l)) output after here.place here.atom q)
          (sym steps) (last-emitted e h));
    }
