-- The loop of `look_at`: what the first literals of a nogood have shown.
-- Assumes nothing.
use mathlib.Core.Path.{◌≡◌, refl, sym, ap, ◌∙◌}
use mathlib.Core.Logic.{inl, inr}
use mathlib.Core.Bool.{true, false, true≢false}
use mathlib.Core.List.{List}
use Prim.Native.Nat.{ℕ, ◌+◌, ◌≤◌, ◌<◌}
use native.Mathlib.Omega.{arith}
use borrow.Author.Count.{below_more}
use lib.IntN.{ℤ, pos}
use lib.ListN.{length, get_or}
use Rattle.words.specs.Literals.{variable, complement}
use Rattle.words.proofs.Places.{in-at, place-of, variables-differ}
use Rattle.nogoods.specs.Keeps.{Literals}
use Rattle.propagation.specs.Propagate.{Assigns, Valued, Settled, AllTrue, Looked}
use Rattle.std.specs.Option.{is_some}
use Rattle.std.specs.declared.option.Option.{Option}
use Rattle.std.specs.declared.option.Option.TheVariants.{Some, None}
use Rattle.propagation.specs.declared.units.Value.TheVariants.{Free}
use Rattle.propagation.specs.declared.units.Look.TheVariants.{Unit}

pub is-none : (o : Option ℕ) → is_some o ≡ false → o ≡ None
is-none None h = refl
is-none (Some k) h = absurd (true≢false h)

pub is-some : (o : Option ℕ) → is_some o ≡ true → (k : ℕ) × (o ≡ Some k)
is-some None h = absurd (true≢false (sym h))
is-some (Some k) h = (k, refl)

module _ (m : List ℕ) (g : List ℤ) where
  abbrev at : ℕ → ℤ
  at j = get_or g j (pos 0)

  -- the first i literals are true but for the one at `one`, which is free, if there is one
  pub record Seen (i : ℕ) (one : Option ℕ) : Type 0 where
    pub rest : (j : ℕ) → j < i → ¬ (one ≡ Some j) → Assigns m (at j)
    pub first : (k : ℕ) → one ≡ Some k → (k < i) × Valued m (at k) Free

  pub seen_none : Seen 0 None
  seen_none = record { rest = λ j h. absurd (omega arith); first = λ k e. absurd (cc) }

  module _ (i : ℕ) (one : Option ℕ) (h : i < length g) (s : Seen i one) where
    pub seen_true : Assigns m (at i) → Seen (i + 1) one
    seen_true a = record {
      rest = below_more _ i s.rest (λ n. a);
      first = λ k e. let w = s.first k e in (omega (arith, w.0), w.1);
    }

    pub seen_false : Assigns m (complement (at i)) → Settled m g
    seen_false a = inl (at i, in-at (pos 0) g i h, a)

    pub seen-free : one ≡ None → Valued m (at i) Free → Seen (i + 1) (Some i)
    seen-free z f = record {
      rest = below_more _ i (λ j l n. s.rest j l (λ e. absurd (cc))) (λ n. absurd (n refl));
      first = λ k e. let q : i ≡ k = cc in rw (← q) (omega arith, f);
    }

    pub seen-second : Literals g → (k : ℕ) → one ≡ Some k → Valued m (at i) Free → Settled m g
    seen-second l k e f =
        let w = s.first k e in
        inr (
          at k,
          at i,
          in-at (pos 0) g k (omega (arith, w.0)),
          in-at (pos 0) g i h,
          (λ e. variables-differ g l.once k i (omega (arith, w.0)) h (λ p. omega (arith, w.0)) (ap variable e)),
          w.1.0,
          f.0,
        )

  module _ (i : ℕ) (over : length g ≤ i) (in-range : i ≤ length g) where
    pub seen_all : (one : Option ℕ) → Seen i one → one ≡ None → AllTrue m g
    seen_all one s e z u =
        let r = place-of (pos 0) u in
        rw r.2 at (s.rest r.0 (omega (arith, r.1)) (λ q. absurd (cc)))

    pub seen_one : (one : Option ℕ) (k : ℕ) → Seen i one → one ≡ Some k → Looked m g (Unit k)
    seen_one one k s e =
        let w = s.first k e in (
          omega (arith, w.0),
          record {
            here = in-at (pos 0) g k (omega (arith, w.0));
            left = w.1;
            others = λ y u n. let r = place-of (pos 0) u in rw r.2 at (s.rest r.0 (omega (arith, r.1)) (λ q. let p : k ≡ r.0 = cc in n (sym r.2 ∙ ap at (sym p))));
          },
        )
