-- The loop of `sweep`: from one nogood to the next.
-- Assumes nothing.
use mathlib.Core.Path.{◌≡◌, refl, sym, ◌∙◌}
use mathlib.Core.Logic.{◌⊎◌, inl, inr}
use mathlib.Core.Bool.{Bool, true, false, true≢false}
use mathlib.Core.List.Memᴰ
use mathlib.Core.List.{List}
use Prim.Native.Nat.{ℕ, ◌≤◌, ◌<◌}
use native.Mathlib.Omega.{arith}
use lib.IntN.{ℤ}
use lib.ListN.{length}
use Rattle.words.specs.Lists.{◌∈◌}
use Rattle.words.specs.Limits.{entries}
use Rattle.nogoods.specs.Store.{Stored, live}
use Rattle.nogoods.specs.Keeps.{Literals}
use Rattle.nogoods.specs.Records.{Encodes, dead_at, end_at, nogood_at, stored_at, Stands}
use Rattle.propagation.specs.Propagate.{free, Settled, Derives, Grows, AllSettled}
use Rattle.propagation.specs.declared.units.Derived.TheVariants.{Assigned}
use Rattle.nogoods.proofs.Live.{live-nil, live-first}
use Rattle.nogoods.proofs.Recorded.{Rest, rest_at, rest-first, rest-next, rest_over, Inside, inside-tail, encoded}
use Rattle.propagation.proofs.Closures.{grows-not, grows-on, derived}

-- those left are stored; where nothing has changed, nothing follows from the other live ones
pub record Behind (m : List ℕ) (changed : Bool) (stored left : List Stored) : Type 0 where
  pub inside : Inside stored left
  pub done : changed ≡ false → (g : List ℤ) → g ∈ live stored → (g ∈ live left) ⊎ Settled m g

module _ (s : List ℤ) where
  -- from m₀ to m, by the nogoods before i
  pub record Sweeping (m₀ m : List ℕ) (changed : Bool) (i : ℕ) : Type 0 where
    pub size : length m ≡ entries
    pub grows : Grows s m₀ m
    pub more : changed ≡ true → free m < free m₀
    pub same : changed ≡ false → m ≡ m₀
    pub ahead : (stored : List Stored) → Encodes s stored → Rest (Behind m changed) s (length s) stored i

  pub sweep-start : (m : List ℕ) → length m ≡ entries → Sweeping m m false 0
  sweep-start m size = record {
    size = size;
    grows = grows-not;
    more = λ e. absurd (true≢false (sym e));
    same = λ e. refl;
    ahead = λ stored h. encoded s h (record { inside = λ g u. u; done = λ e g u. inl u });
  }

  module _ (m₀ m : List ℕ) (changed : Bool) (i : ℕ) (k : Sweeping m₀ m changed i) (h : i < length s) where
    pub sweep-at : Stands s i
    sweep-at stored e = let w = k.ahead stored e in ((rest-first w h).inside _ (Memᴰ.head refl), (rest_at w h).room)

    -- the nogood at i is passed
    past : (stored : List Stored) → Encodes s stored → (m' : List ℕ) (c : Bool)
        → (c ≡ false → (changed ≡ false) × (m' ≡ m) × (dead_at s i ≡ false → Settled m (nogood_at s i))) → Rest (Behind m' c) s (length s) stored (end_at s i)
    past stored enc m' c q = rest-next (k.ahead stored enc) h (λ es b. record {
      inside = inside-tail es b.inside;
      done = λ e g u. rw (q e).1 (elim (b.done (q e).0 g u) [
        | inr a ↦ inr a
        | inl v ↦ elim (live-first (stored_at s i) es v) [ inl r ↦ inr (rw r.1 ((q e).2 r.0)) | inr t ↦ inl t ]
      ]);
    })

    pub sweep-settled : (dead_at s i ≡ false → Settled m (nogood_at s i)) → Sweeping m₀ m changed (end_at s i)
    sweep-settled a = record {
      size = k.size;
      grows = k.grows;
      more = k.more;
      same = k.same;
      ahead = λ stored enc. past stored enc m changed (λ e. (e, refl, a));
    }

    pub sweep-assigned : dead_at s i ≡ false → Literals (nogood_at s i) → (m' : List ℕ) (v : ℕ) → Derives (nogood_at s i) m m' (Assigned v) → Sweeping m₀ m' true (end_at s i)
    sweep-assigned alive lits m' v d =
        let p = derived s i sweep-at alive lits m k.size m' v d in
        let g = p.0 in
        let f = k.grows.fewer in
        record {
          size = g.size ∙ k.size;
          grows = grows-on k.grows g;
          more = λ e. omega (arith, p.1);
          same = λ e. absurd (true≢false e);
          ahead = λ stored enc. past stored enc m' true (λ e. absurd (true≢false e));
        }

  pub sweep-over : (m₀ m : List ℕ) (changed : Bool) (i : ℕ) → Sweeping m₀ m changed i → length s ≤ i → changed ≡ false → AllSettled s m₀
  sweep-over m₀ m changed i k h e stored enc g u =
      rw (← k.same e) (elim ((rest_over (k.ahead stored enc) h).done e g u) [ inr a ↦ a | inl v ↦ absurd (Memᴰ.not-nil (rw live-nil at v)) ])
