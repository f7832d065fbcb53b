-- A finite graph in which each member has an edge that leads to it has a loop that no edge enters: among what the members lead back to, one that
-- is not smaller from any of its own members. Assumes nothing.
use mathlib.Core.Path.{refl}
use mathlib.Core.Logic.{◌⊎◌, inl, inr}
use mathlib.Core.Bool.{Bool, not}
use mathlib.Core.List.Memᴰ
use mathlib.Core.List.{List, [], ◌∷◌}
use Prim.Native.Nat.{ℕ, zero, suc, ◌≤◌}
use native.Mathlib.Omega.{arith}
use lib.Dec.{T}
use lib.IntN.{ℤ}
use lib.ListN.{length}
use Rattle.words.specs.Lists.{◌∈◌, filter}
use Rattle.words.specs.Literals.{has}
use Rattle.words.proofs.Lists.{Decides, answered, not-decides, each-cons, keep→, keep←, length-keep, keep-lt, none_in}
use Rattle.aspif.specs.Rules.{Rule}
use Rattle.derivation.specs.Loops.{is_edge, Reaches, one, more, Loop, reached}
use Rattle.derivation.proofs.Loops.{Way, first, on, reached-decides}

-- each element passes, or there is something else
abbrev pub either-all : {A : Type 0} {F : A → Type 0} {G : Type 0} (l : List A) → ((x : A) → x ∈ l → F x ⊎ G) → ((x : A) → x ∈ l → F x) ⊎ G
either-all [] f = inl (λ x m. elim m [ ])
either-all {A} {F} {G} (y ∷ l) f = go (f y (Memᴰ.head refl)) (either-all l (λ x m. f x (Memᴰ.tail m)))
  where
    go : F y ⊎ G → ((x : A) → x ∈ l → F x) ⊎ G → ((x : A) → x ∈ y ∷ l → F x) ⊎ G
    go (inl a) (inl b) = inl (each-cons a b)
    go (inl a) (inr g) = inr g
    go (inr g) s = inr g

-- a loop of members of X that no edge from X enters
pub record Component (P : List Rule) (X U : List ℤ) : Type 0 where
  pub some : (h : ℤ) × (h ∈ U)
  pub closed : (a u : ℤ) → u ∈ U → a ∈ X → T (is_edge P a u) → a ∈ U
  pub loop : Loop P U

module _ (P : List Rule) (X : List ℤ) where
  abbrev back : ℤ → ℤ → Bool
  back a b = is_edge P b a

  -- y leads to x, by edges from members of X
  abbrev Leads : ℤ → ℤ → Type 0
  Leads x y = Way back X x y

  pub leads-in : {x y : ℤ} → Leads x y → y ∈ X
  leads-in (first m t) = m
  leads-in (on w m t) = m

  pub leads-on : {x y w : ℤ} → Leads x y → Leads y w → Leads x w
  leads-on p (first m t) = on p m t
  leads-on p (on w m t) = on (leads-on p w) m t

  abbrev found : ℤ → ℤ → Bool
  found x y = has y (reached back X x)

  pub finds : (x y : ℤ) → Decides (found x y) (Leads x y)
  finds x y = reached-decides back X x y

  -- what leads to x, leads to all of it
  abbrev Least : ℤ → Type 0
  Least x = (y : ℤ) → y ∈ X → (w : ℤ) → w ∈ X → Leads x y → Leads x w → Leads y w

  pub record Lower (x : ℤ) : Type 0 where
    pub y : ℤ
    pub w : ℤ
    pub to-y : Leads x y
    pub to-w : Leads x w
    pub apart : T (not (found y w))

  abbrev try : (x y w : ℤ) → (Leads x y → Leads x w → Leads y w) ⊎ Lower x
  try x y w = go (answered (found x y)) (answered (found x w)) (answered (found y w))
    where
      go : T (found x y) ⊎ T (not (found x y)) → T (found x w) ⊎ T (not (found x w)) → T (found y w) ⊎ T (not (found y w))
          → (Leads x y → Leads x w → Leads y w) ⊎ Lower x
      go (inl a) (inl b) (inl c) = inl (λ p q. (finds y w).to c)
      go (inl a) (inl b) (inr c) = inr (record { y = y; w = w; to-y = (finds x y).to a; to-w = (finds x w).to b; apart = c })
      go (inl a) (inr b) c = inl (λ p q. absurd ((not-decides (finds x w)).to b q))
      go (inr a) b c = inl (λ p q. absurd ((not-decides (finds x y)).to a p))

  abbrev least : (n : ℕ) (x : ℤ) → x ∈ X → length (filter (found x) X) ≤ n → (c : ℤ) × (c ∈ X) × Least c
  least zero x m h = (x, m, λ y i w j p q. absurd (none_in h (keep← (found x) i ((finds x y).from p))))
  least (suc n) x m h = go (λ y i k. least n y i k) (either-all X (λ y i. either-all X (λ w j. try x y w)))
    where
      go : ((y : ℤ) → y ∈ X → length (filter (found y) X) ≤ n → (c : ℤ) × (c ∈ X) × Least c) → Least x ⊎ Lower x → (c : ℤ) × (c ∈ X) × Least c
      go below (inl f) = (x, m, f)
      go below (inr l) =
          below l.y (leads-in l.to-y)
          (omega (
            arith,
            keep-lt (found l.y) (found x) (λ v t. (finds x v).from (leads-on l.to-y ((finds l.y v).to t)))
                (leads-in l.to-w) l.apart ((finds x l.w).from l.to-w),
          ))

  -- each member has an edge from a member
  module _ (before : (x : ℤ) → x ∈ X → (a : ℤ) × (a ∈ X) × T (is_edge P a x)) (x : ℤ) (m : x ∈ X) where
    abbrev lowest : (c : ℤ) × (c ∈ X) × Least c
    lowest = least (length X) x m (length-keep (found x) X)

    abbrev test : ℤ → Bool
    test y = found lowest.0 y

    abbrev pub component : (f : ℤ → Bool) × Component P X (filter f X)
    component = (
      test,
      record {
        some = let b = before lowest.0 lowest.1 in (b.0, into (first b.1 b.2));
        closed = λ a u i j t. into (on (out i) j t);
        loop = λ a b i j. reach j (lowest.2 b (keep→ test X j).0 a (keep→ test X i).0 (out j) (out i));
      },
    )
      where
        U : List ℤ
        U = filter test X

        into : {y : ℤ} → Leads lowest.0 y → y ∈ U
        into {y} p = keep← test (leads-in p) ((finds lowest.0 y).from p)

        out : {y : ℤ} → y ∈ U → Leads lowest.0 y
        out {y} i = (finds lowest.0 y).to (keep→ test X i).1

        reach : {b a : ℤ} → b ∈ U → Leads b a → Reaches P U a b
        reach i (first n t) = one (into (on (out i) n t)) i t
        reach i (on w n t) = more (into (leads-on (out i) (on w n t))) (into (leads-on (out i) w)) t (reach i w)
