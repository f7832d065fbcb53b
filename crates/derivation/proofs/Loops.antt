-- The computation of question 56 agrees with its relation, both ways: `loop-computed`.
-- A search finds only what it can reach; and once enough rounds are over (proofs/Rounds.antt) nothing is left to find.
-- Assumes nothing.
use mathlib.Core.Path.{refl}
use mathlib.Core.Logic.{inl, inr}
use mathlib.Core.Bool.{Bool, false, not, ◌&&◌}
use mathlib.Core.List.Memᴰ
use mathlib.Core.List.{List, [], ◌∷◌}
use native.Mathlib.Omega.{arith}
use lib.Dec.{T}
use lib.IntN.{ℤ}
use lib.ListN.{length}
use Rattle.words.specs.Lists.{◌∈◌, any}
use Rattle.words.specs.Literals.{has}
use Rattle.words.proofs.Lists.{Decides, passed, itself, reworded, and-decides, not-decides, any-decides, all-decides, keep→, keep←}
use Rattle.words.proofs.Literals.{has-decides}
use Rattle.aspif.specs.Rules.{Rule}
use Rattle.derivation.specs.Loops.{is_edge, Reaches, one, more, Loop, neighbours, rounds, reached, reaches_all, is_loop}
use Rattle.derivation.specs.Claims.{LoopComputed}
use Rattle.derivation.proofs.Rounds.{Rounds, Ended, rounds-end}

-- a way from h by edges as f says, to members of U
pub data Way (f : ℤ → ℤ → Bool) (U : List ℤ) (h : ℤ) : ℤ → Type 0 where
  first : {b : ℤ} → b ∈ U → T (f h b) → Way f U h b
  on : {a b : ℤ} → Way f U h a → b ∈ U → T (f a b) → Way f U h b

module _ (f : ℤ → ℤ → Bool) (U : List ℤ) where
  -- a member of U, an edge away from one of A
  abbrev Next : List ℤ → ℤ → Type 0
  Next A b = (b ∈ U) × ((a : ℤ) × (a ∈ A) × T (f a b))

  abbrev is_neighbour : List ℤ → ℤ → Bool
  is_neighbour A b = not (has b A) && any (λ a. f a b) A

  neighbour-decides : (A : List ℤ) (b : ℤ) → Decides (is_neighbour A b) ((¬ (b ∈ A)) × ((a : ℤ) × (a ∈ A) × T (f a b)))
  neighbour-decides A b = and-decides (not-decides (has-decides b A)) (any-decides (λ a. itself (f a b)) A)

  search : (h : ℤ) → Rounds (Way f U h) Next U (neighbours f U) (λ A. false) (rounds f U)
  search h = record {
    none = λ A. refl;
    turn = λ n A. refl;
    fresh→ = λ A b m. let k = keep→ (is_neighbour A) U m in let d = (neighbour-decides A b).to k.1 in ((k.0, d.1), d.0);
    fresh← = λ A b n d. keep← (is_neighbour A) n.0 ((neighbour-decides A b).from (d, n.1));
    among = λ A b n. n.0;
    keeps = λ A w b n. on (w n.1.0 n.1.1) n.0 n.1.2;
  }

  -- a search from A, of which each has a way from h, and which has those an edge away from h
  found-decides : (h : ℤ) {A : List ℤ} (b : ℤ) → Decides (has b (rounds f U (length U) A)) (b ∈ rounds f U (length U) A)
      → ((x : ℤ) → x ∈ A → Way f U h x) → ((x : ℤ) → x ∈ U → T (f h x) → x ∈ A)
      → Decides (has b (rounds f U (length U) A)) (Way f U h b)
  found-decides h {A} b i ways firsts =
      reworded (searched.within b) (λ w. elim searched.closed [ inl t ↦ absurd t | inr c ↦ way_in c w ]) i
    where
      found : List ℤ
      found = rounds f U (length U) A

      searched : Ended (Way f U h) Next (λ A. false) A found
      searched = rounds-end (search h) (length U) A (omega arith) ways

      way_in : ((b : ℤ) → Next found b → b ∈ found) → {b : ℤ} → Way f U h b → b ∈ found
      way_in closed (first m t) = searched.start _ (firsts _ m t)
      way_in closed (on w m t) = closed _ (m, (_, way_in closed w, t))

  pub reached-decides : (h b : ℤ) → Decides (has b (reached f U h)) (Way f U h b)
  reached-decides h b =
      found-decides h b (has-decides b (reached f U h)) (λ x m. let k = keep→ (f h) U m in first k.0 k.1) (λ x m t. keep← (f h) m t)

  pub reaches_all_lem : (h : ℤ) → Decides (reaches_all f U h) ((b : ℤ) → b ∈ U → Way f U h b)
  reaches_all_lem h = all-decides (reached-decides h) U

-- Ways and `Reaches`

module _ (P : List Rule) (U : List ℤ) where
  abbrev back : ℤ → ℤ → Bool
  back a b = is_edge P b a

  joined : {a b c : ℤ} → Reaches P U a b → Reaches P U b c → Reaches P U a c
  joined (one i j t) s = more i j t s
  joined (more i j t r) s = more i j t (joined r s)

  reaches-in : {a b : ℤ} → Reaches P U a b → b ∈ U
  reaches-in (one i j t) = j
  reaches-in (more i j t r) = reaches-in r

  ahead : {h b : ℤ} → h ∈ U → Way (is_edge P) U h b → Reaches P U h b
  ahead i (first m t) = one i m t
  ahead i (on w m t) = let r = ahead i w in joined r (one (reaches-in r) m t)

  ahead-on : {h a b : ℤ} → Way (is_edge P) U h a → Reaches P U a b → Way (is_edge P) U h b
  ahead-on w (one i j t) = on w j t
  ahead-on w (more i j t r) = ahead-on (on w j t) r

  ahead_of : {h b : ℤ} → Reaches P U h b → Way (is_edge P) U h b
  ahead_of (one i j t) = first j t
  ahead_of (more i j t r) = ahead-on (first j t) r

  behind : {h b : ℤ} → h ∈ U → Way back U h b → Reaches P U b h
  behind i (first m t) = one m i t
  behind i (on {a = a} w m t) = let r = behind i w in more m (reaches-from r) t r
    where
      reaches-from : {a b : ℤ} → Reaches P U a b → a ∈ U
      reaches-from (one i j t) = i
      reaches-from (more i j t r) = i

  behind-of : {h b : ℤ} → Reaches P U b h → Way back U h b
  behind-of (one i j t) = first i t
  behind-of (more i j t r) = on (behind-of r) i t

  pub loop-ways : (h : ℤ) → h ∈ U → Decides (reaches_all (is_edge P) U h && reaches_all back U h) (Loop P U)
  loop-ways h i = reworded to from (and-decides (reaches_all_lem (is_edge P) U h) (reaches_all_lem back U h))
    where
      to : ((b : ℤ) → b ∈ U → Way (is_edge P) U h b) × ((b : ℤ) → b ∈ U → Way back U h b) → Loop P U
      to p a b j k = joined (behind i (p.1 a j)) (ahead i (p.0 b k))

      from : Loop P U → ((b : ℤ) → b ∈ U → Way (is_edge P) U h b) × ((b : ℤ) → b ∈ U → Way back U h b)
      from l = (λ b j. ahead_of (l h b i j), λ b j. behind-of (l b h j i))

pub loop-decides : (P : List Rule) (U : List ℤ) → Decides (is_loop P U) (Loop P U)
unfolding is_loop
loop-decides P [] = record { to = λ t a b i j. elim i [ ]; from = λ l. tt }
loop-decides P (h ∷ hs) = loop-ways P (h ∷ hs) h (Memᴰ.head refl)

pub loop-computed : LoopComputed
loop-computed P U =
    let d = loop-decides P U in
    let p = passed (is_loop P U) in
    (λ e. d.to (p.from e), λ l. p.to (d.from l))
