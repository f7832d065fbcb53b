-- What holds between the state of a half's check and that of the merged proof's. Assumes nothing.
use mathlib.Core.Path.{◌≡◌, refl, sym, ap, ◌∙◌, fun_ext}
use mathlib.Core.Logic.{◌⊎◌, inl, inr}
use mathlib.Core.Bool.{Bool, true, false, ◌&&◌, ◌||◌}
use mathlib.Core.List.Memᴰ
use mathlib.Core.List.{List, [], ◌∷◌, ◌++◌, map}
use Prim.Native.Nat.{ℕ, ◌≤◌, max}
use native.Mathlib.Omega.{arith}
use lib.Dec.{T}
use lib.IntN.{ℤ, pos}
use Rattle.words.specs.Lists.{◌∈◌}
use Rattle.words.specs.Literals.{variable, complement, has, ascending, top}
use Rattle.words.proofs.Lists.{each-cons, and-decides, leb-decides}
use Rattle.words.proofs.Literals.{variable-complement, ascending→, ascending←}
use Rattle.aspif.specs.Rules.{Rule, plain_atoms}
use Rattle.aspif.proofs.RuleTests.{greatest-more}
use Rattle.derivation.specs.Loops.{is_edge, reaches_all, is_loop}
use Rattle.derivation.specs.States.{Named, State, is_atom}
use Rattle.derivation.specs.Steps.{add, definition, define}
use Rattle.merging.specs.Merge.{demand, demanding, renamed, is_body}
use Rattle.merging.proofs.Propagates.{Covered, renamed-complement}

-- Atoms

-- the added constraint names no other atom than 1 to N
pub demanding-atoms : (N : ℕ) (P : List Rule) (x : ℤ) → plain_atoms P ≤ N → T (is_atom N (variable x)) → plain_atoms (demanding P x) ≤ N
demanding-atoms N P x small t =
    let h = ((and-decides (leb-decides 1 (variable x)) (leb-decides (variable x) N)).to t).1 in
    let e = greatest-more (λ (r : Rule). max (top r.heads) (top r.body)) P (demand x) in
    let v = variable-complement x in
    omega (arith, small, h, e, v)

-- Loops

-- a constraint has no head, so it gives no edge
edge_same : (P : List Rule) (x a b : ℤ) → is_edge (demanding P x) a b ≡ is_edge P a b
edge_same [] x a b = none (has a (complement x ∷ []))
  where
    none : (t : Bool) → ((t && false) || false) ≡ false
    none true = refl
    none false = refl
edge_same (r ∷ P) x a b = ap (λ t. (has a r.body && has b r.heads) || t) (edge_same P x a b)

pub loop-same : (P : List Rule) (x : ℤ) (U : List ℤ) → is_loop (demanding P x) U ≡ is_loop P U
unfolding is_loop
loop-same P x [] = refl
loop-same P x (h ∷ hs) =
    ap (λ (e : ℤ → ℤ → Bool). reaches_all e (h ∷ hs) h && reaches_all (λ a b. e b a) (h ∷ hs) h) (fun_ext (λ a. fun_ext (λ b. edge_same P x a b)))

-- Definitions

-- the live nogoods say that m means the body, or no more literals than they would
pub record Defines (live : List (List ℤ)) (m : ℕ) (body : List ℤ) : Type 0 where
  pub long : (h : List ℤ) × (h ∈ live) × ((k : ℤ) → k ∈ h → (k ≡ complement (pos m)) ⊎ (k ∈ body))
  pub short : (y : ℤ) → y ∈ body → (h : List ℤ) × (h ∈ live) × ((k : ℤ) → k ∈ h → (k ≡ pos m) ⊎ (k ≡ complement y))

abbrev pub Within : List (List ℤ) → List (List ℤ) → Type 0
Within live live' = (h : List ℤ) → h ∈ live → h ∈ live'

pub defines-more : {live live' : List (List ℤ)} {m : ℕ} {body : List ℤ} → Within live live' → Defines live m body → Defines live' m body
defines-more w d = record {
  long = (d.long.0, w _ d.long.1, d.long.2);
  short = λ y u. let s = d.short y u in (s.0, w _ s.1, s.2);
}

two : {a b k : ℤ} → k ∈ a ∷ b ∷ [] → (k ≡ a) ⊎ (k ≡ b)
two (Memᴰ.head p) = inl p
two (Memᴰ.tail m) = inr (Memᴰ.eq_of_singleton m)

pub definition-defines : (live : List (List ℤ)) (m : ℕ) (L : List ℤ) → Within (definition (pos m) L) live → Defines live m (ascending L)
definition-defines live m L w = record {
  long = (ascending (complement (pos m) ∷ L), w _ (Memᴰ.head refl), λ k u. first (Memᴰ.cases_cons (ascending→ (complement (pos m) ∷ L) u)));
  short = λ y u. (ascending (pos m ∷ complement y ∷ []), w _ (Memᴰ.tail (Memᴰ.map (λ y. ascending (pos m ∷ complement y ∷ [])) u)), λ k v. two (ascending→ (pos m ∷ complement y ∷ []) v));
}
  where
    first : {k : ℤ} → (k ≡ complement (pos m)) ⊎ (k ∈ L) → (k ≡ complement (pos m)) ⊎ (k ∈ ascending L)
    first (inl p) = inl p
    first (inr u) = inr (ascending← L u)

-- Coverings

module _ (f : ℕ → ℕ) (x : ℤ) where
  pub covered_more : {live live' : List (List ℤ)} (g : List ℤ) → Within live live' → Covered f x live g → Covered f x live' g
  covered_more g w (inl m) = inl m
  covered_more g w (inr r) = inr (r.0, w _ r.1, r.2)

  pub covered_same : (live : List (List ℤ)) (g g' : List ℤ) → ((k : ℤ) → k ∈ g → k ∈ g') → Covered f x live g → Covered f x live g'
  covered_same live g g' s c = by c
    where
      moved : (k : ℤ) → k ∈ map (renamed f) g → k ∈ map (renamed f) g'
      moved k m = let r = Memᴰ.of_map (renamed f) g m in Memᴰ.cast (sym r.2) (Memᴰ.map (renamed f) (s r.0 r.1))

      by : Covered f x live g → Covered f x live g'
      by (inl m) = inl (moved _ m)
      by (inr r) = inr (r.0, r.1, λ k u. elim (r.2 k u) [ inl e ↦ inl e | inr v ↦ inr (moved k v) ])

  pub covered-by : {live : List (List ℤ)} (g h : List ℤ) → h ∈ live → ((k : ℤ) → k ∈ h → k ∈ map (renamed f) g) → Covered f x live g
  covered-by g h m s = inr (h, m, λ k u. inr (s k u))

  module _ (zero-stays : f 0 ≡ 0) where
    -- a definition under new names covers the definition
    pub definition-covered : (live : List (List ℤ)) (n : ℤ) (L : List ℤ) → Within (definition (renamed f n) (map (renamed f) L)) live
        → (g : List ℤ) → g ∈ definition n L → Covered f x live g
    definition-covered live n L w g (Memᴰ.head p) =
        rw p (covered-by (ascending (complement n ∷ L)) _ (w _ (Memᴰ.head refl)) (λ k u. first k (Memᴰ.cases_cons (ascending→ (complement (renamed f n) ∷ map (renamed f) L) u))))
      where
        first : (k : ℤ) → (k ≡ complement (renamed f n)) ⊎ (k ∈ map (renamed f) L) → k ∈ map (renamed f) (ascending (complement n ∷ L))
        first k (inl q) = Memᴰ.cast (q ∙ sym (renamed-complement f zero-stays n)) (Memᴰ.map (renamed f) (ascending← (complement n ∷ L) (Memᴰ.head refl)))
        first k (inr u) =
            let r = Memᴰ.of_map (renamed f) L u in
            Memᴰ.cast (sym r.2) (Memᴰ.map (renamed f) (ascending← (complement n ∷ L) (Memᴰ.tail r.1)))
    definition-covered live n L w g (Memᴰ.tail m) =
        let r = Memᴰ.of_map (λ y. ascending (n ∷ complement y ∷ [])) (ascending L) m in go r.0 r.1 r.2
      where
        go : (y : ℤ) → y ∈ ascending L → ascending (n ∷ complement y ∷ []) ≡ g → Covered f x live g
        go y u p =
            rw (← p) (covered-by (ascending (n ∷ complement y ∷ [])) (ascending (renamed f n ∷ complement (renamed f y) ∷ []))
            (w _ (Memᴰ.tail (Memᴰ.map (λ y. ascending (renamed f n ∷ complement y ∷ [])) (ascending← (map (renamed f) L) (Memᴰ.map (renamed f) (ascending→ L u))))))
            (λ k v. pair k (two (ascending→ (renamed f n ∷ complement (renamed f y) ∷ []) v))))
          where
            pair : (k : ℤ) → (k ≡ renamed f n) ⊎ (k ≡ complement (renamed f y)) → k ∈ map (renamed f) (ascending (n ∷ complement y ∷ []))
            pair k (inl q) = Memᴰ.cast q (Memᴰ.map (renamed f) (ascending← (n ∷ complement y ∷ []) (Memᴰ.head refl)))
            pair k (inr q) =
                Memᴰ.cast (q ∙ sym (renamed-complement f zero-stays y))
                (Memᴰ.map (renamed f) (ascending← (n ∷ complement y ∷ []) (Memᴰ.tail (Memᴰ.head refl))))

    -- where the body keeps its literals, what defines the new name covers the definition
    pub defined-covered : (live : List (List ℤ)) (m : ℕ) (L : List ℤ) → ((y : ℤ) → y ∈ L → renamed f y ≡ y) → Defines live (f m) (ascending L)
        → (g : List ℤ) → g ∈ definition (pos m) L → Covered f x live g
    defined-covered live m L stay d g (Memᴰ.head p) =
        rw p (covered-by (ascending (complement (pos m) ∷ L)) _ d.long.1 (λ k u. first k (d.long.2 k u)))
      where
        first : (k : ℤ) → (k ≡ complement (pos (f m))) ⊎ (k ∈ ascending L) → k ∈ map (renamed f) (ascending (complement (pos m) ∷ L))
        first k (inl q) = Memᴰ.cast (q ∙ sym (renamed-complement f zero-stays (pos m))) (Memᴰ.map (renamed f) (ascending← (complement (pos m) ∷ L) (Memᴰ.head refl)))
        first k (inr u) =
            let v = ascending→ L u in
            Memᴰ.cast (sym (stay k v)) (Memᴰ.map (renamed f) (ascending← (complement (pos m) ∷ L) (Memᴰ.tail v)))
    defined-covered live m L stay d g (Memᴰ.tail n) =
        let r = Memᴰ.of_map (λ y. ascending (pos m ∷ complement y ∷ [])) (ascending L) n in go r.0 r.1 r.2
      where
        go : (y : ℤ) → y ∈ ascending L → ascending (pos m ∷ complement y ∷ []) ≡ g → Covered f x live g
        go y u p = let s = d.short y u in
            rw (← p) (covered-by (ascending (pos m ∷ complement y ∷ [])) _ s.1 (λ k v. pair k (s.2 k v)))
          where
            pair : (k : ℤ) → (k ≡ pos (f m)) ⊎ (k ≡ complement y) → k ∈ map (renamed f) (ascending (pos m ∷ complement y ∷ []))
            pair k (inl q) = Memᴰ.cast q (Memᴰ.map (renamed f) (ascending← (pos m ∷ complement y ∷ []) (Memᴰ.head refl)))
            pair k (inr q) =
                Memᴰ.cast (q ∙ (ap complement (sym (stay y (ascending→ L u))) ∙ sym (renamed-complement f zero-stays y)))
                (Memᴰ.map (renamed f) (ascending← (pos m ∷ complement y ∷ []) (Memᴰ.tail (Memᴰ.head refl))))

-- The relation

-- what the names of a half are to be: `names` are all that it introduces, `base` the state that the merged proof's lines before the
-- half's left
pub record Setting (N : ℕ) (x : ℤ) (f : ℕ → ℕ) (names : List ℕ) : Type 0 where
  pub split : T (is_atom N (variable x))
  pub zero-stays : f 0 ≡ 0
  pub positive-stays : (v : ℕ) → 1 ≤ v → 1 ≤ f v
  pub atoms-stay : (v : ℕ) → T (is_atom N v) → f v ≡ v
  pub above : (v : ℕ) → v ∈ names → ¬ T (is_atom N (f v))
  pub apart : (u v : ℕ) → u ∈ names → v ∈ names → f u ≡ f v → u ≡ v

module _ (P : List Rule) (x : ℤ) (f : ℕ → ℕ) (base : State) (names : List ℕ) where
  -- the names of rule bodies, in the half and in the merged proof
  pub record Bodies (named named' : List Named) (live : List (List ℤ)) : Type 0 where
    pub kept : (y : Named) → y ∈ named → T (is_body P y.body) → record { name = f y.name; body = y.body } ∈ named'
    pub once : (y u : Named) → y ∈ named' → u ∈ named' → y.body ≡ u.body → y.name ≡ u.name
    pub of : (y : Named) → y ∈ named' → (y ∈ base.named) ⊎ ((u : Named) × (u ∈ named) × (u.body ≡ y.body))
    pub before : (y : Named) → y ∈ base.named → y ∈ named'
    pub added : (y : Named) → y ∈ named → y.body ≡ complement x ∷ [] → Covered f x live (pos y.name ∷ [])
    pub meant : (y : Named) → y ∈ named' → Defines live y.name y.body

  -- z is the half's state and w the merged proof's
  pub record Follows (z w : State) : Type 0 where
    pub live : (g : List ℤ) → g ∈ z.live → Covered f x w.live g
    pub old : Within base.live w.live
    pub past : (v : ℕ) → v ∈ base.introduced → v ∈ w.introduced
    pub inside : (v : ℕ) → v ∈ z.introduced → v ∈ names
    pub known : (v : ℕ) → v ∈ z.introduced → f v ∈ w.introduced
    pub only : (v : ℕ) → v ∈ w.introduced → (v ∈ base.introduced) ⊎ ((u : ℕ) × (u ∈ z.introduced) × (f u ≡ v))
    pub bodies : Bodies z.named w.named w.live

  pub bodies-more : {named named' : List Named} {live live' : List (List ℤ)} → Within live live' → Bodies named named' live → Bodies named named' live'
  bodies-more w b = record {
    kept = b.kept;
    once = b.once;
    of = b.of;
    before = b.before;
    added = λ y m e. covered_more f x (pos y.name ∷ []) w (b.added y m e);
    meant = λ y m. defines-more w (b.meant y m);
  }

  -- a nogood of the half that is covered already
  pub half-adds : {z w : State} → Follows z w → (g : List ℤ) → Covered f x w.live g → Follows (add z (g ∷ [])) w
  half-adds {z} {w} F g c = record {
    live = λ h m. elim (Memᴰ.append_cases z.live m) [ inl u ↦ F.live h u | inr u ↦ rw (Memᴰ.eq_of_singleton u) c ];
    old = F.old;
    past = F.past;
    inside = F.inside;
    known = F.known;
    only = F.only;
    bodies = F.bodies;
  }

  -- one more nogood in the merged proof
  pub merged-adds : {z w : State} → Follows z w → (h : List ℤ) → Follows z (add w (h ∷ []))
  merged-adds {z} {w} F h = record {
    live = λ g m. covered_more f x g in_left (F.live g m);
    old = λ g m. in_left g (F.old g m);
    past = F.past;
    inside = F.inside;
    known = F.known;
    only = F.only;
    bodies = bodies-more in_left F.bodies;
  }
    where
      in_left : Within w.live (w.live ++ (h ∷ []))
      in_left g m = Memᴰ.append_left (h ∷ []) m

  -- one in each
  pub both-add : {z w : State} → Follows z w → (g h : List ℤ) → ((k : ℤ) → k ∈ h → (k ≡ x) ⊎ (k ∈ map (renamed f) g)) → Follows (add z (g ∷ [])) (add w (h ∷ []))
  both-add {z} {w} F g h s = half-adds (merged-adds F h) g (inr (h, Memᴰ.append_right w.live (Memᴰ.head refl), s))

  -- a definition in each, or in the half alone
  module _ {N : ℕ} (S : Setting N x f names) {z w : State} (F : Follows z w) (n : ℕ) (L : List ℤ) (m : n ∈ names) where
    pub both-define : (named named' : List Named) → Bodies named named' (w.live ++ definition (pos (f n)) (map (renamed f) L))
        → Follows (define z (pos n) L named) (define w (pos (f n)) (map (renamed f) L) named')
    both-define named named' b = record {
      live = λ g u. elim (Memᴰ.append_cases z.live u) [
        | inl v ↦ covered_more f x g in_left (F.live g v)
        | inr v ↦ definition-covered f x S.zero-stays (w.live ++ definition (pos (f n)) (map (renamed f) L)) (pos n) L (λ h i. Memᴰ.append_right w.live i) g v
      ];
      old = λ g u. in_left g (F.old g u);
      past = λ v u. Memᴰ.tail (F.past v u);
      inside = each-cons m F.inside;
      known = each-cons (Memᴰ.head refl) (λ v u. Memᴰ.tail (F.known v u));
      only = λ v u. only v u;
      bodies = b;
    }
      where
        in_left : Within w.live (w.live ++ definition (pos (f n)) (map (renamed f) L))
        in_left g u = Memᴰ.append_left (definition (pos (f n)) (map (renamed f) L)) u

        only : (v : ℕ) → v ∈ f n ∷ w.introduced → (v ∈ base.introduced) ⊎ ((u : ℕ) × (u ∈ n ∷ z.introduced) × (f u ≡ v))
        only v (Memᴰ.head p) = inr (n, Memᴰ.head refl, sym p)
        only v (Memᴰ.tail u) = elim (F.only v u) [ inl i ↦ inl i | inr r ↦ inr (r.0, Memᴰ.tail r.1, r.2) ]

    -- a body that has its name already
    pub half-defines : (named : List Named) → ((y : ℤ) → y ∈ L → renamed f y ≡ y) → Defines w.live (f n) (ascending L) → f n ∈ w.introduced
        → Bodies named w.named w.live → Follows (define z (pos n) L named) w
    half-defines named stay d i b = record {
      live = λ g u. elim (Memᴰ.append_cases z.live u) [ inl v ↦ F.live g v | inr v ↦ defined-covered f x S.zero-stays w.live n L stay d g v ];
      old = F.old;
      past = F.past;
      inside = each-cons m F.inside;
      known = each-cons i F.known;
      only = λ v u. elim (F.only v u) [ inl i ↦ inl i | inr r ↦ inr (r.0, Memᴰ.tail r.1, r.2) ];
      bodies = b;
    }
