-- What the names of bodies tell of a state: questions 28 to 32, by the names of the plain rules that a step is about.
-- Assumes nothing.
use mathlib.Core.Path.{◌≡◌, refl, sym, ◌∙◌, ap}
use mathlib.Core.Logic.{inl, inr}
use mathlib.Core.Bool.{Bool, true, false, cond, not, ◌&&◌, ◌||◌}
use mathlib.Core.List.Memᴰ
use mathlib.Core.List.{List, [], ◌∷◌, map}
use Prim.Native.Nat.{ℕ, ◌≤◌, ◌<◌}
use native.Mathlib.Omega.{arith}
use lib.Dec.{T, eqb}
use lib.IntN.{ℤ, pos}
use Rattle.words.specs.Limits.{largest, entries}
use Rattle.words.specs.Lists.{◌∈◌, any, all, filter}
use Rattle.words.specs.Literals.{variable, mentions, same_list, has, ascending}
use Rattle.words.proofs.Lists.{Decides, itself, reworded, failed, and-decides, if-decides, not-decides, any-decides, all-decides, eqb-decides, keep→, keep←, same_test}
use Rattle.words.proofs.Literals.{same_list-decides}
use Rattle.words.proofs.Places.{equal?}
use Rattle.aspif.specs.Rules.{Rule, is_normal}
use Rattle.marks.specs.Marks.{listed, marked, Marks, same_marks}
use Rattle.derivation.specs.States.{Named, State, is_atom, is_name, has_name}
use Rattle.derivation.specs.Steps.{is_unnamed_body, is_completion, is_support, is_external, all_named}
use Rattle.derivation.proofs.Questions.{name-decides, has_name-decides}
use Rattle.names.specs.Queries.{completing}
use Rattle.heads.specs.Heads.{is_just_names}
use Rattle.marks.proofs.Sets.{same-marks}
use Rattle.steps.specs.Held.{name_of, Proper}

-- a number that is no name of the list
pub unlisted : (v : ℕ) (named : List Named) → ((x : Named) → x ∈ named → ¬ (x.name ≡ v)) → mentions v (map (λ x. pos x.name) named) ≡ false
unlisted v named f = failed _ ((not-decides (any-decides (λ x. eqb-decides v (variable x)) (map (λ x. pos x.name) named))).from none)
  where
    none : ¬ ((y : ℤ) × (y ∈ map (λ x. pos x.name) named) × (v ≡ variable y))
    none q = let r = Memᴰ.of_map (λ (x : Named). pos x.name) named q.1 in f r.0 r.1 (ap variable r.2 ∙ sym q.2)

-- The name of a body

-- "Each body is named once"
abbrev Once : List Named → Type 0
Once named = (x y : Named) → x ∈ named → y ∈ named → x.body ≡ y.body → x.name ≡ y.name

name-is : (named : List Named) → Once named → {x : Named} → x ∈ named → name_of named x.body ≡ x.name
name-is [] once m = elim m [ ]
name-is (y ∷ ys) once {x} m =
    by (λ n. name-is ys (λ a b k l. once a b (Memᴰ.tail k) (Memᴰ.tail l)) n) (same_list y.body x.body) (same_list-decides y.body x.body) m
  where
    by : (x ∈ ys → name_of ys x.body ≡ x.name) → (t : Bool) → Decides t (y.body ≡ x.body) → x ∈ y ∷ ys → cond t y.name (name_of ys x.body) ≡ x.name
    by later true d m = once y x (Memᴰ.head refl) m (d.to tt)
    by later false d (Memᴰ.head p) = absurd (d.from (ap (λ (a : Named). a.body) (sym p)))
    by later false d (Memᴰ.tail n) = later n

-- a body that has a name is that of a named one
pub name-found : (named : List Named) (body : List ℤ) → ¬ (name_of named body ≡ 0)
    → (x : Named) × (x ∈ named) × ((x.name ≡ name_of named body) × (x.body ≡ body))
name-found [] body f = absurd (f refl)
name-found (y ∷ ys) body f = by (λ g. name-found ys body g) (same_list y.body body) (same_list-decides y.body body) f
  where
    by : (¬ (name_of ys body ≡ 0) → (x : Named) × (x ∈ ys) × ((x.name ≡ name_of ys body) × (x.body ≡ body))) → (t : Bool) → Decides t (y.body ≡ body) → ¬ (cond t y.name (name_of ys body) ≡ 0)
        → (x : Named) × (x ∈ y ∷ ys) × ((x.name ≡ cond t y.name (name_of ys body)) × (x.body ≡ body))
    by later true d f = (y, Memᴰ.head refl, (refl, d.to tt))
    by later false d f = let r = later f in (r.0, Memᴰ.tail r.1, r.2)

module _ {N : ℕ} {introduced : List ℕ} {named : List Named} (proper : Proper N introduced named) where
  pub name-high : (body : List ℤ) → name_of named body ≤ largest
  name-high body = elim (equal? (name_of named body) 0) [
    | inl e ↦ omega arith
    | inr f ↦ let r = name-found named body f in omega (arith, proper.high r.0 r.1, r.2.0)
  ]

  pub name-of : {x : Named} → x ∈ named → name_of named x.body ≡ x.name
  name-of m = name-is named proper.once m

module _ {N : ℕ} (z : State) (proper : Proper N z.introduced z.named) (body : List ℤ) where
  abbrev name : ℕ
  name = name_of z.named body

  pub name-test : (n : ℕ) → Decides (is_name z n body) ((1 ≤ n) × (name ≡ n))
  name-test n = reworded to from (name-decides z n body)
    where
      to : (x : Named) × (x ∈ z.named) × ((x.name ≡ n) × (x.body ≡ body)) → (1 ≤ n) × (name ≡ n)
      to r = (omega (arith, proper.low r.0 r.1, r.2.0), ap (name_of z.named) (sym r.2.1) ∙ name-of proper r.1 ∙ r.2.0)

      from : (1 ≤ n) × (name ≡ n) → (x : Named) × (x ∈ z.named) × ((x.name ≡ n) × (x.body ≡ body))
      from e = let h = e.0 in let q = e.1 in let r = name-found z.named body (λ k. omega arith) in (r.0, r.1, (r.2.0 ∙ q, r.2.1))

  pub has-test : Decides (has_name z body) (¬ (name ≡ 0))
  has-test = reworded to (λ f. let r = name-found z.named body f in (r.0, r.1, r.2.1)) (has_name-decides z body)
    where
      to : (x : Named) × (x ∈ z.named) × (x.body ≡ body) → ¬ (name ≡ 0)
      to r e = let p : name ≡ r.0.name = ap (name_of z.named) (sym r.2) ∙ name-of proper r.1 in omega (arith, proper.low r.0 r.1)

  pub unnamed-test : Decides (not (has_name z body)) (name ≡ 0)
  unnamed-test = reworded (λ f. elim (equal? name 0) [ inl e ↦ e | inr g ↦ absurd (f g) ]) (λ e f. f e) (not-decides has-test)

-- The names that a query finds

-- some rule passes and has that number
abbrev pub Some : (Rule → Bool) → (Rule → ℕ) → List Rule → ℕ → Type 0
Some f g P v = (r : Rule) × (r ∈ P) × (T (f r) × (g r ≡ v))

pub picked-decides : (f : Rule → Bool) (g : Rule → ℕ) (P : List Rule) (v : ℕ) → Decides (listed (map g (filter f P)) v) (Some f g P v)
picked-decides f g P v = reworded to from (any-decides (eqb-decides v) (map g (filter f P)))
  where
    to : (n : ℕ) × (n ∈ map g (filter f P)) × (v ≡ n) → Some f g P v
    to q =
        let r = Memᴰ.of_map g (filter f P) q.1 in
        let k = keep→ f P r.1 in
        (r.0, k.0, (k.1, r.2 ∙ sym q.2))

    from : Some f g P v → (n : ℕ) × (n ∈ map g (filter f P)) × (v ≡ n)
    from r = (g r.0, Memᴰ.map g (keep← f r.1 r.2.0), sym r.2.1)

module _ {N : ℕ} (P : List Rule) (z : State) (proper : Proper N z.introduced z.named) where
  abbrev name_in : Rule → ℕ
  name_in r = name_of z.named r.body

  found-decides : (f : Rule → Bool) {m : List ℕ} → Marks m (map name_in (filter f P)) → (v : ℕ) → v ≤ largest → Decides (marked m v) (Some f name_in P v)
  found-decides f marks v h = rw (marks.has v h) (picked-decides f name_in P v)

  -- question 28
  pub unnamed-body : (L : List ℤ) → (any (λ r. same_list (ascending L) r.body) P && eqb (name_of z.named (ascending L)) 0) ≡ is_unnamed_body P z L
  unnamed-body L =
      same_test (and-decides (any-decides (λ r. same_list-decides (ascending L) r.body) P) (eqb-decides (name_of z.named (ascending L)) 0))
      (and-decides (any-decides (λ r. same_list-decides r.body (ascending L)) P) (unnamed-test z proper (ascending L)))
      (λ q. ((q.0.0, q.0.1, sym q.0.2), q.1))
      (λ q. ((q.0.0, q.0.1, sym q.0.2), q.1))

  -- question 29
  pub completes : (n : ℤ) (hs : List ℤ) → 1 ≤ variable n → any (completing (name_of z.named) hs (variable n)) P ≡ is_completion P z n hs
  completes n hs low =
      same_test (any-decides (λ r. and-decides (itself (is_normal r.kind)) (and-decides (itself (same_list r.heads hs)) (eqb-decides (name_in r) (variable n)))) P)
      (any-decides (λ r. and-decides (itself (is_normal r.kind)) (and-decides (itself (same_list r.heads hs)) (name-test z proper r.body (variable n)))) P)
      (λ r. (r.0, r.1, (r.2.0, (r.2.1.0, (low, r.2.1.1)))))
      (λ r. (r.0, r.1, (r.2.0, (r.2.1.0, r.2.1.1.1))))

  -- question 32
  pub all_named_lem : (U : List ℤ) → not (listed (map name_in (filter (is_external U) P)) 0) ≡ all_named P z U
  all_named_lem U =
      same_test (not-decides (picked-decides (is_external U) name_in P 0))
      (all-decides (λ r. if-decides (itself (is_external U r)) (has-test z proper r.body)) P)
      (λ f r m t e. f (r, m, (t, e)))
      (λ f q. f q.0 q.1 q.2.0 q.2.1)

  -- Question 30: h and the numbers after it, by their names

  module _ (h : ℤ) (ns : List ℤ) (low : (n : ℤ) → n ∈ ns → 1 ≤ variable n) where
    pub supports-by-names : is_just_names (name_of z.named) h ns P
        ≡ (all (λ r. not (has h r.heads) || any (λ n. is_name z (variable n) r.body) ns) P
        && all (λ n. any (λ r. has h r.heads && is_name z (variable n) r.body) P) ns)
    supports-by-names =
        same_test
        (and-decides (all-decides (λ r. if-decides (itself (has h r.heads)) (any-decides (λ n. eqb-decides (name_in r) (variable n)) ns)) P)
        (all-decides (λ n. any-decides (λ r. and-decides (itself (has h r.heads)) (eqb-decides (name_in r) (variable n))) P) ns))
        (and-decides (all-decides (λ r. if-decides (itself (has h r.heads)) (any-decides (λ n. name-test z proper r.body (variable n)) ns)) P)
        (all-decides (λ n. any-decides (λ r. and-decides (itself (has h r.heads)) (name-test z proper r.body (variable n))) P) ns))
        (λ q. (
          λ r i t. let y = q.0 r i t in (y.0, y.1, (low y.0 y.1, y.2)),
          λ n i. let y = q.1 n i in (y.0, y.1, (y.2.0, (low n i, y.2.1))),
        ))
        (λ q. (
          λ r i t. let y = q.0 r i t in (y.0, y.1, y.2.1),
          λ n i. let y = q.1 n i in (y.0, y.1, (y.2.0, y.2.1.1)),
        ))

  -- Question 30: h, the numbers after it, and their marks

  module _ (h : ℤ) (ns : List ℤ) {l m : List ℕ} (sizes : (n : ℤ) → n ∈ ns → (1 ≤ variable n) × (variable n ≤ largest))
      (given : Marks l (map variable ns)) (found : Marks m (map name_in (filter (λ r. has h r.heads) P))) where
    -- a number of the line
    abbrev Given : ℕ → Type 0
    Given v = (n : ℤ) × (n ∈ ns) × ((1 ≤ variable n) × (v ≡ variable n))

    given-decides : (v : ℕ) → v ≤ largest → Decides (marked l v) (Given v)
    given-decides v k = rw (given.has v k) (reworded to (λ q. (variable q.0, Memᴰ.map variable q.1, q.2.1)) (any-decides (eqb-decides v) (map variable ns)))
      where
        to : (x : ℕ) × (x ∈ map variable ns) × (v ≡ x) → Given v
        to q = let r = Memᴰ.of_map variable ns q.1 in (r.0, r.1, ((sizes r.0 r.1).0, q.2 ∙ sym r.2))

    -- a name of a body with h in the head
    abbrev FoundAt : ℕ → Type 0
    FoundAt v = Some (λ r. has h r.heads) name_in P v

    headed-decides : (v : ℕ) → v ≤ largest → Decides (marked m v) (FoundAt v)
    headed-decides = found-decides (λ r. has h r.heads) found

    covered : (r : Rule) → Decides (not (has h r.heads) || any (λ n. is_name z (variable n) r.body) ns) (T (has h r.heads) → Given (name_in r))
    covered r = if-decides (itself (has h r.heads)) (any-decides (λ n. name-test z proper r.body (variable n)) ns)

    used : (n : ℤ) → Decides (any (λ r. has h r.heads && is_name z (variable n) r.body) P)
        ((r : Rule) × (r ∈ P) × (T (has h r.heads) × ((1 ≤ variable n) × (name_in r ≡ variable n))))
    used n = any-decides (λ r. and-decides (itself (has h r.heads)) (name-test z proper r.body (variable n))) P

    pub supports : (is_atom N (variable h) && same_marks entries l m) ≡ is_support N P z h ns
    supports =
        same_test (and-decides (itself (is_atom N (variable h))) (same-marks entries l m))
        (and-decides (itself (is_atom N (variable h))) (and-decides (all-decides covered P) (all-decides used ns)))
        (λ p. (p.0, (λ r i t. cover p.1 r i t, λ n i. cite p.1 n i)))
        (λ p. (p.0, λ v k. same_test (given-decides v (omega arith)) (headed-decides v (omega arith)) (to p.1.1) (from p.1.0)))
      where
        cover : ((v : ℕ) → v < entries → marked l v ≡ marked m v) → (r : Rule) → r ∈ P → T (has h r.heads) → Given (name_in r)
        cover f r i t =
            let k = name-high proper r.body in
            (given-decides (name_in r) k).to (rw (f (name_in r) (omega arith)) ((headed-decides (name_in r) k).from (r, i, (t, refl))))

        cite : ((v : ℕ) → v < entries → marked l v ≡ marked m v) → (n : ℤ) → n ∈ ns
            → (r : Rule) × (r ∈ P) × (T (has h r.heads) × ((1 ≤ variable n) × (name_in r ≡ variable n)))
        cite f n i =
            let s = sizes n i in
            let k = s.1 in
            let q = (headed-decides (variable n) k).to (rw (sym (f (variable n) (omega arith))) ((given-decides (variable n) k).from (n, i, (s.0, refl)))) in
            (q.0, q.1, (q.2.0, (s.0, q.2.1)))

        to : {v : ℕ} → ((n : ℤ) → n ∈ ns → (r : Rule) × (r ∈ P) × (T (has h r.heads) × ((1 ≤ variable n) × (name_in r ≡ variable n)))) → Given v → FoundAt v
        to f g = let q = f g.0 g.1 in (q.0, q.1, (q.2.0, q.2.1.1 ∙ sym g.2.1))

        from : {v : ℕ} → ((r : Rule) → r ∈ P → T (has h r.heads) → Given (name_in r)) → FoundAt v → Given v
        from f q = let g = f q.0 q.1 q.2.0 in (g.0, g.1, (g.2.0, sym q.2.1 ∙ g.2.1))
