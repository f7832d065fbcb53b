-- `ExtensionKeeps`, `ExtensionConserves` and `ExtensionDetermines` of specs/Extension.antt: definitions change no answer set on the old atoms.
-- Assumes nothing.
use mathlib.Core.Path.{◌≡◌, refl, sym, ap, subst, ◌∙◌}
use mathlib.Core.Logic.{inl, inr}
use mathlib.Core.List.Memᴰ
use mathlib.Core.List.{List, [], ◌∷◌, nil≢cons}
use Prim.Native.Nat.{ℕ, suc, ◌≤◌}
use native.Mathlib.Omega.{arith}
use lib.IntN.{ℤ, pos, negsuc}
use Rattle.words.specs.Lists.{◌∈◌}
use Rattle.words.specs.Literals.{variable}
use Rattle.words.proofs.Lists.{zero_one}
use Rattle.weights.specs.Weights.{Weighted, literals, bodies}
use Rattle.weights.specs.Claims.{Reorder}
use Rattle.weights.proofs.Sublists as sub
use Rattle.weights.proofs.Minimal.{parts, body→, body←}
use Rattle.weights.proofs.Reached.{trim}
use Rattle.weights.proofs.Reordered.{and-back, reorder-in, reorder-sublist, reorder-sum}
use Rattle.aspif.specs.Rules.{Rule}
use Rattle.aspif.specs.declared.Kind.{Kind}
use Rattle.aspif.specs.declared.Kind.TheVariants.{Normal, Choice}
use Rattle.aspif.specs.AnswerSets.{Constraint, Taken, Chosen, Gives, LeastModel, derive, Met, AnswerSet}
use Rattle.sums.specs.Plans.{Definition}
use Rattle.sums.specs.Extension.{Holding, SumReaches, Says, Closed, with_literals, Origin, kept, used, defining, Carried, Extends, UpTo, Extended, ExtensionKeeps, ExtensionAgrees, ExtensionConserves, ExtensionDetermines}

-- Sums that are reached

pub moved : {H K : ℤ → Type 0} {l : List Weighted} {b : ℕ} → ((x : Weighted) → x ∈ l → H x.literal → K x.literal) → SumReaches H l b → SumReaches K l b
moved f r = record { part = r.part; of = r.of; hold = λ x i. f x (sub.in_whole i r.of) (r.hold x i); enough = r.enough }

pub reordered-reaches : {H : ℤ → Type 0} {l m : List Weighted} {b : ℕ} → Reorder l m → SumReaches H l b → SumReaches H m b
reordered-reaches o r =
    let t = reorder-sublist r.of o in
    let e = reorder-sum t.2 in
    let h = r.enough in
    record { part = t.0; of = t.1; hold = λ x i. r.hold x (reorder-in (and-back t.2) i); enough = omega arith }

-- a body that holds, and a body that does
module _ {H : ℤ → Type 0} {l : List Weighted} {b : ℕ} where
  pub body-reaches : {ls : List ℤ} → ls ∈ bodies b l → ((z : ℤ) → z ∈ ls → H z) → SumReaches H l b
  body-reaches {ls} i h =
      let s = body→ b l i in
      record {
        part = s.0;
        of = s.1;
        hold = λ x j. h x.literal (subst (λ t. x.literal ∈ t) s.3 (Memᴰ.map (λ x. x.literal) j));
        enough = ((parts b s.0).to s.2).0;
      }

  pub reaches-body : SumReaches H l b → (ls : List ℤ) × (ls ∈ bodies b l) × ((z : ℤ) → z ∈ ls → H z)
  reaches-body r =
      let e = r.enough in
      let t = trim b 0 r.part (omega arith) in
      let minimal = (parts b t.part).from (omega (arith, t.reaches), λ x i. omega (arith, t.needed x i)) in (
        literals t.part,
        body← b l (sub.through t.of r.of) minimal,
        λ z i. let q = Memᴰ.of_map (λ x. x.literal) t.part i in subst H q.2 (r.hold q.0 (sub.in_whole q.1 t.of)),
      )

-- Rules

-- all literals of a body hold where its positive ones do and the rule is taken
pub all_hold : (X M : ℕ → Type 0) (r : Rule) → Taken M r → ((a : ℕ) → pos a ∈ r.body → X a) → (z : ℤ) → z ∈ r.body → Holding X M z
all_hold X M r t p (pos v) i = p v i
all_hold X M r t p (negsuc n) i = t n i

-- the least model is in every closed set
pub within : {M Y : ℕ → Type 0} {P : List Rule} → Closed M Y P → {a : ℕ} → LeastModel M P a → Y a
within c (derive {h = a} r i t g below) = c r i t a g (λ b j. within c (below b j))

pub itself-closed : {M : ℕ → Type 0} {P : List Rule} → Closed M (LeastModel M P) P
itself-closed r i t h g below = derive r i t g below

pub set-closed : {M : ℕ → Type 0} {P : List Rule} → AnswerSet M P → Closed M M P
set-closed s r i t h g below = (s.least h).1 (derive r i t g (λ a j. (s.least a).0 (below a j)))

chosen-moved : (M K : ℕ → Type 0) (k : Kind) (h : ℕ) → (M h → K h) → Chosen M k h → Chosen K k h
chosen-moved M K Normal h f c = c
chosen-moved M K Choice h f c = f c

-- a body of one atom
sign : ℤ → ℕ
sign (pos n) = 0
sign (negsuc n) = 1

pub not-negated : {n a : ℕ} → negsuc n ∈ pos a ∷ [] → ⊥
unfolding sign
not-negated i = zero_one (sym (ap sign (Memᴰ.eq_of_singleton i)))

pub the-atom : {b a : ℕ} → pos b ∈ pos a ∷ [] → b ≡ a
the-atom i = ap variable (Memᴰ.eq_of_singleton i)

-- Two sets that agree on the old atoms

module _ {N : ℕ} {P Q : List Rule} {D : List Definition} (x : Extends N P Q D) where
  down : (M X : ℕ → Type 0) (v : ℕ) → v ≤ N → Extended N D M X v → X v
  down M X v h (inl p) = p.1
  down M X v h (inr p) = absurd (let n = x.new p.0 p.1 in let e = p.2 in omega arith)

  -- what a definition's atom says
  said : (M X : ℕ → Type 0) (d : Definition) → d ∈ D → Extended N D M X d.atom → Says (Holding X M) d
  said M X d i (inl p) = absurd (let n = x.new d i in let e = p.0 in omega arith)
  said M X d i (inr p) = subst (Says (Holding X M)) (x.once p.0 d p.1 i p.2) p.3

  module _ (M K : ℕ → Type 0) (to : (v : ℕ) → v ≤ N → M v → K v) (from : (v : ℕ) → v ≤ N → K v → M v) where
    up-literal : (Y : ℕ → Type 0) (z : ℤ) → variable z ≤ N → Holding Y M z → Holding (Extended N D M Y) K z
    up-literal Y (pos v) h p = inl (h, p)
    up-literal Y (negsuc n) h p = λ q. p (from (suc n) h q)

    down-literal : (Y : ℕ → Type 0) (z : ℤ) → variable z ≤ N → Holding (Extended N D M Y) K z → Holding Y M z
    down-literal Y (pos v) h p = down M Y v h p
    down-literal Y (negsuc n) h p = λ q. p (to (suc n) h q)

    closed-old : (Y : ℕ → Type 0) → Closed K Y Q → Closed M Y P
    closed-old Y c r i t h g below = go (x.carried r i)
      where
        taken : Taken K r
        taken n k q = t n k (from (suc n) (x.old_body r i (negsuc n) k) q)

        gives : Gives K r h
        gives = (g.0, chosen-moved M K r.kind h (to h (x.old_heads r i (pos h) g.0)) g.1)

        go : Carried Q D r → Y h
        go (inl j) = c r j taken h gives below
        go (inr (d, j, m, (l, o, b))) =
            c (with_literals r (pos d.atom ∷ [])) m (λ n k. absurd (not-negated k)) h gives
            (λ a k. subst Y (sym (the-atom k)) (x.derived K Y c d j (reordered-reaches o (body-reaches b (all_hold Y K r taken below)))))

    closed-new : (Y : ℕ → Type 0) → Closed M Y P → Closed K (Extended N D M Y) Q
    closed-new Y c r i t h g below = go (x.each r i)
      where
        gives : h ≤ N → Gives M r h
        gives s = (g.0, chosen-moved K M r.kind h (from h s) g.1)

        go : Origin P D r → Extended N D M Y h
        go (kept j) =
            let s = x.old_heads r j (pos h) g.0 in
            inl (s, c r j (λ n k q. t n k (to (suc n) (x.old_body r j (negsuc n) k) q)) h (gives s) (λ a k. down M Y a (x.old_body r j (pos a) k) (below a k)))
        go (used d j e l o f) =
            let b = reaches-body (reordered-reaches (and-back o) (said M Y d j (below d.atom (subst (λ ls. pos d.atom ∈ ls) (sym e) (Memᴰ.head refl))))) in
            let m = f b.0 b.1 in
            let s = x.old_heads (with_literals r b.0) m (pos h) g.0 in
            inl (s, c (with_literals r b.0) m (λ n k. b.2 (negsuc n) k) h (gives s) (λ a k. b.2 (pos a) k))
        go (defining d j e f) =
            let X = Extended N D M Y in
            let r⁺ = f X K (λ e k w. moved (λ y l. up-literal Y y.literal (x.old_pairs e k y l)) (said M Y e k w)) (all_hold X K r t below) in
            inr (d, j, sym (the-atom (subst (λ hs. pos h ∈ hs) e g.0)), moved (λ y l. down-literal Y y.literal (x.old_pairs d j y l)) r⁺)

pub extension-keeps : ExtensionKeeps
extension-keeps N P Q D x M s = record { least = λ a. (forth a, λ l. within (closed-new x M K to from M (set-closed s)) l); kept = λ r i c m. broken r c m (x.each r i) }
  where
    K : ℕ → Type 0
    K = Extended N D M M

    to : (v : ℕ) → v ≤ N → M v → K v
    to v h m = inl (h, m)

    from : (v : ℕ) → v ≤ N → K v → M v
    from v h k = down x M M v h k

    derives : (v : ℕ) → M v → LeastModel K Q v
    derives v m = within (closed-old x M K to from (LeastModel K Q) itself-closed) ((s.least v).0 m)

    literal : (z : ℤ) → variable z ≤ N → Holding M M z → Holding (LeastModel K Q) K z
    literal (pos v) h m = derives v m
    literal (negsuc n) h f = λ k. f (from (suc n) h k)

    forth : (a : ℕ) → K a → LeastModel K Q a
    forth a (inl p) = derives a p.1
    forth a (inr p) =
        subst (LeastModel K Q) p.2
        (x.derived K (LeastModel K Q) itself-closed p.0 p.1 (moved (λ y l. literal y.literal (x.old_pairs p.0 p.1 y l)) p.3))

    broken : (r : Rule) → Constraint r → Met K r → Origin P D r → ⊥
    broken r c m (kept j) =
        s.kept r j c (λ a k. from a (x.old_body r j (pos a) k) (m.0 a k), λ n k q. m.1 n k (to (suc n) (x.old_body r j (negsuc n) k) q))
    broken r c m (used d j e l o f) =
        let b = reaches-body (reordered-reaches (and-back o) (said x M M d j (m.0 d.atom (subst (λ ls. pos d.atom ∈ ls) (sym e) (Memᴰ.head refl))))) in
        s.kept (with_literals r b.0) (f b.0 b.1) c (λ a k. b.2 (pos a) k, λ n k. b.2 (negsuc n) k)
    broken r c m (defining d j e f) = nil≢cons (sym c.1 ∙ e)

pub extension-agrees : ExtensionAgrees
extension-agrees N P Q D x M s a = (λ m. let h = old ((s.least a).0 m) in (h, inl (h, m)), λ k. down x M M a k.0 k.1)
  where
    old : {a : ℕ} → LeastModel M P a → a ≤ N
    old (derive {h = h} r i t g below) = x.old_heads r i (pos h) g.0

pub extension-conserves : ExtensionConserves
extension-conserves N P Q D x K s = record { least = λ a. (forth a, back a); kept = λ r i c m. broken r i c m (x.carried r i) }
  where
    M : ℕ → Type 0
    M = UpTo N K

    to : (v : ℕ) → v ≤ N → M v → K v
    to v h m = m.1

    from : (v : ℕ) → v ≤ N → K v → M v
    from v h k = (h, k)

    forth : (a : ℕ) → M a → LeastModel M P a
    forth a m = down x M (LeastModel M P) a m.0 (within (closed-new x M K to from (LeastModel M P) itself-closed) ((s.least a).0 m.1))

    small : {a : ℕ} → LeastModel M P a → a ≤ N
    small (derive {h = a} r i t g below) = x.old_heads r i (pos a) g.0

    back : (a : ℕ) → LeastModel M P a → M a
    back a l = (small l, within (closed-old x M K to from K (set-closed s)) l)

    broken : (r : Rule) → r ∈ P → Constraint r → Met M r → Carried Q D r → ⊥
    broken r i c m (inl j) = s.kept r j c (λ a k. (m.0 a k).1, λ n k q. m.1 n k (x.old_body r i (negsuc n) k, q))
    broken r i c m (inr (d, j, u, (l, o, b))) =
        let holds = all_hold K K r (λ n k q. m.1 n k (x.old_body r i (negsuc n) k, q)) (λ a k. (m.0 a k).1) in
        let k = x.derived K K (set-closed s) d j (reordered-reaches o (body-reaches b holds)) in
        s.kept (with_literals r (pos d.atom ∷ [])) u c (λ a l. subst K (sym (the-atom l)) k, λ n l. absurd (not-negated l))

pub extension-determines : ExtensionDetermines
extension-determines N P Q D x K s a = (λ k. within (closed-new x M K (λ v h m. m.1) (λ v h k. (h, k)) M (set-closed (extension-conserves N P Q D x K s))) ((s.least a).0 k), back)
  where
    M : ℕ → Type 0
    M = UpTo N K

    literal : (z : ℤ) → variable z ≤ N → Holding M M z → Holding K K z
    literal (pos v) h m = m.1
    literal (negsuc n) h f = λ k. f (h, k)

    back : Extended N D M M a → K a
    back (inl p) = p.1.1
    back (inr p) =
        subst K p.2 (x.derived K K (set-closed s) p.0 p.1 (moved (λ y l. literal y.literal (x.old_pairs p.0 p.1 y l)) p.3))
