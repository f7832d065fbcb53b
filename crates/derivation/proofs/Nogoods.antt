-- The nogoods of `c`, `s` and `l` fail under a valuation that comes from an answer set: a rule that applies gives its head, an atom
-- of the least model has a rule that gives it, and a set without external support is unfounded. Assumes nothing.
use mathlib.Core.Path.{◌≡◌, refl, sym, ap, ◌∙◌, subst, subst₂}
use mathlib.Core.Bool.{Bool, ◌&&◌}
use mathlib.Core.List.Memᴰ
use mathlib.Core.List.{List, [], ◌∷◌, map}
use Prim.Native.Nat.{ℕ, zero, suc, ◌≤◌}
use lib.Dec.{T}
use lib.IntN.{ℤ, pos, negsuc, neg_ℤ}
use Rattle.words.specs.Lists.{◌∈◌, any}
use Rattle.words.specs.Literals.{variable, complement, same_list}
use Rattle.words.proofs.Lists.{itself, and-decides, not-decides, any-decides, keep←}
use Rattle.words.proofs.Literals.{same_list-decides, has-decides}
use Rattle.aspif.specs.Rules.{Rule, plain_atoms}
use Rattle.aspif.specs.declared.Kind.TheVariants.{Normal}
use Rattle.aspif.specs.AnswerSets.{Taken, Chosen, LeastModel, derive, Met, AnswerSet}
use Rattle.drupe.specs.Lines.{is_positive}
use Rattle.derivation.specs.States.{Named, State, is_atom, is_name, has_name}
use Rattle.derivation.specs.Steps.{is_external, external_names}
use Rattle.derivation.proofs.Valuations.{True, All, Means, never_both, shift}
use Rattle.derivation.proofs.Questions.{positive-nonzero, positive-is, head-atom, name-decides, has_name-decides}
use Rattle.derivation.proofs.Invariant.{AllAtoms, Kept}

-- what a literal of a body says of M
abbrev TrueIn : (ℕ → Type 0) → ℤ → Type 0
TrueIn M (pos a) = M a
TrueIn M (negsuc n) = ¬ M (suc n)

-- every number of the list is positive
abbrev pub Positives : List ℤ → Type 0
Positives L = (x : ℤ) → x ∈ L → T (is_positive x)

module _ (N : ℕ) (M : ℕ → Type 0) (z : State) (k : Kept N M z) where
  -- a name means its body, whose variables are atoms
  pub name-means : (n : ℤ) (body : List ℤ) → T (is_positive n) → T (is_name z (variable n) body) → Means k.W n body × AllAtoms N body
  name-means n body p t =
      let r = (name-decides z (variable n) body).to t in
      let q = k.named r.0 r.1 in (
        subst₂ (λ (m : ℤ) (l : List ℤ). Means k.W m l) (ap pos r.2.0 ∙ sym (positive-is n p)) r.2.1 q.means,
        subst (λ (l : List ℤ). AllAtoms N l) r.2.1 q.atoms,
      )

module _ (N : ℕ) (P : List Rule) (fits : plain_atoms P ≤ N) (M : ℕ → Type 0) (S : AnswerSet M P) (z : State) (k : Kept N M z) where
  -- Atoms

  atom→ : (h : ℤ) → T (is_positive h) → T (is_atom N (variable h)) → True k.W h → ¬ (¬ LeastModel M P (variable h))
  atom→ (pos zero) p a t f = absurd p
  atom→ (pos (suc n)) p a t f = t (λ w. f ((S.least (suc n)).0 ((k.atoms (suc n) a).0 w)))
  atom→ (negsuc n) p a t f = absurd p

  atom← : (h : ℤ) → T (is_positive h) → T (is_atom N (variable h)) → LeastModel M P (variable h) → True k.W h
  atom← (pos zero) p a d = absurd p
  atom← (pos (suc n)) p a d = λ f. f ((k.atoms (suc n) a).1 ((S.least (suc n)).1 d))
  atom← (negsuc n) p a d = absurd p

  -- Bodies

  -- a body that is true under the valuation is met
  met : (r : Rule) → AllAtoms N r.body → All k.W r.body → ¬ (¬ Met M r)
  met r a f c = shift (TrueIn M) r.body (λ x u. holds x (a x u) (f x u)) (λ H. c (λ b u. H (pos b) u, λ n u. H (negsuc n) u))
    where
      holds : (x : ℤ) → T (is_atom N (variable x)) → True k.W x → ¬ (¬ TrueIn M x)
      holds (pos zero) a t f = a
      holds (pos (suc n)) a t f = t (λ w. f ((k.atoms (suc n) a).0 w))
      holds (negsuc n) a t f = f (λ m. t ((k.atoms (suc n) a).1 m))

  -- the body of a rule that the least model uses is true under it
  used : (r : Rule) → AllAtoms N r.body → Taken M r → ((b : ℕ) → pos b ∈ r.body → LeastModel M P b) → All k.W r.body
  used r a f g (pos zero) u = tt
  used r a f g (pos (suc n)) u = λ c. c ((k.atoms (suc n) (a (pos (suc n)) u)).1 ((S.least (suc n)).1 (g (suc n) u)))
  used r a f g (negsuc n) u = λ w. f n u ((k.atoms (suc n) (a (negsuc n) u)).0 w)

  -- Completion

  pub completion-fails : (n : ℤ) (hs : List ℤ) → T (is_positive n) → Positives hs
      → (r : Rule) → r ∈ P → r.kind ≡ Normal → r.heads ≡ hs → T (is_name z (variable n) r.body) → ¬ All k.W (n ∷ map complement hs)
  completion-fails n hs p q r m normal-kind e t f =
      let w = name-means N M z k n r.body p t in
      met r w.1 (w.0.0 (f n (Memᴰ.head refl))) (λ H. go H hs e q (λ x u. f x (Memᴰ.tail u)))
    where
      go : Met M r → (hs : List ℤ) → r.heads ≡ hs → Positives hs → ¬ All k.W (map complement hs)
      go H [] e q f = S.kept r m (normal-kind, e) H
      go H (h ∷ hs) e q f =
          let p : T (is_positive h) = q h (Memᴰ.head refl) in
          let u : h ∈ r.heads = rw e (Memᴰ.head refl) in
          let c : Chosen M r.kind (variable h) = rw normal-kind tt in
          let d : LeastModel M P (variable h) = derive r m H.1 (Memᴰ.cast (sym (positive-is h p)) u, c) (λ b v. (S.least b).0 (H.0 b v)) in
          never_both k.W h (positive-nonzero h p) (atom← h p (head-atom N P fits m u (positive-nonzero h p)) d) (f (complement h) (Memᴰ.head refl))

  -- Support

  pub support-fails : (h : ℤ) (ns : List ℤ) → T (is_positive h) → Positives ns → T (is_atom N (variable h))
      → ((r : Rule) → r ∈ P → h ∈ r.heads → (n : ℤ) × (n ∈ ns) × T (is_name z (variable n) r.body))
      → ¬ All k.W (h ∷ map complement ns)
  support-fails h ns p q a s f = atom→ h p a (f h (Memᴰ.head refl)) unsupported
    where
      go : {v : ℕ} → h ≡ pos v → LeastModel M P v → ⊥
      go e (derive r m t g b) =
          let y = s r m (Memᴰ.cast e g.0) in
          let w = name-means N M z k y.0 r.body (q y.0 y.1) y.2 in
          w.0.1 (f (complement y.0) (Memᴰ.tail (Memᴰ.map complement y.1))) (used r w.1 t b)

      unsupported : ¬ LeastModel M P (variable h)
      unsupported d = go (positive-is h p) d

  -- Loops

  module _ (U : List ℤ) (positive : Positives U) (s : (r : Rule) → r ∈ P → T (is_external U r) → T (has_name z r.body)) where
    -- "minus the name of each" external body
    abbrev externals : List ℤ
    externals = map (λ n. neg_ℤ (pos n)) (external_names P z U)

    abbrev is_external_name : Named → Bool
    is_external_name x = any (λ r. is_external U r && same_list x.body r.body) P

    -- where the names of the external bodies are false, so are the bodies
    external-false : All k.W externals → (r : Rule) → r ∈ P → T (is_external U r) → AllAtoms N r.body × (¬ All k.W r.body)
    external-false f r m e = let y = (has_name-decides z r.body).to (s r m e) in go y.0 y.1 y.2
      where
        go : (x : Named) → x ∈ z.named → x.body ≡ r.body → AllAtoms N r.body × (¬ All k.W r.body)
        go x n p =
            let i : T (is_external_name x) = (any-decides (λ r. and-decides (itself (is_external U r)) (same_list-decides x.body r.body)) P).from (r, m, (e, p)) in
            let v : True k.W (neg_ℤ (pos x.name)) = f (neg_ℤ (pos x.name)) (Memᴰ.map (λ n. neg_ℤ (pos n)) (Memᴰ.map (λ x. x.name) (keep← is_external_name n i))) in
            let q = k.named x n in
            (subst (λ (l : List ℤ). AllAtoms N l) p q.atoms, λ h. q.means.1 v (subst (λ (l : List ℤ). All k.W l) (sym p) h))

    -- then no atom of U is in the least model
    unfounded : All k.W externals → {a : ℕ} → LeastModel M P a → ¬ (pos a ∈ U)
    unfounded f (derive {h = a} r m t g b) u = go (λ c v w. unfounded f (b c v) w)
      where
        -- by induction, no positive atom of the body is in U
        go : ((c : ℕ) → pos c ∈ r.body → ¬ (pos c ∈ U)) → ⊥
        go below = let q = external-false f r m external in q.1 (used r q.0 t b)
          where
            outside : (x : ℤ) → x ∈ r.body → ¬ (x ∈ U)
            outside x v w = let p = sym (positive-is x (positive x w)) in below (variable x) (Memᴰ.cast p v) (Memᴰ.cast p w)

            external : T (is_external U r)
            external =
                (and-decides (any-decides (λ x. has-decides x U) r.heads) (not-decides (any-decides (λ x. has-decides x U) r.body))
                ).from ((pos a, g.0, u), λ y. outside y.0 y.1 y.2)

    pub loop-fails : (h : ℤ) → h ∈ U → T (is_atom N (variable h)) → ¬ All k.W (h ∷ externals)
    loop-fails h m a f =
        let p = positive h m in
        atom→ h p a (f h (Memᴰ.head refl)) (λ d. unfounded (λ x u. f x (Memᴰ.tail u)) d (Memᴰ.cast (sym (positive-is h p)) m))
