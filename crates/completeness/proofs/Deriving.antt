-- Where every rule body has its name, an assignment that goes against something is refuted by two steps: `c`, `s` or `l` for what it goes against,
-- and `a` for the assignment. Assumes nothing.
use mathlib.Core.Path.{◌≡◌, refl, sym, ◌∙◌, ap, subst}
use mathlib.Core.Logic.{◌⊎◌, inl, inr}
use mathlib.Core.Bool.{Bool, true, ◌&&◌}
use mathlib.Core.List.Memᴰ
use mathlib.Core.List.{List, [], ◌∷◌, map}
use Prim.Native.Nat.{ℕ, ◌+◌, ◌≤◌, ◌<◌}
use native.Mathlib.Omega.{arith}
use lib.Dec.{T}
use lib.IntN.{ℤ, pos, neg_ℤ}
use lib.ListN.{length, length-map}
use Rattle.words.specs.Lists.{◌∈◌, any, filter}
use Rattle.words.specs.Literals.{variable, complement, same_list, has, distinct, ascending}
use Rattle.words.proofs.Lists.{Decides, itself, is_true, and-decides, any-decides, all-decides, each-cons, keep→, keep←}
use Rattle.words.proofs.Literals.{same_list-decides, has-decides, complement-twice, ascending→, ascending←, positive}
use Rattle.text.specs.declared.Letter.{Letter}
use Rattle.text.specs.declared.Letter.TheVariants.{Addition, Completion, Loop, Support}
use Rattle.aspif.specs.Rules.{Rule}
use Rattle.aspif.specs.declared.Kind.TheVariants.{Normal}
use Rattle.drupe.specs.Lines.{signs_of, is_positive, signed}
use Rattle.derivation.specs.Propagation.{Closure, given, unit, Conflict}
use Rattle.derivation.specs.Loops as Loops
use Rattle.derivation.specs.States.{Named, State, is_known, is_name}
use Rattle.derivation.specs.Steps.{next, add, definition, is_support, is_external, external_names, by_letter}
use Rattle.derivation.proofs.Closure.{refuted-decides}
use Rattle.derivation.proofs.Loops.{loop-decides}
use Rattle.derivation.proofs.Questions.{pos-positive, atom-decides, known-decides, atom-known, all_known-decides, name-decides, has_name-decides, completion-decides, support-decides, all_atoms-decides, all_named-decides}
use Rattle.completeness.specs.Claims.{WellFormed, rules_for, by-atoms, by_name, by-head, Sized}
use Rattle.completeness.proofs.Totals.{Total, distinct_cons, distinct-keep, different-keep, not_more}
use Rattle.completeness.proofs.Leaves.{Holds, Fails, BadRule, BadAtom, BadLoop, Bad, rule, atom, loop}
use Rattle.completeness.proofs.Accepting.{yes-passes, accepted, Reached, reached-more}
use Rattle.completeness.proofs.Naming.{HasName, name_of, body_of, Ready, ready-add}
use Rattle.drupe.specs.declared.ProofFault.TheVariants.{UnknownVariable, NoCompletion, NoSupport, NoAtoms, UnnamedBody, NoConflict, NoLoop}

-- Propagation

-- a live nogood whose literals are all in the closure
pub violated : {live : List (List ℤ)} {L : List ℤ} (g : List ℤ) → g ∈ live → ((k : ℤ) → k ∈ g → Closure live L k) → Conflict live L
violated [] m f = inr m
violated (x ∷ g) m f = inl (x, f x (Memᴰ.head refl), unit (x ∷ g) m (Memᴰ.head (complement-twice x)) (λ k i _. f k i))

module _ (n : ℤ) (B : List ℤ) (live : List (List ℤ)) (d : (g : List ℤ) → g ∈ definition n B → g ∈ live) (L : List ℤ) where
  -- the name of a body that holds, and of one that fails
  name-true : Holds L B → Closure live L n
  name-true h =
      unit (ascending (complement n ∷ B)) (d _ (Memᴰ.head refl)) (ascending← (complement n ∷ B) (Memᴰ.head refl))
      (λ k i f. elim (Memᴰ.cases_cons (ascending→ (complement n ∷ B) i)) [ inl p ↦ absurd (f p) | inr j ↦ given (h k j) ])

  name-false : Fails L B → Closure live L (complement n)
  name-false f =
      let y = f.0 in
      let g = n ∷ complement y ∷ [] in
      unit (ascending g) (d _ (Memᴰ.tail (Memᴰ.map (λ x. ascending (n ∷ complement x ∷ [])) (ascending← B f.1))))
      (Memᴰ.cast (complement-twice n) (ascending← g (Memᴰ.head refl)))
      (λ k i u. elim (Memᴰ.cases_cons (ascending→ g i)) [
        | inl p ↦ absurd (u (p ∙ sym (complement-twice n)))
        | inr j ↦ given (Memᴰ.cast (Memᴰ.eq_of_singleton j) f.2)
      ])

module _ (N : ℕ) (P : List Rule) (wf : WellFormed N P) where
  -- accepted steps have led to z, and every rule body has a name
  pub record Standing (z : State) : Type 0 where
    pub reached : Reached N P z
    pub ready : Ready N P (length P) z
    pub all : (r : Rule) → r ∈ P → HasName z r.body

  -- a state with more live nogoods, among them g
  pub record Further (z : State) (g : List ℤ) : Type 0 where
    pub state : State
    pub standing : Standing state
    pub later : (k : List ℤ) → k ∈ z.live → k ∈ state.live
    pub live : g ∈ state.live

  -- one step that adds a nogood
  abbrev one_more : (z : State) → Standing z → (x : Letter) (l g : List ℤ) → ((y : ℤ) → y ∈ l → 1 ≤ variable y)
      → signed (signs_of x) l ≡ true → distinct l ≡ true
      → by_letter N P z x l ≡ next (add z (g ∷ [])) → Sized N P (record { letter = x; numbers = l }) → Further z g
  one_more z s x l g f t d e b = record {
    state = add z (g ∷ []);
    standing = record {
      reached = reached-more N P (record { letter = x; numbers = l }) s.reached (accepted N P z (add z (g ∷ [])) x l f t d e) b;
      ready = ready-add N P z (g ∷ []) s.ready;
      all = s.all;
    };
    later = λ k i. Memᴰ.append_left (g ∷ []) i;
    live = Memᴰ.append_right z.live (Memᴰ.head refl);
  }

  module _ (z : State) (s : Standing z) where
    pub name-above : (x : Named) → x ∈ z.named → N < x.name
    name-above x i = (s.ready.named x i).above

    pub name_below : (x : Named) → x ∈ z.named → x.name ≤ N + length P
    name_below x i = omega (arith, s.ready.below, s.ready.introduced x.name (s.ready.named x i).known)

    pub name-known : (x : Named) → x ∈ z.named → T (is_known N z x.name)
    name-known x i = (known-decides N z x.name).from (inr (s.ready.named x i).known)

    pub atom-known-in : (v : ℕ) → 1 ≤ v → v ≤ N → T (is_known N z v)
    atom-known-in v h k = atom-known N z v ((atom-decides N v).from (h, k))

    -- `a`
    abbrev pub addition-step : (L : List ℤ) (k : ℕ) → k ≤ N → Total k L → Conflict z.live L → Further z (ascending L)
    addition-step L k h t c =
        one_more z s Addition L (ascending L) (λ y i. (t.within y i).0) (signs L) t.once
        (yes-passes UnknownVariable (is_true (all_known-decides N z L) (λ y i. let w = t.within y i in atom-known-in (variable y) w.0 (omega (arith, w.1))))
        (yes-passes NoConflict (is_true (refuted-decides z.live L) c) refl))
        (tt, λ y i. omega (arith, (t.within y i).1), by-atoms (omega (arith, t.size)))
      where
        signs : (L : List ℤ) → signed (signs_of Addition) L ≡ true
        signs [] = refl
        signs (x ∷ L) = refl

    -- `c`
    pub few-distinct : (hs : List ℤ) → length hs ≤ 1 → distinct hs ≡ true
    few-distinct [] l = refl
    few-distinct (h ∷ []) l = refl
    few-distinct (h ∷ k ∷ hs) l = absurd (omega arith)

    abbrev completion-step : (r : Rule) → r ∈ P → r.kind ≡ Normal → (x : Named) → x ∈ z.named → x.body ≡ r.body
        → Further z (ascending (name_of x ∷ map complement r.heads))
    completion-step r m e x i p =
        one_more z s Completion (name_of x ∷ r.heads) (ascending (name_of x ∷ map complement r.heads))
        (each-cons (omega (arith, name-above x i)) (λ h j. head-from h j))
        (is_true (and-decides (itself (is_positive (name_of x))) (all-decides (λ h. itself (is_positive h)) r.heads))
        (pos-positive x.name (omega (arith, name-above x i)), λ h j. (wf.heads r m h j).0))
        (distinct_cons (name_of x) r.heads (λ h j q. let o : x.name ≡ variable h = q in omega (arith, name-above x i, (wf.heads r m h j).1))
        (few-distinct r.heads (wf.single r m e)))
        (yes-passes UnknownVariable (is_true (all_known-decides N z (name_of x ∷ r.heads))
        (each-cons (name-known x i) (λ h j. atom-known-in (variable h) (head-from h j) (wf.heads r m h j).1)))
        (yes-passes NoCompletion (is_true (completion-decides P z (name_of x) r.heads) (r, m, (e, (refl, (name-decides z x.name r.body).from (x, i, (refl, p)))))) refl))
        (tt, each-cons (name_below x i) (λ h j. omega (arith, (wf.heads r m h j).1)), by_name (omega (arith, wf.single r m e)))
      where
        head-from : (h : ℤ) → h ∈ r.heads → 1 ≤ variable h
        head-from h j = (positive h (wf.heads r m h j).0).1

    -- `s`
    module _ (h : ℤ) (hp : T (is_positive h)) (hn : variable h ≤ N) where
      abbrev supports : Named → Bool
      supports x = any (λ r. has h r.heads && same_list x.body r.body) P

      supports-decides : (x : Named) → Decides (supports x) ((r : Rule) × (r ∈ P) × ((h ∈ r.heads) × (x.body ≡ r.body)))
      supports-decides x = any-decides (λ r. and-decides (has-decides h r.heads) (same_list-decides x.body r.body)) P

      abbrev supporting : List ℤ
      supporting = map name_of (filter supports z.named)

      pub in-supporting : (n : ℤ) → n ∈ supporting
          → (x : Named) × (x ∈ z.named) × (name_of x ≡ n) × ((r : Rule) × (r ∈ P) × ((h ∈ r.heads) × (x.body ≡ r.body)))
      in-supporting n i =
          let q = Memᴰ.of_map name_of (filter supports z.named) i in
          let k = keep→ supports z.named q.1 in
          (q.0, k.0, q.2, (supports-decides q.0).to k.1)

      pub h-from : 1 ≤ variable h
      h-from = (positive h hp).1

      pub n-above : (n : ℤ) → n ∈ supporting → N < variable n
      n-above n i = let q = in-supporting n i in rw (← q.2) (name-above q.0 q.1)

      pub n-positive : (n : ℤ) → n ∈ supporting → T (is_positive n)
      n-positive n i = let q = in-supporting n i in rw (← q.2) (pos-positive q.0.name (omega (arith, name-above q.0 q.1)))

      pub once : distinct supporting ≡ true
      once = distinct-keep name_of supports z.named s.ready.once

      pub n-below : (n : ℤ) → n ∈ supporting → variable n ≤ N + length P
      n-below n i = let q = in-supporting n i in rw (← q.2) (name_below q.0 q.1)

      pub count : length supporting ≤ length (rules_for P h)
      count =
          let names = filter supports z.named in
          let rules = rules_for P h in
          let h = not_more (map body_of names) (map (λ (r : Rule). r.body) rules) (different-keep body_of supports z.named s.ready.different) each in
          omega (arith, h, length-map names name_of, length-map names body_of, length-map rules (λ (r : Rule). r.body))
        where
          each : (x : List ℤ) → x ∈ map body_of (filter supports z.named)
              → x ∈ map (λ (r : Rule). r.body) (rules_for P h)
          each x i =
              let q = Memᴰ.of_map body_of (filter supports z.named) i in
              let v = (supports-decides q.0).to (keep→ supports z.named q.1).1 in
              let r = v.0 in
              Memᴰ.cast (sym q.2 ∙ v.2.1)
              (Memᴰ.map (λ (r : Rule). r.body) (keep← (λ (r : Rule). has h r.heads) v.1 ((has-decides h r.heads).from v.2.0)))

      pub n-known : (n : ℤ) → n ∈ supporting → T (is_known N z (variable n))
      n-known n i = let q = in-supporting n i in rw (← q.2) (name-known q.0 q.1)

      pub is-support : is_support N P z h supporting ≡ true
      is-support =
          is_true (support-decides N P z h supporting)
          ((atom-decides N (variable h)).from (h-from, hn), (λ r m j. some-name r m j (s.all r m), λ n i. some-rule n (in-supporting n i)))
        where
          some-name : (r : Rule) → r ∈ P → h ∈ r.heads → HasName z r.body → (n : ℤ) × (n ∈ supporting) × T (is_name z (variable n) r.body)
          some-name r m j n =
              let x = n.0 in
              (name_of x, Memᴰ.map name_of (keep← supports n.1 ((supports-decides x).from (r, m, (j, n.2)))), (name-decides z x.name r.body).from (x, n.1, (refl, n.2)))

          some-rule : (n : ℤ)
              → (x : Named) × (x ∈ z.named) × (name_of x ≡ n) × ((r : Rule) × (r ∈ P) × ((h ∈ r.heads) × (x.body ≡ r.body)))
              → (r : Rule) × (r ∈ P) × ((h ∈ r.heads) × T (is_name z (variable n) r.body))
          some-rule n q = let r = q.3.0 in (r, q.3.1, (q.3.2.0, (name-decides z (variable n) r.body).from (q.0, q.1, (ap variable q.2, q.3.2.1))))

      abbrev support-step : Further z (ascending (h ∷ map complement supporting))
      support-step =
          one_more z s Support (h ∷ supporting) (ascending (h ∷ map complement supporting))
          (each-cons h-from (λ n i. omega (arith, n-above n i)))
          (is_true (and-decides (itself (is_positive h)) (all-decides (λ n. itself (is_positive n)) supporting)) (hp, n-positive))
          (distinct_cons h supporting (λ n i q. omega (arith, n-above n i, hn, q)) once)
          (yes-passes UnknownVariable (is_true (all_known-decides N z (h ∷ supporting)) (each-cons (atom-known-in (variable h) h-from hn) n-known))
          (yes-passes NoSupport is-support refl))
          (tt, each-cons (omega (arith, hn)) n-below, by-head h (omega (arith, count)))

    -- `l`
    module _ (U : List ℤ) where
      abbrev externals : List ℤ
      externals = map (λ n. neg_ℤ (pos n)) (external_names P z U)

      pub in-externals : (n : ℤ) → n ∈ externals
          → (x : Named) × (x ∈ z.named) × (complement (name_of x) ≡ n) × ((r : Rule) × (r ∈ P) × (T (is_external U r) × (x.body ≡ r.body)))
      in-externals n i =
          let q = Memᴰ.of_map (λ n. neg_ℤ (pos n)) (external_names P z U) i in
          let v = Memᴰ.of_map (λ (x : Named). x.name) _ q.1 in
          let k = keep→ (λ (x : Named). any (λ r. is_external U r && same_list x.body r.body) P) z.named v.1 in
          let x = v.0 in
          (x, k.0, ap (λ (m : ℕ). neg_ℤ (pos m)) v.2 ∙ q.2, (any-decides (λ r. and-decides (itself (is_external U r)) (same_list-decides x.body r.body)) P).to k.1)

    abbrev loop-step : (h : ℤ) (hs : List ℤ) → ((x : ℤ) → x ∈ h ∷ hs → T (is_positive x) × (variable x ≤ N)) → distinct (h ∷ hs) ≡ true
        → Loops.Loop P (h ∷ hs) → length (h ∷ hs) ≤ N
        → Further z (ascending (h ∷ externals (h ∷ hs)))
    loop-step h hs a d l c =
        one_more z s Loop (h ∷ hs) (ascending (h ∷ externals (h ∷ hs)))
        from
        (is_true (all-decides (λ x. itself (is_positive x)) (h ∷ hs)) (λ x i. (a x i).0))
        d
        (yes-passes UnknownVariable (is_true (all_known-decides N z (h ∷ hs)) (λ x i. atom-known-in (variable x) (from x i) (a x i).1))
        (yes-passes NoAtoms (is_true (all_atoms-decides N z (h ∷ hs)) (λ x i. (atom-decides N (variable x)).from (from x i, (a x i).1)))
        (yes-passes NoLoop (is_true (loop-decides P (h ∷ hs)) l)
        (yes-passes UnnamedBody (is_true (all_named-decides P z (h ∷ hs)) (λ r m _. (has_name-decides z r.body).from (s.all r m)))
        refl))))
        (tt, λ x i. omega (arith, (a x i).1), by-atoms c)
      where
        from : (x : ℤ) → x ∈ h ∷ hs → 1 ≤ variable x
        from x i = (positive x (a x i).0).1

  -- What an assignment goes against

  module _ (z : State) (s : Standing z) (L : List ℤ) (t : Total N L) where
    -- a nogood that the assignment violates has been added
    abbrev then-add : (g : List ℤ) (w : Further z g) → ((k : ℤ) → k ∈ g → Closure w.state.live L k) → Further z (ascending L)
    then-add g w f =
        let v = addition-step w.state w.standing L N (omega arith) t (violated g w.live f) in
        record { state = v.state; standing = v.standing; later = λ k i. v.later k (w.later k i); live = v.live }

    module _ {g : List ℤ} (w : Further z g) (x : Named) (i : x ∈ z.named) where
      defined : (k : List ℤ) → k ∈ definition (name_of x) x.body → k ∈ w.state.live
      defined k j = w.later k ((s.ready.named x i).live k j)

      pub true-name : {B : List ℤ} → x.body ≡ B → Holds L B → Closure w.state.live L (name_of x)
      true-name p h = name-true (name_of x) x.body w.state.live defined L (subst (Holds L) (sym p) h)

      pub false-name : {B : List ℤ} → x.body ≡ B → Fails L B → Closure w.state.live L (complement (name_of x))
      false-name p f = name-false (name_of x) x.body w.state.live defined L (subst (Fails L) (sym p) f)

    abbrev refute-rule : BadRule P L → Further z (ascending L)
    refute-rule b = go (s.all b.rule b.among)
      where
        go : HasName z b.rule.body → Further z (ascending L)
        go n = then-add (ascending g) w (λ k i. by k (Memᴰ.cases_cons (ascending→ g i)))
          where
            g : List ℤ
            g = name_of n.0 ∷ map complement b.rule.heads

            w : Further z (ascending g)
            w = completion-step z s b.rule b.among b.normal n.0 n.1 n.2

            by : (k : ℤ) → (k ≡ name_of n.0) ⊎ (k ∈ map complement b.rule.heads) → Closure w.state.live L k
            by k (inl p) = subst (Closure w.state.live L) (sym p) (true-name w n.0 n.1 n.2 b.holds)
            by k (inr j) = let q = Memᴰ.of_map complement b.rule.heads j in given (Memᴰ.cast (sym q.2) (b.denied q.0 q.1))

    abbrev refute-atom : BadAtom P L → Further z (ascending L)
    refute-atom b = then-add (ascending g) w (λ k i. by k (Memᴰ.cases_cons (ascending→ g i)))
      where
        fits : variable b.atom ≤ N
        fits = (t.within b.atom b.listed).1

        ns : List ℤ
        ns = supporting z s b.atom b.positive fits

        g : List ℤ
        g = b.atom ∷ map complement ns

        w : Further z (ascending g)
        w = support-step z s b.atom b.positive fits

        by : (k : ℤ) → (k ≡ b.atom) ⊎ (k ∈ map complement ns) → Closure w.state.live L k
        by k (inl p) = given (Memᴰ.cast p b.listed)
        by k (inr j) =
            let q = Memᴰ.of_map complement ns j in
            let v = in-supporting z s b.atom b.positive fits q.0 q.1 in
            subst (Closure w.state.live L) (ap complement v.2 ∙ q.2) (false-name w v.0 v.1 v.3.2.1 (b.without v.3.0 v.3.1 v.3.2.0))

    abbrev refute-loop : BadLoop P L → Further z (ascending L)
    refute-loop b = go b.set refl
      where
        go : (U : List ℤ) → b.set ≡ U → Further z (ascending L)
        go [] e = absurd (none b.some.1)
          where
            none : {h : ℤ} → h ∈ b.set → ⊥
            none i = elim (rw e at i) [ ]
        go (h ∷ hs) e = then-add (ascending g) w (λ k i. by k (Memᴰ.cases_cons (ascending→ g i)))
          where
            g : List ℤ
            g = h ∷ externals z s (h ∷ hs)

            back : {x : ℤ} → x ∈ h ∷ hs → x ∈ b.set
            back i = rw e i

            w : Further z (ascending g)
            w =
                loop-step z s h hs (λ x i. (b.positive x (back i), (t.within x (b.listed x (back i))).1))
                (rw e at b.once) (subst (Loops.Loop P) e b.loop) (omega (arith, b.few, t.size, ap length e))

            by : (k : ℤ) → (k ≡ h) ⊎ (k ∈ externals z s (h ∷ hs)) → Closure w.state.live L k
            by k (inl p) = given (Memᴰ.cast p (b.listed h (back (Memᴰ.head refl))))
            by k (inr j) =
                let v = in-externals z s (h ∷ hs) k j in
                let r = v.3.0 in
                subst (Closure w.state.live L) v.2
                (false-name w v.0 v.1 v.3.2.1 (b.without r v.3.1 (subst (λ (U : List ℤ). T (is_external U r)) (sym e) v.3.2.0)))

    abbrev pub refute : Bad P L → Further z (ascending L)
    refute (rule b) = refute-rule b
    refute (atom b) = refute-atom b
    refute (loop b) = refute-loop b
