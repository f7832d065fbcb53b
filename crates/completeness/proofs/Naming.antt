-- Every rule body gets a name: `b` for one body after another. Assumes nothing.
use mathlib.Core.Path.{◌≡◌, refl, sym, ap}
use mathlib.Core.Logic.{◌⊎◌, inl, inr}
use mathlib.Core.Bool.{true, false, not}
use mathlib.Core.List.Memᴰ
use mathlib.Core.List.{List, [], ◌∷◌, map}
use Prim.Native.Nat.{ℕ, suc, ◌+◌, ◌≤◌, ◌<◌}
use native.Mathlib.Omega.{arith}
use lib.Dec.{T}
use lib.IntN.{ℤ, pos}
use lib.ListN.{length}
use Rattle.words.specs.Lists.{◌∈◌}
use Rattle.words.specs.Literals.{variable, distinct, ascending}
use Rattle.words.proofs.Lists.{itself, and-decides, failed, answered, is_true, not-decides, each-cons}
use Rattle.weights.proofs.Reordered.{rising-distinct}
use Rattle.text.specs.declared.Letter.TheVariants.{Body}
use Rattle.aspif.specs.Rules.{Rule}
use Rattle.aspif.proofs.Written.{in_order}
use Rattle.drupe.specs.Lines.{is_positive}
use Rattle.derivation.specs.States.{Named, State, start, is_known, has_name}
use Rattle.derivation.specs.Steps.{next, add, definition, define, is_unnamed_body, by_letter}
use Rattle.derivation.proofs.Questions.{pos-positive, atom-decides, known-decides, atom-known, all_known-decides, has_name-decides, unnamed-decides}
use Rattle.completeness.specs.Claims.{WellFormed, by-body}
use Rattle.completeness.proofs.Totals.{distinct_cons, Different}
use Rattle.completeness.proofs.Accepting.{yes-passes, no-passes, accepted, Reached, reached-start, reached-more}
use Rattle.drupe.specs.declared.ProofFault.TheVariants.{UnknownVariable, KnownName, NoUnnamedBody}

-- a body with a name
abbrev pub HasName : State → List ℤ → Type 0
HasName z b = (x : Named) × (x ∈ z.named) × (x.body ≡ b)

abbrev pub body_of : Named → List ℤ
body_of x = x.body

abbrev pub name_of : Named → ℤ
name_of x = pos x.name

module _ (N : ℕ) (P : List Rule) where
  -- a name is above the atoms, it is that of a rule body, and its definition is live
  pub record Defined (z : State) (x : Named) : Type 0 where
    pub above : N < x.name
    pub known : x.name ∈ z.introduced
    pub rule : Rule
    pub among : rule ∈ P
    pub is : x.body ≡ rule.body
    pub live : (g : List ℤ) → g ∈ definition (name_of x) x.body → g ∈ z.live

  -- after at most m names
  pub record Ready (m : ℕ) (z : State) : Type 0 where
    pub top : ℕ
    pub above : N ≤ top
    pub below : top ≤ N + m
    pub different : Different (map body_of z.named)
    pub introduced : (v : ℕ) → v ∈ z.introduced → v ≤ top
    pub named : (x : Named) → x ∈ z.named → Defined z x
    pub once : distinct (map name_of z.named) ≡ true

  abbrev ready-start : Ready 0 start
  ready-start = record {
    top = N;
    above = omega arith;
    below = omega arith;
    different = tt;
    introduced = λ v m. elim m [ ];
    named = λ x m. elim m [ ];
    once = refl;
  }

  -- more live nogoods
  abbrev pub ready-add : {m : ℕ} (z : State) (gs : List (List ℤ)) → Ready m z → Ready m (add z gs)
  ready-add z gs y = record {
    top = y.top;
    above = y.above;
    below = y.below;
    different = y.different;
    introduced = y.introduced;
    named = λ x m. let d = y.named x m in record {
      above = d.above;
      known = d.known;
      rule = d.rule;
      among = d.among;
      is = d.is;
      live = λ g i. Memᴰ.append_left gs (d.live g i);
    };
    once = y.once;
  }

  abbrev ready-more : {m : ℕ} (z : State) → Ready m z → Ready (suc m) z
  ready-more z y = record {
    top = y.top;
    above = y.above;
    below = omega (arith, y.below);
    different = y.different;
    introduced = y.introduced;
    named = y.named;
    once = y.once;
  }

  module _ (wf : WellFormed N P) where
    -- one body more
    module _ (r : Rule) (m : r ∈ P) (z : State) (k : ℕ) (y : Ready k z) (room : k < length P) (none : T (not (has_name z r.body))) where
      abbrev n : ℕ
      n = suc y.top

      abbrev new : Named
      new = record { name = n; body = r.body }

      abbrev after : State
      after = define z (pos n) r.body (new ∷ z.named)

      order : ascending r.body ≡ r.body
      order = in_order r.body (wf.bodies r m)

      unnamed : is_unnamed_body P z r.body ≡ true
      unnamed = is_true (unnamed-decides P z r.body) ((r, m, sym order), rw order none)

      fresh : is_known N z n ≡ false
      fresh = failed _ ((not-decides (known-decides N z n)).from (λ s. elim s [
        | inl a ↦ absurd (omega (arith, y.above, ((atom-decides N n).to a).1))
        | inr i ↦ absurd (omega (arith, y.introduced n i))
      ]))

      pub named-so : by_letter N P z Body (pos n ∷ r.body) ≡ next after
      named-so =
          yes-passes UnknownVariable (is_true (all_known-decides N z r.body)
          (λ v i. let w = wf.literals r m v i in atom-known N z (variable v) ((atom-decides N (variable v)).from w)))
          (no-passes KnownName fresh
          (yes-passes NoUnnamedBody unnamed (ap (λ l. next (define z (pos n) r.body (record { name = n; body = l } ∷ z.named))) order)))

      abbrev reached-after : Reached N P z → Reached N P after
      reached-after h =
          reached-more N P (record { letter = Body; numbers = pos n ∷ r.body }) h
          (accepted N P z after Body (pos n ∷ r.body)
          (each-cons (omega arith) (λ v i. (wf.literals r m v i).0))
          (is_true (and-decides (itself (is_positive (pos n))) (itself true)) (pos-positive n (omega arith), tt))
          (distinct_cons (pos n) r.body (λ v i p. let q : n ≡ variable v = p in omega (arith, (wf.literals r m v i).1, y.above))
          (rising-distinct r.body (wf.bodies r m)))
          named-so)
          (tt, each-cons (omega (arith, y.below)) (λ v i. omega (arith, (wf.literals r m v i).1)), by-body r m (omega arith))

      abbrev ready-after : Ready (suc k) after
      ready-after = record {
        top = n;
        above = omega (arith, y.above);
        below = omega (arith, y.below);
        different = (λ i. let q = Memᴰ.of_map body_of z.named i in (not-decides (has_name-decides z r.body)).to none (q.0, q.1, q.2), y.different);
        introduced = λ v i. elim (Memᴰ.cases_cons i) [ inl p ↦ rw p (omega arith) | inr j ↦ omega (arith, y.introduced v j) ];
        named = λ x i. by x (Memᴰ.cases_cons i);
        once = distinct_cons (pos n) (map name_of z.named) other y.once;
      }
        where
          by : (x : Named) → (x ≡ new) ⊎ (x ∈ z.named) → Defined after x
          by x (inl p) = rw p (record {
            above = omega (arith, y.above);
            known = Memᴰ.head refl;
            rule = r;
            among = m;
            is = refl;
            live = λ g i. Memᴰ.append_right z.live i;
          })
          by x (inr i) = let d = y.named x i in record {
            above = d.above;
            known = Memᴰ.tail d.known;
            rule = d.rule;
            among = d.among;
            is = d.is;
            live = λ g j. Memᴰ.append_left (definition (pos n) r.body) (d.live g j);
          }

          other : (v : ℤ) → v ∈ map name_of z.named → ¬ (variable (pos n) ≡ variable v)
          other v i p =
              let q = Memᴰ.of_map name_of z.named i in
              let e : q.0.name ≡ variable v = ap variable q.2 in
              let o : n ≡ variable v = p in
              omega (arith, y.introduced q.0.name (y.named q.0 q.1).known)

      abbrev here : HasName after r.body
      here = (new, Memᴰ.head refl, refl)

      abbrev there : {b : List ℤ} → HasName z b → HasName after b
      there h = (h.0, Memᴰ.tail h.1, h.2)

    -- a state in which bodies are named
    pub record Names (l : List Rule) : Type 0 where
      pub state : State
      pub reached : Reached N P state
      pub ready : Ready (length l) state
      pub all : (r : Rule) → r ∈ l → HasName state r.body

    abbrev name-all : (l : List Rule) → length l ≤ length P → ((r : Rule) → r ∈ l → r ∈ P) → Names l
    name-all [] h f = record { state = start; reached = reached-start N P; ready = ready-start; all = λ r i. elim i [ ] }
    name-all (r ∷ l) h f = go (name-all l (omega arith) (λ s i. f s (Memᴰ.tail i)))
      where
        go : Names l → Names (r ∷ l)
        go w = by (answered (has_name w.state r.body))
          where
            m : r ∈ P
            m = f r (Memᴰ.head refl)

            by : T (has_name w.state r.body) ⊎ T (not (has_name w.state r.body)) → Names (r ∷ l)
            by (inl t) = record {
              state = w.state;
              reached = w.reached;
              ready = ready-more w.state w.ready;
              all = each-cons ((has_name-decides w.state r.body).to t) w.all;
            }
            by (inr t) = record {
              state = after r m w.state (length l) w.ready h t;
              reached = reached-after r m w.state (length l) w.ready h t w.reached;
              ready = ready-after r m w.state (length l) w.ready h t;
              all = each-cons (here r m w.state (length l) w.ready h t) (λ s i. there r m w.state (length l) w.ready h t (w.all s i));
            }

    abbrev pub all_named : Names P
    all_named = name-all P (omega arith) (λ r i. i)
