-- The index as it is filled: one more head, one more rule.
-- Assumes nothing.
use mathlib.Core.Path.{◌≡◌, refl, sym, ap, ◌∙◌}
use mathlib.Core.Logic.{◌⊎◌, inl, inr}
use mathlib.Core.List.{List, [], ◌∷◌, ◌++◌, map}
use Prim.Native.Nat.{ℕ, suc, ◌+◌, ◌≤◌, ◌<◌}
use native.Mathlib.Omega.{arith}
use lib.IntN.{ℤ}
use lib.ListN.{length, get_or, set, replicate, length-set, length-append, get_or-append}
use lib.Seq.{get_or-set_same, get_or-set_other, get_or-append_seam}
use Rattle.words.specs.Limits.{largest, entries, most_held}
use Rattle.words.proofs.Laws.{padded}
use Rattle.words.proofs.Places.{equal?}
use Rattle.words.proofs.Descending.{unchanged, same_entries}
use Rattle.aspif.specs.Tables.{heads_at, body_words_at}
use Rattle.heads.specs.Heads.{start_of, words_from, most_heads, hashes, starts_at, first_at, next_at, owner_at, bucket_at, before_at, index_words, Headed, headed_by, headed_to, headed_at, Place, HeadChains, hash_from, BodyPlace, Entered}
use Rattle.heads.proofs.Walks.{linked, link-entered}

-- One more head at the end of a list

module _ (es : List Headed) (e : Headed) where
  pub place-old : (x v : ℕ) → Place es x v → Place (es ++ (e ∷ [])) x v
  place-old x v p = (omega (arith, p.0, length-append es (e ∷ [])), ap (λ a. a.head) (get_or-append es (e ∷ []) _ x p.0) ∙ p.1)

  pub place-new : Place (es ++ (e ∷ [])) (length es) e.head
  place-new = (omega (arith, length-append es (e ∷ [])), ap (λ a. a.head) (get_or-append_seam es e [] _))

  pub place-either : (x v : ℕ) → Place (es ++ (e ∷ [])) x v → Place es x v ⊎ ((x ≡ length es) × (v ≡ e.head))
  place-either x v p = elim (equal? x (length es)) [
    | inl i ↦ inr (i, sym p.1 ∙ rw i (ap (λ a. a.head) (get_or-append_seam es e [] _)))
    | inr d ↦
        let b : x < length es = omega (arith, p.0, length-append es (e ∷ []), d) in
        inl (b, sym (ap (λ a. a.head) (get_or-append es (e ∷ []) _ x b)) ∙ p.1)
  ]

-- `enter_head`: its three stores

abbrev pub with_head : List ℕ → ℕ → ℕ → ℕ → List ℕ
with_head index v k n = linked (set index (owner_at + n) k) first_at next_at v n

module _ (index : List ℕ) (v k n : ℕ) (long : length index ≡ index_words) (vb : v ≤ largest) (nb : n < most_heads) where
  abbrev owned : List ℕ
  owned = set index (owner_at + n) k

  -- what the chain's two stores leave
  past-link : (i : ℕ) → ¬ (i ≡ first_at + v) → ¬ (i ≡ next_at + n) → get_or (with_head index v k n) i 0 ≡ get_or owned i 0
  past-link i a b =
      get_or-set_other (set owned (next_at + n) (get_or owned (first_at + v) 0)) (first_at + v) i (n + 1) 0 a
      ∙ get_or-set_other owned (next_at + n) i (get_or owned (first_at + v) 0) 0 b

  pub head-outside : (i : ℕ) → (i < first_at) ⊎ (bucket_at ≤ i) → get_or (with_head index v k n) i 0 ≡ get_or index i 0
  head-outside i (inl h) = past-link i (λ e. omega arith) (λ e. omega arith) ∙ get_or-set_other index (owner_at + n) i k 0 (λ e. omega arith)
  head-outside i (inr h) = past-link i (λ e. omega arith) (λ e. omega arith) ∙ get_or-set_other index (owner_at + n) i k 0 (λ e. omega arith)

  module _ (es : List Headed) (H : HeadChains index es) (at : length es ≡ n) where
    abbrev e : Headed
    e = record { rule = k; head = v }

    owner-on : (x : ℕ) → x < length (es ++ (e ∷ [])) → get_or (with_head index v k n) (owner_at + x) 0 ≡ (headed_at (es ++ (e ∷ [])) x).rule
    owner-on x b = past-link (owner_at + x) (λ q. omega arith) (λ q. omega arith) ∙ elim (equal? x n) [
      | inl i ↦ rw i (get_or-set_same index (owner_at + n) k 0 (omega (arith, long)) ∙ rw (← at) (sym (ap (λ a. a.rule) (get_or-append_seam es e [] _))))
      | inr d ↦
          let c : x < length es = omega (arith, b, length-append es (e ∷ []), d, at) in
          get_or-set_other index (owner_at + n) (owner_at + x) k 0 (λ q. d (omega arith)) ∙ H.owner x c
          ∙ sym (ap (λ a. a.rule) (get_or-append es (e ∷ []) _ x c))
    ]

    pub head-entered : HeadChains (with_head index v k n) (es ++ (e ∷ []))
    head-entered = record {
      few = omega (arith, length-append es (e ∷ []), at);
      owner = owner-on;
      chains = link-entered owned first_at next_at entries most_heads (omega arith)
          (same_entries H.chains (unchanged index first_at entries (owner_at + n) k (inr (omega arith))) (unchanged index next_at most_heads (owner_at + n) k (inr (omega arith))))
          n v
          (λ y w p. omega (arith, p.0, at))
          (λ y w p. rw (← at) (place-either es e y w p))
          (place-old es e)
          (rw (← at) (place-new es e))
          (λ y w p. rw (← at) (place-either es e y w p))
          nb (omega arith) (omega (arith, long, length-set index (owner_at + n) k));
    }

-- the same heads in another array that has the same words there
pub heads-same : {a b : List ℕ} {es : List Headed} → HeadChains a es → ((i : ℕ) → first_at ≤ i → i < bucket_at → get_or b i 0 ≡ get_or a i 0) → HeadChains b es
heads-same {es = es} H f = record {
  few = H.few;
  owner = λ x h. f (owner_at + x) (omega arith) (omega (arith, H.few, h)) ∙ H.owner x h;
  chains = same_entries H.chains (λ v h. f (first_at + v) (omega arith) (omega arith)) (λ x h. f (next_at + x) (omega arith) (omega arith));
}

-- `enter_rule`: rule k, whose body has the key h, and then its heads

pub heads-on : (k : ℕ) (t : List ℤ) → headed_to (suc k) t ≡ headed_to k t ++ map (headed_by k) (heads_at (words_from k t))
unfolding headed_to
heads-on k t = refl

abbrev pub with_body : List ℕ → ℕ → ℕ → ℕ → List ℕ
with_body index k at h = linked (set index (starts_at + k) at) bucket_at before_at h k

module _ (index : List ℕ) (t : List ℤ) (k at h : ℕ) (long : length index ≡ index_words) (kb : k < most_held) (hb : h < hashes) where
  abbrev started : List ℕ
  started = set index (starts_at + k) at

  past-body : (i : ℕ) → i < bucket_at → get_or (with_body index k at h) i 0 ≡ get_or started i 0
  past-body i b =
      get_or-set_other (set started (before_at + k) (get_or started (bucket_at + h) 0)) (bucket_at + h) i (k + 1) 0 (λ e. omega arith)
      ∙ get_or-set_other started (before_at + k) i (get_or started (bucket_at + h) 0) 0 (λ e. omega arith)

  pub body-first : get_or (with_body index k at h) 0 0 ≡ get_or index 0 0
  body-first = past-body 0 (omega arith) ∙ get_or-set_other index (starts_at + k) 0 at 0 (λ e. omega arith)

  either-body : hash_from 0 (body_words_at (words_from k t)) ≡ h → (y w : ℕ) → BodyPlace t (suc k) y w → BodyPlace t k y w ⊎ ((y ≡ k) × (w ≡ h))
  either-body e y w p = elim (equal? y k) [
    | inl i ↦ inr (i, sym p.1 ∙ rw i e)
    | inr d ↦ inl (omega (arith, p.0, d), p.1)
  ]

  module _ (after : List ℕ) (others : (i : ℕ) → (i < first_at) ⊎ (bucket_at ≤ i) → get_or after i 0 ≡ get_or (with_body index k at h) i 0)
      (E : Entered index t k) (is : at ≡ start_of k t) (key : h ≡ hash_from 0 (body_words_at (words_from k t))) where
    start-at : (j : ℕ) → j < suc k → get_or started (starts_at + j) 0 ≡ start_of j t
    start-at j b = elim (equal? j k) [
      | inl i ↦ rw i (get_or-set_same index (starts_at + k) at 0 (omega (arith, long)) ∙ is)
      | inr d ↦ get_or-set_other index (starts_at + k) (starts_at + j) at 0 (λ e. d (omega arith)) ∙ E.starts j (omega (arith, b, d))
    ]

    old-heads : HeadChains (with_body index k at h) (headed_to k t)
    old-heads = heads-same E.heads (λ i a b. past-body i b ∙ get_or-set_other index (starts_at + k) i at 0 (λ e. omega arith))

    pub rule-entered : (HeadChains (with_body index k at h) (headed_to k t) → HeadChains after (headed_to k t ++ map (headed_by k) (heads_at (words_from k t))))
        → Entered after t (suc k)
    rule-entered f = record {
      starts = λ j b. others (starts_at + j) (inl (omega arith)) ∙ past-body (starts_at + j) (omega arith) ∙ start-at j b;
      heads = rw (heads-on k t) (f old-heads);
      bodies = same_entries
          (link-entered started bucket_at before_at hashes most_held (omega arith)
          (same_entries E.bodies (unchanged index bucket_at hashes (starts_at + k) at (inl (omega arith))) (unchanged index before_at most_held (starts_at + k) at (inl (omega arith))))
          k h
          (λ y w p. p.0)
          (either-body (sym key))
          (λ y w p. (omega (arith, p.0), p.1))
          (omega arith, sym key)
          (either-body (sym key))
          kb hb (omega (arith, long, length-set index (starts_at + k) at)))
          (λ j b. others (bucket_at + j) (inr (omega arith)))
          (λ j b. others (before_at + j) (inr (omega arith)));
    }

-- No rule

pub none-entered : (t : List ℤ) → Entered (replicate index_words 0) t 0
unfolding headed_to
none-entered t = record {
  starts = λ k h. absurd (omega arith);
  heads = record {
    few = omega arith;
    owner = λ x h. absurd (omega arith);
    chains = record {
      member = λ x k m. m;
      within = λ x k p. absurd (omega (arith, p.0));
      top = λ x k p. absurd (omega (arith, p.0));
      down = λ x y k p. absurd (omega (arith, p.0));
      first = λ k p h e. absurd (omega (arith, e, padded {A = ℕ} 0 [] index_words (first_at + k)));
      next = λ y k p q. absurd (omega (arith, q.0));
    };
  };
  bodies = record {
    member = λ x k m. m;
    within = λ x k p. absurd (omega (arith, p.0));
    top = λ x k p. absurd (omega (arith, p.0));
    down = λ x y k p. absurd (omega (arith, p.0));
    first = λ k p h e. absurd (omega (arith, e, padded {A = ℕ} 0 [] index_words (bucket_at + k)));
    next = λ y k p q. absurd (omega (arith, q.0));
  };
}

-- the first word is none of theirs
pub entered-flag : {index : List ℕ} {t : List ℤ} {n : ℕ} (x : ℕ) → Entered index t n → Entered (set index 0 x) t n
entered-flag {index} x E = record {
  starts = λ k h. get_or-set_other index 0 (starts_at + k) x 0 (λ e. omega arith) ∙ E.starts k h;
  heads = heads-same E.heads (λ i a b. get_or-set_other index 0 i x 0 (λ e. omega arith));
  bodies = same_entries E.bodies (unchanged index bucket_at hashes 0 x (inl (omega arith))) (unchanged index before_at most_held 0 x (inl (omega arith)));
}
