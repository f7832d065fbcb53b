-- Marking first and closing up later: what is live is that of the earlier store, a deletion negates one word, and nothing is
-- moved before a step that fits.
-- Assumes nothing.
use mathlib.Core.Path.{◌≡◌, refl, sym, ◌∙◌, ap, ap₂}
use mathlib.Core.Logic.{◌⊎◌, inl, inr}
use mathlib.Core.Bool.{Bool, true, false, cond}
use mathlib.Core.List.{List, [], ◌∷◌, ◌++◌, append_assoc}
use Prim.Native.Nat.{ℕ, ◌+◌, ◌-◌, ◌≤◌}
use native.Mathlib.Omega.{arith}
use borrow.Author.Tests.{le-leb}
use lib.IntN.{ℤ, pos, neg_ℤ}
use lib.ListN.{length, take, drop, get_or, set, replicate, length-append}
use lib.Seq.{set_at, get_or_at, take_at}
use Rattle.words.specs.Literals.{ascending}
use Rattle.words.proofs.Lists.{concat-append}
use Rattle.text.specs.declared.Letter.{Letter}
use Rattle.text.specs.declared.Letter.TheVariants.{Addition, Body, Completion, Deletion, Extension, Loop, Support}
use Rattle.aspif.specs.Rules.{Rule, expand, atoms}
use Rattle.drupe.specs.Texts.{Step, StepsRead, steps, refused, steps_within}
use Rattle.derivation.specs.States.{State, start}
use Rattle.derivation.specs.Steps.{Outcome, next, step}
use Rattle.derivation.specs.Steps as Steps
use Rattle.nogoods.specs.Store.{Stored, added_in, closed, live, killed, dead_of, is_target, kept_for}
use Rattle.nogoods.specs.Store.{origin_word, stored_words, words_of, store_words}
use Rattle.nogoods.proofs.Live.{by_answer, closed-nil, closed-append, closed-added, closed-kept, closed-killed, live-closed}
use Rattle.nogoods.proofs.Live.{target-alive, killed-nil, killed-here, killed-on}
use Rattle.steps.specs.After.{new_in, stored_after, with_added}
use Rattle.runs.specs.Course.{Course, stopped, through, then_stopped, fitting, course_within}
use Rattle.runs.specs.Course.{run_steps, run_read}
use Rattle.checker.specs.Check.{judged}
use Rattle.checker.specs.Claims.{prompt_after, prompt_steps, prompt_read, SameLive, SameCourse, OneWord, ClosedLate}
use Rattle.runs.proofs.Lines.{stored_next}
use Rattle.drupe.specs.declared.ProofFault.TheVariants.{StoreFull}

-- What is live

module _ (n size : ℕ) (b : List Stored) (z : State) where
  closed-more : closed (with_added n size b z) ≡ closed b ++ new_in n (closed b) z
  closed-more =
      let new = new_in n b z in
      closed-append (kept_for size (length (words_of new)) b) new
      ∙ ap₂ (λ k l. k ++ l) (closed-kept size (length (words_of new)) b) (closed-added n (drop (length (live b)) z.live))
      ∙ ap (λ (l : List (List ℤ)). closed b ++ added_in n (drop (length l) z.live)) (sym (live-closed b))

  -- what is live of what is stored after a step is what the earlier store has then
  closed_after : (x : Letter) (zs : List ℤ) → closed (stored_after n size x zs b z) ≡ prompt_after n x zs (closed b) z
  closed_after Addition zs = closed-more
  closed_after Body zs = closed-more
  closed_after Completion zs = closed-more
  closed_after Deletion zs = closed-killed (ascending zs) b
  closed_after Extension zs = closed-more
  closed_after Loop zs = closed-more
  closed_after Support zs = closed-more

-- a course with what is live of what is stored
abbrev closed_course : Course → Course
closed_course (stopped k n) = stopped k n
closed_course (through n z b) = through n z (closed b)

module _ (N : ℕ) (P : List Rule) (size : ℕ) where
  same-steps : (n : ℕ) (z : State) (b : List Stored) (ts : List Step)
      → closed_course (run_steps N P size n z b ts) ≡ prompt_steps N P size n z (closed b) ts
  same-steps n z b [] = refl
  same-steps n z b (t ∷ ts) = by (λ z'. same-steps (n + 1) z' (stored_next size n b t z') ts) (step N P z t)
    where
      on : State → Course
      on z' = run_steps N P size (n + 1) z' (stored_next size n b t z') ts

      prompt : State → Course
      prompt z' = prompt_steps N P size (n + 1) z' (prompt_after (n + 1) t.letter t.numbers (closed b) z') ts

      fits : (f : Bool) (z' : State) → closed_course (on z') ≡ prompt z'
          → closed_course (cond f (on z') (stopped StoreFull (n + 1))) ≡ cond f (prompt z') (stopped StoreFull (n + 1))
      fits true z' h = h
      fits false z' h = refl

      by : ((z' : State) → closed_course (on z') ≡ prompt_steps N P size (n + 1) z' (closed (stored_next size n b t z')) ts)
          → (o : Outcome) → closed_course (elim o [
            | Steps.refused k ↦ stopped k (n + 1)
            | next z' ↦ cond (fitting size z') (on z') (stopped StoreFull (n + 1))
          ]) ≡ elim o [
            | Steps.refused k ↦ stopped k (n + 1)
            | next z' ↦ cond (fitting size z') (prompt z') (stopped StoreFull (n + 1))
          ]
      by later (Steps.refused k) = refl
      by later (next z') =
          fits (fitting size z') z'
          (later z'
          ∙ ap (λ (l : List Stored). prompt_steps N P size (n + 1) z' l ts)
          (closed_after (n + 1) size b z' t.letter t.numbers))

  from_start : (ts : List Step) → closed_course (run_steps N P size 0 start [] ts) ≡ prompt_steps N P size 0 start [] ts
  from_start ts = same-steps 0 start [] ts ∙ ap (λ (l : List Stored). prompt_steps N P size 0 start l ts) closed-nil

  same_read : (r : StepsRead) → closed_course (run_read N P size 0 start [] r) ≡ prompt_read N P size r
  same_read (steps ts) = from_start ts
  same_read (refused ts k m) = unread (run_steps N P size 0 start [] ts) ∙ ap (then_stopped k m) (from_start ts)
    where
      unread : (c : Course) → closed_course (then_stopped k m c) ≡ then_stopped k m (closed_course c)
      unread (stopped j i) = refl
      unread (through i w b) = refl

pub same_live : SameLive
same_live N P size ts n z stored e = sym (from_start N P size ts) ∙ ap closed_course e

pub same-course : SameCourse
unfolding course_within
same-course limit t size ws proof =
    same (run_read (atoms ws) (expand ws) size 0 start [] (steps_within limit proof))
    ∙ ap (λ (c : Course). (judged t size ws c).verdict) (same_read (atoms ws) (expand ws) size (steps_within limit proof))
  where
    -- the verdict does not read what is stored
    same : (c : Course) → (judged t size ws c).verdict ≡ (judged t size ws (closed_course c)).verdict
    same (stopped k n) = refl
    same (through n z b) = refl

-- One word

-- what a deletion made of what is stored: nothing, or one is dead that was live
abbrev Marked : List ℤ → List Stored → Type 0
Marked L b = (killed L b ≡ b) ⊎ ((done : List Stored) × (it : Stored) × (rest : List Stored) × (b ≡ done ++ (it ∷ rest))
    × (killed L b ≡ done ++ (dead_of it ∷ rest)) × (it.dead ≡ false))

marked : (L : List ℤ) (b : List Stored) → Marked L b
marked L [] = inl (killed-nil L)
marked L (e ∷ b) =
    by_answer (is_target L e)
    (λ q. inr ([], e, b, refl, killed-here L e b q, (target-alive L e q).0))
    (λ q. elim (marked L b) [
      | inl h ↦ inl (killed-on L e b q ∙ ap (λ (l : List Stored). e ∷ l) h)
      | inr (done, it, rest, is, gone, alive) ↦
          inr (
            e ∷ done,
            it,
            rest,
            ap (λ (l : List Stored). e ∷ l) is,
            killed-on L e b q ∙ ap (λ (l : List Stored). e ∷ l) gone,
            alive,
          )
    ])

module _ (size : ℕ) (done : List Stored) (it : Stored) (rest : List Stored) (alive : it.dead ≡ false) where
  abbrev front : List ℤ
  front = words_of done

  -- the words with some nogood between those before and those after it
  between : (e : Stored) → words_of (done ++ (e ∷ rest)) ≡ front ++ (stored_words e ++ words_of rest)
  between e = concat-append stored_words done (e ∷ rest)

  as_long : length (words_of (done ++ (dead_of it ∷ rest))) ≡ length (words_of (done ++ (it ∷ rest)))
  as_long =
      omega (
        arith,
        ap length (between it),
        ap length (between (dead_of it)),
        length-append front (stored_words it ++ words_of rest),
        length-append front (stored_words (dead_of it) ++ words_of rest),
        length-append (stored_words it) (words_of rest),
        length-append (stored_words (dead_of it)) (words_of rest),
      )

  negated : let s = store_words size (done ++ (it ∷ rest)) in
      store_words size (done ++ (dead_of it ∷ rest)) ≡ set s (length front) (neg_ℤ (get_or s (length front) (pos 0)))
  negated =
      let n = size - length (words_of (done ++ (it ∷ rest))) in
      let zeros = replicate n (pos 0) in
      let ys : List ℤ = ((pos (length it.literals) ∷ it.literals) ++ words_of rest) ++ zeros in
      let s = store_words size (done ++ (it ∷ rest)) in
      let u : s ≡ front ++ (origin_word it ∷ ys) =
      ap (λ (l : List ℤ). l ++ zeros) (between it) ∙ append_assoc front (stored_words it ++ words_of rest) zeros in
      let o : origin_word it ≡ pos it.origin = rw alive in
      let g : get_or s (length front) (pos 0) ≡ pos it.origin =
      ap (λ (l : List ℤ). get_or l (length front) (pos 0)) u ∙ get_or_at front (origin_word it) ys (pos 0) (length front) refl ∙ o in
      let v = neg_ℤ (pos it.origin) in
      let w : set s (length front) v ≡ front ++ (v ∷ ys) =
      ap (λ (l : List ℤ). set l (length front) v) u ∙ set_at front (origin_word it) ys v (length front) refl in
      ap (λ k. words_of (done ++ (dead_of it ∷ rest)) ++ replicate (size - k) (pos 0)) as_long
      ∙ ap (λ (l : List ℤ). l ++ zeros) (between (dead_of it)) ∙ append_assoc front (stored_words (dead_of it) ++ words_of rest) zeros
      ∙ sym w ∙ ap (λ (x : ℤ). set s (length front) (neg_ℤ x)) (sym g)

pub one_word : OneWord
one_word n size zs before z = elim (marked (ascending zs) before) [
  | inl h ↦ inl (ap (store_words size) h)
  | inr (done, it, rest, is, gone, alive) ↦
      inr (
        length (words_of done),
        (done, it, rest, is, refl),
        ap (store_words size) gone ∙ negated size done it rest alive
            ∙ ap (λ (s : List ℤ). set s (length (words_of done)) (neg_ℤ (get_or s (length (words_of done)) (pos 0))))
            (ap (store_words size) (sym is)),
      )
]

-- Closed up late

module _ (n size : ℕ) (b : List Stored) (z : State) (h : length (words_of b) + length (words_of (new_in n b z)) ≤ size) where
  stays : take (length (words_of b)) (store_words size (with_added n size b z)) ≡ words_of b
  stays =
      let new = new_in n b z in
      let all : with_added n size b z ≡ b ++ new = rw (le-leb (length (words_of b) + length (words_of new)) size h) in
      let zeros = replicate (size - length (words_of (b ++ new))) (pos 0) in
      ap (λ (l : List Stored). take (length (words_of b)) (store_words size l)) all
      ∙ ap (λ (l : List ℤ). take (length (words_of b)) (l ++ zeros)) (concat-append stored_words b new)
      ∙ ap (take (length (words_of b))) (append_assoc (words_of b) (words_of new) zeros)
      ∙ take_at (words_of b) (words_of new ++ zeros) (length (words_of b)) refl

pub closed-late : ClosedLate
closed-late n size Addition zs b z x h = stays n size b z h
closed-late n size Body zs b z x h = stays n size b z h
closed-late n size Completion zs b z x h = stays n size b z h
closed-late n size Deletion zs b z x h = absurd (x refl)
closed-late n size Extension zs b z x h = stays n size b z h
closed-late n size Loop zs b z x h = stays n size b z h
closed-late n size Support zs b z x h = stays n size b z h
