-- The loop over the proof's lines: where it stands, and how it ends or goes on.
-- Assumes nothing.
use mathlib.Core.Path.{◌≡◌, refl, ◌∙◌, ap, subst}
use mathlib.Core.List.{List, []}
use Prim.Native.Nat.{ℕ, ◌+◌, ◌≤◌, ◌<◌}
use native.Mathlib.Omega.{arith}
use lib.IntN.{ℤ, pos}
use lib.ListN.{length, replicate}
use Rattle.words.proofs.Lists.{zero_one}
use Rattle.aspif.specs.Rules.{Rule, InputRule, expand}
use Rattle.drupe.specs.Lines.{LineAt, end, line, line_at}
use Rattle.drupe.specs.Lines as Lines
use Rattle.drupe.proofs.Lines.{passed-line}
use Rattle.derivation.specs.States.{State, start}
use Rattle.derivation.specs.Steps.{Outcome, refused, next, step}
use Rattle.nogoods.specs.Store.{Stored, live, words_for}
use Rattle.nogoods.specs.Index.{BlankIndex}
use Rattle.nogoods.proofs.Live.{live-few}
use Rattle.steps.specs.After.{stored_after}
use Rattle.runs.specs.Course.{Course, stopped, course_within}
use Rattle.runs.specs.Claims.{Runs, ends, unread, unaccepted, full, good}
use Rattle.steps.specs.Held.{Tracks, HoldsState, Starts, Leaves}
use Rattle.steps.specs.declared.states.CheckingState.{CheckingState}
use Rattle.runs.specs.Held.{proof_turn, LineLeaves, Ran, Ended}
use Rattle.runs.specs.declared.ProofRefusal.{ProofRefusal}
use Rattle.runs.specs.declared.StepTaken.{StepTaken}
use Rattle.runs.specs.declared.StepsTaken.{StepsTaken}
use Rattle.runs.proofs.Lines.{step-by-step}
use Rattle.runs.proofs.Live.{step-live}
use Rattle.std.specs.Prelude.{Result, Ok, Err, Option, Some, None}
use Rattle.drupe.specs.declared.ProofFault.TheVariants.{StoreFull}
use Rattle.drupe.specs.declared.ProofFault.{ProofFault}

-- the step that a turn took, where it took one
abbrev taken_of : Result (Option StepTaken) ProofFault → StepTaken
taken_of (Ok (Some t)) = t
taken_of (Ok None) = record { next = 0; used = 0 }
taken_of (Err k) = record { next = 0; used = 0 }

module _ (N : ℕ) (ws : List InputRule) (size : ℕ) (text : List ℕ) where
  abbrev P : List Rule
  P = expand ws

  -- After so many steps the loop stands at a position, and the arrays and the store hold a state from which the lines come to what
  -- they come to from the start.
  pub record Going (store : List ℤ) (index known names : List ℕ) (bodies : List ℤ) (used at steps : ℕ) : Type 0 where
    pub z : State
    pub tracks : Tracks N ws known names bodies z.introduced z.named
    pub stored : List Stored
    pub keeps : HoldsState store index used z stored
    pub onward : (c : Course) → Runs N P size text at steps z stored c → Runs N P size text 0 0 start [] c
    pub within : at ≤ length text
    pub count : steps ≤ at
    pub long : length store ≡ size

  pub going_start : {c : CheckingState} {store : List ℤ} {index known names : List ℕ} {bodies : List ℤ} → Starts c → Tracks N ws known names bodies [] [] → store ≡ replicate (length store) (pos 0) → length store ≡ size
      → BlankIndex index → Going store index known names bodies c.used c.at c.steps
  going_start {store = store} {index = index} S T e l b =
      record {
        z = start;
        tracks = T;
        stored = [];
        keeps = S.holds store index e b;
        onward = λ c. rw (S.at, S.steps) (λ r. r);
        within = omega (arith, S.at);
        count = omega (arith, S.steps);
        long = l;
      }

  module _ {store : List ℤ} {index known names : List ℕ} {bodies : List ℤ} {used at steps : ℕ} (G : Going store index known names bodies used at steps) where
    comes : (limit : ℕ) → length text ≤ limit → (c : Course) → Runs N P size text at steps G.z G.stored c → course_within limit N P size text ≡ c
    comes limit h c r = (step-by-step limit N P size text c h).1 (G.onward c r)

    module _ (after : List ℤ) (index' known' names' : List ℕ) (bodies' : List ℤ) (same : length after ≡ length store) where
      -- what the turn at the position leaves
      abbrev Turned : LineAt → Result (Option StepTaken) ProofFault → Type 0
      Turned = LineLeaves N ws known' names' bodies' after index' used (steps + 1) size G.z G.stored

      -- what the lines have left, once they are over, under every limit that the text is within
      abbrev Left : (limit : ℕ) → Result StepsTaken ProofRefusal → Type 0
      Left limit r = Ran after (course_within limit N P size text) r × Ended N ws known' names' bodies' (course_within limit N P size text)

      pub going-ends : {r : Result (Option StepTaken) ProofFault} → r ≡ Ok None → Turned (line_at text at) r → (limit : ℕ) → length text ≤ limit → Left limit (Ok (record { steps = steps; used = used }))
      going-ends e t limit h = by (line_at text at) refl (subst (Turned (line_at text at)) e t)
        where
          never : (n : ℕ) (s : Result ℕ ProofFault) → Ok None ≡ proof_turn n s → ⊥
          never n (Ok m) e = zero_one (cc)
          never n (Err k) e = zero_one (cc)

          by : (l : LineAt) → line_at text at ≡ l → Turned l (Ok None) → Left limit (Ok (record { steps = steps; used = used }))
          by end q t = rw (comes limit h _ (ends q)) ((used, refl, t.1), t.2)
          by (Lines.refused k) q t = absurd (zero_one (cc))
          by (line x zs n) q t = absurd (never n t.0 t.1)

      pub going-fails : {r : Result (Option StepTaken) ProofFault} (k : ProofFault) → r ≡ Err k → Turned (line_at text at) r
          → (limit : ℕ) → length text ≤ limit → Left limit (Err (record { fault = k; step = steps + 1 }))
      going-fails k e t limit h = by (line_at text at) refl (subst (Turned (line_at text at)) e t)
        where
          Stops : Type 0
          Stops = Left limit (Err (record { fault = k; step = steps + 1 }))

          stops : (j : ProofFault) → k ≡ j → course_within limit N P size text ≡ stopped j (steps + 1) → Stops
          stops j p q = rw (q, p) (refl, tt)

          by : (l : LineAt) → line_at text at ≡ l → Turned l (Err k) → Stops
          by end q t = absurd (zero_one (cc))
          by (Lines.refused j) q t = stops j (cc) (comes limit h _ (unread q))
          by (line x zs n) q t = outcome (step N P G.z (record { letter = x; numbers = zs })) refl t.0 t.1 t.2
            where
              outcome : (o : Outcome) → step N P G.z (record { letter = x; numbers = zs }) ≡ o → (s : Result ℕ ProofFault) → Err k ≡ proof_turn n s → Leaves N ws (stored_after (steps + 1) size x zs G.stored) known' names' bodies' after index' o s → Stops
              outcome o p (Ok m) e l = absurd (zero_one (cc))
              outcome (refused j) p (Err i) e l = stops j (cc) (comes limit h _ (unaccepted q p))
              outcome (next z) p (Err i) e l =
                  let a = l.0.0 in
                  let m = step-live N P (steps + 1) size G.z G.stored G.keeps.same (record { letter = x; numbers = zs }) z p in
                  stops StoreFull (cc) (comes limit h _ (full q p (omega (arith, l.0.1, ap words_for m, same, G.long))))

      pub going_on : {r : Result (Option StepTaken) ProofFault} (t : StepTaken) → r ≡ Ok (Some t) → Turned (line_at text at) r → Going after index' known' names' bodies' t.used t.next (steps + 1) × (at < t.next)
      going_on taken e t = by (line_at text at) refl (subst (Turned (line_at text at)) e t)
        where
          Goes : Type 0
          Goes = Going after index' known' names' bodies' taken.used taken.next (steps + 1) × (at < taken.next)

          by : (l : LineAt) → line_at text at ≡ l → Turned l (Ok (Some taken)) → Goes
          by end q t = absurd (zero_one (cc))
          by (Lines.refused j) q t = absurd (zero_one (cc))
          by (line x zs k) q t = outcome (step N P G.z (record { letter = x; numbers = zs })) refl t.0 t.1 t.2
            where
              outcome : (o : Outcome) → step N P G.z (record { letter = x; numbers = zs }) ≡ o → (s : Result ℕ ProofFault) → Ok (Some taken) ≡ proof_turn k s → Leaves N ws (stored_after (steps + 1) size x zs G.stored) known' names' bodies' after index' o s → Goes
              outcome o p (Err i) e l = absurd (zero_one (cc))
              outcome (refused j) p (Ok i) e l = absurd (zero_one (cc))
              outcome (next z) p (Ok i) e l =
                  let u = passed-line text at q in
                  let f : taken.next ≡ k = ap (λ r. (taken_of r).next) e in
                  let g : taken.used ≡ i = ap (λ r. (taken_of r).used) e in
                  let H = l.0.holds in
                  let b = stored_after (steps + 1) size x zs G.stored z in
                  let m : live b ≡ z.live = step-live N P (steps + 1) size G.z G.stored G.keeps.same (record { letter = x; numbers = zs }) z p in
                  let w : length after ≡ size = same ∙ G.long in (
                    record {
                      z = z;
                      tracks = l.1;
                      stored = b;
                      keeps = record { keeps = rw g l.0; same = m };
                      onward = λ c r. G.onward c (good q p (omega (arith, H.extent, H.fits, w, live-few b, ap words_for m)) (rw f at r));
                      within = omega (arith, u.1, f);
                      count = omega (arith, u.0, f, G.count);
                      long = w;
                    },
                    omega (arith, u.0, f),
                  )
