-- The merged text, from the lines of the halves. Assumes nothing.
use mathlib.Core.Path.{◌≡◌, refl, sym, ap, ap₂, ◌∙◌, subst}
use mathlib.Core.Logic.{inl, inr}
use mathlib.Core.Bool.{Bool, true, false, cond, ◌&&◌, true≢false}
use mathlib.Core.Bool as Bools
use mathlib.Core.List.{List, [], ◌∷◌, ◌++◌, map, map-append}
use Prim.Native.Nat.{ℕ, ◌+◌, ◌-◌, ◌≤◌, ◌<◌}
use native.Mathlib.Omega.{arith}
use borrow.Author.Tests.{lt-ltb, le-ltb, ltb-true, ltb-false}
use lib.Dec.{leb, ltb}
use lib.IntN.{ℤ, pos, neg_ℤ}
use lib.ListN.{length, replicate, take, drop, get_or, length-append, length-map, get_or-eq_default}
use lib.Seq.{sets-eq, take-take, take_at}
use Rattle.words.specs.Limits.{largest, entries, longest}
use Rattle.words.specs.Lists.{any}
use Rattle.words.specs.Literals.{complement, same_list}
use Rattle.words.proofs.Laws.{drop-replicate}
use Rattle.words.proofs.Lists.{same_test, zero_one, passed, is_true, answered, and_left, and-decides, not-decides, leb-decides}
use Rattle.words.proofs.Literals.{same_list-decides, complement-twice}
use Rattle.marks.proofs.Sets.{none-marked}
use Rattle.weights.proofs.Sublists.{any_same, all_append}
use Rattle.aspif.specs.Rules.{Rule, InputRule, all_plain, is_normal, expand, atoms}
use Rattle.drupe.specs.Texts.{Step, StepsRead, steps, text_of, steps_of}
use Rattle.drupe.specs.Texts as Texts
use Rattle.derivation.specs.States.{Named, State, start, is_atom}
use Rattle.derivation.specs.Steps.{next}
use Rattle.derivation.specs.Steps as Steps
use Rattle.nogoods.specs.Store.{Stored}
use Rattle.names.specs.Queries.{entry, Kept, constraining}
use Rattle.runs.specs.Course.{Course, stopped, through, then_stopped, run_steps, run_read, course_within, course}
use Rattle.steps.specs.Held.{Program, name_of}
use Rattle.steps.proofs.Names.{name-high}
use Rattle.steps.proofs.Tracking.{rules-held}
use Rattle.checker.proofs.Whole.{run-through}
use Rattle.merging.specs.Merge.{demanding, named_in, is_body, half, second_names, merged, fits, all_fit}
use Rattle.merging.specs.Claims.{demanding_as_written}
use Rattle.merging.proofs.AsWritten.{demanding-expanded}
use Rattle.merging.proofs.Merged.{well-named}
use Rattle.renaming.specs.Standing.{is_constraint}
use Rattle.renaming.specs.Writing.{Writes}
use Rattle.renaming.specs.Renames.{Halves, bodies_in, NewNames}
use Rattle.std.proofs.Common.{Option, Some, None}
use Rattle.renaming.proofs.SameNames.{same_half}
use Rattle.renaming.proofs.Written.{above, and-false}
use Rattle.splits.specs.Service.{are_halves, steps_in, merged_steps, is_writable}
use Rattle.splits.specs.Halves.{LeftBy, HalvesChecked}
use Rattle.splits.specs.Joined.{AddedTo, WrittenBy, written_in, HalfText, lines_of, closing, HalvesHeld}
use Rattle.splits.specs.declared.texts.Added.{Added}
use Rattle.splits.proofs.Demands.{demanding-plain}
use Rattle.drupe.specs.declared.ProofFault.{ProofFault}
use Rattle.splits.specs.declared.MergeFault.TheVariants.{NotWritable}
use Rattle.std.specs.Prelude.{Ok, Err}

-- What the program has of a constraint

either_way : (k l : List ℤ) → same_list k l ≡ same_list l k
either_way k l = same_test (same_list-decides k l) (same_list-decides l k) sym sym

module _ (P : List Rule) (L : List ℤ) where
  -- a name below 8,192 is that of a body which a rule has
  body-told : (k n : ℕ) → k ≤ largest → n ≡ cond (any (λ r. same_list L r.body) P) k entries → ltb n entries ≡ is_body P L
  body-told k n h e = by (any (λ r. same_list L r.body) P) e ∙ any_same (λ r. same_list L r.body) (λ r. same_list r.body L) P (λ r i. either_way L r.body)
    where
      by : (b : Bool) → n ≡ cond b k entries → ltb n entries ≡ b
      by true e = lt-ltb n entries (omega (arith, h, e))
      by false e = le-ltb n entries (omega (arith, e))

  constraint-told : any (constraining L) P ≡ is_constraint P L
  constraint-told =
      any_same (constraining L) (λ r. is_normal r.kind && (same_list r.heads [] && same_list r.body L)) P
      (λ r i. ap (λ (b : Bool). is_normal r.kind && (same_list r.heads [] && b)) (either_way L r.body))

  pub added-told : (k n : ℕ) (b : Bool) → k ≤ largest → n ≡ cond (any (λ r. same_list L r.body) P) k entries → b ≡ any (constraining L) P
      → AddedTo P L (record { body = ltb n entries; constraint = b })
  added-told k n b h e f = record { body = body-told k n h e; constraint = f ∙ constraint-told }

-- Names that stay

-- an array with an entry for each variable, in which each keeps its name
pub kept-within : (new : List ℕ) → length new ≡ entries → ((u : ℕ) → u ≤ largest → get_or new u 0 ≡ u) → (u : ℕ) → get_or new u 0 ≤ largest
kept-within new l same u = elim (answered (leb u largest)) [
  | inl t ↦ let h = (leb-decides u largest).to t in omega (arith, same u h, h)
  | inr t ↦
      let h : length new ≤ u = let f = (not-decides (leb-decides u largest)).to t in omega (arith, l, f) in
      let e = get_or-eq_default new 0 h in omega (arith, e)
]

-- the split atom is a variable
pub atom-within : (N v : ℕ) → is_atom N v ≡ true → N ≤ largest → (1 ≤ v) × (v ≤ largest)
atom-within N v e h = let t = (and-decides (leb-decides 1 v) (leb-decides v N)).to ((passed _).from e) in (t.0, omega (arith, t.1, h))

-- Halves that are accepted

-- a course that goes through is that of a text which is read, and its steps are accepted
course-read : (N : ℕ) (P : List Rule) (size : ℕ) (text : List ℕ) (n : ℕ) (z : State) (stored : List Stored) → course N P size text ≡ through n z stored
    → (steps_of text ≡ steps (steps_in text)) × (Steps.steps N P start (steps_in text) ≡ next z)
unfolding course_within
course-read N P size text n z stored e = by (steps_of text) e
  where
    unread : (k : ProofFault) (m : ℕ) (c : Course) → then_stopped k m c ≡ through n z stored → ⊥
    unread k m (stopped j i) e = zero_one (cc)
    unread k m (through i y b) e = zero_one (cc)

    by : (s : StepsRead) → run_read N P size 0 start [] s ≡ through n z stored
        → (s ≡ steps (elim s as (λ x. List Step) [ steps ts ↦ ts | Texts.refused ts k m ↦ ts ]))
        × (Steps.steps N P start (elim s as (λ x. List Step) [ steps ts ↦ ts | Texts.refused ts k m ↦ ts ]) ≡ next z)
    by (steps ts) e = (refl, (run-through N P size 0 n start z [] stored ts e).0)
    by (Texts.refused ts k m) e = absurd (unread k m (run_steps N P size 0 start [] ts) e)

-- the steps of a half
abbrev Runs : ℕ → List Rule → List ℕ → State → Type 0
Runs N Q text z = (steps_of text ≡ steps (steps_in text)) × (Steps.steps N Q start (steps_in text) ≡ next z)

half_runs : {N size : ℕ} (ws : List InputRule) (x : ℤ) {text : List ℕ} (l : LeftBy N (demanding_as_written ws x) size text) → Runs N (demanding (expand ws) x) text l.state
half_runs {N} {size} ws x {text} l =
    subst (λ (Q : List Rule). Runs N Q text l.state) (demanding-expanded ws x)
    (course-read N (expand (demanding_as_written ws x)) size text l.done l.state l.stored l.is)

-- names that are kept for a program with a rule more are kept for the program
kept-front : {names : List ℕ} {bodies : List ℤ} {called : List ℤ → ℕ} (ws : List InputRule) (r : InputRule) → all_plain (ws ++ (r ∷ [])) ≡ all_plain ws
    → Kept names bodies called (ws ++ (r ∷ [])) → Kept names bodies called ws
kept-front {names} {bodies} {called} ws r plain K =
    let n = length-append ws (r ∷ []) in
    record {
      rules = omega (arith, K.rules, n);
      by_rule =
          sym (take-take (length ws) (length (ws ++ (r ∷ []))) names (omega (arith, n)))
          ∙ (ap (take (length ws)) (K.by_rule ∙ map-append (λ (q : InputRule). entry called q.body) ws (r ∷ []))
          ∙ take_at (map (λ (q : InputRule). entry called q.body) ws) (map (λ (q : InputRule). entry called q.body) (r ∷ [])) (length ws)
          (length-map ws (λ (q : InputRule). entry called q.body)));
      by_name = λ e. K.by_name (plain ∙ e);
    }

module _ {table : List ℤ} {rules N v : ℕ} {first second known₁ known₂ names : List ℕ} {bodies : List ℤ}
    (h : HalvesHeld table rules N v first second known₁ known₂ names bodies) where
  abbrev P : List Rule
  P = expand h.ws

  abbrev ones : List Step
  ones = steps_in first

  abbrev twos : List Step
  twos = steps_in second

  first_runs : Runs N (demanding P (pos v)) first h.left.one.state
  first_runs = half_runs h.ws (pos v) h.left.one

  second_runs : Runs N (demanding P (neg_ℤ (pos v))) second h.left.two.state
  second_runs = half_runs h.ws (neg_ℤ (pos v)) h.left.two

  named-is : h.left.one.state.named ≡ named_in [] ones
  named-is = (well-named N (demanding P (pos v)) ones h.left.one.state first_runs.1).1.0

  pub kept-first : Kept names bodies (name_of (named_in [] ones)) h.ws
  kept-first =
      subst (λ (l : List Named). Kept names bodies (name_of l) h.ws) named-is
      (kept-front h.ws _ (demanding-plain h.ws (pos v)) h.left.tracks.kept)

  pub called-high : (L : List ℤ) → name_of (named_in [] ones) L ≤ largest
  called-high L = subst (λ (l : List Named). name_of l L ≤ largest) named-is (name-high h.left.tracks.proper L)

  pub rules-named : rules ≤ length names
  rules-named = omega (arith, kept-first.rules, rules-held h.program.holds)

  pub halves-held : Halves second table rules N known₁ known₂ names bodies h.ws v ones twos h.left.one.state h.left.two.state
  halves-held = record {
    holds = h.program.holds;
    atom = h.atom;
    read = second_runs.0;
    first = first_runs.1;
    second = second_runs.1;
    knows₁ = h.left.tracks.knows;
    knows₂ = h.left.knows;
    kept = kept-first;
  }

  -- the first half, which shares no body with one before it
  pub demanded-half : {a : Added} → AddedTo P (complement (pos v) ∷ []) a → HalfText first (pos v) (0 ∷ []) a
  demanded-half t = record {
    N = N;
    P = P;
    bodies = [];
    ts = ones;
    is = record {
      reads = first_runs.0;
      left = h.left.one.state;
      accepted = first_runs.1;
      body = t.body;
      constraint = t.constraint;
      marks = λ y i. none-marked 1 y.name;
    };
  }

  module _ {new shared : List ℕ} (n : NewNames N ones twos new shared) where
    pub forbidden-half : {a : Added} → AddedTo P (pos v ∷ []) a → HalfText second (complement (pos v)) shared a
    forbidden-half {a} t =
        let u : AddedTo P (complement (complement (pos v)) ∷ []) a = rw (complement-twice (pos v)) t in
        record {
          N = N;
          P = P;
          bodies = bodies_in ones;
          ts = twos;
          is = record {
            reads = second_runs.0;
            left = h.left.two.state;
            accepted = second_runs.1;
            body = u.body;
            constraint = u.constraint;
            marks = n.marks;
          };
        }

    -- the lines of both under the names of the array are the merged steps
    pub merged-lines : {a b : Added} (t : AddedTo P (complement (pos v) ∷ []) a) (u : AddedTo P (pos v ∷ []) b) (before after : List ℕ) (r : Option ℕ)
        → Writes (lines_of (demanded-half t) (λ u. u) ++ (lines_of (forbidden-half u) (λ u. get_or new u 0) ++ closing)) before after 0 r
        → Writes (merged_steps h.ws v first second) before after 0 r
    unfolding merged demanded-half forbidden-half
    merged-lines t u before after r w =
        rw (← h.program.top)
        (subst (λ (l : List Step). Writes (half P (pos v) (λ u. u) [] [] ones ++ (l ++ closing)) before after 0 r)
        (same_half (λ u. get_or new u 0) (second_names N ones twos) n.names P (neg_ℤ (pos v)) (bodies_in ones) second twos second_runs.0) w)

  -- a line of the second half is over its limit
  pub merged-over : (before after : List ℕ) → all_fit (half P (neg_ℤ (pos v)) (second_names N ones twos) (bodies_in ones) [] twos) ≡ false
      → Writes (merged_steps h.ws v first second) before after 0 None
  unfolding merged
  merged-over before after e =
      rw (
        ← h.program.top,
        all_append fits (half P (pos v) (λ u. u) [] [] ones) (half P (neg_ℤ (pos v)) (second_names N ones twos) (bodies_in ones) [] twos ++ closing),
        all_append fits (half P (neg_ℤ (pos v)) (second_names N ones twos) (bodies_in ones) [] twos) closing,
        e,
        Bools.and-false (all_fit (half P (pos v) (λ u. u) [] [] ones)),
      )
      refl

-- what the check of both leaves
unfoldable pub halves-kept : {table : List ℤ} {rules N size : ℕ} {ws : List InputRule} {v : ℕ} {first second known₁ known₂ names : List ℕ} {bodies : List ℤ} {r : Bool}
    → Program table rules N ws → HalvesChecked N size ws v first second known₁ known₂ names bodies r → r ≡ true
    → HalvesHeld table rules N v first second known₁ known₂ names bodies
halves-kept {size = size} {ws = ws} {v = v} p k e = record {
  ws = ws;
  size = size;
  program = p;
  atom = rw p.top (and_left (is_atom (atoms ws) v) _ (sym k.answer ∙ e));
  left = k.left e;
}

-- The text in the output

module _ (size : ℕ) (ws : List InputRule) (v : ℕ) (first second : List ℕ) (halves : are_halves size ws v first second ≡ true) where
  abbrev ms : List Step
  ms = merged_steps ws v first second

  from_start : 0 + length (text_of ms) ≡ length (text_of ms)
  from_start = omega arith

  -- 58 of an output of so many bytes
  unwritable : (o : ℕ) → (all_fit ms && leb (length (text_of ms)) longest) ≡ false → is_writable o ms ≡ false
  unwritable o e = by (all_fit ms) (leb (length (text_of ms)) longest) e
    where
      by : (a b : Bool) → (a && b) ≡ false → (a && (b && leb (length (text_of ms)) o)) ≡ false
      by true true e = absurd (true≢false e)
      by true false e = refl
      by false b e = refl

  pub text-written : (output output' : List ℕ) (w : Option ℕ) → output ≡ replicate (length output) 0 → length output' ≡ length output
      → Writes ms output output' 0 w → WrittenBy size ws v first second output' (written_in (length output') w)
  text-written output output' None z s w = inr (refl, halves, unwritable (length output') (subst (λ (n : ℕ). (all_fit ms && leb n longest) ≡ false) from_start w))
  text-written output output' (Some end) z s (p, f, l) = by (ltb (length output') end) refl
    where
      o : ℕ
      o = length output'

      by : (b : Bool) → ltb o end ≡ b → WrittenBy size ws v first second output' (cond b (Err NotWritable) (Ok end))
      by true e =
          let far : o < length (text_of ms) = omega (arith, ltb-true o end e, p.ends) in
          inr (refl, halves, and-false (all_fit ms) (and-false (leb (length (text_of ms)) longest) (above far)))
      by false e =
          let n : end ≡ length (text_of ms) = omega (arith, p.ends) in
          let k : length (text_of ms) ≤ o = omega (arith, ltb-false o end e, n) in (
            halves,
            rw (f, is_true (leb-decides (length (text_of ms)) longest) (omega (arith, n, l)), is_true (leb-decides (length (text_of ms)) o) k) refl,
            (n, p.stands ∙ (sets-eq (text_of ms) output 0 (omega (arith, k, s)) ∙ ap (λ (t : List ℕ). text_of ms ++ t) (rest n))),
          )
        where
          rest : end ≡ length (text_of ms) → drop (0 + length (text_of ms)) output ≡ replicate (o - end) 0
          rest n =
              ap₂ (λ (j : ℕ) (l : List ℕ). drop j l) from_start z
              ∙ (drop-replicate (length (text_of ms)) (length output) 0 ∙ ap₂ (λ (a b : ℕ). replicate (a - b) 0) (sym s) (sym n))
