-- The seven steps, with questions 22 to 33 and 56: document 01, 'The proof's seven letters' and 'Questions put to the input'.
-- Assumes nothing.
use Rattle.std.specs.Prelude.{Bool, cond, not, ◌&&◌, ◌||◌, List, [], ◌∷◌, ◌++◌, map, ℕ, ℤ, pos, neg_ℤ}
use Rattle.std.specs.Prelude.{None, Some}
use Rattle.words.specs.Lists.{any, all, filter, drop_first}
use Rattle.words.specs.Literals.{variable, complement, same_list, has, ascending}
use Rattle.text.specs.declared.Letter.{Letter}
use Rattle.text.specs.declared.Letter.TheVariants.{Addition, Body, Completion, Deletion, Extension, Loop, Support}
use Rattle.aspif.specs.Rules.{Rule, is_normal, is_empty}
use Rattle.drupe.specs.Lines.{line_refusal}
use Rattle.drupe.specs.Texts.{Step}
use Rattle.derivation.specs.Propagation.{refuted}
use Rattle.derivation.specs.Loops.{is_loop}
use Rattle.derivation.specs.States.{Named, State, is_atom, is_known, is_name, has_name}
use Rattle.drupe.specs.declared.ProofFault.TheVariants.{Malformed, WrongSigns, UnknownVariable, KnownName, NoUnnamedBody, NoCompletion, NoSupport, NoAtoms, UnnamedBody, NoConflict, NoLoop}
use Rattle.drupe.specs.declared.ProofFault.{ProofFault}

-- "A refused step ends the check", with the number of the question; otherwise the three things as the step leaves them
pub data Outcome : Type 0 where
  refused : ProofFault → Outcome
  next : State → Outcome

-- "`b` adds to all three, `e` to the nogoods and the known variables; `c`, `s`, `l` and `a` add one nogood; `d` takes at most one
-- nogood away.": `define`, `add` and `deletion`

-- the state with more live nogoods, after those there are
abbrev pub add : State → List (List ℤ) → State
add z gs = record { live = z.live ++ gs; introduced = z.introduced; named = z.named }

-- "Adds -n with L, then for each literal of L, ascending by variable, n with its complement."
abbrev pub definition : ℤ → List ℤ → List (List ℤ)
definition n L = ascending (complement n ∷ L) ∷ map (λ x. ascending (n ∷ complement x ∷ [])) (ascending L)

-- the state in which n is introduced, with its definition live
abbrev pub define : State → ℤ → List ℤ → List Named → State
define z n L named = record { live = z.live ++ definition n L; introduced = variable n ∷ z.introduced; named = named }

-- "External bodies are the different bodies of rules with a head in U and no positive atom in U." U's numbers are positive.
abbrev pub is_external : List ℤ → Rule → Bool
is_external U r = any (λ h. has h U) r.heads && not (any (λ x. has x U) r.body)

-- What asks for the atoms, 1 to N

module _ (N : ℕ) (z : State) where
  -- question 26 of a list of numbers: "Are all known, save the name introduced?"
  abbrev pub all_known : List ℤ → Bool
  all_known L = all (λ x. is_known N z (variable x)) L

  -- question 31: "are all atoms?"
  abbrev pub all_atoms : List ℤ → Bool
  all_atoms U = all (λ x. is_atom N (variable x)) U

  -- questions 26 and 27 of a step that introduces n, and those after them
  abbrev pub naming : ℤ → List ℤ → Outcome → Outcome
  naming n L o = cond (all_known L) (cond (is_known N z (variable n)) (refused KnownName) o) (refused UnknownVariable)

  -- question 26 of a step that introduces no name, and those after it
  abbrev pub citing : List ℤ → Outcome → Outcome
  citing L o = cond (all_known L) o (refused UnknownVariable)

-- What asks for the rules

module _ (P : List Rule) (z : State) where
  -- question 28: "is it an unnamed rule body?"
  abbrev pub is_unnamed_body : List ℤ → Bool
  is_unnamed_body L = any (λ r. same_list r.body (ascending L)) P && not (has_name z (ascending L))

  -- `b`: "n names the rule body whose literal set is L; constraint bodies count. Each body is named once."
  abbrev pub body : ℤ → List ℤ → Outcome
  body n L =
      cond (is_unnamed_body L) (next (define z n L (record { name = variable n; body = ascending L } ∷ z.named))) (refused NoUnnamedBody)

  -- `e`: "n is fresh. Adds the same nogoods for a free L."
  abbrev pub extension : ℤ → List ℤ → Outcome
  extension n L = next (define z n L z.named)

  -- question 29: "some normal rule has the body named n and head h, or no head". The heads given are [h] or []; "no more
  -- numbers": a normal rule has no more heads.
  abbrev pub is_completion : ℤ → List ℤ → Bool
  is_completion n hs = any (λ r. is_normal r.kind && (same_list r.heads hs && is_name z (variable n) r.body)) P

  -- `c`: "Adds n with -h, or n alone."
  abbrev pub completion : ℤ → List ℤ → Outcome
  completion n hs = cond (is_completion n hs) (next (add z (ascending (n ∷ map complement hs) ∷ []))) (refused NoCompletion)

  -- the names of the external bodies
  abbrev pub external_names : List ℤ → List ℕ
  external_names U = map (λ x. x.name) (filter (λ x. any (λ r. is_external U r && same_list x.body r.body) P) z.named)

  -- question 32: "is each external body named?"
  abbrev pub all_named : List ℤ → Bool
  all_named U = all (λ r. not (is_external U r) || has_name z r.body) P

  -- `a`: "Accepted exactly when A has a literal and its complement, or the empty nogood is live. Adds L."
  abbrev pub addition : List ℤ → Outcome
  addition L = cond (refuted z.live L) (next (add z (ascending L ∷ []))) (refused NoConflict)

  -- `d`: "removes the oldest live nogood equal to L as a set; none equal, nothing changes." "A known variable stays known after
  -- deletions."
  abbrev pub deletion : List ℤ → Outcome
  deletion L =
      next (record { live = drop_first (λ g. same_list g (ascending L)) z.live; introduced = z.introduced; named = z.named })

-- What asks for both

module _ (N : ℕ) (P : List Rule) (z : State) where
  -- question 30: "h is an atom, never a name; the n are the names of exactly the different bodies of all rules, choice included,
  -- with h in the head"
  abbrev pub is_support : ℤ → List ℤ → Bool
  is_support h ns =
      is_atom N (variable h)
      && (all (λ r. not (has h r.heads) || any (λ n. is_name z (variable n) r.body) ns) P
      && all (λ n. any (λ r. has h r.heads && is_name z (variable n) r.body) P) ns)

  -- `s`: "Adds h with every -n."
  abbrev pub support : ℤ → List ℤ → Outcome
  support h ns = cond (is_support h ns) (next (add z (ascending (h ∷ map complement ns) ∷ []))) (refused NoSupport)

  -- `l`: "a set U of atoms .. Adds the first h with minus the name of each." Change 5: "A set that is no loop is refused with 56,
  -- asked right after question 31."
  abbrev pub loop : ℤ → List ℤ → Outcome
  loop h hs =
      cond (all_atoms N z (h ∷ hs))
      (cond (is_loop P (h ∷ hs))
      (cond (all_named P z (h ∷ hs))
      (next (add z (ascending (h ∷ map (λ n. neg_ℤ (pos n)) (external_names P z (h ∷ hs))) ∷ []))) (refused UnnamedBody))
      (refused NoLoop))
      (refused NoAtoms)

  -- questions 26 to 33, by letter; the cases without a first number are those of question 24
  abbrev pub by_letter : Letter → List ℤ → Outcome
  by_letter Addition L = citing N z L (addition P z L)
  by_letter Body [] = refused WrongSigns
  by_letter Body (n ∷ L) = naming N z n L (body P z n L)
  by_letter Completion [] = refused WrongSigns
  by_letter Completion (n ∷ hs) = citing N z (n ∷ hs) (completion P z n hs)
  by_letter Deletion L = citing N z L (deletion P z L)
  by_letter Extension [] = refused WrongSigns
  by_letter Extension (n ∷ L) = naming N z n L (extension P z n L)
  by_letter Loop [] = refused WrongSigns
  by_letter Loop (h ∷ hs) = citing N z (h ∷ hs) (loop h hs)
  by_letter Support [] = refused WrongSigns
  by_letter Support (h ∷ ns) = citing N z (h ∷ ns) (support h ns)

  -- questions 22 to 33, "The first "no" decides": 22 asks of a line's numbers that none is 0
  abbrev pub step : Step → Outcome
  step t =
      cond (has (pos 0) t.numbers) (refused Malformed)
      (elim (line_refusal t.letter t.numbers) [ Some k ↦ refused k | None ↦ by_letter t.letter t.numbers ])

-- "Each step gets all three as the one before left them, and nothing else writes them."
abbrev pub steps : ℕ → List Rule → State → List Step → Outcome
steps N P z [] = next z
steps N P z (t ∷ ts) = elim (step N P z t) [ refused k ↦ refused k | next z' ↦ steps N P z' ts ]

-- "The empty nogood is looked for after the last step only"
abbrev pub empty_live : State → Bool
empty_live z = any is_empty z.live
