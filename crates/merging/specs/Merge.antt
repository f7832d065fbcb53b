-- The merge of two proofs over lists of steps: document 02, Change 9. The program is its plain rules, with N beside them.
-- Assumes nothing.
use Rattle.std.specs.Prelude.{Bool, cond, not, ◌||◌, List, [], ◌∷◌, ◌++◌, map, ℕ, zero, suc, ◌+◌, eqb, ltb, ℤ, pos, negsuc, neg_ℤ, length}
use Rattle.words.specs.Limits.{most_numbers}
use Rattle.words.specs.Lists.{any, all}
use Rattle.words.specs.Literals.{variable, complement, same_list, has, ascending}
use Rattle.text.specs.Line.{any_outside}
use Rattle.text.specs.declared.Letter.{Letter}
use Rattle.text.specs.declared.Letter.TheVariants.{Addition, Body, Completion, Deletion, Extension, Loop, Support}
use Rattle.aspif.specs.Rules.{Rule}
use Rattle.aspif.specs.declared.Kind.TheVariants.{Normal}
use Rattle.drupe.specs.Texts.{Step}
use Rattle.derivation.specs.States.{Named}
use Rattle.derivation.specs.Steps.{is_completion}

-- Added constraints

-- "a constraint added that demands the atom", "a constraint that forbids it": the body is the complement of the literal that is
-- demanded, which is `pos v` in the first half and `neg_ℤ (pos v)` in the second
abbrev pub demand : ℤ → Rule
demand x = record { kind = Normal; heads = []; body = complement x ∷ [] }

-- the program with the constraint added
abbrev pub demanding : List Rule → ℤ → List Rule
demanding P x = P ++ (demand x ∷ [])

-- Names

-- a literal under new names
abbrev pub renamed : (ℕ → ℕ) → ℤ → ℤ
renamed f (pos n) = pos (f n)
renamed f (negsuc n) = neg_ℤ (pos (f (suc n)))

-- the bodies that a proof names, with their names
abbrev pub named_by : Step → List Named → List Named
named_by t named = elim t.letter [
  | Body ↦ elim t.numbers [ [] ↦ named | n ∷ L ↦ record { name = variable n; body = ascending L } ∷ named ]
  | Addition ↦ named
  | Completion ↦ named
  | Deletion ↦ named
  | Extension ↦ named
  | Loop ↦ named
  | Support ↦ named
]

abbrev pub named_in : List Named → List Step → List Named
named_in named [] = named
named_in named (t ∷ ts) = named_in (named_by t named) ts

-- the names that a proof introduces
abbrev pub introduced_by : Step → List ℕ → List ℕ
introduced_by t names = elim t.letter [
  | Body ↦ elim t.numbers [ [] ↦ names | n ∷ L ↦ variable n ∷ names ]
  | Extension ↦ elim t.numbers [ [] ↦ names | n ∷ L ↦ variable n ∷ names ]
  | Addition ↦ names
  | Completion ↦ names
  | Deletion ↦ names
  | Loop ↦ names
  | Support ↦ names
]

abbrev pub introduced_in : List ℕ → List Step → List ℕ
introduced_in names [] = names
introduced_in names (t ∷ ts) = introduced_in (introduced_by t names) ts

-- "the lowest number" from n on that is not in the list; as many turns as the list has numbers are enough
abbrev pub lowest : (turns n : ℕ) → List ℕ → ℕ
lowest zero n l = n
lowest (suc turns) n l = cond (any (eqb n) l) (lowest turns (suc n) l) n

-- a name and its new name
pub record Renamed : Type 0 where
  pub old : ℕ
  pub new : ℕ

abbrev pub new_name : List Renamed → ℕ → ℕ
new_name [] v = v
new_name (p ∷ ps) v = cond (eqb v p.old) p.new (new_name ps v)

-- The new names of the second half, as pairs. `named` and `introduced` are the first half's, `used` are the names that either half
-- introduces, and `done` are the pairs so far.
module _ (N : ℕ) (named : List Named) (introduced used : List ℕ) where
  -- "the lowest number above N that neither half uses and that was not given out yet"
  abbrev pub free : List Renamed → ℕ
  free done = lowest (length (used ++ map (λ p. p.new) done)) (N + 1) (used ++ map (λ p. p.new) done)

  -- "Any other name of the second half that the first half introduces becomes .. the lowest number"
  abbrev pub other_name : ℕ → List Renamed → List Renamed
  other_name n done = cond (any (eqb n) introduced) (record { old = n; new = free done } ∷ done) done

  -- "A body that both halves name keeps the first half's name"
  abbrev pub body_name : List Named → ℕ → List ℤ → List Renamed → List Renamed
  body_name [] n L done = other_name n done
  body_name (y ∷ ys) n L done = cond (same_list y.body L) (record { old = n; new = y.name } ∷ done) (body_name ys n L done)

  abbrev pub renamed_by : Step → List Renamed → List Renamed
  renamed_by t done = elim t.letter [
    | Body ↦ elim t.numbers [ [] ↦ done | n ∷ L ↦ body_name named (variable n) (ascending L) done ]
    | Extension ↦ elim t.numbers [ [] ↦ done | n ∷ L ↦ other_name (variable n) done ]
    | Addition ↦ done
    | Completion ↦ done
    | Deletion ↦ done
    | Loop ↦ done
    | Support ↦ done
  ]

  -- "in order of introduction"
  abbrev pub renaming : List Renamed → List Step → List Renamed
  renaming done [] = done
  renaming done (t ∷ ts) = renaming (renamed_by t done) ts

-- The lines of one half

abbrev pub one : Letter → List ℤ → List Step
one c zs = record { letter = c; numbers = zs } ∷ []

-- "Each `a` line that lacks the half's literal is widened by it at the end: the atom in the first half, its complement in the second."
abbrev pub widened : ℤ → List ℤ → List ℤ
widened x L = cond (has x L) L (L ++ (x ∷ []))

-- "A line that would hold the split atom both ways is skipped."
abbrev pub addition : ℤ → List ℤ → List Step
addition x L = cond (has (complement x) L) [] (one Addition (widened x L))

-- a rule has the body
abbrev pub is_body : List Rule → List ℤ → Bool
is_body P L = any (λ r. same_list r.body L) P

-- the body is one of those
abbrev pub is_among : List (List ℤ) → List ℤ → Bool
is_among shared L = any (λ k. same_list k L) shared

module _ (P : List Rule) (f : ℕ → ℕ) where
  -- "A body that both halves name .. loses its second `b` line"; "A half's constraint body that the program lacks is defined by `e`."
  abbrev pub body : List (List ℤ) → ℤ → List ℤ → List Step
  body shared n L =
      cond (is_among shared (ascending L)) [] (one (cond (is_body P (ascending L)) Body Extension) (map (renamed f) (n ∷ L)))

  -- "Left out are .. each `c` line that only the added constraint allowed": what stays is allowed by the program's own rules.
  -- `named` are the bodies that the half's lines so far name.
  abbrev pub completion : List Named → ℤ → List ℤ → List Step
  completion named n hs =
      cond (is_completion P (record { live = []; introduced = []; named = named }) n hs) (one Completion (map (renamed f) (n ∷ hs))) []

-- The half whose literal is x, under the new names f. `shared` are the bodies that the other half named before it.
module _ (P : List Rule) (x : ℤ) (f : ℕ → ℕ) (shared : List (List ℤ)) where
  -- what stands of a line; "Left out are both proofs' deletions"
  abbrev pub kept : List Named → Letter → List ℤ → List Step
  kept named Addition L = addition x (map (renamed f) L)
  kept named Body [] = []
  kept named Body (n ∷ L) = body P f shared n L
  kept named Completion [] = []
  kept named Completion (n ∷ hs) = completion P f named n hs
  kept named Deletion L = []
  kept named Extension zs = one Extension (map (renamed f) zs)
  kept named Loop zs = one Loop (map (renamed f) zs)
  kept named Support zs = one Support (map (renamed f) zs)

  abbrev pub half : List Named → List Step → List Step
  half named [] = []
  half named (t ∷ ts) = kept named t.letter t.numbers ++ half (named_by t named) ts

-- The merge

-- the new names of the second half's names
abbrev pub second_names : ℕ → (first second : List Step) → ℕ → ℕ
second_names N first second =
    new_name (renaming N (named_in [] first) (introduced_in [] first) (introduced_in [] first ++ introduced_in [] second) [] second)

-- "The first half's lines come before the second's."; "A closing `a 0` ends it."
unfoldable pub merged : ℕ → List Rule → ℕ → (first second : List Step) → List Step
merged N P v first second =
    half P (pos v) (λ n. n) [] [] first
    ++ (half P (neg_ℤ (pos v)) (second_names N first second) (map (λ y. y.body) (named_in [] first)) [] second
    ++ one Addition [])

-- "a line or name over its limit": question 23 of a line
abbrev pub fits : Step → Bool
fits t = not (any_outside t.numbers || ltb most_numbers (length t.numbers))

abbrev pub all_fit : List Step → Bool
all_fit ts = all fits ts
