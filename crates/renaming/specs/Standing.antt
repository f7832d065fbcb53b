-- What stands of one half's lines, as `write_half` judges them: by what it is told of the added constraint's body, the marks of shared names,
-- and the name that the half gave to that body so far. proofs/Agrees.antt joins it to `half` of crate merging.
-- Assumes nothing.
use Rattle.std.specs.Prelude.{◌≡◌, Bool, true, false, cond, not, ◌&&◌, List, [], ◌∷◌, ◌++◌, map, ℕ, Option, Some, None, eqb, ℤ, pos, length, get_or}
use Rattle.words.specs.Lists.{◌∈◌, any}
use Rattle.words.specs.Literals.{variable, complement, same_list}
use Rattle.marks.specs.Marks.{marked}
use Rattle.text.specs.declared.Letter.{Letter}
use Rattle.text.specs.declared.Letter.TheVariants.{Addition, Body, Completion, Deletion, Extension, Loop, Support}
use Rattle.aspif.specs.Rules.{Rule, is_normal}
use Rattle.drupe.specs.Lines.{LineAt, end, refused, line}
use Rattle.drupe.specs.Texts.{Step, steps_of}
use Rattle.drupe.specs.Texts as Texts
use Rattle.derivation.specs.States.{Named, State, start}
use Rattle.derivation.specs.Steps.{next, steps}
use Rattle.merging.specs.Merge.{demanding, renamed, named_in, is_body, is_among, addition, one}
use Rattle.renaming.specs.Writing.{Writes}
use Rattle.renaming.specs.declared.lines.HalfLine.{HalfLine}

-- a normal rule without heads has the body
abbrev pub is_constraint : List Rule → List ℤ → Bool
is_constraint P L = any (λ r. is_normal r.kind && (same_list r.heads [] && same_list r.body L)) P

-- The text is that of steps which are accepted for the program with the constraint that demands x; two answers about that constraint's
-- body; and the marks are of the half's names of the bodies given.
pub record HalfOf (text : List ℕ) (x : ℤ) (shared : List ℕ) (has_body has_constraint : Bool) (N : ℕ) (P : List Rule) (bodies : List (List ℤ))
    (ts : List Step) : Type 0 where
  pub reads : steps_of text ≡ Texts.steps ts
  pub left : State
  pub accepted : steps N (demanding P x) start ts ≡ next left
  pub body : has_body ≡ is_body P (complement x ∷ [])
  pub constraint : has_constraint ≡ is_constraint P (complement x ∷ [])
  pub marks : (y : Named) → y ∈ named_in [] ts → marked shared y.name ≡ is_among bodies y.body

-- an `a` line
abbrev pub is_a : Letter → Bool
is_a Addition = true
is_a Body = false
is_a Completion = false
is_a Deletion = false
is_a Extension = false
is_a Loop = false
is_a Support = false

-- a `b` line
abbrev pub is_b : Letter → Bool
is_b Addition = false
is_b Body = true
is_b Completion = false
is_b Deletion = false
is_b Extension = false
is_b Loop = false
is_b Support = false

-- the variable that a line begins with
abbrev pub first_name : List ℤ → ℕ
first_name zs = variable (get_or zs 0 (pos 0))

-- a `b` line of the body of the constraint that demands x, which is the complement of x alone
abbrev pub names_added : ℤ → Letter → List ℤ → Bool
names_added x c zs = is_b c && same_list zs (get_or zs 0 (pos 0) ∷ complement x ∷ [])

-- the name of that body after a line
abbrev pub name_after : ℤ → ℕ → Letter → List ℤ → ℕ
name_after x name c zs = cond (names_added x c zs) (first_name zs) name

module _ (shared : List ℕ) (has_constraint : Bool) (name : ℕ) where
  -- a line that goes: a `b` line of a shared body, the `c` line that only the added constraint allows, and a `d` line
  abbrev pub is_gone : Letter → List ℤ → Bool
  is_gone Addition zs = false
  is_gone Body zs = marked shared (first_name zs)
  is_gone Completion zs = eqb (length zs) 1 && (eqb (first_name zs) name && not has_constraint)
  is_gone Deletion zs = true
  is_gone Extension zs = false
  is_gone Loop zs = false
  is_gone Support zs = false

module _ (x : ℤ) (f : ℕ → ℕ) (shared : List ℕ) (has_body has_constraint : Bool) where
  -- what stands of a line, where the added constraint's body has the name given, or has none and it is 0
  abbrev pub standing : ℕ → Letter → List ℤ → List Step
  standing name c zs =
      cond (is_gone shared has_constraint name c zs) []
      (cond (is_a c) (addition x (map (renamed f) zs)) (one (cond (names_added x c zs && not has_body) Extension c) (map (renamed f) zs)))

  -- of all lines
  abbrev pub all_standing : ℕ → List Step → List Step
  all_standing name [] = []
  all_standing name (t ∷ ts) = standing name t.letter t.numbers ++ all_standing (name_after x name t.letter t.numbers) ts

  -- what a turn of the walk leaves of what stands at its position in the text
  module _ (name : ℕ) (before after : List ℕ) (at : ℕ) where
    abbrev pub Turned : LineAt → Option (Option HalfLine) → Type 0
    Turned end None = ⊥
    Turned end (Some None) = after ≡ before
    Turned end (Some (Some t)) = ⊥
    Turned (refused k) None = ⊥
    Turned (refused k) (Some None) = Unit {0}
    Turned (refused k) (Some (Some t)) = ⊥
    Turned (line c zs to) None = Writes (standing name c zs) before after at None
    Turned (line c zs to) (Some None) = ⊥
    Turned (line c zs to) (Some (Some t)) =
        (t.next ≡ to) × (t.name ≡ name_after x name c zs) × Writes (standing name c zs) before after at (Some t.end)
