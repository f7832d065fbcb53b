-- What the functions of the steps cite, and no reader of a public contract needs: how the code holds a program and a state (known variables
-- as marks, the names of bodies by rule and by name, live nogoods in the store), and what a step leaves.
-- Assumes nothing.
use Rattle.std.specs.Prelude.{◌≡◌, ◌⊎◌, Bool, true, false, cond, Option, Some, None, List, [], ◌∷◌, map, ℕ, zero, suc, ◌≤◌, ◌<◌, T, eqb, ℤ, pos, neg_ℤ, length, replicate, take, Result, Ok, Err}
use Rattle.words.specs.Limits.{largest, entries, most_numbers}
use Rattle.words.specs.Lists.{◌∈◌}
use Rattle.words.specs.Literals.{variable, distinct, same_list}
use Rattle.aspif.specs.Rules.{InputRule, all_plain, expand, atoms}
use Rattle.marks.specs.Marks.{marked, listed}
use Rattle.text.specs.declared.Letter.{Letter}
use Rattle.drupe.specs.Lines.{signs_of, signed}
use Rattle.derivation.specs.States.{Named, State, start, is_atom, is_known}
use Rattle.derivation.specs.Steps.{Outcome, refused, next, by_letter}
use Rattle.nogoods.specs.Keeps.{Literals}
use Rattle.nogoods.specs.Index.{Keeps, BlankIndex}
use Rattle.nogoods.specs.Store.{Stored, added_in, live, kept_with, words_for}
use Rattle.names.specs.ByName.{body_words}
use Rattle.names.specs.Queries.{HoldsRules, Kept}
use Rattle.steps.specs.After.{stored_after}
use Rattle.steps.specs.declared.states.CheckingState.{CheckingState}
use Rattle.drupe.specs.declared.ProofFault.TheVariants.{UnnamedBody, StoreFull}
use Rattle.drupe.specs.declared.ProofFault.{ProofFault}

-- The program and a line

-- the table holds the rules ws, and their largest atom is N
pub record Program (table : List ℤ) (rules N : ℕ) (ws : List InputRule) : Type 0 where
  pub holds : HoldsRules table rules ws
  pub top : N ≡ atoms ws
  pub high : N ≤ largest

-- what a line's numbers are once questions 22 to 25 are passed
pub record PassedLine (x : Letter) (zs : List ℤ) : Type 0 where
  pub literals : Literals zs
  pub few : length zs ≤ most_numbers
  pub signs : signed (signs_of x) zs ≡ true

-- States

-- the name of a body, 0 where it has none
abbrev pub name_of : List Named → List ℤ → ℕ
name_of [] body = 0
name_of (x ∷ xs) body = cond (same_list x.body body) x.name (name_of xs body)

-- What holds of the names between steps: each is a variable, no atom, and was introduced; "Each body is named once"; no two names
-- are the same.
pub record Proper (N : ℕ) (introduced : List ℕ) (named : List Named) : Type 0 where
  pub low : (x : Named) → x ∈ named → 1 ≤ x.name
  pub high : (x : Named) → x ∈ named → x.name ≤ largest
  pub new : (x : Named) → x ∈ named → ¬ T (is_atom N x.name)
  pub old : (x : Named) → x ∈ named → x.name ∈ introduced
  pub once : (x y : Named) → x ∈ named → y ∈ named → x.body ≡ y.body → x.name ≡ y.name
  pub different : distinct (map (λ x. pos x.name) named) ≡ true

-- the arrays hold the known variables, and the names of bodies by rule and by name
pub record Tracks (N : ℕ) (ws : List InputRule) (known names : List ℕ) (bodies : List ℤ) (introduced : List ℕ) (named : List Named) : Type 0 where
  pub entries : length known ≡ entries
  pub knows : (v : ℕ) → v ≤ largest → marked known v ≡ is_known N (record { live = []; introduced = introduced; named = named }) v
  pub kept : Kept names bodies (name_of named) ws
  pub proper : Proper N introduced named

-- a state that the arrays hold, of the program in the table
abbrev pub Tracked : (table : List ℤ) → (rules N : ℕ) → (known names : List ℕ) → List ℤ → Type 0
Tracked table rules N known names bodies =
    (ws : List InputRule) × (z : State) × Program table rules N ws × Tracks N ws known names bodies z.introduced z.named

-- what is lent for the bodies by name at the start: 0 throughout, a record for each variable, where some rule has a weight body
abbrev pub NoBodies : List InputRule → List ℤ → Type 0
NoBodies ws bodies = all_plain ws ≡ false → bodies ≡ replicate body_words (pos 0)

-- Steps

-- question 34: a full store is refused
abbrev pub fitted : Option ℕ → Result ℕ ProofFault
fitted (Some n) = Ok n
fitted None = Err StoreFull

-- the store holds what is stored, or it does not fit: "Do the live words after the step fit the store? 34."
abbrev pub Fitted : List Stored → List ℤ → List ℕ → Result ℕ ProofFault → Type 0
Fitted stored store index (Ok n) = Keeps store index n stored
Fitted stored store index (Err k) = (k ≡ StoreFull) × (length store < words_for (live stored))

-- store and index keep what is stored in the store's first `used` words, and what is live of it are the state's nogoods
pub record HoldsState (store : List ℤ) (index : List ℕ) (used : ℕ) (z : State) (stored : List Stored) : Type 0 where
  pub keeps : Keeps store index used stored
  pub same : live stored ≡ z.live

-- "It starts empty": nothing is read, no step is done, and of a store of zeros and a blank index it says that they hold the state at the start
pub record Starts (c : CheckingState) : Type 0 where
  pub at : c.at ≡ 0
  pub steps : c.steps ≡ 0
  pub holds : (store : List ℤ) (index : List ℕ) → store ≡ replicate (length store) (pos 0) → BlankIndex index → HoldsState store index c.used start []

-- what a step leaves, by what it comes to: the number of the question, or arrays and store that hold the next state, with what is
-- `after` it in the store
abbrev pub Leaves : ℕ → List InputRule → (after : State → List Stored) → List ℕ → List ℕ → List ℤ → List ℤ → List ℕ
    → Outcome → Result ℕ ProofFault → Type 0
Leaves N ws after known names bodies store index (refused k) r = r ≡ Err k
Leaves N ws after known names bodies store index (next z) r =
    Fitted (after z) store index r × Tracks N ws known names bodies z.introduced z.named

-- the contract of a letter's function: what step n leaves, of whatever state the arrays and the store held before
abbrev pub Stepping : ℕ → List InputRule → Letter → List ℤ → (used n : ℕ)
    → List ℕ → List ℕ → List ℤ → List ℤ → List ℕ → List ℕ → List ℕ → List ℤ → List ℤ → List ℕ → Result ℕ ProofFault → Type 0
Stepping N ws x zs used n known names bodies store index known' names' bodies' store' index' r =
    (z : State) (stored : List Stored) → Tracks N ws known names bodies z.introduced z.named → HoldsState store index used z stored
    → Leaves N ws (stored_after n (length store) x zs stored) known' names' bodies' store' index' (by_letter N (expand ws) z x zs) r

-- the nogood of an `l` step, ascending: of n numbers from v on, h itself and minus each one that passes
abbrev pub gathered : (ℕ → Bool) → ℤ → ℕ → ℕ → List ℤ
gathered f h zero v = []
gathered f h (suc n) v =
    cond (eqb v (variable h)) (h ∷ gathered f h n (suc v)) (cond (f v) (neg_ℤ (pos v) ∷ gathered f h n (suc v)) (gathered f h n (suc v)))

-- the names of bodies are kept, and are above the first atom of an `l` step: they are no atoms
pub record Above (table : List ℤ) (rules : ℕ) (names : List ℕ) (bodies : List ℤ) (h : ℤ) (ws : List InputRule) (called : List ℤ → ℕ) : Type 0 where
  pub holds : HoldsRules table rules ws
  pub kept : Kept names bodies called ws
  pub above : (L : List ℤ) → ¬ (called L ≡ 0) → variable h < called L

-- the nogood of an `l` step, in the first n words of a row, where l are the names of the external bodies; or some body has none
abbrev pub LoopNogood : List ℕ → ℤ → List ℤ → Option ℕ → Type 0
LoopNogood l h row (Some n) = (n ≤ largest) × (take n row ≡ gathered (listed l) h largest 1) × (listed l 0 ≡ false) × (n ≤ length row)
LoopNogood l h row None = listed l 0 ≡ true

-- what an `l` step comes to that adds to what is stored: question 32, or this nogood
abbrev pub LoopAdded : List ℕ → ℤ → (size n : ℕ) → List Stored → List ℤ → List ℕ → Result ℕ ProofFault → Type 0
LoopAdded l h size n stored store index r =
    ((listed l 0 ≡ true) × (r ≡ Err UnnamedBody))
    ⊎ ((listed l 0 ≡ false) × Fitted (kept_with size (added_in n (gathered (listed l) h largest 1 ∷ [])) stored) store index r)
