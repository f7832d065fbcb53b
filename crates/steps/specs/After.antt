-- What is stored after a step: document 02, Changes 7 and 8.
-- Assumes nothing.
use Rattle.std.specs.Prelude.{List, ℕ, ℤ, length, drop}
use Rattle.words.specs.Literals.{ascending}
use Rattle.text.specs.declared.Letter.{Letter}
use Rattle.text.specs.declared.Letter.TheVariants.{Addition, Body, Completion, Deletion, Extension, Loop, Support}
use Rattle.derivation.specs.States.{State}
use Rattle.nogoods.specs.Store.{Stored, added_in, live, killed, kept_with}

-- the nogoods that step n added to those of the state that it left, with its number
abbrev pub new_in : (n : ℕ) → (before : List Stored) → State → List Stored
new_in n before z = added_in n (drop (length (live before)) z.live)

module _ (n size : ℕ) where
  -- what was stored before step n, and after it the nogoods that it added. "The store is closed up, live nogoods in their order and
  -- 0 after them, only before a step that would not fit otherwise."
  abbrev pub with_added : (before : List Stored) → State → List Stored
  with_added before z = kept_with size (new_in n before z) before

  -- what is stored after step n, by its letter and numbers and the state that it left: "A deletion now only marks its nogood dead",
  -- "the oldest equal set, whatever its origin", of those that are live
  abbrev pub stored_after : Letter → List ℤ → (before : List Stored) → State → List Stored
  stored_after Addition zs before z = with_added before z
  stored_after Body zs before z = with_added before z
  stored_after Completion zs before z = with_added before z
  stored_after Deletion zs before z = killed (ascending zs) before
  stored_after Extension zs before z = with_added before z
  stored_after Loop zs before z = with_added before z
  stored_after Support zs before z = with_added before z
