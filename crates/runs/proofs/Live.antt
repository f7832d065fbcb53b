-- One step: what is stored after it is what is live after it, where the same held before.
-- Assumes nothing.
use mathlib.Core.Path.{◌≡◌, ◌∙◌, ap, ap₂, subst}
use mathlib.Core.Bool.{Bool, cond}
use Rattle.std.specs.Prelude.{Option, None, Some}
use mathlib.Core.List.{List, [], ◌∷◌, ◌++◌, map}
use Prim.Native.Nat.{ℕ}
use lib.IntN.{ℤ, pos, neg_ℤ}
use lib.ListN.{length}
use Rattle.words.proofs.Lists.{by-test}
use Rattle.words.specs.Lists.{drop_first}
use Rattle.words.specs.Literals.{variable, complement, same_list, has, ascending}
use Rattle.text.specs.declared.Letter.{Letter}
use Rattle.text.specs.declared.Letter.TheVariants.{Addition, Body, Completion, Deletion, Extension, Loop, Support}
use Rattle.aspif.specs.Rules.{Rule}
use Rattle.drupe.specs.Lines.{line_refusal}
use Rattle.drupe.specs.Texts.{Step}
use Rattle.derivation.specs.States.{State, is_known}
use Rattle.derivation.specs.Loops.{is_loop}
use Rattle.derivation.specs.Propagation.{refuted}
use Rattle.derivation.specs.Steps.{Outcome, next, add, define, definition, external_names, by_letter, step}
use Rattle.derivation.specs.Steps.{all_known, all_atoms, all_named, naming, citing, is_unnamed_body, is_completion, is_support}
use Rattle.derivation.specs.Steps.{addition, body, completion, deletion, extension, loop, support}
use Rattle.derivation.specs.Steps as Steps
use Rattle.nogoods.specs.Store.{Stored, added_in, live, killed, kept_for, kept_with, words_of}
use Rattle.nogoods.proofs.Live.{live-append, live-added, live-kept, live-killed}
use Rattle.steps.specs.After.{with_added, stored_after}
use Rattle.steps.proofs.Kept.{new-only}
use Rattle.drupe.specs.declared.ProofFault.TheVariants.{Malformed, UnknownVariable, KnownName, NoUnnamedBody, NoCompletion, NoSupport, NoAtoms, UnnamedBody, NoConflict, NoLoop}
use Rattle.drupe.specs.declared.ProofFault.{ProofFault}

module _ (N : ℕ) (P : List Rule) (n size : ℕ) (z : State) (b : List Stored) (same : live b ≡ z.live) where
  -- what is stored after a step is what is live after it
  abbrev Same : Letter → List ℤ → Outcome → Type 0
  Same x zs (Steps.refused k) = Unit
  Same x zs (next z') = live (stored_after n size x zs b z') ≡ z'.live

  more : (gs : List (List ℤ)) → live (with_added n size b (add z gs)) ≡ z.live ++ gs
  more gs =
      let new = added_in n gs in
      let old = kept_for size (length (words_of new)) b in
      ap (λ (hs : List (List ℤ)). live (kept_with size (added_in n hs) b)) (new-only b z.live gs same) ∙ live-append old new
      ∙ ap₂ (λ k l. k ++ l) (live-kept size (length (words_of new)) b ∙ same) (live-added n gs)

  less : (L : List ℤ) → live (killed L b) ≡ drop_first (λ g. same_list g L) z.live
  less L = live-killed L b ∙ ap (drop_first (λ g. same_list g L)) same

  -- questions that are asked before the step o: one, that of a step that introduces no name, and those of one that does
  asks : (x : Letter) (zs : List ℤ) (t : Bool) (o : Outcome) (k : ProofFault) → Same x zs o → Same x zs (cond t o (Steps.refused k))
  asks x zs t o k h = by-test (Same x zs) t {x = o} {y = Steps.refused k} (λ q. h) (λ q. tt)

  cites : (x : Letter) (zs : List ℤ) (o : Outcome) → Same x zs o → Same x zs (citing N z zs o)
  cites x zs o h = asks x zs (all_known N z zs) o UnknownVariable h

  introduces : (x : Letter) (m : ℤ) (L : List ℤ) (o : Outcome) → Same x (m ∷ L) o → Same x (m ∷ L) (naming N z m L o)
  introduces x m L o h =
      asks x (m ∷ L) (all_known N z L) (cond (is_known N z (variable m)) (Steps.refused KnownName) o) UnknownVariable
      (by-test (Same x (m ∷ L)) (is_known N z (variable m)) {x = Steps.refused KnownName} {y = o} (λ q. tt) (λ q. h))

  -- the nogood of an `l` step
  abbrev unfounded : List ℤ → ℤ → List ℤ
  unfounded U h = ascending (h ∷ map (λ m. neg_ℤ (pos m)) (external_names P z U))

  loop-same : (h : ℤ) (hs : List ℤ) → Same Loop (h ∷ hs) (loop N P z h hs)
  loop-same h hs =
      let U = h ∷ hs in
      let last = next (add z (unfounded U h ∷ [])) in
      let named = cond (all_named P z U) last (Steps.refused UnnamedBody) in
      asks Loop U (all_atoms N z U) (cond (is_loop P U) named (Steps.refused NoLoop)) NoAtoms
      (asks Loop U (is_loop P U) named NoLoop (asks Loop U (all_named P z U) last UnnamedBody (more (unfounded U h ∷ []))))

  letter-same : (x : Letter) (zs : List ℤ) → Same x zs (by_letter N P z x zs)
  letter-same Addition L =
      let gs = ascending L ∷ [] in
      cites Addition L (addition P z L) (asks Addition L (refuted z.live L) (next (add z gs)) NoConflict (more gs))
  letter-same Body [] = tt
  letter-same Body (m ∷ L) =
      let to = next (define z m L (record { name = variable m; body = ascending L } ∷ z.named)) in
      introduces Body m L (body P z m L) (asks Body (m ∷ L) (is_unnamed_body P z L) to NoUnnamedBody (more (definition m L)))
  letter-same Completion [] = tt
  letter-same Completion (m ∷ hs) =
      let gs = ascending (m ∷ map complement hs) ∷ [] in
      cites Completion (m ∷ hs) (completion P z m hs)
      (asks Completion (m ∷ hs) (is_completion P z m hs) (next (add z gs)) NoCompletion (more gs))
  letter-same Deletion L = cites Deletion L (deletion P z L) (less (ascending L))
  letter-same Extension [] = tt
  letter-same Extension (m ∷ L) = introduces Extension m L (extension P z m L) (more (definition m L))
  letter-same Loop [] = tt
  letter-same Loop (h ∷ hs) = cites Loop (h ∷ hs) (loop N P z h hs) (loop-same h hs)
  letter-same Support [] = tt
  letter-same Support (h ∷ ns) =
      let gs = ascending (h ∷ map complement ns) ∷ [] in
      cites Support (h ∷ ns) (support N P z h ns) (asks Support (h ∷ ns) (is_support N P z h ns) (next (add z gs)) NoSupport (more gs))

  step_same : (t : Step) → Same t.letter t.numbers (step N P z t)
  step_same t =
      let r = line_refusal t.letter t.numbers in
      by-test (Same t.letter t.numbers) (has (pos 0) t.numbers) {x = Steps.refused Malformed} {y = after r} (λ q. tt) (λ q. by r)
    where
      after : Option ProofFault → Outcome
      after o = elim o as (λ x. Outcome) [ Some k ↦ Steps.refused k | None ↦ by_letter N P z t.letter t.numbers ]

      by : (o : Option ProofFault) → Same t.letter t.numbers (after o)
      by (Some k) = tt
      by None = letter-same t.letter t.numbers

  pub step-live : (t : Step) (z' : State) → step N P z t ≡ next z' → live (stored_after n size t.letter t.numbers b z') ≡ z'.live
  step-live t z' e = subst (Same t.letter t.numbers) e (step_same t)
