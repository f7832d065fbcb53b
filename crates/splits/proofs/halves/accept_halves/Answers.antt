use mathlib.Core.Path.{◌≡◌, sym, ◌∙◌, ap, subst}
use mathlib.Core.Bool.{true}
use Prim.Native.Nat.{ℕ, ◌≤◌}
use native.Mathlib.Omega.{arith}
use lib.IntN.{ℤ, pos}
use lib.ListN.{length, replicate, length-replicate}
use mir.Syntax.{w32}
use mir.Val.{to_z, of_z}
use mir.Facts.{to_z-of_z, to_z_pos}
use Rattle.words.proofs.Laws.{zeros}
use Rattle.words.specs.Limits.{largest}
use Rattle.words.specs.Literals.{complement}
use Rattle.words.proofs.Lists.{passed, and-decides, leb-decides}
use Rattle.words.proofs.Literals.{variable-complement}
use Rattle.derivation.specs.States.{is_atom}
use Rattle.names.specs.ByName.{body_words}
use Rattle.heads.specs.Heads.{name_words}
use Rattle.merging.specs.Claims.{demanding_as_written}
use Rattle.splits.specs.Halves.{HalfChecked}
use Rattle.splits.proofs.Accepting.{no-atom, no-half, halves-checked}
use borrow.Author.Rules.{sfits_of}
use Rattle.splits.proofs.halves.accept_halves.Goals as goal
use Rattle.splits.proofs.halves.accept_halves.Goals.{Else-not-is_atom, After-accepts_with, After-complement_of}

-- an atom is a literal
small : {N v : ℕ} → N ≤ largest → is_atom N v ≡ true → v ≤ largest
small {N} {v} l e = let h = (and-decides (leb-decides 1 v) (leb-decides v N)).to ((passed _).from e) in omega (arith, h.1)

literal : {N v : ℕ} → N ≤ largest → is_atom N v ≡ true → to_z w32 v ≡ pos v
literal {v = v} l e = let h = small l e in to_z_pos w32 {n = v} (omega (arith, h))

module _ (c : Else-not-is_atom) where
  pub is : is_atom c.args.atoms c.args.v ≡ true
  is = sym c.is_atom.ensures ∙ c.if-not-is_atom.false

  pub is-literal : to_z w32 c.args.v ≡ pos c.args.v
  is-literal = literal c.requires.program.0.1.high is

-- what the check of the second half left
module _ (c : After-accepts_with) where
  -- as many words as were lent
  same_store : length c.accepts_with.new.store ≡ length c.args.store.now
  same_store = c.accepts_with.auto.store

  same_names : length c.accepts_with.new.names ≡ name_words
  same_names = c.accepts_with.auto.names ∙ ap length c.requires.names ∙ length-replicate {A = ℕ} name_words 0

  same-bodies : {n : ℕ} → c.args.bodies.now ≡ replicate n (pos 0) → length c.accepts_with.new.bodies ≡ n
  same-bodies {n} b = c.accepts_with.auto.bodies ∙ ap length b ∙ length-replicate {A = ℤ} n (pos 0)

-- the atom's complement
other : (c : After-complement_of) → to_z w32 (of_z w32 c.complement_of.result) ≡ complement (pos c.args.v)
other c =
    to_z-of_z {w = w32} (sfits_of {z = c.complement_of.result} c.complement_of.type_inv) ∙ c.complement_of.ensures
    ∙ ap complement (literal c.requires.program.0.1.high (sym c.is_atom.ensures ∙ c.if-not-is_atom.false))

pub returns-then-not-is_atom : goal.returns-then-not-is_atom
returns-then-not-is_atom c =
    let q = sym c.is_atom.ensures ∙ c.if-not-is_atom.true in record { empty = c.requires.empty; checked = λ ws p. no-atom _ ws _ _ _ p.top q }

pub overflow_cast-atom : goal.overflow_cast-atom
overflow_cast-atom c = record { sfits = omega (arith, small c.requires.program.0.1.high (is c)) }

pub accepts_with-requires : goal.accepts_with-requires
accepts_with-requires c = let x = (goal.at.accepts_with-requires c).Else-not-is_atom in
    let p = c.requires in record { program = p.program; short = p.short; atom = rw (is-literal x) (is x); start = (p.marks.1, p.names); bodies = p.bodies; empty = p.empty }

pub returns-then-not-accepts_with : goal.returns-then-not-accepts_with
returns-then-not-accepts_with c = let x = (goal.at.returns-then-not-accepts_with c).Else-not-is_atom in
    let r = c.accepts_with.ensures in record { empty = r.empty; checked = λ ws p. no-half _ ws _ _ _ p.top (is x) (is-literal x) (r.checked ws p) (c.if-not-accepts_with.true) }

pub complement_of-requires : goal.complement_of-requires
complement_of-requires c = let x = (goal.at.complement_of-requires c).Else-not-is_atom in rw (is-literal x) (small c.requires.program.0.1.high (is x))

pub accepts_with-requires-2 : goal.accepts_with-requires-2
accepts_with-requires-2 c = let x = (goal.at.accepts_with-requires-2 c).Else-not-is_atom in
    let k = (goal.at.accepts_with-requires-2 c).After-complement_of in
    let a = (goal.at.accepts_with-requires-2 c).After-accepts_with in
    let p = c.requires in record { program = p.program; short = p.short; atom = rw (other k, variable-complement (pos c.args.v)) (is x); start = (p.marks.0, c.fill.ensures.after (λ y e. e) ∙ ap (λ (n : ℕ). replicate n 0) (same_names a)); bodies = λ w. c.fill-2.ensures.after (λ y e. e) ∙ ap (λ (n : ℕ). replicate n (pos 0)) (same-bodies a {n = body_words} (p.bodies w)); empty = (zeros (pos 0) {n = length c.args.store.now} a.accepts_with.ensures.empty).0 }

pub returns : goal.returns
returns c = let b = c.accepts_with-2 in
    let x = (goal.at.returns c).Else-not-is_atom in
    let k = (goal.at.returns c).After-complement_of in
    let a = (goal.at.returns c).After-accepts_with in
    let v = c.args.v in record {
      empty = b.ensures.empty ∙ ap (λ (n : ℕ). replicate n (pos 0)) (same_store a);
      checked = λ ws p.
          let Half : ℕ → Type 0 = λ n.
          HalfChecked c.args.atoms (demanding_as_written ws (complement (to_z w32 (of_z w32 k.complement_of.result)))) n c.args.first.now
          b.new.known b.new.names b.new.bodies b.result in
          halves-checked (length c.args.store.now) ws v _ _ p.top (is x) (is-literal x) (a.accepts_with.ensures.checked ws p)
          (c.if-not-accepts_with.false) (other k) (subst Half (same_store a) (b.ensures.checked ws p));
    }
