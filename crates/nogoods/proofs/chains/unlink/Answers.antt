use mathlib.Core.Path.{◌≡◌, sym, ap, ◌∙◌}
use Prim.Native.Nat.{suc}
use native.Mathlib.Omega.{arith}
use Rattle.nogoods.specs.Index.{entry_of}
use Rattle.nogoods.proofs.chains.unlink.Goals as goal

pub returns-in-None : goal.returns-in-None
returns-in-None c = record {
  at_start = λ e. rw c.entry_after.ensures;
  at_place = λ y e. absurd (let z : 0 ≡ suc y = sym (ap entry_of c.in-None.is) ∙ e in omega arith);
}

pub returns-in-Some : goal.returns-in-Some
returns-in-Some c = record {
  at_start = λ e. absurd (let z : suc c.in-Some.y ≡ 0 = sym (ap entry_of c.in-Some.is) ∙ e in omega arith);
  at_place = λ y e.
      let z : suc c.in-Some.y ≡ suc y = sym (ap entry_of c.in-Some.is) ∙ e in
      let i : c.in-Some.y ≡ y = omega arith in rw i;
}
