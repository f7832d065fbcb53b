-- `complete` at work: what it finds is computed. Assumes nothing.
use mathlib.Core.Path.{refl}
use mathlib.Core.List.Memᴰ
use mathlib.Core.List.{List, ◌++◌}
use Prim.Native.Nat.{ℕ}
use native.Mathlib.Omega.{arith}
use lib.ListN.{drop}
use Rattle.words.specs.Literals.{insert, insert_all}
use Rattle.words.proofs.Lists.{answered, each-cons}
use Rattle.words.proofs.Literals.{same-variable}
use Rattle.text.specs.Decimals.{decimals, decimal, number_bytes, spaced}
use Rattle.drupe.specs.Texts.{step_text, text_of}
use Rattle.aspif.specs.Rules.{Rule}
use Rattle.completeness.specs.Claims.{WellFormed}
use Rattle.completeness.specs.Examples.{one, five, six, seven, Worked}
use Rattle.completeness.proofs.Complete.{complete}

one-formed : WellFormed 1 one
one-formed = record {
  heads = each-cons (each-cons (tt, omega arith) (λ h i. elim i [ ])) (λ r i. elim i [ ]);
  single = each-cons (λ _. omega arith) (λ r i. elim i [ ]);
  literals = each-cons (each-cons (omega arith, omega arith) (λ x i. elim i [ ])) (λ r i. elim i [ ]);
  bodies = each-cons refl (λ r i. elim i [ ]);
}

five-formed : WellFormed 2 five
five-formed = record {
  heads =
      each-cons (each-cons (tt, omega arith) (λ h i. elim i [ ]))
      (each-cons (each-cons (tt, omega arith) (λ h i. elim i [ ])) (each-cons (λ h i. elim i [ ]) (λ r i. elim i [ ])));
  single = each-cons (λ _. omega arith) (each-cons (λ _. omega arith) (each-cons (λ _. omega arith) (λ r i. elim i [ ])));
  literals =
      each-cons (each-cons (omega arith, omega arith) (λ x i. elim i [ ]))
      (each-cons (each-cons (omega arith, omega arith) (λ x i. elim i [ ]))
      (each-cons (each-cons (omega arith, omega arith) (λ x i. elim i [ ])) (λ r i. elim i [ ])));
  bodies = each-cons refl (each-cons refl (each-cons refl (λ r i. elim i [ ])));
}

-- the first rules of a program that is well formed
first-formed : (N : ℕ) (P Q : List Rule) → WellFormed N (P ++ Q) → WellFormed N P
first-formed N P Q wf = record {
  heads = λ r m. wf.heads r (Memᴰ.append_left Q m);
  single = λ r m. wf.single r (Memᴰ.append_left Q m);
  literals = λ r m. wf.literals r (Memᴰ.append_left Q m);
  bodies = λ r m. wf.bodies r (Memᴰ.append_left Q m);
}

six-formed : WellFormed 2 six
six-formed = first-formed 2 six (drop 2 five) five-formed

seven-formed : WellFormed 1 seven
seven-formed = record {
  heads = each-cons (each-cons (tt, omega arith) (λ h i. elim i [ ])) (λ r i. elim i [ ]);
  single = each-cons (λ _. omega arith) (λ r i. elim i [ ]);
  literals = each-cons (λ x i. elim i [ ]) (λ r i. elim i [ ]);
  bodies = each-cons refl (λ r i. elim i [ ]);
}

pub worked : Worked complete
unfolding answered each-cons same-variable insert insert_all decimal decimals number_bytes spaced step_text text_of
worked = record {
  one_formed = one-formed;
  one_found = refl;
  five_formed = five-formed;
  five_found = refl;
  six_formed = six-formed;
  six_found = refl;
  seven_formed = seven-formed;
  seven_found = refl;
}
