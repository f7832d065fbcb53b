use mathlib.Core.Path.{◌≡◌, sym, ◌∙◌, ap, subst}
use mathlib.Core.Bool.{true}
use mathlib.Core.List.{List, ◌++◌}
use Prim.Native.Nat.{ℕ, ◌-◌, ◌≤◌}
use native.Mathlib.Omega.{arith}
use borrow.Rule.Slice.PartMut.{put_mid}
use lib.IntN.{pos}
use Rattle.words.proofs.Parts.{tail-filled}
use lib.ListN.{length, take, replicate}
use lib.Seq.{length-take-le}
use Rattle.words.proofs.Laws.{zeros}
use Rattle.words.specs.Limits.{longest}
use Rattle.aspif.specs.Rules.{InputRule}
use Rattle.aspif.specs.Reading.{program}
use Rattle.drupe.proofs.Texts.{steps-exact}
use Rattle.runs.specs.Course.{is_accepted}
use Rattle.checker.specs.Check.{judged_reading}
use Rattle.steps.specs.Held.{Program}
use Rattle.checker.proofs.Whole.{accepted-steps}
use Rattle.trimming.specs.Service.{trimmed_steps}
use Rattle.trimming.specs.Passing.{Reads}
use Rattle.std.specs.Prelude.{Ok}
use Rattle.trimming.proofs.Answers.{front_kept, not-accepted, written}
use Rattle.trimming.proofs.trim_read.Goals as goal
use Rattle.trimming.proofs.trim_read.Goals.{Else-not-is_accepted, After-passes-n, After-zero_all-2}

pub returns-then-not-is_accepted : goal.returns-then-not-is_accepted
returns-then-not-is_accepted c =
    λ ws p w. not-accepted (length c.args.table.now) (length c.args.store.now) c.args.text.now ws
    (sym (c.is_accepted.ensures.accepted ws p) ∙ c.if-not-is_accepted.true) c.zero_all.ensures c.is_accepted.ensures.empty

-- the proof is accepted
module _ (c : Else-not-is_accepted) where
  is-good : (ws : List InputRule) → Program c.args.table.now c.args.rules c.args.atoms ws
      → is_accepted (length c.args.store.now) ws c.args.text.now ≡ true
  is-good ws p = sym (c.is_accepted.ensures.accepted ws p) ∙ c.if-not-is_accepted.false

  short : length c.args.text.now ≤ longest
  short =
      let q = c.requires.program.0 in
      let x = accepted-steps (length c.args.store.now) q.0 c.args.text.now (is-good q.0 q.1) in
      ((steps-exact longest c.args.text.now x.0).0 x.1).1

pub passes-n-requires : goal.passes-n-requires
passes-n-requires c = record {
  short = short (goal.at.passes-n-requires c).Else-not-is_accepted;
  program = c.requires.program;
  empty = (zeros (pos 0) {n = length c.args.store.now} c.is_accepted.ensures.empty).0;
}

-- the passes
module _ (c : After-passes-n) where
  abbrev n : ℕ
  n = c.passes-n.result

  abbrev text' : List ℕ
  text' = c.passes-n.new.text

  same_text : length text' ≡ length c.args.text.now
  same_text = c.passes-n.auto.text

  within : n ≤ length text'
  within = omega (arith, c.passes-n.ensures.within, same_text)

-- what is behind the text is zero
abbrev behind-zero : (n : ℕ) (text bytes : List ℕ) → List ℕ
behind-zero n text bytes = put_mid n (length text - n) text bytes

behind : (c : After-zero_all-2) → behind-zero c.passes-n.result c.passes-n.new.text c.zero_all-2.new.items
    ≡ take c.passes-n.result c.passes-n.new.text ++ replicate (length c.passes-n.new.text - c.passes-n.result) 0
behind c = tail-filled c.passes-n.result c.passes-n.new.text 0 c.zero_all-2.new.items (omega (arith, c.passes-n.ensures.within, c.passes-n.auto.text)) c.zero_all-2.ensures

pub slice_bounds-check_proof-end-2 : goal.slice_bounds-check_proof-end-2
slice_bounds-check_proof-end-2 c =
    let z = (goal.at.slice_bounds-check_proof-end-2 c).After-zero_all-2 in
    let d = (goal.at.slice_bounds-check_proof-end-2 c).After-passes-n in
    sym (ap length (front_kept (n d) (length (text' d) - n d) (text' d) (within d) (behind z)) ∙ length-take-le (n d) (text' d) (within d))

pub check_proof-requires : goal.check_proof-requires
check_proof-requires c = record {
  program = (c.requires.program.0, omega (arith, c.requires.program.1));
  empty = (zeros (pos 0) {n = length c.is_accepted.new.store} c.passes-n.ensures.empty).0;
}

pub returns : goal.returns
returns c =
    let z = (goal.at.returns c).After-zero_all-2 in
    let d = (goal.at.returns c).After-passes-n in
    let x = c.args in
    let t = length x.table.now in
    let m = length x.store.now in
    λ ws p w.
    ap (λ (l : List ℕ). record { answer = Ok (n d); text = l; table = c.check_proof.new.table; store = c.check_proof.new.store }) (behind z)
    ∙ written t m x.text.now ws (is-good (goal.at.returns c).Else-not-is_accepted ws p) (text' d) (n d) (within d) (same_text d)
    (λ ts q. subst (λ (i : ℕ). Reads (text' d) (n d) (trimmed_steps i ws ts)) c.is_accepted.auto.store (c.passes-n.ensures.trimmed ws ts p q))
    (c.check_proof.ensures ws p w
    ∙ ap (λ (i : ℕ). judged_reading longest t i (take (n d) (behind-zero (n d) (text' d) c.zero_all-2.new.items)) (program ws)) (c.passes-n.auto.store ∙ c.is_accepted.auto.store)
    ∙ ap (λ (l : List ℕ). judged_reading longest t m l (program ws)) (front_kept (n d) (length (text' d) - n d) (text' d) (within d) (behind z)))
