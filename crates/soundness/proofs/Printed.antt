-- What the whole check, the line of `verdict` and the set test say of a program, over its text: specs/Page.antt.
-- Assumes nothing.
use mathlib.Core.Path.{◌≡◌, refl, sym, ◌∙◌, ap, subst}
use mathlib.Core.Bool.{true}
use mathlib.Core.Option.{some, some-injective}
use mathlib.Core.List.{List, ◌++◌, map}
use Prim.Native.Nat.{ℕ}
use native.Mathlib.Omega.{arith}
use lib.IntN.{ℤ}
use lib.ListN.{length}
use Rattle.words.specs.Limits.{longest, widest, entries}
use Rattle.words.specs.Lists.{◌∈◌, ascends}
use Rattle.words.proofs.Lists.{zero_one}
use Rattle.text.specs.Strings.{bytes}
use Rattle.weights.specs.Weights.{most_weighted}
use Rattle.aspif.specs.Rules.{InputRule, expand, atoms}
use Rattle.aspif.specs.AnswerSets.{AnswerSet}
use Rattle.aspif.specs.Reading.{Reading, refused, program, read_text_within, read_text, program_answer, table_of, ProgramRead}
use Rattle.aspif.specs.Tables.{rules_of}
use Rattle.aspif.specs.Text.{program_text}
use Rattle.aspif.proofs.Formed.{read_fits}
use Rattle.aspif.proofs.Readable.{table-back, table-read}
use Rattle.aspif.proofs.Spelled.{sorted_rule, Once, within-spelled, read-spelled}
use Rattle.answer_set.specs.declared.SetAnswer.TheVariants.{Yes}
use Rattle.answer_set.proofs.Service.{service-yes}
use Rattle.derivation.specs.Claims.{NoneAsWritten}
use Rattle.checker.specs.Check.{check, CheckedWithin}
use Rattle.checker.specs.Report.{lent, verdict_line, printed}
use Rattle.checker.specs.declared.Counts.{Counts}
use Rattle.checker.specs.declared.Verdict.{Verdict}
use Rattle.checker.specs.declared.Verdict.TheVariants.{Inconsistent, Open, RefusedProgram, RefusedProof}
use Rattle.checker.proofs.Whole.{soundness-whole, service-sound}
use Rattle.checker.proofs.Verdicts.{lines-read}
use Rattle.soundness.specs.Page.{IsAnswerSet, HasNone, SoundPrinted, OnlyPrinted, SoundLong, OnlyLong, SoundLine, OnlyLine, YesPrinted}
use Rattle.soundness.proofs.Once.{same-cons, printed-once}
use Rattle.soundness.proofs.Direct.{plain-set, direct-set}
use Rattle.soundness.proofs.Orders.{sorted-set, written-set, sorted-with}
use Rattle.std.specs.Prelude.{Result, Ok}
use Rattle.aspif.specs.declared.ProgramCounts.{ProgramCounts}
use Rattle.aspif.specs.declared.ProgramRefusal.{ProgramRefusal}

-- What is read of the text of a program are its rules in order, and no others
pub record InOrder (ws rs : List InputRule) : Type 0 where
  pub rules : rs ≡ map sorted_rule ws
  pub once : (w : InputRule) → w ∈ ws → Once w

pub within-in-order : (most size : ℕ) (ws rs : List InputRule) → read_text_within most size (program_text ws) ≡ program rs → InOrder ws rs
within-in-order most size ws rs e =
    let s = within-spelled most size (program_text ws) rs e in
    let q : s.ws ≡ ws = sym (printed-once ws s.ws s.is) in
    record { rules = s.rules ∙ ap (map sorted_rule) q; once = subst (λ (l : List InputRule). (w : InputRule) → w ∈ l → Once w) q s.once }

pub read-in-order : (size : ℕ) (ws rs : List InputRule) → read_text size (program_text ws) ≡ program rs → InOrder ws rs
unfolding read_text
read-in-order size ws rs e = within-in-order most_weighted size ws rs e

-- the rules have none where those that were read have none: by the plain rules, and by the rules as they are written
pub none-printed : {ws rs : List InputRule} → InOrder ws rs → NoneAsWritten rs → NoneAsWritten ws
none-printed {ws} o n =
    let m = subst NoneAsWritten o.rules n in
    (λ M S. m.0 M (sorted-set ws o.once M S), λ us f M S. m.1 us f M (sorted-with ws o.once M us S))

as-printed : (ws : List InputRule) → NoneAsWritten ws → HasNone ws
as-printed ws m = (λ M S. m.0 M (plain-set M ws S), λ us f M S. m.1 us f M (plain-set M (ws ++ us) S))

pub has-none : {ws rs : List InputRule} → InOrder ws rs → NoneAsWritten rs → HasNone ws
has-none {ws} o n = as-printed ws (none-printed o n)

-- The whole check

-- under every limit of question 21
pub none_within : (limit : ℕ) (ws : List InputRule) (proof : List ℕ) (table store table' store' : List ℤ) (c : Counts)
    → CheckedWithin limit (program_text ws) proof table store table' store' (Inconsistent c) → NoneAsWritten ws
none_within limit ws proof table store table' store' c e =
    let s = service-sound limit (program_text ws) proof table store table' store' c e in
    none-printed (read-in-order (length table) ws s.0 s.1) s.2

sound-within : (limit : ℕ) (ws : List InputRule) (proof : List ℕ) (table store table' store' : List ℤ) (c : Counts)
    → CheckedWithin limit (program_text ws) proof table store table' store' (Inconsistent c) → HasNone ws
sound-within limit ws proof table store table' store' c e = as-printed ws (none_within limit ws proof table store table' store' c e)

pub sound-printed : SoundPrinted
sound-printed = sound-within longest

pub sound-long : SoundLong
sound-long ws proof table store table' store' memory memory' c e = sound-within widest ws proof table store table' store' c e.checked

-- a text that is read is that of some rules
is-text : (size : ℕ) (text : List ℕ) (rs : List InputRule) → read_text size text ≡ program rs → (ws : List InputRule) × (text ≡ program_text ws)
is-text size text rs e = let r = read-spelled size text rs e in (r.ws, r.is)

only-within : (limit : ℕ) (text proof : List ℕ) (table store table' store' : List ℤ) (c : Counts)
    → CheckedWithin limit text proof table store table' store' (Inconsistent c) → (ws : List InputRule) × (text ≡ program_text ws)
only-within limit text proof table store table' store' c e =
    let s = service-sound limit text proof table store table' store' c e in is-text (length table) text s.0 s.1

pub only-printed : OnlyPrinted
only-printed = only-within longest

pub only-long : OnlyLong
only-long text proof table store table' store' memory memory' c e = only-within widest text proof table store table' store' c e.checked

-- The line of `verdict`

says-inconsistent : (v : Verdict) (more : List ℕ) → verdict_line v ≡ bytes "inconsistent" ++ more → (c : Counts) × (v ≡ Inconsistent c)
says-inconsistent (Inconsistent c) more e = (c, refl)
says-inconsistent (Open c) more e = absurd (let q = (same-cons e).0 in omega arith)
says-inconsistent (RefusedProgram r) more e = absurd (let q = (same-cons e).0 in omega arith)
says-inconsistent (RefusedProof r) more e = absurd (let q = (same-cons e).0 in omega arith)

line-sound : (text proof more : List ℕ) → printed text proof ≡ bytes "inconsistent" ++ more
    → (rs : List InputRule) × (read_text lent text ≡ program rs) × NoneAsWritten rs
unfolding printed
line-sound text proof more e =
    let v = says-inconsistent (check text proof lent lent).verdict more e in soundness-whole longest text proof lent lent v.0 v.1

pub sound-line : SoundLine
sound-line ws proof more e = let s = line-sound (program_text ws) proof more e in has-none (read-in-order lent ws s.0 s.1) s.2

pub only-line : OnlyLine
only-line text proof more e = let s = line-sound text proof more e in is-text lent text s.0 s.1

-- The set test after the reader

pub same-told : {M N R S : ℕ} → ◌≡◌ {A = Result ProgramCounts ProgramRefusal} (Ok (record { atoms = M; rules = R })) (Ok (record { atoms = N; rules = S })) → (M ≡ N) × (R ≡ S)
same-told {M} {N} {R} {S} e =
    let c : ◌≡◌ {A = ProgramCounts} (record { atoms = M; rules = R }) (record { atoms = N; rules = S }) = cc in
    (ap (λ (x : ProgramCounts). x.atoms) c, ap (λ (x : ProgramCounts). x.rules) c)

-- the table that is left holds the rules in order, and their largest atom was told
pub record Kept (ws : List InputRule) (table : List ℤ) (N R : ℕ) : Type 0 where
  pub rs : List InputRule
  pub order : InOrder ws rs
  pub held : rules_of table R ≡ some rs
  pub largest : N ≡ atoms rs

pub kept : (ws : List InputRule) (table table' : List ℤ) (N R : ℕ) → ProgramRead (program_text ws) table table' (Ok (record { atoms = N; rules = R })) → Kept ws table' N R
kept ws table table' N R p = by (read_text (length table) (program_text ws)) refl p.answer p.table
  where
    by : (x : Reading) → read_text (length table) (program_text ws) ≡ x → Ok (record { atoms = N; rules = R }) ≡ program_answer x → table' ≡ table_of (length table) x → Kept ws table' N R
    by (refused k n) e q u = absurd (zero_one (cc))
    by (program rs) e q u =
        record {
          rs = rs;
          order = read-in-order (length table) ws rs e;
          held = rw (u, (same-told q).1) (table-back (length table) rs (read_fits (length table) (program_text ws) rs (lines-read (length table) (program_text ws) rs e)));
          largest = (same-told q).0;
        }

-- the answer sets of the rules in the table are those of the rules as they are written
module _ {ws rs : List InputRule} (o : InOrder ws rs) (M : ℕ → Type 0) where
  pub as_written : AnswerSet M (expand rs) → IsAnswerSet M ws
  as_written S = direct-set M ws (written-set ws o.once M (subst (λ (v : List InputRule). AnswerSet M (expand v)) o.rules S))

  pub as_read : IsAnswerSet M ws → AnswerSet M (expand rs)
  as_read S = subst (λ (v : List InputRule). AnswerSet M (expand v)) (sym o.rules) (sorted-set ws o.once M (plain-set M ws S))

pub yes-printed : YesPrinted
yes-printed ws table table' N R p l marks marks' r t = (there, back)
  where
    h : Kept ws table' N R
    h = kept ws table table' N R p

    Listed : ℕ → Type 0
    Listed v = v ∈ l

    Passes : Type 0
    Passes = (ascends 0 N l ≡ true) × (length marks ≡ entries) × IsAnswerSet Listed ws

    there : r ≡ Ok Yes → Passes
    there y =
        let s = (service-yes table' R l marks marks' r t).0 y in
        let same : s.0 ≡ h.rs = some-injective s.0 h.rs (sym ((table-read table' R s.0).1 s.1) ∙ h.held) in (
          subst (λ (n : ℕ). ascends 0 n l ≡ true) (ap atoms same ∙ sym h.largest) s.2,
          s.3,
          as_written h.order Listed (subst (λ (v : List InputRule). AnswerSet Listed (expand v)) same s.4),
        )

    back : Passes → r ≡ Ok Yes
    back m =
        (service-yes table' R l marks marks' r t).1 (
          h.rs,
          (table-read table' R h.rs).0 h.held,
          subst (λ (n : ℕ). ascends 0 n l ≡ true) h.largest m.0,
          m.1,
          as_read h.order Listed m.2,
        )
