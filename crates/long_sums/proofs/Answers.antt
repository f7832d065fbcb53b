-- What the service answers and leaves, by cases on what was read and on questions 65 and 66. Assumes nothing.
use mathlib.Core.Path.{◌≡◌, refl, sym, ap, ap₂, ◌∙◌}
use mathlib.Core.Bool.{Bool, true, false, true≢false, cond, ◌&&◌, ◌||◌, and_assoc}
use mathlib.Core.List.{List}
use Prim.Native.Nat.{ℕ, suc, ◌-◌, ◌≤◌}
use native.Mathlib.Omega.{arith}
use borrow.Author.Tests.{leb-true, leb-false, le-leb, lt-leb, le-ltb, ltb-false}
use borrow.Rule.Slice.PartMut.{put_mid}
use lib.Dec.{leb, ltb}
use lib.IntN.{ℤ, pos}
use lib.ListN.{length, take, drop, replicate}
use lib.Seq.{take_at}
use Rattle.words.specs.Limits.{largest, longest, most_literals, most_rules}
use Rattle.words.proofs.Lists.{same_test, leb-decides, and_left, and_right, and_both, or-false-left, or-false-right}
use Rattle.words.proofs.Tops.{top_within}
use Rattle.words.proofs.Parts.{tail-filled}
use Rattle.weights.specs.Weights.{most_weighted}
use Rattle.text.proofs.Puts.{front-put}
use Rattle.aspif.specs.Rules.{InputRule, literals_of, rule_top, atoms, table_words, program_words}
use Rattle.aspif.specs.Text.{program_text}
use Rattle.aspif.specs.Tables.{rules_at}
use Rattle.aspif.specs.Reading.{Reading, program, read_text_within, read_lines_within, program_answer, table_of}
use Rattle.aspif.specs.Claims.{FormedWithin}
use Rattle.aspif.proofs.Formed.{inside, within-fits}
use Rattle.aspif.proofs.RuleTests.{greatest-within}
use Rattle.aspif.specs.declared.ProgramRefusal.{ProgramRefusal}
use Rattle.joins.specs.declared.chains.Numbered.{Numbered}
use Rattle.long_sums.proofs.Held.{rules-there, all_held}
use Rattle.long_sums.specs.Program.{ProgramWritten, ReadLong}
use Rattle.long_sums.specs.Service.{split_into, SplitLeft, is_group_size, is_writable, zeroed, split_to, split_reading, split_text}
use Rattle.aspif.specs.declared.ProgramFault.TheVariants.{TooLong}
use Rattle.aspif.specs.declared.Refusal.TheVariants.{Program, Service}
use Rattle.long_sums.specs.declared.SplitFault.TheVariants.{TooLarge}
use Rattle.std.specs.Prelude.{Result, Ok, Err}
use Rattle.aspif.specs.declared.ProgramCounts.{ProgramCounts}

-- Question 66

module _ {rs : List InputRule} {before output : List ℕ} {q : Numbered} (w : ProgramWritten rs before output q) where
  few-rules : leb q.place.rules most_rules ≡ true → q.place.rules ≤ most_rules
  few-rules e = leb-true q.place.rules most_rules e

  module _ (h : q.place.rules ≤ most_rules) where
    pub count-is : q.place.rules ≡ length rs
    count-is = omega (arith, w.rules, h)

    pub size_is : q.place.at ≡ length (program_text rs)
    size_is = (w.text h).ends ∙ omega arith

    atoms-asked : leb q.atom (suc largest) ≡ leb (atoms rs) largest
    atoms-asked = same_test (leb-decides q.atom (suc largest)) (leb-decides (atoms rs) largest) (λ l. omega (arith, w.atom h, l)) (λ l. omega (arith, w.atom h, l))

  -- what is asked of the numbers is question 66 of the program
  pub asked : (o : ℕ) → (((leb q.place.rules most_rules && leb q.atom (suc largest)) && leb q.place.at longest) && leb q.place.at o) ≡ is_writable o rs
  asked o = by (leb q.place.rules most_rules) refl
    where
      by : (b : Bool) → leb q.place.rules most_rules ≡ b
          → (((b && leb q.atom (suc largest)) && leb q.place.at longest) && leb q.place.at o) ≡ is_writable o rs
      by true e =
          let h = few-rules e in
          let n : leb (length rs) most_rules ≡ true = sym (ap (λ (n : ℕ). leb n most_rules) (count-is h)) ∙ e in
          rw (n, atoms-asked h, size_is h) (and_assoc (leb (atoms rs) largest) (leb (length (program_text rs)) longest) (leb (length (program_text rs)) o))
      by false e =
          let h = leb-false q.place.rules most_rules e in
          rw (lt-leb (length rs) most_rules (omega (arith, w.rules, h)))

-- what it says of the numbers where it is passed
pub numbers-passed : (r a p o : ℕ) → (((leb r most_rules && leb a (suc largest)) && leb p longest) && leb p o) ≡ true → (r ≤ most_rules) × (p ≤ o)
numbers-passed r a p o e =
    let f = and_left ((leb r most_rules && leb a (suc largest)) && leb p longest) (leb p o) e in
    let g = and_left (leb r most_rules && leb a (suc largest)) (leb p longest) f in
    (leb-true r most_rules (and_left (leb r most_rules) (leb a (suc largest)) g), leb-true p o (and_right ((leb r most_rules && leb a (suc largest)) && leb p longest) (leb p o) e))

-- The answer

module _ {rs : List InputRule} {before output : List ℕ} {q : Numbered} (w : ProgramWritten rs before output q) (long : length before ≡ length output)
    (ws : List InputRule) (table : List ℤ) (t : ℕ) where
  pub refused-66 : (r : SplitLeft) → is_writable (length output) rs ≡ false → r ≡ zeroed t (length output) (Err (Service TooLarge)) → r ≡ split_to t (length output) ws rs
  refused-66 r e f = f ∙ (rw e)

  module _ (e : is_writable (length output) rs ≡ true) where
    abbrev text : List ℕ
    text = program_text rs

    few : q.place.rules ≤ most_rules
    few = omega (arith, w.rules, leb-true (length rs) most_rules (and_left (leb (length rs) most_rules) _ e))

    room : length text ≤ length output
    room =
        leb-true (length text) (length output)
        (and_right (leb (length text) longest) _ (and_right (leb (atoms rs) largest) _ (and_right (leb (length rs) most_rules) _ e)))

    pub fits : q.place.at ≤ length output
    fits = omega (arith, size_is w few, room)

    pub some-atom : 1 ≤ q.atom
    some-atom = omega (arith, w.atom few)

    front : take q.place.at output ≡ text
    front =
        ap (take q.place.at) (front-put text before output (w.text few) (omega (arith, room, long)))
        ∙ take_at text (drop (length text) before) q.place.at (sym (size_is w few))

    -- the text stands, and 0 after it
    pub written-66 : (new : List ℕ) (old : ℕ) → new ≡ replicate (length (take (length output - q.place.at) (drop q.place.at output))) 0
        → table ≡ table_words t ws → old ≡ atoms ws
        → (let left : SplitLeft = record {
          answer = split_into q.place.at (q.atom - 1) q.place.rules old;
          table = table;
          output = put_mid q.place.at (length output - q.place.at) output new;
        } in left ≡ split_to t (length output) ws rs)
    written-66 new old z b o =
        let a : q.atom - 1 ≡ atoms rs = omega (arith, w.atom few) in
        let f = tail-filled q.place.at output 0 new fits z in
        rw (f, front, e, a, b, o, size_is w few, count-is w few)

-- Question 65

pub bad-size : (g : ℕ) → (ltb g 2 || ltb most_weighted g) ≡ true → is_group_size g ≡ false
bad-size g e = by (leb 2 g) refl (leb g most_weighted) refl
  where
    by : (a : Bool) → leb 2 g ≡ a → (b : Bool) → leb g most_weighted ≡ b → (a && b) ≡ false
    by false p b q = refl
    by true p false q = refl
    by true p true q =
        let l = le-ltb g 2 (leb-true 2 g p) in
        let m = le-ltb most_weighted g (leb-true g most_weighted q) in
        absurd (true≢false (sym e ∙ (rw (l, m))))

pub good-size : (g : ℕ) → (ltb g 2 || ltb most_weighted g) ≡ false → (2 ≤ g) × (g ≤ 12)
good-size g e = (ltb-false g 2 (or-false-left (ltb g 2) _ e), ltb-false most_weighted g (or-false-right (ltb g 2) _ e))

pub size-asked : (g : ℕ) → (2 ≤ g) × (g ≤ 12) → is_group_size g ≡ true
size-asked g h = and_both (le-leb 2 g h.0) (le-leb g most_weighted h.1)

-- What was read

refusal_is : {a f : ProgramRefusal} → ◌≡◌ {A = Result ProgramCounts ProgramRefusal} (Err a) (Err f) → a ≡ f
refusal_is e = cc

atoms_are : {a b m n : ℕ} → ◌≡◌ {A = Result ProgramCounts ProgramRefusal} (Ok (record { atoms = a; rules = m })) (Ok (record { atoms = b; rules = n })) → (a ≡ b) × (m ≡ n)
atoms_are {a} {b} {m} {n} e =
    let c : record { atoms = a; rules = m } ≡ record { atoms = b; rules = n } = cc in
    (ap (λ (x : ProgramCounts). x.atoms) c, ap (λ (x : ProgramCounts). x.rules) c)

never : {a n : ℕ} {f : ProgramRefusal} → ◌≡◌ {A = Result ProgramCounts ProgramRefusal} (Ok (record { atoms = a; rules = n })) (Err f) → ⊥
never e = let z : ◌≡◌ {A = ℕ} 0 1 = cc in omega arith

pub refused-read : (t o g : ℕ) (x : Reading) (f : ProgramRefusal) → program_answer x ≡ Err f → split_reading t o g x ≡ zeroed t o (Err (Program f))
refused-read t o g (Reading.refused k n) f e = ap (λ (r : ProgramRefusal). zeroed t o (Err (Program r))) (refusal_is e)
refused-read t o g (program rs) f e = absurd (never e)

-- a program that was read
rule-low : {most : ℕ} (r : InputRule) → FormedWithin most r → rule_top r ≤ largest
rule-low r f =
    let h = top_within largest r.heads (λ z i. inside r.heads f.heads-in z i) in
    let b = top_within largest (literals_of r.body) (λ z i. inside (literals_of r.body) f.body-in z i) in
    omega arith

pub past_first : (most size : ℕ) (text : List ℕ) (rs : List InputRule) → read_text_within most size text ≡ program rs → read_lines_within most size text ≡ program rs
unfolding read_text_within
past_first most size text rs e = go (leb (length text) longest) e
  where
    go : (b : Bool) → cond b (read_lines_within most size text) (Reading.refused TooLong 0) ≡ program rs → read_lines_within most size text ≡ program rs
    go true e = e
    go false e = absurd (let z : ◌≡◌ {A = ℕ} 0 1 = cc in omega arith)

pub record LongRead (x : Reading) (rules top : ℕ) (table : List ℤ) : Type 0 where
  pub long : ReadLong rules top table
  pub is : x ≡ program (rules_at rules table)

pub long-read : (size : ℕ) (text : List ℕ) (x : Reading) → read_text_within most_literals size text ≡ x → {top rules : ℕ} → program_answer x ≡ Ok (record { atoms = top; rules = rules })
    → (table : List ℤ) → table ≡ table_of size x → length table ≡ size → LongRead x rules top table
long-read size text (Reading.refused k n) r e table w l = absurd (never (sym e))
long-read size text (program rs) r {top} {rules} e table w l =
    let f = within-fits most_literals size text rs (past_first most_literals size text rs r) in
    let a = atoms_are e in
    let z = replicate (size - length (program_words rs)) (pos 0) in
    let back : rules_at (length rs) table ≡ rs = ap (rules_at (length rs)) w ∙ rules-there rs z in
    rw (← a.0, ← a.1) (record {
      long = record {
        held = all_held rs z table f.formed w;
        few = f.few;
        atom = ap atoms (sym back);
        low = greatest-within rule_top largest rs (λ r i. rule-low r (f.formed r i));
        words = w ∙ ap₂ table_words (sym l) (sym back);
      };
      is = ap program (sym back);
    })

-- What the service leaves

module _ (t o : ℕ) (text : List ℕ) (g : ℕ) {n : ℕ} (size : n ≡ t) (left : SplitLeft) where
  pub refused-left : (f : ProgramRefusal) → program_answer (read_text_within most_literals t text) ≡ Err f → left ≡ zeroed n o (Err (Program f))
      → left ≡ split_text t o text g
  unfolding split_text
  refused-left f e l =
      l ∙ ap (λ (m : ℕ). zeroed m o (Err (Program f))) size ∙ sym (refused-read t o g (read_text_within most_literals t text) f e)

  pub read_left : {rules top : ℕ} {table : List ℤ} → LongRead (read_text_within most_literals t text) rules top table
      → left ≡ split_reading n o g (program (rules_at rules table)) → left ≡ split_text t o text g
  unfolding split_text
  read_left r l = l ∙ ap₂ (λ (m : ℕ) (x : Reading). split_reading m o g x) size (sym r.is)
