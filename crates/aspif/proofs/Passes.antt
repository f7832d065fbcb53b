-- Laws on line after line: what one more turn makes of the reading, the table and the counts.
-- Assumes nothing.
use mathlib.Core.Path.{◌≡◌, refl, sym, ◌∙◌, ap, ap₂, subst}
use mathlib.Core.Bool.{Bool, true, false, cond}
use mathlib.Core.List.{List, [], ◌∷◌, ◌++◌, append_assoc, append-nil}
use Prim.Native.Nat.{ℕ, zero, suc, ◌+◌, ◌-◌, ◌≤◌, ◌<◌, max}
use native.Mathlib.Omega.{arith}
use borrow.Author.Tests.{ltb-true, leb-true}
use lib.Dec.{eqb, ltb, leb}
use lib.IntN.{ℤ}
use lib.ListN.{length, take, drop, length-append, length-drop, take-append-drop}
use lib.Seq.{drop-drop, take_at, length-take-le}
use borrow.Rule.Slice.PartMut.{put_mid}
use Rattle.words.proofs.Parts.{put-tail, length-put}
use Rattle.text.specs.Line.{Line, broken, numbers, line_of, any_outside}
use Rattle.text.proofs.Lines.{bounds_of}
use Rattle.aspif.specs.Rules.{InputRule, rule_top, atoms, rule_words, program_words}
use Rattle.words.proofs.Lists.{concat-append}
use Rattle.words.specs.Limits.{most_rules}
use Rattle.aspif.specs.Reading.{RuleRead, fails, reads, Turn, refuses, ends, adds, is_last, shape_within, rule_of, room, turn_within, lines_within, Reading, refused, program, header}
use Rattle.aspif.proofs.Formed.{onward, lines-on}
use Rattle.aspif.specs.Turns.{turn_told, free_after, TurnTaken, LinesRead}
use Rattle.aspif.specs.declared.rules.RuleAdded.{RuleAdded}
use Rattle.std.specs.Prelude.{Result, Ok, Err, Option, Some, None}
use Rattle.aspif.specs.declared.ProgramFault.TheVariants.{TooLarge, TooManyRules, TableFull, TextAfterEnd}
use Rattle.aspif.specs.declared.ProgramFault.{ProgramFault}
use Rattle.aspif.specs.declared.lines.LinesTaken.{LinesTaken}

abbrev pub taken_of : (atoms rules used : ℕ) → LinesTaken
taken_of a r u = record { atoms = a; rules = r; used = u }

-- What a turn told says of the turn

told-refuses : (t : Turn) {k : ProgramFault} → turn_told t ≡ Err k → t ≡ refuses k
told-refuses (refuses j) e = cc
told-refuses ends e = absurd (let z : ◌≡◌ {A = ℕ} 0 1 = cc in omega arith)
told-refuses (adds r n) e = absurd (let z : ◌≡◌ {A = ℕ} 0 1 = cc in omega arith)

told-ends : (t : Turn) → turn_told t ≡ Ok None → t ≡ ends
told-ends (refuses j) e = absurd (let z : ◌≡◌ {A = ℕ} 0 1 = cc in omega arith)
told-ends ends e = refl
told-ends (adds r n) e = absurd (let z : ◌≡◌ {A = ℕ} 0 1 = cc in omega arith)

-- what stands inside an `Ok`
pub ok_in : {A E : Type 0} {r : Result A E} {x y : A} → r ≡ Ok x → x ≡ y → r ≡ Ok y
ok_in e f = e ∙ ap Ok f

-- the rule that a turn told adds
abbrev rule_in : Result (Option RuleAdded) ProgramFault → RuleAdded
rule_in (Ok (Some r)) = r
rule_in (Ok None) = record { next = 0; words = 0; top = 0 }
rule_in (Err k) = record { next = 0; words = 0; top = 0 }

record Added (t : Turn) (next words top : ℕ) : Type 0 where
  rule : InputRule
  is : t ≡ adds rule next
  size : words ≡ length (rule_words rule)
  most : top ≡ rule_top rule

told-adds : (t : Turn) {next words top : ℕ} → turn_told t ≡ Ok (Some (record { next = next; words = words; top = top })) → Added t next words top
told-adds (refuses j) e = absurd (let z : ◌≡◌ {A = ℕ} 0 1 = cc in omega arith)
told-adds ends e = absurd (let z : ◌≡◌ {A = ℕ} 0 1 = cc in omega arith)
told-adds (adds r n) e = record {
  rule = r;
  is = ap (λ t. adds r (rule_in t).next) e;
  size = sym (ap (λ t. (rule_in t).words) e);
  most = sym (ap (λ t. (rule_in t).top) e);
}

-- A rule is added only from a line of numbers, where there is room

module _ (rules free left : ℕ) where
  abbrev pub Room : Line → Turn → Type 0
  Room l (refuses k) = Unit {0}
  Room l ends = Unit {0}
  Room l (adds r n) = ((zs : List ℤ) × (l ≡ numbers zs n)) × (rules < most_rules) × (length (rule_words r) ≤ free)

  by : (l : Line) (t : Bool) (x y : Turn) → (t ≡ true → Room l x) → Room l y → Room l (cond t x y)
  by l true x y f g = f refl
  by l false x y f g = g

  has_room : (zs : List ℤ) (n : ℕ) (x : RuleRead) → Room (numbers zs n) (room rules free x n)
  has_room zs n (fails k) = tt
  has_room zs n (reads r) =
      by (numbers zs n) (ltb rules most_rules) _ (refuses TooManyRules)
      (λ t.
      by (numbers zs n) (leb (length (rule_words r)) free) (adds r n) (refuses TableFull)
      (λ u. ((zs, refl), ltb-true rules most_rules t, leb-true (length (rule_words r)) free u)) tt)
      tt

  pub turn-room : (most : ℕ) (l : Line) → Room l (turn_within most rules free left l)
  turn-room most broken = tt
  turn-room most (numbers zs n) =
      by (numbers zs n) (any_outside zs) (refuses TooLarge) _ (λ t. tt)
      (by (numbers zs n) (is_last zs) _ _ (λ t. by (numbers zs n) (eqb n left) ends (refuses TextAfterEnd) (λ u. tt) tt)
      (has_room zs n (rule_of zs (shape_within most zs (length zs)))))

-- One rule more

-- the words of the rules, and of one more behind them
pub words_more : (rs : List InputRule) (r : InputRule) → program_words (rs ++ (r ∷ [])) ≡ program_words rs ++ rule_words r
words_more rs r = concat-append rule_words rs (r ∷ []) ∙ ap (λ (l : List ℤ). program_words rs ++ l) (append-nil (rule_words r))

atoms-more : (rs : List InputRule) (r : InputRule) → atoms (rs ++ (r ∷ [])) ≡ max (rule_top r) (atoms rs)
atoms-more [] r = refl
atoms-more (x ∷ rs) r = ap (λ (n : ℕ). max (rule_top x) n) (atoms-more rs r) ∙ swap (rule_top x) (rule_top r) (atoms rs)
  where
    swap : (a b c : ℕ) → max a (max b c) ≡ max b (max a c)
    swap a b c = omega arith

-- Where the loop stands

pub record Standing (limit : ℕ) (text : List ℕ) (table₀ table : List ℤ) (at line used rules top : ℕ) : Type 0 where
  pub so_far : List InputRule
  pub turns : ℕ
  pub enough : length text < at + turns
  pub reading : lines_within limit (length table₀) (suc (length text)) (drop (length header) text) 2 [] ≡ lines_within limit (length table₀) turns (drop at text) line so_far
  pub count : rules ≡ length so_far
  pub words : used ≡ length (program_words so_far)
  pub front : take used table ≡ program_words so_far
  pub most : top ≡ atoms so_far
  pub few : rules ≤ most_rules
  pub within : at ≤ length text
  pub lines : line ≤ at
  pub fits : used ≤ length table
  pub long : length table ≡ length table₀

module _ {limit : ℕ} {text : List ℕ} {table₀ table : List ℤ} {at line used rules top : ℕ} (S : Standing limit text table₀ table at line used rules top) where
  abbrev pub rest : List ℕ
  rest = drop at text

  abbrev pub free : List ℤ
  free = drop used table

  abbrev pub turn : Turn
  turn = turn_within limit rules (length free) (length rest) (line_of rest)

  -- the turn is the definition's
  turn_is : turn ≡ turn_within limit (length S.so_far) (length table₀ - length (program_words S.so_far)) (length rest) (line_of rest)
  turn_is =
      let f : length free ≡ length table₀ - length (program_words S.so_far) = omega (arith, length-drop used table, S.words, S.long) in
      ap₂ (λ x y. turn_within limit x y (length rest) (line_of rest)) S.count f

  -- there is a turn left
  turn-left : (t : ℕ) × (S.turns ≡ suc t)
  turn-left = go S.turns (omega (arith, S.enough, S.within))
    where
      go : (n : ℕ) → 0 < n → (t : ℕ) × (n ≡ suc t)
      go zero h = absurd (omega arith)
      go (suc t) h = (t, refl)

  -- one turn of the reading
  turned : lines_within limit (length table₀) (suc (length text)) (drop (length header) text) 2 [] ≡ onward (λ n. lines_within limit (length table₀) turn-left.0 (drop n rest) (line + 1)) S.so_far line turn
  turned =
      S.reading ∙ ap (λ n. lines_within limit (length table₀) n rest line S.so_far) turn-left.1
      ∙ lines-on limit (length table₀) turn-left.0 rest line S.so_far
      ∙ ap (λ t. onward (λ n. lines_within limit (length table₀) turn-left.0 (drop n rest) (line + 1)) S.so_far line t) (sym turn_is)

  stands-refuses : (k : ProgramFault) → turn ≡ refuses k → lines_within limit (length table₀) (suc (length text)) (drop (length header) text) 2 [] ≡ refused k line
  stands-refuses k e = turned ∙ rw e

  stands-ends : turn ≡ ends → lines_within limit (length table₀) (suc (length text)) (drop (length header) text) 2 [] ≡ program S.so_far
  stands-ends e = turned ∙ rw e

  -- a turn that adds no rule leaves the table
  stands-table : put_mid used (length table - used) table free ≡ table
  stands-table = put-tail used table free S.fits ∙ take-append-drop used table

  module _ (r : InputRule) (n : ℕ) (e : turn ≡ adds r n) where
    has : Room rules (length free) (length rest) (line_of rest) (adds r n)
    has = subst (Room rules (length free) (length rest) (line_of rest)) e (turn-room rules (length free) (length rest) limit (line_of rest))

    added-bytes : (0 < n) × (at + n ≤ length text)
    added-bytes =
        let b = bounds_of rest has.0.0 n has.0.1 in (b.0, omega (arith, length-drop at text, S.within, b))

    added-words : used + length (rule_words r) ≤ length table
    added-words = omega (arith, length-drop used table, has.2, S.fits)

    added-rules : rules < most_rules
    added-rules = has.1

    abbrev next-table : List ℤ
    next-table = put_mid used (length table - used) table (rule_words r ++ drop (length (rule_words r)) free)

    next-long : length next-table ≡ length table
    next-long =
        length-put used (length table - used) table (rule_words r ++ drop (length (rule_words r)) free) (omega (arith, S.fits))
        (omega (arith, added-words, length-append (rule_words r) (drop (length (rule_words r)) free), length-drop (length (rule_words r)) free, length-drop used table))

    next-front : take (used + length (rule_words r)) next-table ≡ program_words (S.so_far ++ (r ∷ []))
    next-front =
        let w = rule_words r in
        let tail = drop (length w) free in
        let e : next-table ≡ (take used table ++ w) ++ tail = put-tail used table (w ++ tail) S.fits ∙ sym (append_assoc (take used table) w tail) in
        let l : length (take used table ++ w) ≡ used + length w = simp length-append (omega (arith, length-take-le used table S.fits)) in
        ap (take (used + length w)) e ∙ take_at (take used table ++ w) tail (used + length w) l ∙ ap (λ (x : List ℤ). x ++ w) S.front
        ∙ sym (words_more S.so_far r)

    stands-adds : Standing limit text table₀ next-table (at + n) (line + 1) (used + length (rule_words r)) (rules + 1) (max (rule_top r) top)
    stands-adds =
        record {
          so_far = S.so_far ++ (r ∷ []);
          turns = turn-left.0;
          enough = omega (arith, S.enough, turn-left.1, added-bytes);
          reading = turned ∙ rw (e, drop-drop n at text);
          count = omega (arith, S.count, length-append S.so_far (r ∷ []));
          words = omega (arith, S.words, ap length (words_more S.so_far r), length-append (program_words S.so_far) (rule_words r));
          front = next-front;
          most = ap (λ (x : ℕ). max (rule_top r) x) S.most ∙ sym (atoms-more S.so_far r);
          few = omega (arith, added-rules);
          within = added-bytes.1;
          lines = omega (arith, S.lines, added-bytes);
          fits = omega (arith, added-words, next-long);
          long = next-long ∙ S.long;
        }

-- What the loop does with a turn

module _ {limit : ℕ} {text : List ℕ} {table₀ table : List ℤ} {at line used rules top : ℕ} (S : Standing limit text table₀ table at line used rules top)
    {ys : List ℤ} {r : Result (Option RuleAdded) ProgramFault} (T : TurnTaken (turn S) (free S) ys r) where
  abbrev after : List ℤ
  after = put_mid used (length table - used) table ys

  abbrev whole : Reading
  whole = lines_within limit (length table₀) (suc (length text)) (drop (length header) text) 2 []

  -- where no rule is added the table is as it was
  same-table : (t : Turn) → turn S ≡ t → free_after t (free S) ≡ free S → after ≡ table
  same-table t e k = ap (put_mid used (length table - used) table) (T.words ∙ ap (λ x. free_after x (free S)) e ∙ k) ∙ stands-table S

  pub lines-refused : {k : ProgramFault} → r ≡ Err k → LinesRead whole table₀ after (Err (record { fault = k; line = line }))
  lines-refused {k} e =
      let t = told-refuses (turn S) (sym T.told ∙ e) in
      rw (stands-refuses S k t) (record { told = refl; front = tt; long = ap length (same-table (refuses k) t refl) ∙ S.long })

  pub lines-ended : r ≡ Ok None → LinesRead whole table₀ after (Ok (taken_of top rules used))
  lines-ended e =
      let t = told-ends (turn S) (sym T.told ∙ e) in
      let a = same-table ends t refl in
      let told : Ok (taken_of top rules used) ≡ Ok (taken_of (atoms S.so_far) (length S.so_far) (length (program_words S.so_far))) =
      ap₂ (λ x y. Ok (taken_of x y used)) S.most S.count ∙ ap (λ x. Ok (taken_of (atoms S.so_far) (length S.so_far) x)) S.words in
      let front : take (length (program_words S.so_far)) after ≡ program_words S.so_far =
      ap₂ (λ n l. take n l) (sym S.words) a ∙ S.front in
      rw (stands-ends S t) (record { told = told; front = front; long = ap length a ∙ S.long })

  pub record Onward (next words most : ℕ) : Type 0 where
    pub bytes : 0 < next
    pub text-left : at + next ≤ length text
    pub words_left : used + words ≤ length table
    pub rules-left : rules < most_rules
    pub stands : Standing limit text table₀ after (at + next) (line + 1) (used + words) (rules + 1) (max most top)

  pub lines-added : {next words most : ℕ} → r ≡ Ok (Some (record { next = next; words = words; top = most })) → Onward next words most
  lines-added {next} {words} {most} e =
      let A = told-adds (turn S) (sym T.told ∙ e) in go A.rule A.is A.size A.most
    where
      go : (x : InputRule) → turn S ≡ adds x next → words ≡ length (rule_words x) → most ≡ rule_top x → Onward next words most
      go x is size top-is =
          let y : ys ≡ rule_words x ++ drop (length (rule_words x)) (free S) = T.words ∙ ap (λ t. free_after t (free S)) is in
          record {
            bytes = (added-bytes S x next is).0;
            text-left = (added-bytes S x next is).1;
            words_left = rw size (added-words S x next is);
            rules-left = added-rules S x next is;
            stands = rw (size, top-is, y) (stands-adds S x next is);
          }

pub stands-start : {limit : ℕ} (text : List ℕ) (table : List ℤ) → length header ≤ length text → Standing limit text table table (length header) 2 0 0 0
stands-start text table h =
    record {
      so_far = [];
      turns = suc (length text);
      enough = omega arith;
      reading = refl;
      count = refl;
      words = refl;
      front = refl;
      most = refl;
      few = omega arith;
      within = h;
      lines = omega arith;
      fits = omega arith;
      long = refl;
    }
