-- The program with the constraints on a path, in one table: what stands behind its words, and one constraint more. Assumes nothing.
use mathlib.Core.Path.{◌≡◌, sym, ap, ap₂, ◌∙◌, subst}
use mathlib.Core.Bool.{true}
use mathlib.Core.List.{List, ◌++◌, append_assoc}
use Prim.Native.Nat.{ℕ, ◌+◌, ◌-◌, ◌≤◌}
use native.Mathlib.Omega.{arith}
use borrow.Rule.Slice.PartMut.{put_mid}
use lib.IntN.{ℤ, pos}
use lib.ListN.{length, take, drop, replicate, length-append, length-replicate}
use lib.Seq.{take_at, take-take, length-take-le}
use Rattle.words.specs.Literals.{variable, complement}
use Rattle.words.specs.Limits.{largest, longest, most_rules}
use Rattle.words.proofs.Lists.{passed, and-decides, leb-decides}
use Rattle.words.proofs.Parts.{put_next}
use Rattle.aspif.specs.Rules.{InputRule, program_words}
use Rattle.aspif.specs.Tables.{rules_at}
use Rattle.aspif.proofs.Formed.{words_append}
use Rattle.aspif.proofs.Readable.{rules-back, all-zero, rules-formed, rules-count}
use Rattle.words.proofs.Laws.{drop-replicate}
use Rattle.derivation.specs.States.{is_atom}
use Rattle.steps.specs.Held.{Program}
use Rattle.merging.specs.Claims.{demanding_as_written}
use Rattle.shapes.specs.Tree.{most_splits}
use Rattle.splits.specs.Halves.{most_words, demand_words}
use Rattle.aspif.proofs.Used.{used-words}
use Rattle.splits.proofs.Demands.{demanding-program}
use Rattle.trees.specs.Sides.{cleared, Standing, place_below}
use Rattle.trees.specs.declared.sides.Place.{Place}

-- What stands behind the first words

module _ (used : ℕ) (xs : List ℤ) (h : used ≤ length xs) where
  front-size : length (take used xs) ≡ used
  front-size = length-take-le used xs h

  pub length-cleared : length (cleared used xs) ≡ length xs
  length-cleared = omega (arith, length-append (take used xs) (replicate (length xs - used) (pos 0)), front-size, length-replicate (length xs - used) (pos 0), h)

  pub front-cleared : take used (cleared used xs) ≡ take used xs
  front-cleared = take_at (take used xs) (replicate (length xs - used) (pos 0)) used front-size

  -- words put behind the first ones, once what stood there is 0
  pub put-behind : (new ys : List ℤ) {zs : List ℤ} → zs ≡ cleared used xs
      → ys ≡ new ++ drop (length new) (take (length zs - used) (drop used zs))
      → put_mid used (length zs - used) zs ys ≡ (take used xs ++ new) ++ replicate (length xs - used - length new) (pos 0)
  put-behind new ys {zs} e q =
      put_next (take used xs) (replicate (length xs - used) (pos 0)) new zs ys used front-size e q
      ∙ (ap (λ (l : List ℤ). take used xs ++ (new ++ l)) (drop-replicate (length new) (length xs - used) (pos 0))
      ∙ sym (append_assoc (take used xs) new (replicate (length xs - used - length new) (pos 0))))

-- the first words are the same
same-cleared : (used : ℕ) (xs ys : List ℤ) → take used ys ≡ take used xs → length ys ≡ length xs → cleared used ys ≡ cleared used xs
same-cleared used xs ys e l = ap₂ (λ (a : List ℤ) (n : ℕ). a ++ replicate (n - used) (pos 0)) e l

pub same-front : (used more : ℕ) (xs ys : List ℤ) → take (used + more) ys ≡ take (used + more) xs → take used ys ≡ take used xs
same-front used more xs ys e =
    sym (take-take used (used + more) ys (omega arith)) ∙ (ap (take used) e ∙ take-take used (used + more) xs (omega arith))

-- The program

module _ {depth : ℕ} {p : Place} {table : List ℤ} {ws : List InputRule} (S : Standing depth p table ws) where
  pub within : p.used ≤ length table
  within = omega (arith, S.room, S.size)

  -- its words
  pub words-front : take p.used table ≡ program_words ws
  words-front =
      let P = S.program.holds in
      let w : take (length (program_words ws)) (cleared p.used table) ≡ program_words ws =
      subst (λ (rs : List InputRule). take (length (program_words rs)) (cleared p.used table) ≡ program_words rs) P.are (used-words (cleared p.used table) p.rules P.sound) in
      sym (front-cleared p.used table within) ∙ (ap (λ (n : ℕ). take n (cleared p.used table)) S.used ∙ w)

  pub standing-same : {table' : List ℤ} → take p.used table' ≡ take p.used table → length table' ≡ length table → Standing depth p table' ws
  standing-same {table'} e l =
      record {
        program = subst (λ (t : List ℤ). Program t p.rules p.atoms ws) (sym (same-cleared p.used table table' e l)) S.program;
        used = S.used;
        rules = S.rules;
        room = S.room;
        size = l ∙ S.size;
      }

  pub standing-less : (less : ℕ) → less ≤ depth → Standing less p table ws
  standing-less less h =
      record { program = S.program; used = S.used; rules = omega (arith, S.rules, h); room = omega (arith, S.room, h); size = S.size }

  -- the split's atom is a variable
  pub small-atom : {v : ℕ} → is_atom p.atoms v ≡ true → v ≤ largest
  small-atom {v} a =
      let h = (and-decides (leb-decides 1 v) (leb-decides v p.atoms)).to ((passed _).from a) in omega (arith, h.1, S.program.high)

  -- one constraint more, which demands the literal x: its body is the complement y alone
  module _ (x : ℤ) (atom : is_atom p.atoms (variable x) ≡ true) (deep : 1 ≤ depth) {y : ℤ} (is : y ≡ complement x) {wide : List ℤ}
      (put : wide ≡ (take p.used table ++ demand_words y) ++ replicate (length table - p.used - 5) (pos 0)) where
    pub same-program : take p.used wide ≡ take p.used table
    same-program =
        ap (take p.used) (put ∙ append_assoc (take p.used table) (demand_words y) (replicate (length table - p.used - 5) (pos 0)))
        ∙ take_at (take p.used table) _ p.used (front-size p.used table within)

    more-size : length (take p.used table ++ demand_words y) ≡ p.used + 5
    more-size = omega (arith, length-append (take p.used table) (demand_words y), front-size p.used table within)

    pub wide-size : length wide ≡ length table
    wide-size =
        omega (arith, ap length put, length-append (take p.used table ++ demand_words y) (replicate (length table - p.used - 5) (pos 0)), more-size, length-replicate (length table - p.used - 5) (pos 0), S.room, S.size, deep)

    pub demand-program : Program wide (p.rules + 1) p.atoms (demanding_as_written ws x)
    demand-program =
        demanding-program ws x S.program atom (length table - p.used - 5)
        (put ∙ ap₂ (λ (l : List ℤ) (z : ℤ). (l ++ demand_words z) ++ replicate (length table - p.used - 5) (pos 0)) words-front is)

    wide-cleared : cleared (p.used + 5) wide ≡ wide
    wide-cleared =
        let n : length wide - (p.used + 5) ≡ length table - p.used - 5 = omega (arith, wide-size) in
        let f : take (p.used + 5) wide ≡ take p.used table ++ demand_words y = ap (take (p.used + 5)) put ∙ take_at _ _ (p.used + 5) more-size in
        ap₂ (λ (l : List ℤ) (k : ℕ). l ++ replicate k (pos 0)) f n ∙ sym put

    more-words : p.used + 5 ≡ length (program_words (demanding_as_written ws x))
    more-words =
        sym more-size ∙ ap (λ (l : List ℤ). length (l ++ demand_words y)) words-front ∙ (length-append (program_words ws) (demand_words y) ∙ (sym (length-append (program_words ws) _) ∙ ap length (sym (words_append ws _))))

    pub standing-below : Standing (depth - 1) (place_below p) wide (demanding_as_written ws x)
    standing-below =
        record {
          program = subst (λ (t : List ℤ). Program t (p.rules + 1) p.atoms (demanding_as_written ws x)) (sym wide-cleared) demand-program;
          used = more-words;
          rules = omega (arith, S.rules, deep);
          room = omega (arith, S.room, deep);
          size = wide-size ∙ S.size;
        }

-- The program in a wider table, with no constraint yet

pub room_for : (used : ℕ) (table : List ℤ) (n : ℕ) → used ≤ length table → used ≤ n → length (take used table) ≤ length (replicate n (pos 0))
room_for used table n h k = omega (arith, length-take-le used table h, length-replicate n (pos 0), k)

module _ {table : List ℤ} {rules N : ℕ} {ws : List InputRule} (P : Program table rules N ws) where
  table-front : take (length (program_words ws)) table ≡ program_words ws
  table-front = subst (λ (rs : List InputRule). take (length (program_words rs)) table ≡ program_words rs) P.holds.are (used-words table rules P.holds.sound)

  same-rules : (k : ℕ) → Program (program_words ws ++ replicate k (pos 0)) rules N ws
  same-rules k =
      let b = rules-back (replicate k (pos 0)) (all-zero k) ws (λ r i. rules-formed rules table P.holds.sound r (rw P.holds.are i)) in
      let n : length ws ≡ rules = omega (arith, ap length P.holds.are, rules-count rules table) in
      record { holds = record { sound = rw (← n) b.0; are = rw (← n) b.1 }; top = P.top; high = P.high }

  pub standing-first : (used limit : ℕ) → used ≡ length (program_words (rules_at rules table)) → used ≤ length table → used ≤ longest → rules ≤ most_rules
      → {wide : List ℤ} → wide ≡ take used table ++ drop (length (take used table)) (replicate most_words (pos 0))
      → Standing most_splits (record { depth = most_splits; used = used; rules = rules; atoms = N; limit = limit }) wide ws
  standing-first used limit u h short few {wide} e =
      record {
        program = subst (λ (t : List ℤ). Program t rules N ws) (sym clear) (same-rules (most_words - used));
        used = count;
        rules = omega (arith, few);
        room = omega (arith, short);
        size = size;
      }
    where
      count : used ≡ length (program_words ws)
      count = u ∙ ap (λ (rs : List InputRule). length (program_words rs)) P.holds.are

      front : take used table ≡ program_words ws
      front = ap (λ (n : ℕ). take n table) count ∙ table-front

      long : length (take used table) ≡ used
      long = length-take-le used table h

      is : wide ≡ program_words ws ++ replicate (most_words - used) (pos 0)
      is = e ∙ ap₂ (λ (a b : List ℤ). a ++ b) front (ap (λ (n : ℕ). drop n (replicate most_words (pos 0))) long ∙ drop-replicate used most_words (pos 0))

      size : length wide ≡ most_words
      size = omega (arith, ap length is, length-append (program_words ws) (replicate (most_words - used) (pos 0)), length-replicate (most_words - used) (pos 0), count, short)

      clear : cleared used wide ≡ program_words ws ++ replicate (most_words - used) (pos 0)
      clear = ap₂ (λ (a : List ℤ) (n : ℕ). a ++ replicate (n - used) (pos 0)) (ap (take used) is ∙ take_at (program_words ws) _ used (sym count)) size
