-- `trees::sides::merge_side` meets its contract: an end, or both sides of a split, one after the other, and their merge.
-- Assumes nothing.
use mathlib.Core.Path.{◌≡◌, refl, sym, ◌∙◌, subst}
use mathlib.Core.Bool.{true}
use mathlib.Core.List.{List, ◌++◌}
use Prim.Native.Nat.{ℕ, ◌+◌, ◌*◌, ◌-◌, ◌<◌, ◌≤◌}
use native.Mathlib.Omega.{arith}
use lib.IntN.{ℤ, pos, neg_ℤ}
use lib.ListN.{length, take, drop, replicate, length-drop, length-replicate}
use borrow.Author.Rules.{rules}
use Rattle.words.proofs.Laws.{zeros}
use Rattle.words.specs.Limits.{largest, longest, largest_size}
use Rattle.words.specs.Literals.{variable}
use Rattle.words.proofs.Literals.{complement-twice, variable-complement}
use Rattle.words.proofs.Parts.{tail_of}
use Rattle.aspif.specs.Rules.{InputRule}
use Rattle.derivation.specs.States.{is_atom}
use Rattle.merging.specs.Claims.{demanding_as_written}
use Rattle.splits.specs.Halves.{demand_words}
use Rattle.shapes.specs.Tree.{Shape}
use Rattle.trees.specs.Service.{Side}
use Rattle.trees.specs.Sides.{Standing, place_below, Subtree, Takes, pending, joined_sides, side_of, Merged, Sided}
use Rattle.trees.specs.declared.sides.Place.{Place}
use Rattle.trees.specs.declared.sides.Pending.{Pending}
use Rattle.trees.proofs.Constraints.{same-front, standing-same, standing-less, small-atom, same-program, wide-size, standing-below}
use Rattle.trees.proofs.Subtrees.{Halved, some_number, tree-split, some-length, split-leaves, side-first, side-second}
use Rattle.trees.proofs.Outcomes.{end-merged, first-refused, handed-up, first-took, sides-joinable, sides-joined, Tells, tells_as, subtree-as}
use Rattle.trees.proofs.sides.+merge_side.Goals as goal
use Rattle.trees.proofs.sides.+merge_side.Goals.{After-wide-v, After-demand_atom, After-merge_side}
use Rattle.std.specs.Prelude.{Ok}

-- a split
module _ (t : ℕ) (c : After-wide-v t) where
  halved : {u : Shape} {rest : List ℕ} (T : Subtree c.args.place.depth c.args.place.atoms c.args.tree.now c.args.texts.now c.args.lengths.now u rest)
      → Halved c.args.place.depth T.path c.args.place.atoms c.wide-v.result (drop 1 c.args.tree.now) u rest
  halved {u} {rest} T =
      subst (λ (n : ℕ). Halved c.args.place.depth T.path c.args.place.atoms n (drop 1 c.args.tree.now) u rest) (sym c.wide-v.ensures.same) (tree-split T c.if-tree-eq0.false)

  atom : is_atom c.args.place.atoms c.wide-v.result ≡ true
  atom = (halved c.requires.tree.2).atom

  deep : 1 ≤ c.args.place.depth
  deep = (halved c.requires.tree.2).deep

  small : c.wide-v.result ≤ largest
  small = small-atom c.requires.place.1 atom

  room : c.args.place.used + 5 ≤ length c.args.table.now
  room = omega (arith, c.requires.place.1.room, c.requires.place.1.size, deep)

-- the first sides' place, with the table for the demanding side
module _ (t : ℕ) (c : After-demand_atom t) (atom₁ : is_atom c.args.place.atoms c.wide-v.result ≡ true) (deep₁ : 1 ≤ c.args.place.depth) where
  standing₁ : {ws : List InputRule} → Standing c.args.place.depth c.args.place c.args.table.now ws
      → Standing (c.args.place.depth - 1) (place_below c.args.place) c.demand_atom.new.table (demanding_as_written ws (pos c.wide-v.result))
  standing₁ S = standing-below S (pos c.wide-v.result) atom₁ deep₁ refl c.demand_atom.ensures

-- what the demanding side comes to
module _ (t : ℕ) (c : After-merge_side t) where
  abbrev place : Place
  place = c.args.place

  abbrev numbers : List ℕ
  numbers = c.args.tree.now

  abbrev texts : List ℕ
  texts = c.args.texts.now

  abbrev lengths : List ℕ
  lengths = c.args.lengths.now

  abbrev table : List ℤ
  table = c.args.table.now

  abbrev size : ℕ
  size = length c.args.store.now

  abbrev v : ℕ
  v = c.wide-v.result

  abbrev Stands : List InputRule → Type 0
  Stands ws = Standing place.depth place table ws

  abbrev Begins : Shape → List ℕ → Type 0
  Begins u rest = Subtree place.depth place.atoms numbers texts lengths u rest

  abbrev table₁ : List ℤ
  table₁ = c.demand_atom.new.table

  abbrev table₂ : List ℤ
  table₂ = c.merge_side.new.table

  abbrev first : List ℕ
  first = c.merge_side.new.output

  abbrev one : Sided
  one = c.merge_side.result

  standing : Stands c.requires.place.0
  standing = c.requires.place.1

  subtree : Begins c.requires.tree.0 c.requires.tree.1
  subtree = c.requires.tree.2

  some : 1 ≤ length numbers
  some = some_number subtree

  counted : (length numbers ≤ largest_size) × (length texts ≤ largest_size) × (length lengths ≤ largest_size)
  counted = (search rules, search rules, search rules)

  -- the bytes of the numbers and of the lengths
  bytes_counted : (length numbers * 2 ≤ largest_size) × (length lengths * 8 ≤ largest_size)
  bytes_counted = (search rules, search rules)

  halves : {u : Shape} {rest : List ℕ} (T : Begins u rest) → Halved place.depth T.path place.atoms v (drop 1 numbers) u rest
  halves {u} {rest} T =
      subst (λ (n : ℕ). Halved place.depth T.path place.atoms n (drop 1 numbers) u rest) (sym c.wide-v.ensures.same) (tree-split T c.if-tree-eq0.false)

  is-atom : is_atom place.atoms v ≡ true
  is-atom = (halves subtree).atom

  is-deep : 1 ≤ place.depth
  is-deep = (halves subtree).deep

  same-store₂ : length c.merge_side.new.store ≡ size
  same-store₂ = c.merge_side.auto.store

  long-first : length first ≡ longest
  long-first = c.merge_side.auto.output ∙ length-replicate {A = ℕ} longest 0

  same₂ : take place.used table₂ ≡ take place.used table
  same₂ =
      same-front place.used 5 table₁ table₂
      (subst (λ (q : Place). take q.used table₂ ≡ take q.used table₁) c.below-next.ensures c.merge_side.ensures.program)
      ∙ same-program standing (pos v) is-atom is-deep refl c.demand_atom.ensures

  long₂ : length table₂ ≡ length table
  long₂ = c.merge_side.auto.table ∙ wide-size standing (pos v) is-atom is-deep refl c.demand_atom.ensures

  standing₂ : {ws : List InputRule} → Stands ws → Standing place.depth place table₂ ws
  standing₂ S = standing-same S same₂ long₂

  told₁ : Tells table₁ first one size (place_below place) (drop 1 numbers) texts lengths
  told₁ =
      tells_as table₁ first one (refl {a = size}) c.below-next.ensures (tail_of 1 numbers) (refl {a = texts}) (refl {a = lengths})
      c.merge_side.ensures.side

  merged₁ : {ws : List InputRule} → Stands ws → {u : Shape} {rest : List ℕ} (T : Begins u rest)
      → Merged size place.limit (demanding_as_written ws (pos v)) (halves T).left (halves T).between (drop 1 numbers) texts lengths first one
  merged₁ {ws} S T =
      told₁ (demanding_as_written ws (pos v)) (standing-below S (pos v) is-atom is-deep refl c.demand_atom.ensures) _ _ (side-first T (halves T))

  -- it is a text
  module _ (p : Pending) (is : one ≡ Ok p) where
    took₁ : {ws : List InputRule} → Stands ws → {u : Shape} {rest : List ℕ} (T : Begins u rest)
        → (p.size ≤ longest) × Takes (halves T).left (halves T).between (drop 1 numbers) texts lengths p
    took₁ {ws} S T = first-took size place.limit ws T (halves T) (merged₁ S T) p is

    numbers-taken : 1 + p.numbers ≤ length numbers
    numbers-taken = omega (arith, (took₁ standing subtree).1.within.0, length-drop 1 numbers, some)

    bytes-taken : p.bytes ≤ length texts
    bytes-taken = (took₁ standing subtree).1.within.1

    ends-taken : p.ends ≤ length lengths
    ends-taken = omega (arith, (took₁ standing subtree).1.counted, split-leaves subtree (halves subtree))

    -- the table for the other side
    module _ (table₃ : List ℤ) (put : table₃ ≡ (take place.used table₂ ++ demand_words (pos v)) ++ replicate (length table₂ - place.used - 5) (pos 0)) where
      other-atom : is_atom place.atoms (variable (neg_ℤ (pos v))) ≡ true
      other-atom = subst (λ (u : ℕ). is_atom place.atoms u ≡ true) (sym (variable-complement (pos v))) is-atom

      standing₃ : {ws : List InputRule} → Stands ws → Standing (place.depth - 1) (place_below place) table₃ (demanding_as_written ws (neg_ℤ (pos v)))
      standing₃ S = standing-below (standing₂ S) (neg_ℤ (pos v)) other-atom is-deep (sym (complement-twice (pos v))) put

      same₃ : take place.used table₃ ≡ take place.used table
      same₃ = same-program (standing₂ standing) (neg_ℤ (pos v)) other-atom is-deep (sym (complement-twice (pos v))) put ∙ same₂

      long₃ : length table₃ ≡ length table
      long₃ = wide-size (standing₂ standing) (neg_ℤ (pos v)) other-atom is-deep (sym (complement-twice (pos v))) put ∙ long₂

      -- what the other side leaves of the table
      module _ (table₄ : List ℤ) (kept : take c.below-next.result.used table₄ ≡ take c.below-next.result.used table₃) (long : length table₄ ≡ length table₃) where
        same₄ : take place.used table₄ ≡ take place.used table
        same₄ =
            same-front place.used 5 table₃ table₄ (subst (λ (q : Place). take q.used table₄ ≡ take q.used table₃) c.below-next.ensures kept)
            ∙ same₃

        standing₄ : {ws : List InputRule} → Stands ws → Standing 1 place table₄ ws
        standing₄ S = standing-less (standing-same S same₄ (long ∙ long₃)) 1 is-deep

      -- what it comes to
      module _ (second : List ℕ) (two : Sided)
          (tells : Tells table₃ second two (length c.merge_side.new.store) c.below-next.result (take (length numbers - (1 + p.numbers)) (drop (1 + p.numbers) numbers))
          (take (length texts - p.bytes) (drop p.bytes texts)) (take (length lengths - p.ends) (drop p.ends lengths))) where
        told₂ : Tells table₃ second two size (place_below place) (drop (1 + p.numbers) numbers) (drop p.bytes texts) (drop p.ends lengths)
        told₂ =
            tells_as table₃ second two same-store₂ c.below-next.ensures (tail_of (1 + p.numbers) numbers) (tail_of p.bytes texts) (tail_of p.ends lengths)
            tells

        merged₂ : {ws : List InputRule} → Stands ws → {u : Shape} {rest : List ℕ} (T : Begins u rest)
            → Merged size place.limit (demanding_as_written ws (neg_ℤ (pos v))) (halves T).right rest (drop (1 + p.numbers) numbers) (drop p.bytes texts) (drop p.ends lengths) second two
        merged₂ {ws} S T = told₂ (demanding_as_written ws (neg_ℤ (pos v))) (standing₃ S) _ _ (side-second T (halves T) (took₁ S T).1)

        -- both joined, with a store of z words
        abbrev Joins : List InputRule → ℕ → Side → Type 0
        Joins ws z r =
            joined_sides z place.limit ws v (pending z (demanding_as_written ws (pos v)) (take p.size first) p.refusal)
            (side_of z (demanding_as_written ws (neg_ℤ (pos v))) second two)
            ≡ r

pub bounds-tree-0 : goal.bounds-tree-0
bounds-tree-0 t c = let h = some_number c.requires.tree.2 in omega (arith, h)

pub take_end-requires-clause-ends : goal.take_end-requires-clause-ends
take_end-requires-clause-ends t c = let T = c.requires.tree.2 in (some-length T, T.added)

pub returns-then-tree-eq0-clause-side : goal.returns-then-tree-eq0-clause-side
returns-then-tree-eq0-clause-side t c = λ ws S u rest T.
    end-merged (length c.args.store.now) c.args.place.limit ws T c.if-tree-eq0.true c.take_end.new.output c.take_end.result c.take_end.ensures

pub below-next-requires : goal.below-next-requires
below-next-requires t c =
    let w = (goal.at.below-next-requires t c).After-wide-v in
    let S = c.requires.place.1 in
    (deep t w, (omega (arith, S.room), omega (arith, S.rules)))

pub demand_atom-requires : goal.demand_atom-requires
demand_atom-requires t c = let w = (goal.at.demand_atom-requires t c).After-wide-v in (room t w, small t w)

pub merge_side-requires : goal.merge_side-requires
merge_side-requires t c =
    let w = (goal.at.merge_side-requires t c).After-wide-v in
    let d = (goal.at.merge_side-requires t c).After-demand_atom in
    let q = w.requires in
    let H = halved t w q.tree.2 in
    let x = sym c.below-next.ensures in
    let ws = demanding_as_written q.place.0 (pos w.wide-v.result) in (
      subst (λ (q : Place). q.depth < t) x (omega (arith, deep t w, c.decreases)),
      (
        (ws, subst (λ (q : Place). Standing q.depth q d.demand_atom.new.table ws) x (standing₁ t d (atom t w) (deep t w) q.place.1)),
        (
          (H.left, H.between, subtree-as x (sym (tail_of 1 w.args.tree.now)) (refl {a = w.args.texts.now}) (refl {a = w.args.lengths.now}) (side-first q.tree.2 H)),
          (q.empty, refl),
        ),
      ),
    )

pub forbid_atom-requires : goal.forbid_atom-requires
forbid_atom-requires t c =
    let w = (goal.at.forbid_atom-requires t c).After-wide-v in
    let f = (goal.at.forbid_atom-requires t c).After-merge_side in
    (omega (arith, room t w, long₂ t f), small t w)

pub overflow_add-numbers : goal.overflow_add-numbers
overflow_add-numbers t c =
    let f = (goal.at.overflow_add-numbers t c).After-merge_side in
    record { fits = omega (arith, (counted t f).0, numbers-taken t f c.in_ok-one.one c.in_ok-one.was) }

pub offset_bounds-tree-numbers : goal.offset_bounds-tree-numbers
offset_bounds-tree-numbers t c =
    let f = (goal.at.offset_bounds-tree-numbers t c).After-merge_side in
    record { fits = omega (arith, (bytes_counted t f).0, numbers-taken t f c.in_ok-one.one c.in_ok-one.was) }

pub slice_bounds-merge_side-count-2 : goal.slice_bounds-merge_side-count-2
slice_bounds-merge_side-count-2 t c = numbers-taken t (goal.at.slice_bounds-merge_side-count-2 t c).After-merge_side c.in_ok-one.one c.in_ok-one.was

pub slice_bounds-merge_side-start-2 : goal.slice_bounds-merge_side-start-2
slice_bounds-merge_side-start-2 t c = numbers-taken t (goal.at.slice_bounds-merge_side-start-2 t c).After-merge_side c.in_ok-one.one c.in_ok-one.was

pub slice_bounds-merge_side-count-3 : goal.slice_bounds-merge_side-count-3
slice_bounds-merge_side-count-3 t c = bytes-taken t (goal.at.slice_bounds-merge_side-count-3 t c).After-merge_side c.in_ok-one.one c.in_ok-one.was

pub slice_bounds-merge_side-start-3 : goal.slice_bounds-merge_side-start-3
slice_bounds-merge_side-start-3 t c = bytes-taken t (goal.at.slice_bounds-merge_side-start-3 t c).After-merge_side c.in_ok-one.one c.in_ok-one.was

pub offset_bounds-lengths-ends : goal.offset_bounds-lengths-ends
offset_bounds-lengths-ends t c =
    let f = (goal.at.offset_bounds-lengths-ends t c).After-merge_side in
    record { fits = omega (arith, (bytes_counted t f).1, ends-taken t f c.in_ok-one.one c.in_ok-one.was) }

pub slice_bounds-merge_side-count-4 : goal.slice_bounds-merge_side-count-4
slice_bounds-merge_side-count-4 t c = ends-taken t (goal.at.slice_bounds-merge_side-count-4 t c).After-merge_side c.in_ok-one.one c.in_ok-one.was

pub slice_bounds-merge_side-start-4 : goal.slice_bounds-merge_side-start-4
slice_bounds-merge_side-start-4 t c = ends-taken t (goal.at.slice_bounds-merge_side-start-4 t c).After-merge_side c.in_ok-one.one c.in_ok-one.was

pub merge_side-other-requires : goal.merge_side-other-requires
merge_side-other-requires t c =
    let f = (goal.at.merge_side-other-requires t c).After-merge_side in
    let p = c.in_ok-one.one in
    let is = c.in_ok-one.was in
    let H = halves t f (subtree t f) in
    let x = sym c.below-next.ensures in
    let ws = demanding_as_written f.requires.place.0 (neg_ℤ (pos (v t f))) in (
      subst (λ (q : Place). q.depth < t) x (omega (arith, is-deep t f, c.decreases)),
      (
        (ws, subst (λ (q : Place). Standing q.depth q c.forbid_atom.new.table ws) x (standing₃ t f p is c.forbid_atom.new.table c.forbid_atom.ensures (standing t f))),
        (
          (
            H.right,
            f.requires.tree.1,
            subtree-as x (sym (tail_of (1 + p.numbers) (numbers t f))) (sym (tail_of p.bytes (texts t f))) (sym (tail_of p.ends (lengths t f)))
                (side-second (subtree t f) H (took₁ t f p is (standing t f) (subtree t f)).1),
          ),
          ((zeros (pos 0) {n = size t f} f.merge_side.ensures.empty).0, refl),
        ),
      ),
    )

pub join_sides-requires-clause-place : goal.join_sides-requires-clause-place
join_sides-requires-clause-place t c =
    let f = (goal.at.join_sides-requires-clause-place t c).After-merge_side in
    let m = c.merge_side-other in (
      f.requires.place.0,
      standing₄ t f c.in_ok-one.one c.in_ok-one.was c.forbid_atom.new.table c.forbid_atom.ensures m.new.table m.ensures.program m.auto.table (standing t f),
    )

pub join_sides-requires-clause-atom : goal.join_sides-requires-clause-atom
join_sides-requires-clause-atom t c = is-atom t (goal.at.join_sides-requires-clause-atom t c).After-merge_side

pub join_sides-requires-clause-texts : goal.join_sides-requires-clause-texts
join_sides-requires-clause-texts t c =
    let f = (goal.at.join_sides-requires-clause-texts t c).After-merge_side in
    let m = c.merge_side-other in
    let p = c.in_ok-one.one in
    let is = c.in_ok-one.was in
    let T = subtree t f in
    sides-joinable (size t f) (place t f).limit f.requires.place.0 T (halves t f T) (merged₁ t f (standing t f) T) p is
    (merged₂ t f p is c.forbid_atom.new.table c.forbid_atom.ensures m.new.output m.result m.ensures.side (standing t f) T)
    (long-first t f) (m.auto.output ∙ length-replicate {A = ℕ} longest 0) (counted t f).0 (counted t f).1 (counted t f).2

pub returns-in_err-one-clause-program : goal.returns-in_err-one-clause-program
returns-in_err-one-clause-program t c = same₂ t (goal.at.returns-in_err-one-clause-program t c).After-merge_side

pub returns-in_err-one-clause-side : goal.returns-in_err-one-clause-side
returns-in_err-one-clause-side t c = λ ws S u rest T.
    let f = (goal.at.returns-in_err-one-clause-side t c).After-merge_side in
    handed-up _ c.from_residual.ensures.1 (first-refused (size t f) (place t f).limit ws T (halves t f T) (merged₁ t f S T) _ c.in_err-one.was)

pub returns-clause-program : goal.returns-clause-program
returns-clause-program t c =
    let f = (goal.at.returns-clause-program t c).After-merge_side in
    let m = c.merge_side-other in
    c.join_sides.ensures.program ∙ same₄ t f c.in_ok-one.one c.in_ok-one.was c.forbid_atom.new.table c.forbid_atom.ensures m.new.table m.ensures.program m.auto.table

pub returns-clause-side : goal.returns-clause-side
returns-clause-side t c = λ ws S u rest T.
    let f = (goal.at.returns-clause-side t c).After-merge_side in
    let m = c.merge_side-other in
    let p = c.in_ok-one.one in
    let is = c.in_ok-one.was in
    let table₃ = c.forbid_atom.new.table in
    let put = c.forbid_atom.ensures in
    let g = c.join_sides in
    sides-joined (size t f) (place t f).limit ws T (halves t f T) (merged₁ t f S T) p is (merged₂ t f p is table₃ put m.new.output m.result m.ensures.side S T)
    (subst (λ (z : ℕ). Joins t f p is table₃ put m.new.output m.result m.ensures.side ws z (side_of z ws g.new.output g.result)) (m.auto.store ∙ same-store₂ t f)
    (g.ensures.side ws (standing₄ t f p is table₃ put m.new.table m.ensures.program m.auto.table S)))
    g.ensures.taken
