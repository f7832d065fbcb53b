-- The claims of moves between the versions (specs/Claims.antt): `one-two`, `up-down`, `down-up`, `down-refused`. All come from what is read
-- and written in either version.
-- Assumes nothing.
use mathlib.Core.Path.{◌≡◌, refl, sym, ◌∙◌, ap}
use mathlib.Core.Bool.{Bool, true, false, cond, ◌&&◌, and-false, true≢false}
use mathlib.Core.Option.{Option, none, some}
use mathlib.Core.Logic.{inl, inr}
use mathlib.Core.List.Memᴰ
use mathlib.Core.List.{List, [], ◌∷◌}
use Prim.Native.Nat.{ℕ, ◌≤◌}
use native.Mathlib.Omega.{arith}
use borrow.Author.Tests.{le-leb, lt-leb, leb-true, leb-false}
use lib.Dec.{leb}
use lib.ListN.{length}
use Rattle.words.specs.Limits.{largest}
use Rattle.words.specs.Lists.{◌∈◌, all}
use Rattle.words.proofs.Lists.{and_right, by-test, zero_one}
use Rattle.text.specs.Strings.{starts_with}
use Rattle.aspif.specs.Rules.{InputRule, is_plain, all_plain}
use Rattle.drupe.specs.Texts.{Step}
use Rattle.packets.specs.Bytes.{numbers_from}
use Rattle.packets.specs.Packets.{limit, has_words, mark, packet_of, pair_top, fits, word_count, step_count, word_part, step_part, lengths_fit, rules_in, steps_in, PacketRead, refused, pair, paired, if_fits, parts_read, pair_in, unwritten, written, held, up, down}
use Rattle.packets.specs.Claims.{OneTwo, UpDown, DownUp, TooNew, DownRefused}
use Rattle.packets.specs.declared.Version.{Version}
use Rattle.packets.specs.declared.Version.TheVariants.{One, Two}
use Rattle.packets.proofs.RuleParts.{all-worded}
use Rattle.packets.proofs.Claims.{Sound, packet-pair, fits-pair, taken, sound, form, read-pair, held_bytes}

pub one-two : OneTwo
one-two P ts e =
    let h = leb-true (pair_top P ts) (limit One) (and_right (all (has_words One) P) _ e) in
    rw (all-worded P, le-leb (pair_top P ts) largest (omega arith))

-- a pair that passes for one version passes for another that can hold it
also : (v w : Version) (P : List InputRule) (ts : List Step) → Sound v P ts → fits w P ts ≡ true → Sound w P ts
also v w P ts s f = record { few = s.few; formed = s.formed; fitting = f; passes = s.passes; short = s.short }

-- a packet that holds a pair goes up, where the output is long enough
goes-up : (packet : List ℕ) (P : List InputRule) (ts : List Step) (size : ℕ) → pair_in One packet ≡ pair P ts → length (packet_of Two P ts) ≤ size
    → up packet size ≡ written (packet_of Two P ts)
unfolding up
goes-up packet P ts size e h = rw (e, le-leb (length (packet_of Two P ts)) size h)

-- and down
goes_down : (packet : List ℕ) (P : List InputRule) (ts : List Step) (size : ℕ) → pair_in Two packet ≡ pair P ts → fits One P ts ≡ true
    → length (packet_of One P ts) ≤ size → down packet size ≡ written (packet_of One P ts)
unfolding down
goes_down packet P ts size e f h = rw (e, f, le-leb (length (packet_of One P ts)) size h)

pub up-down : UpDown
up-down packet table_size text_size P ts b e =
    let p = (read-pair One packet table_size text_size P ts e).0 in
    let t = taken One packet P ts p in
    let s = sound One packet P ts t in
    let o = form One packet P ts t b in
    let q = packet-pair Two P ts (also One Two P ts s (one-two P ts s.fitting)) in (
      packet_of Two P ts,
      (
        λ size h. goes-up packet P ts size p h,
        λ size h. goes_down (packet_of Two P ts) P ts size q s.fitting (rw o at h) ∙ ap written (sym o),
      ),
    )

pub down-up : DownUp
unfolding down
down-up packet moved room size b e h =
    let d = held_bytes One room (if_fits One 61 (pair_in Two packet)) moved e in
    let P = d.0 in
    let ts = d.1.0 in
    let f = fits-pair One 61 (pair_in Two packet) P ts d.1.1.0 in
    let t = taken Two packet P ts f.0 in
    let o = form Two packet P ts t b in
    let q = packet-pair One P ts (also Two One P ts (sound Two packet P ts t) f.1) in
    rw d.1.1.1 (goes-up (packet_of One P ts) P ts size q (rw o at h) ∙ ap written (sym o))

-- 61

-- what version 1 cannot hold
some-new : (P : List InputRule) → all_plain P ≡ false → (r : InputRule) × ((r ∈ P) × (is_plain r ≡ false))
some-new [] e = absurd (true≢false e)
some-new (r ∷ P) e = by (is_plain r) refl e (λ d. some-new P d)
  where
    by : (b : Bool) → is_plain r ≡ b → (b && all_plain P) ≡ false → (all_plain P ≡ false → (s : InputRule) × ((s ∈ P) × (is_plain s ≡ false)))
        → (s : InputRule) × ((s ∈ r ∷ P) × (is_plain s ≡ false))
    by false p e f = (r, (Memᴰ.head refl, p))
    by true p e f = let g = f e in (g.0, (Memᴰ.tail g.1.0, g.1.1))

no-longer-plain : {r : InputRule} {P : List InputRule} → r ∈ P → is_plain r ≡ false → all_plain P ≡ false
no-longer-plain (Memᴰ.head {x = x} {xs = P} e) p = let q : is_plain x ≡ false = rw e at p in rw q
no-longer-plain (Memᴰ.tail {x = x} m) p = rw (no-longer-plain m p) (and-false (is_plain x))

too-new : (P : List InputRule) (ts : List Step) → fits One P ts ≡ false → TooNew P ts
too-new P ts e = by (all_plain P) refl e
  where
    by : (b : Bool) → all_plain P ≡ b → (b && leb (pair_top P ts) (limit One)) ≡ false → TooNew P ts
    by false p e = inl (some-new P p)
    by true p e = inr (leb-false (pair_top P ts) (limit One) e)

not-held : (P : List InputRule) (ts : List Step) → TooNew P ts → fits One P ts ≡ false
not-held P ts (inl n) = rw (no-longer-plain n.1.0 n.1.1)
not-held P ts (inr h) = rw (lt-leb (pair_top P ts) (limit One) h) (and-false (all_plain P))

-- the numbers of the refusals before it are lower
abbrev Lower : PacketRead → Type 0
Lower (refused k) = k ≤ 53
Lower (pair P ts) = Unit {0}

lower : (v : Version) (packet : List ℕ) → Lower (pair_in v packet)
unfolding pair_in parts_read
lower v packet =
    by-test Lower (starts_with (mark v) packet)
    (λ _. by-test Lower (lengths_fit packet) (λ _. parts (rules_in v (numbers_from 4 (word_count packet) (word_part packet))) (steps_in (step_count packet) (step_part packet))) (λ _. omega arith))
    (λ _. omega arith)
  where
    parts : (o : Option (List InputRule)) (q : Option (List Step)) → Lower (if_fits v 53 (paired o q))
    parts none q = omega arith
    parts (some P) none = omega arith
    parts (some P) (some ts) = by-test Lower (fits v P ts) (λ _. tt) (λ _. omega arith)

-- a refusal with 61 is one of a pair
is-new : (size : ℕ) (x : PacketRead) → Lower x → held One size (if_fits One 61 x) ≡ unwritten 61
    → (P : List InputRule) × ((ts : List Step) × ((x ≡ pair P ts) × (fits One P ts ≡ false)))
is-new size (refused k) l e = let n : k ≡ 61 = cc in absurd (omega arith)
is-new size (pair P ts) l e = by (fits One P ts) refl e
  where
    room : (b : Bool) → cond b (written (packet_of One P ts)) (unwritten 52) ≡ unwritten 61 → ⊥
    room true e = zero_one (cc)
    room false e = let n : ◌≡◌ {A = ℕ} 52 61 = cc in omega arith

    by : (a : Bool) → fits One P ts ≡ a → held One size (cond a (pair P ts) (refused 61)) ≡ unwritten 61
        → (Q : List InputRule) × ((us : List Step) × ((pair P ts ≡ pair Q us) × (fits One Q us ≡ false)))
    by false f e = (P, (ts, (refl, f)))
    by true f e = absurd (room (leb (length (packet_of One P ts)) size) e)

pub down-refused : DownRefused
unfolding down
down-refused packet size = (there, back)
  where
    there : held One size (if_fits One 61 (pair_in Two packet)) ≡ unwritten 61
        → (P : List InputRule) × ((ts : List Step) × ((pair_in Two packet ≡ pair P ts) × TooNew P ts))
    there e =
        let n = is-new size (pair_in Two packet) (lower Two packet) e in
        (n.0, (n.1.0, (n.1.1.0, too-new n.0 n.1.0 n.1.1.1)))

    back : (P : List InputRule) (ts : List Step) → pair_in Two packet ≡ pair P ts → TooNew P ts → held One size (if_fits One 61 (pair_in Two packet)) ≡ unwritten 61
    back P ts e n = rw (e, not-held P ts n)
