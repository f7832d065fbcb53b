-- The converse of Decimals.antt: bytes that are read as a number, or as the numbers of a line, are the one spelling of them.
-- Assumes nothing.
use mathlib.Core.Path.{◌≡◌, refl, sym, ◌∙◌, ap, ap₂}
use mathlib.Core.Bool.{Bool, true, false, cond, ◌&&◌}
use mathlib.Core.Option.{Option, none, some, none-ne-some, some-injective}
use mathlib.Core.List.{List, [], ◌∷◌, ◌++◌, map, append-nil, append_assoc, tail-eq_of_cons-eq}
use Prim.Native.Nat.{ℕ, zero, suc, ◌+◌, ◌-◌, ◌*◌, ◌/◌, ◌%◌, ◌<◌}
use native.Mathlib.Nat.{div-add-mod', mod-lt}
use native.Mathlib.Omega.{arith}
use borrow.Author.Tests.{eqb-true, leb-true}
use lib.Dec.{eqb, leb}
use lib.IntN.{ℤ, pos, negsuc}
use lib.Seq.{append_snoc}
use Rattle.words.proofs.Lists.{zero_one, and_left, and_right}
use Rattle.text.specs.Bytes.{byte_of, class_of}
use Rattle.text.specs.Decimals.{digit_byte, decimal, number_bytes}
use Rattle.text.specs.Line.{digits, natural, non_negative, negative, number, also, numbers_in, Words, unended, words, new_word, joined, cut, numbers, spanned, of_words, line_of}
use Rattle.text.specs.declared.Letter.{Letter}
use Rattle.text.specs.declared.Letter.TheVariants.{Addition, Body, Completion, Deletion, Extension, Loop, Support}
use Rattle.text.specs.declared.Class.{Class}
use Rattle.text.specs.declared.Class.TheVariants.{Newline, Space, Minus, Digit, Step, Other}
use Rattle.text.proofs.Decimals.{rest, line_bytes}
use Rattle.text.proofs.Puts.{decimal-one, decimal-more}

-- Bytes

-- what the class of a byte says of the byte
abbrev pub Byte : ℕ → Class → Type 0
Byte b Newline = b ≡ 10
Byte b Space = b ≡ 32
Byte b Minus = b ≡ 45
Byte b (Digit d) = (b ≡ digit_byte d) × (d < 10)
Byte b (Step x) = b ≡ byte_of x
Byte b Other = Unit {0}

-- the same as a record, so that the class is read off its type
record Is (b : ℕ) (c : Class) : Type 0 where
  byte : Byte b c

is-of : (b : ℕ) → Is b (class_of b)
is-of b =
    at 10 (λ e. record { byte = e }) (at 32 (λ e. record { byte = e }) (at 45 (λ e. record { byte = e }) (by (leb 48 b && leb b 57) digit (
    at 97 (λ e. record { byte = e }) (at 98 (λ e. record { byte = e }) (at 99 (λ e. record { byte = e }) (at 100 (λ e. record { byte = e })
    (at 101 (λ e. record { byte = e }) (at 108 (λ e. record { byte = e }) (at 115 (λ e. record { byte = e }) (record { byte = tt })))))))))))
  where
    by : (t : Bool) {c d : Class} → (t ≡ true → Is b c) → Is b d → Is b (cond t c d)
    by true f o = f refl
    by false f o = o

    at : (n : ℕ) {c d : Class} → (b ≡ n → Is b c) → Is b d → Is b (cond (eqb b n) c d)
    at n f o = by (eqb b n) (λ e. f (eqb-true b n e)) o

    digit : (leb 48 b && leb b 57) ≡ true → Is b (Digit (b - 48))
    digit e =
        let l = leb-true 48 b (and_left (leb 48 b) (leb b 57) e) in
        let h = leb-true b 57 (and_right (leb 48 b) (leb b 57) e) in
        record { byte = (omega arith, omega arith) }

pub byte-of : (b : ℕ) → Byte b (class_of b)
byte-of b = (is-of b).byte

-- a step letter's byte is of its class
pub class-letter : (x : Letter) → class_of (byte_of x) ≡ Step x
class-letter Addition = refl
class-letter Body = refl
class-letter Completion = refl
class-letter Deletion = refl
class-letter Extension = refl
class-letter Loop = refl
class-letter Support = refl

-- Digits

-- the last digit
decimal-last : (m d : ℕ) → 0 < m → d < 10 → decimal (m * 10 + d) ≡ decimal m ++ (digit_byte d ∷ [])
decimal-last m d p h =
    let n = m * 10 + d in
    let e = div-add-mod' n 10 in
    let l = mod-lt n {m = 10} (omega arith) in
    let q : n / 10 ≡ m = omega arith in
    let r : n % 10 ≡ d = omega arith in
    decimal-more n (omega arith) ∙ ap₂ (λ a b. decimal a ++ (digit_byte b ∷ [])) q r

-- Numbers

-- digits after those of m
digits-spelled : (w : List ℕ) (m n : ℕ) → 0 < m → digits m (map class_of w) ≡ some n → decimal m ++ w ≡ decimal n
digits-spelled [] m n p e = append-nil (decimal m) ∙ ap decimal (some-injective m n e)
digits-spelled (b ∷ w) m n p e = by (λ k q f. digits-spelled w k n q f) (class_of b) (byte-of b) e
  where
    by : ((k : ℕ) → 0 < k → digits k (map class_of w) ≡ some n → decimal k ++ w ≡ decimal n)
        → (c : Class) → Byte b c → digits m (c ∷ map class_of w) ≡ some n → decimal m ++ (b ∷ w) ≡ decimal n
    by f (Digit d) o e = rw o.0 (sym (append_snoc (decimal m) (digit_byte d) w) ∙ rw (sym (decimal-last m d p o.1)) (f (m * 10 + d) (omega arith) e))
    by f Newline o e = absurd (none-ne-some n e)
    by f Space o e = absurd (none-ne-some n e)
    by f Minus o e = absurd (none-ne-some n e)
    by f (Step x) o e = absurd (none-ne-some n e)
    by f Other o e = absurd (none-ne-some n e)

-- "without leading zeros": only `decimal m` is read as m
pub natural-spelled : (w : List ℕ) (m : ℕ) → natural (map class_of w) ≡ some m → w ≡ decimal m
natural-spelled [] m e = absurd (none-ne-some m e)
natural-spelled (b ∷ w) m e = by (class_of b) (byte-of b) e
  where
    alone : (v : List ℕ) → Byte b (Digit zero) → natural (Digit zero ∷ map class_of v) ≡ some m → b ∷ v ≡ decimal m
    alone [] o e = rw (o.0, sym (some-injective 0 m e)) (sym (decimal-one 0 (omega arith)))
    alone (c ∷ v) o e = absurd (none-ne-some m e)

    by : (c : Class) → Byte b c → natural (c ∷ map class_of w) ≡ some m → b ∷ w ≡ decimal m
    by (Digit zero) o e = alone w o e
    by (Digit (suc d)) o e = rw o.0 (rw (decimal-one (suc d) o.1) at (digits-spelled w (suc d) m (omega arith) e))
    by Newline o e = absurd (none-ne-some m e)
    by Space o e = absurd (none-ne-some m e)
    by Minus o e = absurd (none-ne-some m e)
    by (Step x) o e = absurd (none-ne-some m e)
    by Other o e = absurd (none-ne-some m e)

pub number_spelled : (w : List ℕ) (z : ℤ) → number (map class_of w) ≡ some z → w ≡ number_bytes z
unfolding number_bytes
number_spelled [] z e = absurd (none-ne-some z e)
number_spelled (b ∷ w) z e = by (class_of b) refl (byte-of b) e
  where
    whole : (o : Option ℕ) → natural (map class_of (b ∷ w)) ≡ o → non_negative o ≡ some z → b ∷ w ≡ number_bytes z
    whole none q e = absurd (none-ne-some z e)
    whole (some m) q e = natural-spelled (b ∷ w) m q ∙ ap number_bytes (some-injective (pos m) z e)

    minus : b ≡ 45 → (o : Option ℕ) → natural (map class_of w) ≡ o → negative o ≡ some z → b ∷ w ≡ number_bytes z
    minus p none q e = absurd (none-ne-some z e)
    minus p (some zero) q e = absurd (none-ne-some z e)
    minus p (some (suc m)) q e = ap₂ (λ a l. a ∷ l) p (natural-spelled w (suc m) q) ∙ ap number_bytes (some-injective (negsuc m) z e)

    by : (c : Class) → class_of b ≡ c → Byte b c → number (c ∷ map class_of w) ≡ some z → b ∷ w ≡ number_bytes z
    by (Digit d) q o e = whole (natural (Digit d ∷ map class_of w)) (rw q) e
    by Minus q o e = minus o (natural (map class_of w)) refl e
    by Newline q o e = absurd (none-ne-some z e)
    by Space q o e = absurd (none-ne-some z e)
    by (Step x) q o e = absurd (none-ne-some z e)
    by Other q o e = absurd (none-ne-some z e)

-- Words

-- words as bytes, each after a space, and the newline
behind : List (List ℕ) → List ℕ
behind [] = 10 ∷ []
behind (v ∷ vs) = 32 ∷ (v ++ behind vs)

-- the bytes that a text's first line is cut into
record Pieces (s : List ℕ) (w : List Class) (ws : List (List Class)) : Type 0 where
  first : List ℕ
  others : List (List ℕ)
  left : List ℕ
  first-is : map class_of first ≡ w
  others-are : map (map class_of) others ≡ ws
  text : s ≡ first ++ (behind others ++ left)

abbrev Cut : List ℕ → Words → Type 0
Cut s unended = Unit {0}
Cut s (words w ws) = Pieces s w ws

cut-pieces : (s : List ℕ) → Cut s (cut (map class_of s))
unfolding behind
cut-pieces [] = tt
cut-pieces (b ∷ s) = by (class_of b) refl (byte-of b) (cut-pieces s)
  where
    joining : (c : Class) → class_of b ≡ c → (o : Words) → Cut s o → Cut (b ∷ s) (joined c o)
    joining c q unended p = tt
    joining c q (words w ws) p =
        record {
          first = b ∷ p.first;
          others = p.others;
          left = p.left;
          first-is = ap₂ (λ a l. a ∷ l) q p.first-is;
          others-are = p.others-are;
          text = ap (λ (l : List ℕ). b ∷ l) p.text;
        }

    parting : b ≡ 32 → (o : Words) → Cut s o → Cut (b ∷ s) (new_word o)
    parting q unended p = tt
    parting q (words w ws) p =
        record {
          first = [];
          others = p.first ∷ p.others;
          left = p.left;
          first-is = refl;
          others-are = ap₂ (λ a l. a ∷ l) p.first-is p.others-are;
          text = ap₂ (λ a l. a ∷ l) q (p.text ∙ sym (append_assoc p.first (behind p.others) p.left));
        }

    by : (c : Class) → class_of b ≡ c → Byte b c → Cut s (cut (map class_of s)) → Cut (b ∷ s) (cut (c ∷ map class_of s))
    by Newline q o p = record { first = []; others = []; left = s; first-is = refl; others-are = refl; text = ap (λ a. a ∷ s) o }
    by Space q o p = parting o (cut (map class_of s)) p
    by Minus q o p = joining Minus q (cut (map class_of s)) p
    by (Digit d) q o p = joining (Digit d) q (cut (map class_of s)) p
    by (Step x) q o p = joining (Step x) q (cut (map class_of s)) p
    by Other q o p = joining Other q (cut (map class_of s)) p

words-spelled : (us : List (List ℕ)) (zs : List ℤ) → numbers_in (map (map class_of) us) ≡ some zs → behind us ≡ rest zs
unfolding behind rest
words-spelled [] zs e = ap rest (some-injective [] zs e)
words-spelled (u ∷ us) zs e = by (number (map class_of u)) refl (numbers_in (map (map class_of) us)) refl (λ ys f. words-spelled us ys f) e
  where
    by : (a : Option ℤ) → number (map class_of u) ≡ a → (o : Option (List ℤ)) → numbers_in (map (map class_of) us) ≡ o
        → ((ys : List ℤ) → numbers_in (map (map class_of) us) ≡ some ys → behind us ≡ rest ys) → also a o ≡ some zs → behind (u ∷ us) ≡ rest zs
    by none p o q f e = absurd (none-ne-some zs e)
    by (some z) p none q f e = absurd (none-ne-some zs e)
    by (some z) p (some ys) q f e =
        ap₂ (λ (a l : List ℕ). 32 ∷ (a ++ l)) (number_spelled u z p) (f ys q) ∙ ap rest (some-injective (z ∷ ys) zs e)

-- Lines

numbers_of : (w : List Class) (ws : List (List Class)) (z : ℤ) (zs : List ℤ) (n : ℕ) → of_words (words w ws) ≡ numbers (z ∷ zs) n → numbers_in (w ∷ ws) ≡ some (z ∷ zs)
numbers_of [] [] z zs n e = absurd (never e)
  where
    never : numbers [] 1 ≡ numbers (z ∷ zs) n → ⊥
    never e = let q : ◌≡◌ {A = List ℤ} [] (z ∷ zs) = cc in zero_one (cc)
numbers_of [] (w ∷ ws) z zs n e = absurd (zero_one (cc))
numbers_of (c ∷ w) ws z zs n e = by (numbers_in ((c ∷ w) ∷ ws)) _ e
  where
    by : (o : Option (List ℤ)) (k : ℕ) → spanned o k ≡ numbers (z ∷ zs) n → o ≡ some (z ∷ zs)
    by none k e = absurd (zero_one (cc))
    by (some ys) k e = let q : ys ≡ z ∷ zs = cc in ap some q

first-spelled : (u : List ℕ) (us : List (List ℕ)) (z : ℤ) (zs : List ℤ) → numbers_in (map (map class_of) (u ∷ us)) ≡ some (z ∷ zs) → u ++ behind us ≡ line_bytes z zs
unfolding behind rest line_bytes
first-spelled u us z zs e = tail-eq_of_cons-eq (words-spelled (u ∷ us) (z ∷ zs) e)

-- a line that is read is the line that is written with its numbers
pub line-spelled : (s : List ℕ) (z : ℤ) (zs : List ℤ) (n : ℕ) → line_of s ≡ numbers (z ∷ zs) n → (r : List ℕ) × (s ≡ line_bytes z zs ++ r)
unfolding line_of
line-spelled s z zs n e = by (cut (map class_of s)) (cut-pieces s) e
  where
    by : (o : Words) → Cut s o → of_words o ≡ numbers (z ∷ zs) n → (r : List ℕ) × (s ≡ line_bytes z zs ++ r)
    by unended p e = absurd (zero_one (cc))
    by (words w ws) p e =
        let q : numbers_in (map (map class_of) (p.first ∷ p.others)) ≡ some (z ∷ zs) = rw (p.first-is, p.others-are) (numbers_of w ws z zs n e) in
        (p.left, p.text ∙ sym (append_assoc p.first (behind p.others) p.left) ∙ ap (λ (l : List ℕ). l ++ p.left) (first-spelled p.first p.others z zs q))
