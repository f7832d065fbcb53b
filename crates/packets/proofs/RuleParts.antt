-- The rules in a packet's words: those of rules that are formed and have words in the version are read back, and words that are read are
-- those of the rules. One rule goes by cases on the version, as far as `front-rule` and `rule-few`, and rules one after another do not.
-- Assumes nothing.
use mathlib.Core.Path.{◌≡◌, refl, sym, ◌∙◌, ap, ap₂}
use mathlib.Core.Bool.{Bool, true, false, cond, true≢false}
use mathlib.Core.Option.{Option, none, some, some-injective, none-ne-some}
use mathlib.Core.Logic.{inl, inr}
use mathlib.Core.List.Memᴰ
use mathlib.Core.List.{List, [], ◌∷◌, ◌++◌, append_assoc}
use Prim.Native.Nat.{ℕ, zero, suc, ◌+◌, ◌-◌, ◌*◌, ◌<◌, ◌≤◌}
use native.Mathlib.Omega.{arith}
use lib.IntN.{ℤ, pos}
use lib.Signed.{mag}
use lib.ListN.{length, take, drop, length-append, length-drop, take-append-drop}
use lib.Seq.{take_at, drop_at, take-add}
use Rattle.words.specs.Lists.{◌∈◌, all}
use Rattle.words.specs.Limits.{most_literals}
use Rattle.words.proofs.Lists.{and_left, and_right, or-false-right, each-cons, by-test}
use Rattle.weights.specs.Weights.{Weighted, literals, pair_words}
use Rattle.text.specs.Line.{outside, any_outside}
use Rattle.aspif.specs.Rules.{Body, plain, weights, InputRule, is_plain_body, literals_of, kind_word, rule_words}
use Rattle.aspif.specs.Tables.{is_weighted, head_count, body_length, size_at, body_at, rule_at, shape_sound, sound_at}
use Rattle.aspif.specs.declared.Kind.{Kind}
use Rattle.aspif.specs.declared.Kind.TheVariants.{Normal, Choice}
use Rattle.aspif.proofs.Cursors.{shaped, shape_of}
use Rattle.aspif.proofs.Formed.{Weighing, Formed, inside}
use Rattle.aspif.proofs.PairWords.{Light, length_pairs}
use Rattle.aspif.proofs.Readable.{sound-words, rule-at, rest_at, rule-formed, front-words}
use Rattle.packets.specs.Packets.{packet_rule, has_words, packet_words, prepend, with_kind, as_table, fewer, rule_passes, rule_size, rule_in, rules_from}
use Rattle.packets.specs.declared.Version.{Version}
use Rattle.packets.specs.declared.Version.TheVariants.{One, Two}
use Rattle.packets.specs.Parts.{most_words}
use Rattle.packets.proofs.Littles.{InRange}
use Rattle.packets.proofs.StepParts.{small}

-- One rule at the front of a packet's words

-- a rule with another body
abbrev having : InputRule → Body → InputRule
having r b = record { kind = r.kind; heads = r.heads; body = b }

-- in version 2 every rule has words
pub all-worded : (P : List InputRule) → all (has_words Two) P ≡ true
all-worded [] = refl
all-worded (r ∷ P) = all-worded P

-- as the table has them, its words are those of the table
pub table-words : (v : Version) (r : InputRule) (t : List ℤ) → has_words v r ≡ true → as_table v (packet_rule v r ++ t) ≡ rule_words r ++ t
unfolding with_kind
table-words One r t = by r.body
  where
    by : (b : Body) → is_plain_body b ≡ true → with_kind (packet_rule One (having r b) ++ t) ≡ rule_words (having r b) ++ t
    by (plain ls) e = refl
    by (weights b l) e = absurd (true≢false (sym e))
table-words Two r t = λ _. refl

-- of which there are so many more
pub words_more : (v : Version) (r : InputRule) → has_words v r ≡ true → length (rule_words r) ≡ length (packet_rule v r) + fewer v
words_more One r = by r.body
  where
    by : (b : Body) → is_plain_body b ≡ true → length (rule_words (having r b)) ≡ length (packet_rule One (having r b)) + 1
    by (plain ls) e = omega arith
    by (weights b l) e = absurd (true≢false (sym e))
words_more Two r = λ _. omega arith

-- three words at least
pub some_words : (v : Version) (r : InputRule) → 3 ≤ length (packet_rule v r)
some_words One r = omega arith
some_words Two r = omega arith

size_fits : (ws : List ℤ) → shape_sound ws ≡ true → size_at ws ≤ length ws
unfolding size_at
size_fits ws e = (shaped ws e).fits

-- a rule that is formed passes, and is the rule there
module _ (v : Version) (r : InputRule) (f : Formed r) (p : has_words v r ≡ true) (t : List ℤ) where
  pub passes : rule_passes v (packet_rule v r ++ t) ≡ true
  passes = ap sound_at (table-words v r t p) ∙ sound-words r f t

  pub rule-in : rule_in v (packet_rule v r ++ t) ≡ r
  rule-in = rw (table-words v r t p) (rule-at r t)

  pub size_in : rule_size v (packet_rule v r ++ t) ≡ length (packet_rule v r)
  size_in =
      let ws = rule_words r ++ t in
      let s = size_fits ws (shape_of ws (sound-words r f t)) in
      let d = sym (length-drop (size_at ws) ws) ∙ ap length (rest_at r t) in
      rw (table-words v r t p) (omega (arith, s, d, length-append (rule_words r) t, words_more v r p))

-- a rule of the table has four words at least, and they are the first of those that it stands at the front of
pub size-large : (ws : List ℤ) → 4 ≤ size_at ws
unfolding size_at
size-large ws = by-test (λ n. 4 ≤ n + head_count ws + body_length ws) (is_weighted ws) (λ e. omega arith) (λ e. omega arith)

pub rule-long : (ws : List ℤ) → sound_at ws ≡ true → length (rule_words (rule_at ws)) ≡ size_at ws
rule-long ws e =
    let r = rule_words (rule_at ws) in
    let t = drop (size_at ws) ws in
    omega (arith, size_fits ws (shape_of ws e), ap length (front-words ws e), length-append r t, length-drop (size_at ws) ws)

pub rule-part : (ws : List ℤ) → sound_at ws ≡ true → take (size_at ws) ws ≡ rule_words (rule_at ws)
rule-part ws e =
    ap (take (size_at ws)) (front-words ws e) ∙ take_at (rule_words (rule_at ws)) (drop (size_at ws) ws) (size_at ws) (rule-long ws e)

-- words that pass are those of such a rule, and what comes after it
pub record FrontRule (v : Version) (ws : List ℤ) : Type 0 where
  pub formed : Formed (rule_in v ws)
  pub worded : has_words v (rule_in v ws) ≡ true
  pub words : ws ≡ packet_rule v (rule_in v ws) ++ drop (rule_size v ws) ws

pub front-rule : (v : Version) (ws : List ℤ) → rule_passes v ws ≡ true → FrontRule v ws
unfolding with_kind body_at
front-rule Two ws e =
    let n : size_at ws - 0 ≡ size_at ws = omega arith in
    record { formed = rule-formed ws e; worded = refl; words = rw n (front-words ws e) }
front-rule One [] e = absurd (omega (arith, (shaped _ (shape_of _ e)).fits))
front-rule One (k ∷ []) e = absurd (omega (arith, (shaped _ (shape_of _ e)).fits))
front-rule One (k ∷ h ∷ l) e =
    let ws = k ∷ h ∷ l in
    let t = drop (rule_size One ws) ws in
    let d : drop (size_at (with_kind ws)) (with_kind ws) ≡ t = less (size_at (with_kind ws)) (size-large (with_kind ws)) in
    let w : with_kind ws ≡ with_kind (packet_rule One (rule_in One ws) ++ t) =
    front-words (with_kind ws) e ∙ ap (λ (m : List ℤ). rule_words (rule_in One ws) ++ m) d ∙ sym (table-words One (rule_in One ws) t refl) in
    record { formed = rule-formed (with_kind ws) e; worded = refl; words = ap (λ (m : List ℤ). take 2 m ++ drop 3 m) w }
  where
    less : (n : ℕ) → 4 ≤ n → drop n (with_kind (k ∷ h ∷ l)) ≡ drop (n - 1) (k ∷ h ∷ l)
    less zero g = absurd (omega arith)
    less (suc zero) g = absurd (omega arith)
    less (suc (suc zero)) g = absurd (omega arith)
    less (suc (suc (suc n))) g = let m : suc (suc (suc n)) - 1 ≡ suc (suc n) = omega arith in rw m

-- so many words
pub rule-size : (v : Version) (ws : List ℤ) → rule_passes v ws ≡ true → rule_size v ws ≡ length (packet_rule v (rule_in v ws))
rule-size v ws e =
    let f = front-rule v ws e in
    ap (rule_size v) f.words ∙ size_in v (rule_in v ws) f.formed f.worded (drop (rule_size v ws) ws)

-- a rule takes at most so many words
table-few : (r : InputRule) → Formed r → length (rule_words r) ≤ most_words
table-few r f = by r.body f.body-few f.weighing
  where
    by : (b : Body) → length (literals_of b) ≤ most_literals → Weighing b → length (rule_words (having r b)) ≤ most_words
    by (plain ls) h w = omega (arith, h, f.heads-few, length-append r.heads ls)
    by (weights b l) h w = omega (arith, w.0, f.heads-few, length-append r.heads (pair_words l), length_pairs l)

pub rule-few : (v : Version) (r : InputRule) → Formed r → length (packet_rule v r) ≤ most_words
rule-few One r f = omega (arith, f.heads-few, f.body-few, length-append r.heads (literals_of r.body))
rule-few Two r f = table-few r f

-- the first words tell
module _ (v : Version) (ws : List ℤ) where
  abbrev front : List ℤ
  front = take most_words ws

  -- of a rule there, they are its words and some of the rest
  front_of : (r : InputRule) (t : List ℤ) → Formed r → ws ≡ packet_rule v r ++ t → (u : List ℤ) × (front ≡ packet_rule v r ++ u)
  front_of r t f e =
      let n = length (packet_rule v r) in
      let m : most_words ≡ n + (most_words - n) = omega (arith, rule-few v r f) in
      let p = ap₂ (λ (a b : List ℤ). a ++ take (most_words - n) b) (take_at (packet_rule v r) t n refl) (drop_at (packet_rule v r) t n refl) in
      (take (most_words - n) t, ap₂ take m e ∙ take-add n (most_words - n) (packet_rule v r ++ t) ∙ p)

  pub first_passes : rule_passes v front ≡ rule_passes v ws
  first_passes = by (rule_passes v ws) (rule_passes v front) refl refl
    where
      by : (a b : Bool) → rule_passes v ws ≡ a → rule_passes v front ≡ b → b ≡ a
      by true b p q =
          let f = front-rule v ws p in
          let u = front_of (rule_in v ws) (drop (rule_size v ws) ws) f.formed f.words in
          sym q ∙ ap (rule_passes v) u.1 ∙ passes v (rule_in v ws) f.formed f.worded u.0
      by false false p q = refl
      by false true p q =
          let f = front-rule v front q in
          let r = rule_in v front in
          let t = drop (rule_size v front) front in
          let u = drop most_words ws in
          let e : ws ≡ packet_rule v r ++ (t ++ u) =
          sym (take-append-drop most_words ws) ∙ ap (λ (l : List ℤ). l ++ u) f.words ∙ append_assoc (packet_rule v r) t u in
          sym (passes v r f.formed f.worded (t ++ u)) ∙ ap (rule_passes v) (sym e) ∙ p

  pub first-rule : rule_passes v ws ≡ true → (rule_in v front ≡ rule_in v ws) × (rule_size v front ≡ rule_size v ws)
  first-rule p =
      let f = front-rule v ws p in
      let r = rule_in v ws in
      let u = front_of r (drop (rule_size v ws) ws) f.formed f.words in
      let s = ap (rule_size v) u.1 ∙ size_in v r f.formed f.worded u.0 ∙ sym (rule-size v ws p) in
      (ap (rule_in v) u.1 ∙ rule-in v r f.formed f.worded u.0, s)

-- Rules one after another

abbrev pub AllFormed : List InputRule → Type 0
AllFormed P = (r : InputRule) → r ∈ P → Formed r

-- one turn
rules-turn : (v : Version) (n : ℕ) (ws : List ℤ) → 0 < length ws
    → rules_from v (suc n) ws ≡ cond (rule_passes v ws) (prepend (rule_in v ws) (rules_from v n (drop (rule_size v ws) ws))) none
unfolding rules_from
rules-turn v n [] h = absurd (omega arith)
rules-turn v n (w ∷ ws) h = refl

pub rules-back : (v : Version) (n : ℕ) (P : List InputRule) → AllFormed P → all (has_words v) P ≡ true → length P ≤ n
    → rules_from v n (packet_words v P) ≡ some P
unfolding rules_from
rules-back v zero [] f p h = refl
rules-back v (suc n) [] f p h = refl
rules-back v zero (r ∷ P) f p h = absurd (omega arith)
rules-back v (suc n) (r ∷ P) f p h =
    let g = f r (Memᴰ.head refl) in
    let q = and_left (has_words v r) _ p in
    let t = packet_words v P in
    let d : drop (rule_size v (packet_rule v r ++ t)) (packet_rule v r ++ t) ≡ t = drop_at (packet_rule v r) t _ (sym (size_in v r g q t)) in
    rules-turn v n (packet_rule v r ++ t) (omega (arith, some_words v r, length-append (packet_rule v r) t))
    ∙ rw (passes v r g q t, rule-in v r g q t, d, rules-back v n P (λ s m. f s (Memᴰ.tail m)) (and_right (has_words v r) _ p) (omega arith))

pub record RulesThere (v : Version) (n : ℕ) (ws : List ℤ) (P : List InputRule) : Type 0 where
  pub few : length P ≤ n
  pub formed : AllFormed P
  pub worded : all (has_words v) P ≡ true
  pub words : ws ≡ packet_words v P

none-there : (v : Version) (n : ℕ) → RulesThere v n [] []
none-there v n = record { few = omega arith; formed = λ r m. elim m [ ]; worded = refl; words = refl }

pub rules-there : (v : Version) (n : ℕ) (ws : List ℤ) (P : List InputRule) → rules_from v n ws ≡ some P → RulesThere v n ws P
unfolding rules_from
rules-there v zero [] P e = rw (sym (some-injective _ _ e)) (none-there v zero)
rules-there v (suc n) [] P e = rw (sym (some-injective _ _ e)) (none-there v (suc n))
rules-there v zero (w ∷ ws) P e = absurd (none-ne-some P e)
rules-there v (suc n) (w ∷ ws) P e = by (rule_passes v l) (rules_from v n (drop (rule_size v l) l)) refl (rules-there v n (drop (rule_size v l) l)) e
  where
    l : List ℤ
    l = w ∷ ws

    by : (b : Bool) (o : Option (List InputRule)) → rule_passes v l ≡ b → ((Q : List InputRule) → o ≡ some Q → RulesThere v n (drop (rule_size v l) l) Q)
        → cond b (prepend (rule_in v l) o) none ≡ some P → RulesThere v (suc n) l P
    by false o s f e = absurd (none-ne-some P e)
    by true none s f e = absurd (none-ne-some P e)
    by true (some Q) s f e =
        let t = f Q refl in
        let g = front-rule v l s in
        rw (sym (some-injective _ _ e)) (record {
          few = omega (arith, t.few);
          formed = each-cons g.formed t.formed;
          worded = rw g.worded t.worded;
          words = g.words ∙ ap (λ (k : List ℤ). packet_rule v (rule_in v l) ++ k) t.words;
        })

-- Sizes

-- a word that 2 bytes hold
abbrev Small : ℤ → Type 0
Small z = mag z < 32768

kind-small : (k : Kind) → Small (kind_word k)
kind-small Normal = omega arith
kind-small Choice = omega arith

inside-small : (l : List ℤ) → any_outside l ≡ false → (z : ℤ) → z ∈ l → Small z
inside-small l h z m = small z (inside l h z m)

-- literals, each with its weight
pairs_small : (l : List Weighted) → Light l → any_outside (literals l) ≡ false → (z : ℤ) → z ∈ pair_words l → Small z
pairs_small [] f h z x = elim x [ ]
pairs_small (x ∷ l) f h z (Memᴰ.head e) = inside-small (literals (x ∷ l)) h z (Memᴰ.head e)
pairs_small (x ∷ l) f h z (Memᴰ.tail (Memᴰ.head e)) = rw e (omega (arith, f x (Memᴰ.head refl)))
pairs_small (x ∷ l) f h z (Memᴰ.tail (Memᴰ.tail m)) =
    pairs_small l (λ y i. f y (Memᴰ.tail i)) (or-false-right (outside x.literal) (any_outside (literals l)) h) z m

module _ (r : InputRule) (f : Formed r) where
  -- heads and what comes after them
  heads-then : (ws : List ℤ) → ((z : ℤ) → z ∈ ws → Small z) → (z : ℤ) → z ∈ (r.heads ++ ws) → Small z
  heads-then ws g z m = elim (Memᴰ.append_cases r.heads m) [ inl i ↦ inside-small r.heads f.heads-in z i | inr i ↦ g z i ]

  counted : (n : ℕ) → n ≤ most_literals → Small (pos n)
  counted n h = omega arith

  rule-small : (v : Version) (z : ℤ) → z ∈ packet_rule v r → Small z
  rule-small One =
      each-cons (kind-small r.kind) (each-cons (counted _ f.heads-few) (each-cons (counted _ f.body-few) (heads-then (literals_of r.body) (inside-small _ f.body-in))))
  rule-small Two = by r.body f.body-few f.body-in f.weighing
    where
      by : (b : Body) → length (literals_of b) ≤ most_literals → any_outside (literals_of b) ≡ false → Weighing b → (z : ℤ) → z ∈ rule_words (having r b) → Small z
      by (plain ls) h o w =
          each-cons (kind-small r.kind) (each-cons (counted _ f.heads-few) (each-cons (counted 0 (omega arith)) (each-cons (counted _ h) (heads-then ls (inside-small ls o)))))
      by (weights b l) h o w =
          each-cons (kind-small r.kind) (each-cons (counted _ f.heads-few) (each-cons (counted 1 (omega arith)) (each-cons (counted _ h)
          (each-cons (let k = w.1 in omega arith) (heads-then (pair_words l) (pairs_small l w.2 o))))))

-- every word of a packet is in the range of 4 bytes
pub words-range : (v : Version) (P : List InputRule) → AllFormed P → InRange 3 (packet_words v P)
words-range v [] f z m = elim m [ ]
words-range v (r ∷ P) f z m =
    elim (Memᴰ.append_cases (packet_rule v r) m) [
      | inl i ↦ let h = rule-small r (f r (Memᴰ.head refl)) v z i in omega arith
      | inr i ↦ words-range v P (λ s j. f s (Memᴰ.tail j)) z i
    ]

pub words-few : (v : Version) (P : List InputRule) → AllFormed P → length (packet_words v P) ≤ most_words * length P
words-few v [] f = omega arith
words-few v (r ∷ P) f =
    omega (arith, rule-few v r (f r (Memᴰ.head refl)), length-append (packet_rule v r) (packet_words v P), words-few v P (λ s j. f s (Memᴰ.tail j)))
