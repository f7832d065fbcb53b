-- The rules of a joined node: the line of one, one share after another, one level after another. Assumes nothing.
use mathlib.Core.Path.{◌≡◌, refl, sym, ap, subst, ◌∙◌}
use mathlib.Core.List.{List, [], ◌∷◌, ◌++◌, map, append_assoc, append-nil, map-append}
use Prim.Native.Nat.{ℕ, zero, suc, ◌+◌, ◌-◌, ◌≤◌, ◌<◌}
use native.Mathlib.Numerals.{add-one}
use native.Mathlib.Omega.{arith}
use lib.IntN.{ℤ, pos}
use lib.ListN.{length, take, get_or}
use lib.Seq.{take-suc, take-length}
use Rattle.words.specs.Lists.{concat, filter}
use Rattle.words.proofs.Lists.{concat-append}
use Rattle.text.specs.Decimals.{decimals, decimal, number_bytes, spaced}
use Rattle.text.specs.Writing.{Put}
use Rattle.text.proofs.Puts.{spaced-append}
use Rattle.aspif.specs.Rules.{InputRule}
use Rattle.sums.specs.Plans.{Definition, numbered, Share, is_just_enough, join_bodies, join_rules}
use Rattle.totalizer.specs.declared.texts.Place.{Place}
use Rattle.totalizer.specs.Emitting.{line_of, Emits}
use Rattle.totalizer.proofs.Emitted.{emits-on}
use Rattle.totalizer.proofs.Groups.{level-more}
use Rattle.std.specs.Prelude.{Some, None}
use Rattle.joins.specs.Joining.{said_at, share_at, shares_of, Partner, plain_rule, plain_numbers, share_rules, node_joins}
use Rattle.joins.proofs.Partners.{first, shares-length, share-at}

-- The line of one rule

pub said-none : (n : ℕ) {i : ℕ} → i ≡ 0 → said_at n i ≡ []
said-none n e = rw e

pub said-some : (n i : ℕ) → ¬ (i ≡ 0) → said_at n i ≡ pos (n + (i - 1)) ∷ []
said-some n zero h = absurd (h refl)
said-some n (suc i) h = let e : suc i - 1 ≡ i = omega arith in ap (λ (k : ℕ). pos (n + k) ∷ []) (sym e)

pub join-put : (atom n : ℕ) (ls ms : List ℤ) → n ≡ length (ls ++ ms) → {before after : List ℕ} {at next : ℕ}
    → Put ((49 ∷ 32 ∷ 48 ∷ 32 ∷ 49 ∷ []) ++ ((32 ∷ number_bytes (pos atom)) ++ ((32 ∷ 48 ∷ []) ++ ((32 ∷ number_bytes (pos n)) ++ (spaced ls ++ (spaced ms ++ (10 ∷ []))))))) before after at next
    → Put (line_of (plain_numbers atom (ls ++ ms))) before after at next
unfolding line_of spaced number_bytes decimal decimals
join-put atom n ls ms e {before} {after} {at} {next} p = subst (λ (l : List ℕ). Put l before after at next) (sym parts) p
  where
    A : List ℕ
    A = number_bytes (pos atom)

    N : List ℕ
    N = number_bytes (pos n)

    S : List ℕ
    S = spaced ls

    T : List ℕ
    T = spaced ms

    parts : line_of (plain_numbers atom (ls ++ ms)) ≡ 49 ∷ 32 ∷ 48 ∷ 32 ∷ 49 ∷ 32 ∷ (A ++ (32 ∷ 48 ∷ 32 ∷ (N ++ (S ++ (T ++ (10 ∷ []))))))
    parts =
        ap (λ (k : ℕ). line_of (pos 0 ∷ pos 1 ∷ pos atom ∷ pos 0 ∷ pos k ∷ (ls ++ ms))) (sym e)
        ∙ ap (λ (l : List ℕ). 49 ∷ 32 ∷ 48 ∷ 32 ∷ 49 ∷ 32 ∷ ((A ++ (32 ∷ 48 ∷ 32 ∷ (N ++ l))) ++ (10 ∷ []))) (spaced-append ls ms)
        ∙ ap (λ (l : List ℕ). 49 ∷ 32 ∷ 48 ∷ 32 ∷ 49 ∷ 32 ∷ l)
        (append_assoc A (32 ∷ 48 ∷ 32 ∷ (N ++ (S ++ T))) (10 ∷ [])
        ∙ ap (λ (l : List ℕ). A ++ (32 ∷ 48 ∷ 32 ∷ l)) (append_assoc N (S ++ T) (10 ∷ []) ∙ ap (λ (l : List ℕ). N ++ l) (append_assoc S T (10 ∷ []))))

-- One share

pub share-none : (t : ℕ) (us vs : List ℕ) (i : ℕ) → Partner t us vs i None → (atom n m : ℕ)
    → share_rules atom t (shares_of n us) (shares_of m vs) (share_at n us i) ≡ []
unfolding Partner
share-none t us vs i p atom n m =
    ap (λ (ys : List Share). map (plain_rule atom) (map (λ y. said_at n i ++ y.said) ys))
    (p n m)

pub share-one : (t : ℕ) (us vs : List ℕ) (i j : ℕ) → Partner t us vs i (Some j) → (atom n m : ℕ)
    → share_rules atom t (shares_of n us) (shares_of m vs) (share_at n us i) ≡ plain_rule atom (said_at n i ++ said_at m j) ∷ []
unfolding Partner
share-one t us vs i j p atom n m =
    ap (λ (ys : List Share). map (plain_rule atom) (map (λ y. said_at n i ++ y.said) ys))
    (p n m)

-- One share after another

pub share-more : (n : ℕ) (us : List ℕ) (i : ℕ) → i ≤ length us → (F : Share → List InputRule) {before between after : List ℕ} {p q s : Place}
    → Emits (concat (map F (take i (shares_of n us)))) before between p q → Emits (F (share_at n us i)) between after q s
    → Emits (concat (map F (take (i + 1) (shares_of n us)))) before after p s
share-more n us i h F {before} {after = after} {p = p} {s = s} e f =
    let xs = shares_of n us in
    let k : i < length xs = omega (arith, shares-length n us) in
    subst (λ (rs : List InputRule). Emits rs before after p s)
    (sym
    (ap (λ (m : ℕ). concat (map F (take m xs))) (add-one i)
    ∙ ap (λ (l : List Share). concat (map F l)) (take-suc xs i first k)
    ∙ concat-append F (take i xs) (get_or xs i first ∷ [])
    ∙ ap (λ (l : List InputRule). concat (map F (take i xs)) ++ l) (append-nil (F (get_or xs i first)) ∙ ap F (share-at n us i h))))
    (emits-on e f)

joined-map : {A B C : Type 0} (f : B → C) (g : A → List B) (xs : List A) → concat (map (λ x. map f (g x)) xs) ≡ map f (concat (map g xs))
joined-map f g [] = refl
joined-map f g (x ∷ xs) = ap (λ l. map f (g x) ++ l) (joined-map f g xs) ∙ sym (map-append f (g x) (concat (map g xs)))

pub level-rules : (atom t n : ℕ) (us : List ℕ) (m : ℕ) (vs : List ℕ) (i : ℕ) → i ≡ suc (length us)
    → concat (map (share_rules atom t (shares_of n us) (shares_of m vs)) (take i (shares_of n us)))
    ≡ join_rules (shares_of n us) (shares_of m vs) (record { atom = atom; pairs = []; bound = t })
unfolding join_bodies
level-rules atom t n us m vs i e =
    let xs = shares_of n us in
    ap (λ (l : List Share). concat (map (share_rules atom t xs (shares_of m vs)) l))
    (ap (λ (k : ℕ). take k xs) (e ∙ sym (shares-length n us)) ∙ take-length xs)
    ∙ joined-map (plain_rule atom) (λ x. map (λ y. x.said ++ y.said) (filter (is_just_enough t xs (shares_of m vs) x) (shares_of m vs))) xs

-- One level after another

pub joins-none : (atom n : ℕ) (us : List ℕ) (m : ℕ) (vs : List ℕ) → node_joins atom [] n us m vs ≡ []
unfolding node_joins
joins-none atom n us m vs = refl

pub joins-more : (atom : ℕ) (ts : List ℕ) (n : ℕ) (us : List ℕ) (m : ℕ) (vs : List ℕ) (k : ℕ) → k < length ts
    → {before between after : List ℕ} {p q s : Place} → Emits (node_joins atom (take k ts) n us m vs) before between p q
    → Emits (join_rules (shares_of n us) (shares_of m vs) (record { atom = atom + k; pairs = []; bound = get_or ts k 0 })) between after q s
    → Emits (node_joins atom (take (k + 1) ts) n us m vs) before after p s
unfolding node_joins
joins-more atom ts n us m vs k h {before} {after = after} {p = p} {s = s} e f =
    let F = join_rules (shares_of n us) (shares_of m vs) in
    let d : Definition = record { atom = atom + k; pairs = []; bound = get_or ts k 0 } in
    subst (λ (rs : List InputRule). Emits rs before after p s)
    (sym
    (ap (λ (l : List Definition). concat (map F l)) (level-more atom [] ts k h)
    ∙ concat-append F (numbered atom [] (take k ts)) (d ∷ [])
    ∙ ap (λ (l : List InputRule). concat (map F (numbered atom [] (take k ts))) ++ l) (append-nil (F d))))
    (emits-on e f)
