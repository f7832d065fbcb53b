use mathlib.Core.Path.{◌≡◌, sym, ap, subst, ◌∙◌}
use mathlib.Core.Logic.{inl}
use mathlib.Core.List.{[], ◌++◌, map}
use Prim.Native.Nat.{◌+◌}
use native.Mathlib.Omega.{arith}
use lib.ListN.{get_or, length-set}
use Rattle.aspif.specs.Tables.{heads_at, body_words_at}
use Rattle.heads.specs.Heads.{starts_at, headed_by, headed_to, HeadChains, hash_from}
use Rattle.heads.proofs.Starts.{heads-high}
use Rattle.heads.proofs.Entering.{with_body, body-first, rule-entered}
use Rattle.heads.proofs.enter_rule.Goals as goal

pub link-requires : goal.link-requires
link-requires c =
    let s = c in
    let l = length-set s.args.index.now (starts_at + s.args.k) s.args.at in
    (omega (arith, l, s.requires, c.hash_of.ensures.hash.1), omega (arith, l, s.requires), omega (arith, s.requires))

pub enter_heads-requires : goal.enter_heads-requires
enter_heads-requires c = let s = c in
    let k = c.link.auto.index in
    let l = length-set s.args.index.now (starts_at + s.args.k) s.args.at in record { index = (k ∙ l ∙ s.requires.0, s.requires.1, rw c.heads.ensures s.requires.3); heads = λ h i. (heads-high s.args.rule.now.words.now s.args.rule.now.sound h (rw c.heads.ensures at i)).1 }

pub returns : goal.returns
returns c = let e = c.enter_heads in
    let k = c in
    let q = c in
    let s = c in
    let a = s.args in
    let h = q.hash_of.result in
    let is : k.link.new.index ≡ with_body a.index.now a.k a.at h = k.link.ensures in
    let key : h ≡ hash_from 0 (body_words_at a.rule.now.words.now) = q.hash_of.ensures.hash.0 ∙ ap (hash_from 0) q.body.ensures in
    let hs = c.heads.ensures in record {
      entered = λ t w at n E.
          rule-entered a.index.now t a.k a.at h s.requires.0 s.requires.1 q.hash_of.ensures.hash.1 e.new.index
          (λ i o. e.ensures.others i o ∙ ap (λ l. get_or l i 0) is) E at (key ∙ ap (λ ws. hash_from 0 (body_words_at ws)) w)
          (λ H. subst (λ l. HeadChains e.new.index (headed_to a.k t ++ map (headed_by a.k) l)) (hs ∙ ap heads_at w)
          (e.ensures.chains (headed_to a.k t) (subst (λ l. HeadChains l (headed_to a.k t)) (sym is) H) n));
      first = e.ensures.others 0 (inl (omega arith)) ∙ ap (λ l. get_or l 0 0) is ∙ body-first a.index.now [] a.k a.at h s.requires.0 s.requires.1 q.hash_of.ensures.hash.1;
    }
