use Rattle.std.proofs.Common.{ℕ, ◌+◌, refl, sym, ap, ◌∙◌, take, arith, zero-add}
use Rattle.std.specs.Prelude.{cond}
use Rattle.c_parse.specs.Nesting.{opens, closes}
use Rattle.c_parse.proofs.Prefixes.{left, count-more, left-all, left-end, left-more, left-none, ends-counted}
use Rattle.c_parse.proofs.nesting.expression_length.Goals as goal

pub loop-index-init : goal.loop-index-init
loop-index-init c = record { opened = refl; closed = refl; same = zero-add (left _ c.args.tokens.now) ∙ left-all c.args.tokens.now }

pub loop-index-preserved : goal.loop-index-preserved
loop-index-preserved c =
    let ts = c.args.tokens.now in
    let i = c.loop-index.index in
    let t = c.index-tokens-index.result in
    let before = c.loop-index.invariant in
    let within = c.loop-index-test.true in
    let here = c.index-tokens-index.is in
    let goes_on = ends-counted (take i ts) t _ _ _ before.opened before.closed c.end_before.ensures ∙ c.if-end_before.false in
    let further = left-more ts i t within here goes_on in
    record {
      opened = c.behind-brackets.ensures.opened ∙ ap (λ (n : ℕ). n + cond (opens t.token) 1 0) before.opened ∙ sym (count-more (λ u. opens u.token) ts i t within here);
      closed = c.behind-brackets.ensures.closed ∙ ap (λ (n : ℕ). n + cond (closes t.token) 1 0) before.closed ∙ sym (count-more (λ u. closes u.token) ts i t within here);
      same = omega (arith, before.same, further);
    }

pub returns-then-end_before-clause-exact : goal.returns-then-end_before-clause-exact
returns-then-end_before-clause-exact c =
    let ts = c.args.tokens.now in
    let i = c.loop-index.index in
    let t = c.index-tokens-index.result in
    let before = c.loop-index.invariant in
    let ended = ends-counted (take i ts) t _ _ _ before.opened before.closed c.end_before.ensures ∙ c.if-end_before.true in
    omega (arith, before.same, left-end ts i t c.loop-index-test.true c.index-tokens-index.is ended)

pub returns-clause-exact : goal.returns-clause-exact
returns-clause-exact c =
    omega (arith, c.loop-index.invariant.same, left-none c.args.tokens.now c.loop-index.index c.loop-index-test.false, c.loop-index-test.false, c.loop-index.auto.index-end)
