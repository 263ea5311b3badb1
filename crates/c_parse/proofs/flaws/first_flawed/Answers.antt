use Rattle.std.proofs.Common.{ℕ, ◌+◌, ◌-◌, sym, ap, ◌∙◌, take, below_more}
use Rattle.std.specs.Prelude.{cond, count_by}
use Rattle.c_parse.specs.Nesting.{opens, closes}
use Rattle.c_parse.proofs.Flawless.{no-flaw}
use Rattle.c_parse.proofs.Prefixes.{count-more}
use Rattle.c_parse.proofs.flaws.first_flawed.Goals as goal

pub flaw_at-requires-clause-counted : goal.flaw_at-requires-clause-counted
flaw_at-requires-clause-counted c =
    let before = c.loop-index.invariant in
    c.open.ensures ∙ ap (λ (n : ℕ). n - c.loop-index.brackets.closed) before.opened ∙
    ap (λ (n : ℕ). count_by (λ u. opens u.token) (take c.loop-index.index c.args.tokens.now) - n) before.closed

pub loop-index-preserved : goal.loop-index-preserved
loop-index-preserved c =
    let ts = c.args.tokens.now in
    let i = c.loop-index.index in
    let t = c.index-tokens-index.result in
    let before = c.loop-index.invariant in
    let within = c.loop-index-test.true in
    let here = c.index-tokens-index.is in
    record {
      opened = c.behind-brackets.ensures.opened ∙ ap (λ (n : ℕ). n + cond (opens t.token) 1 0) before.opened ∙ sym (count-more (λ u. opens u.token) ts i t within here);
      closed = c.behind-brackets.ensures.closed ∙ ap (λ (n : ℕ). n + cond (closes t.token) 1 0) before.closed ∙ sym (count-more (λ u. closes u.token) ts i t within here);
      sound = below_more _ _ before.sound (sym c.flaw_at.ensures ∙ c.in_default.is);
    }

pub returns : goal.returns
returns c = no-flaw c.args.dialect c.args.tokens.now c.loop-index.index c.loop-index-test.false c.loop-index.invariant.sound
