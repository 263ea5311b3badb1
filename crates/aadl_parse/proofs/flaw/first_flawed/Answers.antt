use Rattle.std.proofs.Common.{ℕ, sym, ap, ◌∙◌, arith, below_more}
use Rattle.aadl_parse.specs.Flaws.{open_behind_token}
use Rattle.aadl_parse.proofs.Flawless.{open-more, no-flaw-here, no-flaw}
use Rattle.aadl_parse.proofs.flaw.first_flawed.Goals as goal

pub loop-index-preserved : goal.loop-index-preserved
loop-index-preserved c =
    let ts = c.args.tokens.now in
    let i = c.loop-index.index in
    let t = c.index-tokens-index.result in
    let counted = c.loop-index.invariant.counted in
    record {
      counted = c.open_behind_token-depth.ensures ∙ ap (λ (n : ℕ). open_behind_token n t.token) counted ∙ sym (open-more ts i t c.loop-index-test.true c.index-tokens-index.is);
      shallow = omega (arith, c.open_behind_token-depth.ensures, c.in_default.ensures.shallow);
      sound = below_more _ _ c.loop-index.invariant.sound (no-flaw-here ts i c.loop-index.depth t c.loop-index-test.true c.index-tokens-index.is counted (sym c.in_default.ensures.exact));
    }

pub returns : goal.returns
returns c = no-flaw c.args.tokens.now (λ k within. c.loop-index.invariant.sound k (omega (arith, within, c.loop-index-test.false)))
