use Rattle.std.proofs.Common.{ℕ, sym, ap, subst, ◌∙◌, ◌≤◌, arith, below_more}
use Rattle.gumbo_parse.specs.declared.flaw.Spot.{Spot}
use Rattle.gumbo_parse.specs.Flaws.{open_behind_token, spot_behind, length_in}
use Rattle.gumbo_parse.proofs.Flawless.{open-more, spot-more, no-flaw-here, no-flaw}
use Rattle.gumbo_parse.proofs.flaw.first_flawed.Goals as goal

pub loop-index-preserved : goal.loop-index-preserved
loop-index-preserved c =
    let ts = c.args.tokens.now in
    let i = c.loop-index.index in
    let t = c.index-tokens-index.result in
    let counted = c.loop-index.invariant.counted in
    let stands = c.loop-index.invariant.stands in
    record {
      counted = c.open_behind_token-depth.ensures ∙ ap (λ (n : ℕ). open_behind_token n t.token) counted ∙ sym (open-more ts i t c.loop-index-test.true c.index-tokens-index.is);
      stands = c.spot_behind-spot.ensures ∙ ap (λ (s : Spot). spot_behind s t.token) stands ∙ sym (spot-more ts i t c.loop-index-test.true c.index-tokens-index.is);
      shallow = omega (arith, c.open_behind_token-depth.ensures, c.in_default.ensures.shallow);
      short = subst (λ (s : Spot). length_in s ≤ 500) (sym c.spot_behind-spot.ensures) c.in_default.ensures.short;
      sound = below_more _ _ c.loop-index.invariant.sound (no-flaw-here ts i c.loop-index.depth c.loop-index.spot t c.loop-index-test.true c.index-tokens-index.is counted stands (sym c.in_default.ensures.exact));
    }

pub returns : goal.returns
returns c = no-flaw c.args.tokens.now (λ k within. c.loop-index.invariant.sound k (omega (arith, within, c.loop-index-test.false)))
