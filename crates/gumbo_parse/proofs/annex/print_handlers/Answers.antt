use Rattle.std.proofs.Common.{◌++◌, List, ℕ}
use Rattle.std.specs.List.{flat_map}
use Rattle.gumbo_parse.specs.Annex.{handler_text}
use Rattle.gumbo_parse.specs.ContractTokens.{handler_tokens}
use Rattle.gumbo_parse.proofs.Allowing.{each_more, each_whole, each_text}
use Rattle.gumbo_parse.proofs.annex.print_handlers.Goals as goal

pub loop-handler-preserved : goal.loop-handler-preserved
loop-handler-preserved c =
    let hs = c.args.handlers.now in
    let i = c.loop-handler.handler-index in
    let h = c.handler-item.result in
    let whole : List ℕ = c.args.out.now ++ flat_map handler_text hs in
    record {
      text = each_text handler_text hs i h c.loop-handler.out c.print.new.out whole c.loop-handler-test.true c.handler-item.is c.in_ok-print.ensures.text c.loop-handler.invariant.text;
      allowed = each_more handler_tokens hs i h c.loop-handler-test.true c.handler-item.is c.loop-handler.invariant.allowed c.in_ok-print.ensures.allowed;
    }

pub returns-clause-allowed : goal.returns-clause-allowed
returns-clause-allowed c = each_whole handler_tokens c.args.handlers.now c.loop-handler.handler-index c.loop-handler-test.false c.loop-handler.invariant.allowed
