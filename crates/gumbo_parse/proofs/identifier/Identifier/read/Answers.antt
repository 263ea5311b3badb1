use Rattle.std.proofs.Common.{◌≡◌, true, false, rules}
use Rattle.std.specs.Prelude.{is_some}
use Rattle.hw_text.specs.Name.{is_name, lowered}
use Rattle.hw_text.proofs.NameLemmas.{lowered-lowered}
use Rattle.gumbo_parse.specs.Words.{word_named}
use Rattle.gumbo_parse.proofs.Lower.{identifier-lowered}
use Rattle.gumbo_parse.proofs.identifier.Identifier.read.Goals as goal

pub invariant_of-result : goal.invariant_of-result
invariant_of-result c =
    let bytes = c.args.bytes.now in
    let is : c.in-Ok.name ≡ lowered bytes = c.in-Ok.ensures.name in
    let good : is_name bytes ≡ true = c.in-Ok.ensures.good in
    let none : is_some (word_named bytes) ≡ false = search rules in
    (rw is (identifier-lowered bytes good none), rw is (lowered-lowered bytes))
