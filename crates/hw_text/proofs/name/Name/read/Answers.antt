use Rattle.std.proofs.Common.{◌≡◌, true, ◌∙◌, rules}
use Rattle.hw_text.specs.Name.{is_name}
use Rattle.hw_text.proofs.NameLemmas.{name-lowered, lowered-lowered}
use Rattle.hw_text.proofs.name.Name.read.Goals as goal

pub invariant_of-result : goal.invariant_of-result
invariant_of-result c =
    let named : is_name c.args.bytes.now ≡ true = search rules in
    let is = c.in_ok-to_ascii_lowercase.ensures.ok in
    (rw is (name-lowered c.args.bytes.now ∙ named), rw is (lowered-lowered c.args.bytes.now))
