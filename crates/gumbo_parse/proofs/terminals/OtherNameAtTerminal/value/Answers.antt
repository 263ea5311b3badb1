use Rattle.std.proofs.Common.{◌∙◌, ap, sym, List, ℕ}
use Rattle.gumbo_parse.specs.declared.token.Token.{Token}
use Rattle.gumbo_parse.specs.ClassNames.{other_name, other_in}
use Rattle.gumbo_parse.proofs.terminals.OtherNameAtTerminal.value.Goals as goal

pub returns-in_ok-copy-in-Name : goal.returns-in_ok-copy-in-Name
returns-in_ok-copy-in-Name c =
    let at = c.args.token.now.place in
    c.of.ensures ∙ ap (λ (n : List ℕ). other_name n at) c.in_ok-copy-in-Name.ensures ∙ sym (ap (λ (t : Token). other_in t at) c.in-Name.is)
