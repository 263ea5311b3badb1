use Rattle.std.proofs.Common.{Option, sym, ap, ◌∙◌}
use Rattle.std.specs.Option.{option_map}
use Rattle.hw_text.specs.declared.place.Place.{Place}
use Rattle.aadl_tree.specs.declared.class_name.ClassName.{ClassName}
use Rattle.aadl_tree.specs.declared.token.Token.{Token}
use Rattle.aadl_tree.specs.ClassNames.{own_name}
use Rattle.aadl_parse.specs.Terminals.{on_name, class_name_at}
use Rattle.aadl_parse.proofs.name_token.ClassNameAtTerminal.value.Goals as goal

pub returns-in-Some : goal.returns-in-Some
returns-in-Some c =
    let at : Place = c.args.token.now.place in
    let own = ap own_name (sym c.in_ok-copy-in-Name.ensures) ∙ sym c.of.ensures ∙ c.in-Some.is in
    sym (ap (λ (t : Token). on_name class_name_at t at) c.in-Name.is ∙ ap (λ (o : Option ClassName). option_map (λ name. (name, at)) o) own)
