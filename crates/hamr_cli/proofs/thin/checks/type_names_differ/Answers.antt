use Rattle.std.proofs.Common.{◌∙◌, List, [], ◌∷◌, ◌++◌, ℕ, map, ap}
use Rattle.hamr_cli.specs.declared.thin.device.Device.{Device}
use Rattle.hamr_cli.specs.Names.{are_new}
use Rattle.hamr_cli.proofs.NameLemmas.{differ-result, new-same}
use Rattle.hamr_cli.proofs.thin.checks.type_names_differ.Goals as goal

pub returns : goal.returns
returns c =
    let name = λ (d : Device). d.name in
    let model = c.args.model.now in
    let seen = c.insert.new.self in
    let first = c.rows.result.now in
    differ-result c.insert_all.result (are_new seen (map name c.rows-2.result.now)) (model.heading.system ∷ map name model.devices) c.insert_all.ensures.exact
    (new-same seen (model.heading.system ∷ []) (map name c.rows-2.result.now) (map name model.devices)
    (c.in_ok-insert.ensures.names c.if-not-branch.false ∙ ap (λ (s : List (List ℕ)). s ++ first ∷ []) c.new-names.ensures ∙ ap (λ (b : List ℕ). b ∷ []) c.rows.ensures.bytes)
    (ap (map name) c.rows-2.ensures))
