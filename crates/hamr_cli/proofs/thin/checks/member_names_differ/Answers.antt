use Rattle.std.proofs.Common.{◌∙◌, List, [], ◌++◌, ℕ, map, ap}
use Rattle.hamr_cli.specs.declared.thin.subcomponent.Subcomponent.{Subcomponent}
use Rattle.hamr_cli.specs.declared.thin.connection.Connection.{Connection}
use Rattle.hamr_cli.specs.Names.{are_new}
use Rattle.hamr_cli.proofs.NameLemmas.{differ-result, new-same, old-differ, more-new}
use Rattle.hamr_cli.proofs.thin.checks.member_names_differ.Goals as goal

pub returns-then-not-branch : goal.returns-then-not-branch
returns-then-not-branch c =
    let own = λ (s : Subcomponent). s.name in
    let subcomponents = map own c.args.model.now.subcomponents in
    old-differ subcomponents (map (λ (k : Connection). k.name) c.args.model.now.connections) c.in_ok-insert_all.field-0
    (c.in_ok-insert_all.ensures.exact ∙ new-same c.new-names.result [] (map own c.rows.result.now) subcomponents c.new-names.ensures (ap (map own) c.rows.ensures))
    c.if-not-branch.true

pub returns : goal.returns
returns c =
    let own = λ (s : Subcomponent). s.name in
    let other = λ (k : Connection). k.name in
    let subcomponents = map own c.args.model.now.subcomponents in
    let connections = map other c.args.model.now.connections in
    let first = c.in_ok-insert_all.ensures.exact ∙ new-same c.new-names.result [] (map own c.rows.result.now) subcomponents c.new-names.ensures (ap (map own) c.rows.ensures) in
    let seen = c.in_ok-insert_all.ensures.names c.if-not-branch.false ∙ ap (λ (s : List (List ℕ)). s ++ map own c.rows.result.now) c.new-names.ensures ∙ ap (map own) c.rows.ensures in
    differ-result c.insert_all-2.result (are_new c.insert_all.new.self (map other c.rows-2.result.now)) (subcomponents ++ connections) c.insert_all-2.ensures.exact
    (new-same c.insert_all.new.self subcomponents (map other c.rows-2.result.now) connections seen (ap (map other) c.rows-2.ensures)
    ∙ more-new subcomponents connections c.in_ok-insert_all.field-0 first c.if-not-branch.false)
