use Rattle.std.proofs.Common.{◌∙◌, not, ap, List, ℕ}
use Rattle.std.specs.Str.{bytes_eq}
use Rattle.hamr_cli.specs.Names.{is_among}
use Rattle.hamr_cli.proofs.NameLemmas.{any-map}
use Rattle.hamr_cli.proofs.thin.name_set.NameSet.insert.Goals as goal

pub returns-clause-exact : goal.returns-clause-exact
returns-clause-exact c =
    let name = c.args.name.now in
    c.in_ok-insert.ensures.added
    ∙ ap not (any-map (bytes_eq name) (λ k. k.now) c.self.inside.seen.keys ∙ ap (λ (seen : List (List ℕ)). is_among name seen) c.self.view_is)
