use Rattle.std.proofs.Common.{ap, ◌∙◌, List, ℕ, None}
use Rattle.aadl_names.specs.Offences.{earliest_from}
use Rattle.aadl_domains.specs.declared.sought.Sought.TheVariants as sought
use Rattle.aadl_domains.proofs.Opened.{whole}
use Rattle.aadl_timing.specs.Untimed.{untimed_offences}
use Rattle.aadl_timing.proofs.instance.Instance.first_untimed.Goals as goal

pub returns : goal.returns
returns c =
    let t = c.args.self.now.tables.now in
    let to = c.args.self.now.resolved.now in
    c.in_ok-first.ensures ∙ ap (λ (ps : List (List ℕ)). earliest_from None (untimed_offences t to ps)) (whole sought.Domain t to c.args.root)
