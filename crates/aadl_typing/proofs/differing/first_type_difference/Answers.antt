use Rattle.std.proofs.Common.{ℕ, List, ap, ◌∙◌, subst, Option, None}
use Rattle.aadl_tree.specs.declared.connection.Connection.{Connection}
use Rattle.aadl_names.specs.declared.parts.PartRow.{PartRow}
use Rattle.aadl_names.specs.Offences.{earliest_from, offences}
use Rattle.aadl_typing.specs.Differing.{difference_offence}
use Rattle.aadl_typing.specs.DataGraph.{payloads_of}
use Rattle.aadl_typing.specs.Walks.{AreEnds}
use Rattle.aadl_typing.proofs.differing.first_type_difference.Goals as goal

pub returns : goal.returns
returns c =
    let r = c.args.scope.now.references.now in
    let to = c.args.scope.now.resolved.now in
    let t = c.args.scope.now.tables.now in
    record {
      types = c.in_ok-types.types;
      lead = subst (λ (nexts : List (Option ℕ)). AreEnds nexts c.in_ok-types.types) (c.rows.ensures ∙ c.in_ok-nexts.ensures) c.in_ok-types.ensures;
      told = c.in_ok-first.ensures
          ∙ (ap (λ (payloads : List (Option ℕ)). earliest_from None (offences (difference_offence r to payloads c.rows-3.result.now) c.rows-4.result.now)) (c.rows-2.ensures ∙ c.in_ok-payloads.ensures)
          ∙ (ap (λ (types : List ℕ). earliest_from None (offences (difference_offence r to (payloads_of r t) types) c.rows-4.result.now)) c.rows-3.ensures
          ∙ ap (λ (rows : List (PartRow Connection)). earliest_from None (offences (difference_offence r to (payloads_of r t) c.in_ok-types.types) rows)) c.rows-4.ensures));
    }
