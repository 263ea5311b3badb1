-- The first refusal over three lists of uses, one after another.
use Rattle.std.proofs.Common.{◌≡◌, Bool, List, Option, sym, ap, subst, ◌∙◌}
use Rattle.hw_text.specs.declared.refusal.Refusal.{Refusal}
use Rattle.aadl_tree.specs.declared.class.Class.{Class}
use Rattle.aadl_tree.specs.declared.feature.Feature.{Feature}
use Rattle.aadl_tree.specs.declared.subcomponent.Subcomponent.{Subcomponent}
use Rattle.aadl_names.specs.declared.parts.PartRow.{PartRow}
use Rattle.aadl_names.specs.declared.references.References.{References}
use Rattle.aadl_names.specs.declared.tables.Tables.{Tables}
use Rattle.aadl_names.specs.Offences.{earliest_from, offences}
use Rattle.aadl_typing.specs.Flaws.{AreFlaws}
use Rattle.aadl_typing.specs.Unlaid.{made_rows, port_offence, subcomponent_offence, use_offence, IsFirstUse}

pub use_told : (r : References) (t : Tables) (bases : List Class) (known one two three : Option Refusal) (flaws all : List Bool) (ports : List (PartRow Feature))
    (inner : List (PartRow Subcomponent)) → flaws ≡ all → AreFlaws (made_rows r t) all → ports ≡ t.features → inner ≡ t.subcomponents →
    one ≡ earliest_from known (offences (port_offence r t flaws) ports) → two ≡ earliest_from one (offences (subcomponent_offence r t flaws) inner) →
    three ≡ earliest_from two (offences (use_offence r t flaws) bases) → IsFirstUse r t bases known three
use_told r t bases known one two three flaws all ports inner same right features subcomponents first second third = record {
  flaws = flaws;
  right = subst (AreFlaws (made_rows r t)) (sym same) right;
  told = third ∙ ap (λ (before : Option Refusal). earliest_from before (offences (use_offence r t flaws) bases))
      (second ∙ (ap (λ (rows : List (PartRow Subcomponent)). earliest_from one (offences (subcomponent_offence r t flaws) rows)) subcomponents
      ∙ ap (λ (before : Option Refusal). earliest_from before (offences (subcomponent_offence r t flaws) t.subcomponents))
      (first ∙ ap (λ (rows : List (PartRow Feature)). earliest_from known (offences (port_offence r t flaws) rows)) features)));
}
