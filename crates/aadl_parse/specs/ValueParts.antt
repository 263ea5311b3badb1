-- How the texts of values without other values in them start.
use Rattle.std.specs.Prelude.{List, [], ◌∷◌, codes, true, refl}
use Rattle.hw_text.specs.Language.{One, ◌⋅◌, Made}
use Rattle.aadl_tree.specs.declared.mark.Mark.TheVariants as mark
use Rattle.aadl_tree.specs.declared.token.Token.TheVariants as token
use Rattle.aadl_tree.specs.declared.word.Word.TheVariants as word
use Rattle.aadl_tree.specs.declared.value.PropertyValue.TheVariants as value
use Rattle.aadl_parse.specs.Parts.{a_qualified, a_path, a_class}
use Rattle.aadl_parse.specs.SimpleValue as simple
use Rattle.aadl_parse.specs.SimpleValue.{Symbol, SpellsQuantity, SpellsRange, SpellsTextValue, SpellsTruthValue, SpellsNameValue, SpellsClassifier, SpellsReference, SpellsReferring, SpellsNaming, SpellsTelling, SpellsQuoting, quantity_starts, referring_starts, naming_starts, telling_starts, quoting_starts, truth_value, name_value, quantity-begun, range-begun, referring-begun, naming-begun, telling-begun, quoting-begun, classifier-begun, reference-begun}
use Rattle.aadl_parse.specs.Starts.{Start, a_token, a_mark, before, made}
use Rattle.aadl_parse.specs.Stops.{start}
use Rattle.aadl_parse.specs.ValueTokens.{text_shapes, text_of, text-shaped, truth_shapes, truth_of, truth-shaped}

abbrev pub a_quantity : Start SpellsQuantity
a_quantity = record { shapes = quantity_starts; sample = simple.a_quantity; begins = quantity-begun }

abbrev pub an_up_to : Start (Symbol (codes "..") ⋅ SpellsQuantity)
an_up_to = before (a_mark mark.Range) a_quantity

abbrev pub a_range : Start SpellsRange
a_range = record { shapes = quantity_starts; sample = simple.a_range; begins = range-begun }

abbrev pub a_text : Start SpellsTextValue
a_text = a_token text_of text_shapes (record { token = token.Text []; place = start }, value.Text [], refl) text-shaped

abbrev pub a_truth : Start SpellsTruthValue
a_truth = made truth_value (a_token truth_of truth_shapes (record { token = token.Word word.True; place = start }, true, refl) truth-shaped)

abbrev pub a_name_value : Start SpellsNameValue
a_name_value = made name_value a_qualified

abbrev pub a_classifier : Start SpellsClassifier
a_classifier = record { shapes = codes "classifier" ∷ []; sample = simple.a_classifier; begins = classifier-begun }

abbrev pub a_reference : Start SpellsReference
a_reference = record { shapes = codes "reference" ∷ []; sample = simple.a_reference; begins = reference-begun }

abbrev pub a_referring : Start SpellsReferring
a_referring = record { shapes = referring_starts; sample = simple.a_referring; begins = referring-begun }

abbrev pub a_naming : Start SpellsNaming
a_naming = record { shapes = naming_starts; sample = simple.a_naming; begins = naming-begun }

abbrev pub a_telling : Start SpellsTelling
a_telling = record { shapes = telling_starts; sample = simple.a_telling; begins = telling-begun }

abbrev pub a_quoting : Start SpellsQuoting
a_quoting = record { shapes = quoting_starts; sample = simple.a_quoting; begins = quoting-begun }
