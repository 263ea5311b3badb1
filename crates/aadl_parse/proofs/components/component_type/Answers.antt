use Rattle.std.proofs.Common.{refl, [], ◌∷◌, ◌++◌, codes, sym}
use Rattle.aadl_tree.specs.declared.mark.Mark.TheVariants as mark
use Rattle.aadl_tree.specs.declared.word.Word.TheVariants as word
use Rattle.aadl_parse.specs.Laws.{without-none}
use Rattle.aadl_parse.specs.Parts.{a_name, features, properties, an_annex}
use Rattle.aadl_parse.specs.Starts.{a_word, a_mark, before, maybe_before, each_before}
use Rattle.aadl_parse.specs.Terminals.{name_shapes}
use Rattle.aadl_parse.proofs.Steps.{opening, then, and_then, halt, final, final_halt}
use Rattle.aadl_parse.proofs.components.component_type.Goals as goal

pub returns-in_err-name : goal.returns-in_err-name
returns-in_err-name c = halt _ [] (maybe_before features (maybe_before properties (each_before an_annex (before (a_word word.End) (before a_name (a_mark mark.Semicolon)))))) refl opening _ _ _ c.from_residual.ensures.1 c.in_err-name.ensures

pub returns-in_err-features : goal.returns-in_err-features
returns-in_err-features c = halt _ (codes "features" ∷ name_shapes) (maybe_before properties (each_before an_annex (before (a_word word.End) (before a_name (a_mark mark.Semicolon))))) refl (and_then opening c.in_ok-name.ensures) _ _ _ c.from_residual-in_err-features.ensures.1 c.in_err-features.ensures

pub returns-in_err-properties : goal.returns-in_err-properties
returns-in_err-properties c = halt _ (codes "properties" ∷ name_shapes) (each_before an_annex (before (a_word word.End) (before a_name (a_mark mark.Semicolon)))) refl (then (codes "features" ∷ name_shapes) (maybe_before properties (each_before an_annex (before (a_word word.End) (before a_name (a_mark mark.Semicolon))))) refl (and_then opening c.in_ok-name.ensures) c.in_ok-features.ensures) _ _ _ c.from_residual-in_err-properties.ensures.1 c.in_err-properties.ensures

pub returns-in_err-annexes : goal.returns-in_err-annexes
returns-in_err-annexes c = halt _ (codes "annex" ∷ []) (before (a_word word.End) (before a_name (a_mark mark.Semicolon))) refl (then (codes "properties" ∷ name_shapes) (each_before an_annex (before (a_word word.End) (before a_name (a_mark mark.Semicolon)))) refl (then (codes "features" ∷ name_shapes) (maybe_before properties (each_before an_annex (before (a_word word.End) (before a_name (a_mark mark.Semicolon))))) refl (and_then opening c.in_ok-name.ensures) c.in_ok-features.ensures) c.in_ok-properties.ensures) _ _ _ c.from_residual-in_err-annexes.ensures.1 c.in_err-annexes.ensures

pub returns-in_err-keyword : goal.returns-in_err-keyword
returns-in_err-keyword c = halt _ [] (before a_name (a_mark mark.Semicolon)) refl (then (codes "annex" ∷ []) (before (a_word word.End) (before a_name (a_mark mark.Semicolon))) refl (then (codes "properties" ∷ name_shapes) (each_before an_annex (before (a_word word.End) (before a_name (a_mark mark.Semicolon)))) refl (then (codes "features" ∷ name_shapes) (maybe_before properties (each_before an_annex (before (a_word word.End) (before a_name (a_mark mark.Semicolon))))) refl (and_then opening c.in_ok-name.ensures) c.in_ok-features.ensures) c.in_ok-properties.ensures) c.in_ok-annexes.ensures) _ _ _ c.from_residual-in_err-keyword.ensures.1 c.in_err-keyword.ensures

pub returns-in_err-end_name : goal.returns-in_err-end_name
returns-in_err-end_name c = halt _ [] (a_mark mark.Semicolon) refl (and_then (then (codes "annex" ∷ []) (before (a_word word.End) (before a_name (a_mark mark.Semicolon))) refl (then (codes "properties" ∷ name_shapes) (each_before an_annex (before (a_word word.End) (before a_name (a_mark mark.Semicolon)))) refl (then (codes "features" ∷ name_shapes) (maybe_before properties (each_before an_annex (before (a_word word.End) (before a_name (a_mark mark.Semicolon))))) refl (and_then opening c.in_ok-name.ensures) c.in_ok-features.ensures) c.in_ok-properties.ensures) c.in_ok-annexes.ensures) c.in_ok-keyword.ensures) _ _ _ c.from_residual-in_err-end_name.ensures.1 c.in_err-end_name.ensures

pub returns-in_err-sign : goal.returns-in_err-sign
returns-in_err-sign c = final_halt (λ m f. without-none m) (and_then (and_then (then (codes "annex" ∷ []) (before (a_word word.End) (before a_name (a_mark mark.Semicolon))) refl (then (codes "properties" ∷ name_shapes) (each_before an_annex (before (a_word word.End) (before a_name (a_mark mark.Semicolon)))) refl (then (codes "features" ∷ name_shapes) (maybe_before properties (each_before an_annex (before (a_word word.End) (before a_name (a_mark mark.Semicolon))))) refl (and_then opening c.in_ok-name.ensures) c.in_ok-features.ensures) c.in_ok-properties.ensures) c.in_ok-annexes.ensures) c.in_ok-keyword.ensures) c.in_ok-end_name.ensures) _ _ _ c.from_residual-in_err-sign.ensures.1 c.in_err-sign.ensures

pub returns : goal.returns
returns c = rw (c.or_none.ensures, c.or_none-2.ensures) (final (λ m f. without-none m) (and_then (and_then (then (codes "annex" ∷ []) (before (a_word word.End) (before a_name (a_mark mark.Semicolon))) refl (then (codes "properties" ∷ name_shapes) (each_before an_annex (before (a_word word.End) (before a_name (a_mark mark.Semicolon)))) refl (then (codes "features" ∷ name_shapes) (maybe_before properties (each_before an_annex (before (a_word word.End) (before a_name (a_mark mark.Semicolon))))) refl (and_then opening c.in_ok-name.ensures) c.in_ok-features.ensures) c.in_ok-properties.ensures) c.in_ok-annexes.ensures) c.in_ok-keyword.ensures) c.in_ok-end_name.ensures) c.in_ok-sign.ensures)
