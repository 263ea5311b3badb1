use Rattle.std.proofs.Common.{refl, [], ◌∷◌, ◌++◌, codes, sym}
use Rattle.aadl_tree.specs.declared.mark.Mark.TheVariants as mark
use Rattle.aadl_tree.specs.declared.word.Word.TheVariants as word
use Rattle.aadl_parse.specs.Grammar.{SpellsPackage}
use Rattle.aadl_parse.specs.Laws.{without-none}
use Rattle.aadl_parse.specs.Parts.{a_qualified, a_declaration, an_import}
use Rattle.aadl_parse.specs.Starts.{a_word, a_mark, before, each_before}
use Rattle.aadl_parse.proofs.Steps.{opening, then, and_then, halt, final, final_halt}
use Rattle.aadl_parse.proofs.package.PackageTextPart.read.Goals as goal

pub returns-in_err-keyword : goal.returns-in_err-keyword
unfolding SpellsPackage
returns-in_err-keyword c = halt _ [] (before a_qualified (before (a_word word.Public) (each_before an_import (each_before a_declaration (before (a_word word.End) (before a_qualified (a_mark mark.Semicolon))))))) refl opening _ _ _ c.from_residual.ensures.1 c.in_err-keyword.ensures

pub returns-in_err-name : goal.returns-in_err-name
unfolding SpellsPackage
returns-in_err-name c = halt _ (codes "::" ∷ []) (before (a_word word.Public) (each_before an_import (each_before a_declaration (before (a_word word.End) (before a_qualified (a_mark mark.Semicolon)))))) refl (and_then opening c.in_ok-keyword.ensures) _ _ _ c.from_residual-in_err-name.ensures.1 c.in_err-name.ensures

pub returns-in_err-keyword-2 : goal.returns-in_err-keyword-2
unfolding SpellsPackage
returns-in_err-keyword-2 c = halt _ [] (each_before an_import (each_before a_declaration (before (a_word word.End) (before a_qualified (a_mark mark.Semicolon))))) refl (then (codes "::" ∷ []) (before (a_word word.Public) (each_before an_import (each_before a_declaration (before (a_word word.End) (before a_qualified (a_mark mark.Semicolon)))))) refl (and_then opening c.in_ok-keyword.ensures) c.in_ok-name.ensures) _ _ _ c.from_residual-in_err-keyword-2.ensures.1 c.in_err-keyword-2.ensures

pub returns-in_err-imports : goal.returns-in_err-imports
unfolding SpellsPackage
returns-in_err-imports c = halt _ (codes "with" ∷ []) (each_before a_declaration (before (a_word word.End) (before a_qualified (a_mark mark.Semicolon)))) refl (and_then (then (codes "::" ∷ []) (before (a_word word.Public) (each_before an_import (each_before a_declaration (before (a_word word.End) (before a_qualified (a_mark mark.Semicolon)))))) refl (and_then opening c.in_ok-keyword.ensures) c.in_ok-name.ensures) c.in_ok-keyword-2.ensures) _ _ _ c.from_residual-in_err-imports.ensures.1 c.in_err-imports.ensures

pub returns-in_err-declarations : goal.returns-in_err-declarations
unfolding SpellsPackage
returns-in_err-declarations c = halt _ a_declaration.shapes (before (a_word word.End) (before a_qualified (a_mark mark.Semicolon))) refl (then (codes "with" ∷ []) (each_before a_declaration (before (a_word word.End) (before a_qualified (a_mark mark.Semicolon)))) refl (and_then (then (codes "::" ∷ []) (before (a_word word.Public) (each_before an_import (each_before a_declaration (before (a_word word.End) (before a_qualified (a_mark mark.Semicolon)))))) refl (and_then opening c.in_ok-keyword.ensures) c.in_ok-name.ensures) c.in_ok-keyword-2.ensures) c.in_ok-imports.ensures) _ _ _ c.from_residual-in_err-declarations.ensures.1 c.in_err-declarations.ensures

pub returns-in_err-keyword-3 : goal.returns-in_err-keyword-3
unfolding SpellsPackage
returns-in_err-keyword-3 c = halt _ [] (before a_qualified (a_mark mark.Semicolon)) refl (then a_declaration.shapes (before (a_word word.End) (before a_qualified (a_mark mark.Semicolon))) refl (then (codes "with" ∷ []) (each_before a_declaration (before (a_word word.End) (before a_qualified (a_mark mark.Semicolon)))) refl (and_then (then (codes "::" ∷ []) (before (a_word word.Public) (each_before an_import (each_before a_declaration (before (a_word word.End) (before a_qualified (a_mark mark.Semicolon)))))) refl (and_then opening c.in_ok-keyword.ensures) c.in_ok-name.ensures) c.in_ok-keyword-2.ensures) c.in_ok-imports.ensures) c.in_ok-declarations.ensures) _ _ _ c.from_residual-in_err-keyword-3.ensures.1 c.in_err-keyword-3.ensures

pub returns-in_err-end_name : goal.returns-in_err-end_name
unfolding SpellsPackage
returns-in_err-end_name c = halt _ (codes "::" ∷ []) (a_mark mark.Semicolon) refl (and_then (then a_declaration.shapes (before (a_word word.End) (before a_qualified (a_mark mark.Semicolon))) refl (then (codes "with" ∷ []) (each_before a_declaration (before (a_word word.End) (before a_qualified (a_mark mark.Semicolon)))) refl (and_then (then (codes "::" ∷ []) (before (a_word word.Public) (each_before an_import (each_before a_declaration (before (a_word word.End) (before a_qualified (a_mark mark.Semicolon)))))) refl (and_then opening c.in_ok-keyword.ensures) c.in_ok-name.ensures) c.in_ok-keyword-2.ensures) c.in_ok-imports.ensures) c.in_ok-declarations.ensures) c.in_ok-keyword-3.ensures) _ _ _ c.from_residual-in_err-end_name.ensures.1 c.in_err-end_name.ensures

pub returns-in_err-sign : goal.returns-in_err-sign
unfolding SpellsPackage
returns-in_err-sign c = final_halt (λ m f. without-none m) (then (codes "::" ∷ []) (a_mark mark.Semicolon) refl (and_then (then a_declaration.shapes (before (a_word word.End) (before a_qualified (a_mark mark.Semicolon))) refl (then (codes "with" ∷ []) (each_before a_declaration (before (a_word word.End) (before a_qualified (a_mark mark.Semicolon)))) refl (and_then (then (codes "::" ∷ []) (before (a_word word.Public) (each_before an_import (each_before a_declaration (before (a_word word.End) (before a_qualified (a_mark mark.Semicolon)))))) refl (and_then opening c.in_ok-keyword.ensures) c.in_ok-name.ensures) c.in_ok-keyword-2.ensures) c.in_ok-imports.ensures) c.in_ok-declarations.ensures) c.in_ok-keyword-3.ensures) c.in_ok-end_name.ensures) _ _ _ c.from_residual-in_err-sign.ensures.1 c.in_err-sign.ensures

pub returns : goal.returns
unfolding SpellsPackage
returns c = final (λ m f. without-none m) (then (codes "::" ∷ []) (a_mark mark.Semicolon) refl (and_then (then a_declaration.shapes (before (a_word word.End) (before a_qualified (a_mark mark.Semicolon))) refl (then (codes "with" ∷ []) (each_before a_declaration (before (a_word word.End) (before a_qualified (a_mark mark.Semicolon)))) refl (and_then (then (codes "::" ∷ []) (before (a_word word.Public) (each_before an_import (each_before a_declaration (before (a_word word.End) (before a_qualified (a_mark mark.Semicolon)))))) refl (and_then opening c.in_ok-keyword.ensures) c.in_ok-name.ensures) c.in_ok-keyword-2.ensures) c.in_ok-imports.ensures) c.in_ok-declarations.ensures) c.in_ok-keyword-3.ensures) c.in_ok-end_name.ensures) c.in_ok-sign.ensures
