use Rattle.std.proofs.Common.{sym, ◌∙◌, refl, []}
use Rattle.aadl_tree.specs.declared.component.ComponentType.{ComponentType}
use Rattle.aadl_tree.specs.declared.component.Implementation.{Implementation}
use Rattle.aadl_tree.specs.declared.package.Declaration.TheVariants as declaration
use Rattle.aadl_parse.specs.Builds.{implementation_of, type_of}
use Rattle.aadl_parse.specs.Laws.{without-none}
use Rattle.aadl_parse.specs.Parts.{an_annex, an_implementation_body, a_type_body, a_component}
use Rattle.aadl_parse.specs.Starts.{either}
use Rattle.aadl_parse.proofs.Steps.{opening, and_then, gathered, halt, final, final_halt, first_case, second_case}
use Rattle.aadl_parse.proofs.components.DeclarationTextPart.read.Goals as goal

pub returns-in_err-annex : goal.returns-in_err-annex
returns-in_err-annex c =
    final_halt (λ m f. without-none m) (first_case an_annex opening a_component refl (sym c.stands.ensures ∙ c.if-stands.true)) _ _ _ c.from_residual.ensures.1 c.in_err-annex.ensures

pub returns-then-stands : goal.returns-then-stands
returns-then-stands c =
    final (λ m f. without-none m) (first_case an_annex opening a_component refl (sym c.stands.ensures ∙ c.if-stands.true)) c.in_ok-annex.ensures

pub returns-in_err-category : goal.returns-in_err-category
returns-in_err-category c =
    halt _ [] (either an_implementation_body a_type_body) refl (second_case an_annex opening (sym c.stands.ensures ∙ c.if-stands.false)) _ _ _ c.from_residual-in_err-category.ensures.1 c.in_err-category.ensures

pub returns-in_err-implementation : goal.returns-in_err-implementation
returns-in_err-implementation c =
    let body = and_then (second_case an_annex opening (sym c.stands.ensures ∙ c.if-stands.false)) c.in_ok-category.ensures in
    final_halt (λ m f. without-none m)
    (gathered (λ (i : Implementation). declaration.Implementation i) (implementation_of c.in_ok-category.category)
    (first_case an_implementation_body body a_type_body refl (sym c.stands_word.ensures ∙ c.if-stands_word.true))) _ _ _ c.from_residual-in_err-implementation.ensures.1 c.in_err-implementation.ensures

pub returns-then-stands_word : goal.returns-then-stands_word
returns-then-stands_word c =
    let body = and_then (second_case an_annex opening (sym c.stands.ensures ∙ c.if-stands.false)) c.in_ok-category.ensures in
    final (λ m f. without-none m)
    (gathered (λ (i : Implementation). declaration.Implementation i) (implementation_of c.in_ok-category.category)
    (first_case an_implementation_body body a_type_body refl (sym c.stands_word.ensures ∙ c.if-stands_word.true))) c.in_ok-implementation.ensures

pub returns-in_err-component : goal.returns-in_err-component
returns-in_err-component c =
    let body = and_then (second_case an_annex opening (sym c.stands.ensures ∙ c.if-stands.false)) c.in_ok-category.ensures in
    final_halt (λ m f. without-none m)
    (gathered (λ (t : ComponentType). declaration.Type t) (type_of c.in_ok-category.category)
    (second_case an_implementation_body body (sym c.stands_word.ensures ∙ c.if-stands_word.false))) _ _ _ c.from_residual-in_err-component.ensures.1 c.in_err-component.ensures

pub returns : goal.returns
returns c =
    let body = and_then (second_case an_annex opening (sym c.stands.ensures ∙ c.if-stands.false)) c.in_ok-category.ensures in
    final (λ m f. without-none m)
    (gathered (λ (t : ComponentType). declaration.Type t) (type_of c.in_ok-category.category)
    (second_case an_implementation_body body (sym c.stands_word.ensures ∙ c.if-stands_word.false))) c.in_ok-component.ensures
