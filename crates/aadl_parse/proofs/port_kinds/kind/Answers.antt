use Rattle.std.proofs.Common.{sym, ◌∙◌, refl, []}
use Rattle.aadl_tree.specs.declared.class.Class.{Class}
use Rattle.aadl_tree.specs.declared.feature.PortKind.TheVariants as kind
use Rattle.aadl_tree.specs.declared.word.Word.TheVariants as word
use Rattle.aadl_parse.specs.Builds.{behind_words}
use Rattle.aadl_parse.specs.Laws.{without-none}
use Rattle.aadl_parse.specs.Parts.{a_data_kind, a_later_kind, an_event_data_kind, an_event_kind}
use Rattle.aadl_parse.specs.Starts.{either}
use Rattle.aadl_parse.proofs.Steps.{opening, opened, and_then, gathered, halt, final, final_halt, first_case, second_case}
use Rattle.aadl_parse.proofs.port_kinds.kind.Goals as goal

pub returns-in_err-class : goal.returns-in_err-class
returns-in_err-class c =
    final_halt (λ m f. f) (gathered (λ (d : Class). kind.Data d) behind_words (opened (first_case a_data_kind opening a_later_kind refl (sym c.stands_word.ensures ∙ c.if-stands_word.true))))
    _ _ _ c.from_residual.ensures.1 c.in_err-class.ensures

pub returns-then-stands_word : goal.returns-then-stands_word
returns-then-stands_word c =
    final (λ m f. f) (gathered (λ (d : Class). kind.Data d) behind_words (opened (first_case a_data_kind opening a_later_kind refl (sym c.stands_word.ensures ∙ c.if-stands_word.true))))
    c.in_ok-class.ensures

pub returns-in_err-keyword : goal.returns-in_err-keyword
returns-in_err-keyword c =
    halt _ [] (either an_event_data_kind an_event_kind) refl (opened (second_case a_data_kind opening (sym c.stands_word.ensures ∙ c.if-stands_word.false))) _ _ _ c.from_residual-in_err-keyword.ensures.1 c.in_err-keyword.ensures

pub returns-in_err-class-2 : goal.returns-in_err-class-2
returns-in_err-class-2 c =
    let rest = and_then (opened (second_case a_data_kind opening (sym c.stands_word.ensures ∙ c.if-stands_word.false))) c.in_ok-keyword.ensures in
    final_halt (λ m f. f) (gathered (λ (d : Class). kind.EventData d) behind_words (opened (first_case an_event_data_kind rest an_event_kind refl (sym c.stands_word-2.ensures ∙ c.if-stands_word-2.true))))
    _ _ _ c.from_residual-in_err-class-2.ensures.1 c.in_err-class-2.ensures

pub returns-then-stands_word-2 : goal.returns-then-stands_word-2
returns-then-stands_word-2 c =
    let rest = and_then (opened (second_case a_data_kind opening (sym c.stands_word.ensures ∙ c.if-stands_word.false))) c.in_ok-keyword.ensures in
    final (λ m f. f) (gathered (λ (d : Class). kind.EventData d) behind_words (opened (first_case an_event_data_kind rest an_event_kind refl (sym c.stands_word-2.ensures ∙ c.if-stands_word-2.true))))
    c.in_ok-class-2.ensures

pub returns-in_err-keyword-2 : goal.returns-in_err-keyword-2
returns-in_err-keyword-2 c =
    let rest = and_then (opened (second_case a_data_kind opening (sym c.stands_word.ensures ∙ c.if-stands_word.false))) c.in_ok-keyword.ensures in
    final_halt (λ m f. without-none m) (opened (second_case an_event_data_kind rest (sym c.stands_word-2.ensures ∙ c.if-stands_word-2.false))) _ _ _ c.from_residual-in_err-keyword-2.ensures.1 c.in_err-keyword-2.ensures

pub returns : goal.returns
returns c =
    let rest = and_then (opened (second_case a_data_kind opening (sym c.stands_word.ensures ∙ c.if-stands_word.false))) c.in_ok-keyword.ensures in
    final (λ m f. without-none m) (opened (second_case an_event_data_kind rest (sym c.stands_word-2.ensures ∙ c.if-stands_word-2.false))) c.in_ok-keyword-2.ensures
