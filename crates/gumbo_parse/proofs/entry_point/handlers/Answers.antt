use Rattle.std.proofs.Common.{◌∙◌, sym, ap, List, [], ◌∷◌, ◌++◌, append-nil, append_assoc}
use Rattle.hw_text.specs.Language.{Each}
use Rattle.hw_text.proofs.Reading.{rebuilt}
use Rattle.hw_reading.specs.Shapes.{shapes_of}
use Rattle.gumbo_parse.specs.declared.shape.Shape.TheVariants as shape
use Rattle.gumbo_parse.specs.declared.contract.Handler.{Handler}
use Rattle.gumbo_parse.specs.declared.word.Word.TheVariants as word
use Rattle.gumbo_parse.specs.Annex.{kinds, SpellsHandler}
use Rattle.gumbo_parse.specs.Values.{one_of, Without}
use Rattle.hw_reading.proofs.Choices.{no_member, a_member, no_members, read-shorter}
use Rattle.gumbo_parse.proofs.SectionForms.{handler-begins, handler-follows, handlers_opening}
use Rattle.gumbo_parse.proofs.Shapes.{without-left}
use Rattle.hw_reading.proofs.Steps.{next_before, halt_before}
use Rattle.gumbo_parse.proofs.entry_point.handlers.Goals as goal

pub handlers-init : goal.handlers-init
handlers-init c = handlers_opening _ c.new-handlers.ensures _

pub returns-in_err-handler : goal.returns-in_err-handler
returns-in_err-handler c =
    let there = a_member (one_of (shape.Word word.Handle ∷ [])) (sym c.stands.ensures ∙ c.handlers-test.true) (λ m ends. without-left (shape.Word word.Handle ∷ []) (shapes_of kinds) m ends) c.handlers.invariant in
    halt_before _ _ _ _ _ there handler-follows no_members c.from_residual.ensures.1 c.in_err-handler.ensures

pub handlers-smaller : goal.handlers-smaller
handlers-smaller c = read-shorter (one_of (shape.Word word.Handle ∷ [])) handler-begins c.in_ok-handler.ensures

pub handlers-preserved : goal.handlers-preserved
handlers-preserved c =
    let there = a_member (one_of (shape.Word word.Handle ∷ [])) (sym c.stands.ensures ∙ c.handlers-test.true) (λ m ends. without-left (shape.Word word.Handle ∷ []) (shapes_of kinds) m ends) c.handlers.invariant in
    rebuilt (Each SpellsHandler) (Without (shape.Word word.Handle ∷ shapes_of kinds)) _ _ _ _ (Each SpellsHandler)
    (λ later. sym (append_assoc c.handlers.handlers (c.in_ok-handler.handler ∷ []) later) ∙ ap (λ (l : List Handler). l ++ later) (sym c.in_ok-push.ensures.ok))
    (next_before there handler-follows c.in_ok-handler.ensures)

pub returns : goal.returns
returns c = rw (append-nil c.handlers.handlers) at (no_member (one_of (shape.Word word.Handle ∷ [])) handler-begins (sym c.stands.ensures ∙ c.handlers-test.false) c.handlers.invariant)
