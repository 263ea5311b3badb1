use Rattle.std.proofs.Common.{sym, ◌∙◌, refl, []}
use Rattle.aadl_tree.specs.declared.mark.Mark.TheVariants as mark
use Rattle.aadl_parse.specs.Laws.{without-none}
use Rattle.aadl_parse.specs.Parts.{a_none}
use Rattle.aadl_parse.specs.Starts.{Start, a_mark}
use Rattle.aadl_parse.proofs.Sections.{members, body, no_section, a_section_there, members-end}
use Rattle.aadl_parse.proofs.Steps.{opened, and_then, halt, final, final_halt, first_case, second_case}
use Rattle.aadl_parse.proofs.section.section.Goals as goal

pub returns-then-not-stands_word : goal.returns-then-not-stands_word
returns-then-not-stands_word g c =
    let m : Start g.M.Part.spells = record { shapes = g.M.Part.starts; sample = g.M.Part.sample; begins = g.M.Part.begun } in
    no_section c.args.word g.M.Part.spells m g.M.Part.goes_on _ (sym c.stands_word.ensures ∙ c.if-not-stands_word.true)

pub returns-in_err-keyword : goal.returns-in_err-keyword
returns-in_err-keyword g c =
    let m : Start g.M.Part.spells = record { shapes = g.M.Part.starts; sample = g.M.Part.sample; begins = g.M.Part.begun } in
    halt _ [] (body m) refl (a_section_there c.args.word g.M.Part.spells m g.M.Part.goes_on _ (sym c.stands_word.ensures ∙ c.if-not-stands_word.false)) _ _ _ c.from_residual.ensures.1 c.in_err-keyword.ensures

pub returns-in_err-keyword-2 : goal.returns-in_err-keyword-2
returns-in_err-keyword-2 g c =
    let m : Start g.M.Part.spells = record { shapes = g.M.Part.starts; sample = g.M.Part.sample; begins = g.M.Part.begun } in
    halt _ [] (a_mark mark.Semicolon) refl (opened (first_case a_none (and_then (a_section_there c.args.word g.M.Part.spells m g.M.Part.goes_on _ (sym c.stands_word.ensures ∙ c.if-not-stands_word.false)) c.in_ok-keyword.ensures) (members m) g.met.M.Member.listed (sym c.stands_word-2.ensures ∙ c.if-stands_word.true))) _ _ _ c.from_residual-in_err-keyword-2.ensures.1 c.in_err-keyword-2.ensures

pub returns-in_err-sign : goal.returns-in_err-sign
returns-in_err-sign g c =
    let m : Start g.M.Part.spells = record { shapes = g.M.Part.starts; sample = g.M.Part.sample; begins = g.M.Part.begun } in
    final_halt (λ m f. without-none m) (and_then (opened (first_case a_none (and_then (a_section_there c.args.word g.M.Part.spells m g.M.Part.goes_on _ (sym c.stands_word.ensures ∙ c.if-not-stands_word.false)) c.in_ok-keyword.ensures) (members m) g.met.M.Member.listed (sym c.stands_word-2.ensures ∙ c.if-stands_word.true))) c.in_ok-keyword-2.ensures) _ _ _ c.from_residual-in_err-sign.ensures.1 c.in_err-sign.ensures

pub returns-then-stands_word : goal.returns-then-stands_word
returns-then-stands_word g c =
    let m : Start g.M.Part.spells = record { shapes = g.M.Part.starts; sample = g.M.Part.sample; begins = g.M.Part.begun } in
    rw c.new.ensures (final (λ m f. without-none m) (and_then (opened (first_case a_none (and_then (a_section_there c.args.word g.M.Part.spells m g.M.Part.goes_on _ (sym c.stands_word.ensures ∙ c.if-not-stands_word.false)) c.in_ok-keyword.ensures) (members m) g.met.M.Member.listed (sym c.stands_word-2.ensures ∙ c.if-stands_word.true))) c.in_ok-keyword-2.ensures) c.in_ok-sign.ensures)

pub returns-in_err-members : goal.returns-in_err-members
returns-in_err-members g c =
    let m : Start g.M.Part.spells = record { shapes = g.M.Part.starts; sample = g.M.Part.sample; begins = g.M.Part.begun } in
    final_halt (members-end c.args.word g.M.Part.spells m g.M.Part.goes_on) (second_case a_none (and_then (a_section_there c.args.word g.M.Part.spells m g.M.Part.goes_on _ (sym c.stands_word.ensures ∙ c.if-not-stands_word.false)) c.in_ok-keyword.ensures) (sym c.stands_word-2.ensures ∙ c.if-stands_word.false)) _ _ _ c.from_residual-in_err-members.ensures.1 c.in_err-members.ensures

pub returns : goal.returns
returns g c =
    let m : Start g.M.Part.spells = record { shapes = g.M.Part.starts; sample = g.M.Part.sample; begins = g.M.Part.begun } in
    final (members-end c.args.word g.M.Part.spells m g.M.Part.goes_on) (second_case a_none (and_then (a_section_there c.args.word g.M.Part.spells m g.M.Part.goes_on _ (sym c.stands_word.ensures ∙ c.if-not-stands_word.false)) c.in_ok-keyword.ensures) (sym c.stands_word-2.ensures ∙ c.if-stands_word.false)) c.in_ok-members.ensures
