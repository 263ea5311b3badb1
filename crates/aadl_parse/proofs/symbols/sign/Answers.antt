use Rattle.std.proofs.Common.{sym, ap, ◌∙◌, [], ◌∷◌}
use Rattle.hw_text.proofs.Reading.{such-reached, such-stuck}
use Rattle.aadl_tree.specs.Marks.{mark_spelling}
use Rattle.aadl_parse.specs.Shapes.{one_of, Without, found, symbol_of}
use Rattle.aadl_parse.proofs.OneSymbols.{a_mark}
use Rattle.aadl_parse.proofs.symbols.sign.Goals as goal

pub returns-then-not-stands_mark : goal.returns-then-not-stands_mark
returns-then-not-stands_mark c =
    let text = mark_spelling c.args.mark in
    such-stuck (symbol_of text) (Without []) (one_of (text ∷ [])) _ (a_mark c.args.mark) (sym c.stands_mark.ensures ∙ c.if-not-stands_mark.true) (λ t is. ap found is)

pub returns : goal.returns
returns c =
    let text = mark_spelling c.args.mark in
    such-reached (symbol_of text) (Without []) (one_of (text ∷ [])) _ _ tt (sym c.stands_mark.ensures ∙ c.if-not-stands_mark.false) c.pass.ensures (λ t is. ap found is)
