use Rattle.std.proofs.Common.{sym, ap, ◌∙◌, [], ◌∷◌}
use Rattle.hw_text.proofs.Reading.{such-reached, such-stuck}
use Rattle.aadl_tree.specs.Words.{word_spelling}
use Rattle.aadl_parse.specs.Shapes.{one_of, Without, found, symbol_of}
use Rattle.aadl_parse.proofs.OneSymbols.{a_word}
use Rattle.aadl_parse.proofs.symbols.keyword.Goals as goal

pub returns-then-not-stands_word : goal.returns-then-not-stands_word
returns-then-not-stands_word c =
    let text = word_spelling c.args.word in
    such-stuck (symbol_of text) (Without []) (one_of (text ∷ [])) _ (a_word c.args.word) (sym c.stands_word.ensures ∙ c.if-not-stands_word.true) (λ t is. ap found is)

pub returns : goal.returns
returns c =
    let text = word_spelling c.args.word in
    such-reached (symbol_of text) (Without []) (one_of (text ∷ [])) _ _ tt (sym c.stands_word.ensures ∙ c.if-not-stands_word.false) c.pass.ensures (λ t is. ap found is)
