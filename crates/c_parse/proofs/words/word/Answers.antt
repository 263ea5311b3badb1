use Rattle.std.proofs.Common.{◌∙◌, sym}
use Rattle.hw_text.specs.Reading.{Anything}
use Rattle.hw_text.proofs.Reading.{ahead-reached, ahead-stuck}
use Rattle.c_parse.specs.Values.{keyword_of}
use Rattle.c_parse.proofs.Leaves.{a_word}
use Rattle.c_parse.proofs.words.word.Goals as goal

pub returns-in_default : goal.returns-in_default
returns-in_default c = ahead-stuck (keyword_of c.args.word) Anything _ (a_word c.args.word) (sym c.word_ahead.ensures ∙ c.in_default.is)

pub returns : goal.returns
returns c = ahead-reached (keyword_of c.args.word) Anything _ _ _ (sym c.word_ahead.ensures ∙ c.in-Some.is) c.pass.ensures
