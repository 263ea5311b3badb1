use Rattle.hamr_cli.proofs.TraceWords.{within, word-front, ended-back}
use Rattle.hamr_cli.proofs.trace.words.split_word.Goals as goal

pub split_at-requires : goal.split_at-requires
split_at-requires c = within _ c.args.bytes.now c.word_length.ensures

pub returns-clause-word : goal.returns-clause-word
returns-clause-word c = word-front _ c.args.bytes.now _ c.word_length.ensures c.split_at.ensures.front

pub returns-clause-ended : goal.returns-clause-ended
returns-clause-ended c = ended-back _ c.args.bytes.now _ c.word_length.ensures c.split_at.ensures.back
