-- the loop has seen all arguments
use Rattle.hamr_cli.proofs.arguments.words_behind_the_name.Goals as goal

pub returns : goal.returns
returns c =
    let i = c.into_iter-word-iterator.ensures.into_iter_gives in
    let y = rw i at c.loop-word.yielded_by in
    let s = c.in-None.ensures.steps in
    (c.loop-word.yielded, (c.next.new.self, (_, y, s)), c.loop-word.invariant.words)
