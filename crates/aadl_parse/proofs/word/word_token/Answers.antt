use Rattle.std.proofs.Common.{ap, ◌∙◌, take, List, ℕ}
use Rattle.hw_text.specs.Name.{is_spelled_as_name}
use Rattle.aadl_parse.proofs.Spelling.{run-spelled}
use Rattle.aadl_parse.proofs.word.word_token.Goals as goal

pub word_or_name-requires : goal.word_or_name-requires
word_or_name-requires c =
    let bytes : List ℕ = c.args.bytes.now in
    ap is_spelled_as_name (c.split_at.ensures.front ∙ ap (λ (n : ℕ). take n bytes) c.run_length.ensures.run) ∙ run-spelled bytes c.requires
