use Rattle.std.proofs.Common.{take, sym, ◌∙◌, ap}
use Rattle.hw_text.specs.Text.{text_length}
use Rattle.hw_text.proofs.TextLemmas.{text_length-take}
use Rattle.gumbo_parse.proofs.lexer.text_token.Goals as goal

pub of-requires : goal.of-requires
of-requires c =
    let bytes = c.args.bytes.now in
    ap text_length c.split_at.ensures.front ∙ ap (λ n. text_length (take n bytes)) c.text_length.ensures.exact ∙ text_length-take bytes ∙
    sym c.text_length.ensures.exact ∙ sym c.split_at.ensures.front_len
