use Rattle.std.proofs.Common.{take, sym, ◌∙◌, ap}
use Rattle.aadl_tree.specs.Text.{annex_length}
use Rattle.aadl_parse.proofs.Annexes.{annex_length-take}
use Rattle.aadl_parse.proofs.annex_text.annex_token.Goals as goal

pub of-requires : goal.of-requires
of-requires c =
    let bytes = c.args.bytes.now in
    ap annex_length c.split_at.ensures.front ∙ ap (λ n. annex_length (take n bytes)) c.annex_length.ensures.exact ∙ annex_length-take bytes ∙
    sym c.annex_length.ensures.exact ∙ sym c.split_at.ensures.front_len
