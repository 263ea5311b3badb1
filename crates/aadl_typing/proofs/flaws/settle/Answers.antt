use Rattle.std.proofs.Common.{Bool, List, sym, ap, ◌∙◌}
use Rattle.aadl_names.specs.Meanings.{at_row}
use Rattle.aadl_typing.specs.Flaws.{flaw_at}
use Rattle.aadl_typing.specs.Marked.{shows_flaw}
use Rattle.aadl_typing.proofs.Flawing.{sound_with}
use Rattle.aadl_typing.proofs.flaws.settle.Goals as goal

pub returns-clause-sound : goal.returns-clause-sound
returns-clause-sound c =
    rw c.mark.ensures (sound_with c.args.rows.now c.args.flaws.now.items c.args.row c.requires
    (sym (ap (λ (flaws : List Bool). flaw_at flaws c.args.row) c.as_slice.ensures.value) ∙ (sym c.flaw_at.ensures ∙ c.if-flaw_at.false))
    (sym (ap (λ (flaws : List Bool). shows_flaw flaws (at_row c.args.rows.now c.args.row)) c.as_slice-else-flaw_at.ensures.value) ∙ (sym c.shows_flaw.ensures ∙ c.if-not-shows_flaw.false)))
