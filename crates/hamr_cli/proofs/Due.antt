-- From the report on a command to its answer.
use Rattle.std.proofs.Common.{◌≡◌, ℕ, true, List, [], refl, sym, ◌∙◌, subst, arith, inl, inr}
use Rattle.hw_io.specs.Meaning.{StoreMeaning}
use Rattle.hw_text.specs.declared.document.Document.{Document}
use Rattle.hw_text.specs.declared.document.Document.TheVariants as document
use Rattle.hw_text.specs.declared.refusal.Refusal.{Refusal}
use Rattle.hw_text.specs.Code.{document_of}
use Rattle.hamr_cli.specs.Cause.{report_of, refused, status_of_document}
use Rattle.hamr_cli.specs.declared.report.Report.{Report}
use Rattle.hamr_cli.specs.Answer.{IsDue}
use Rattle.hamr_cli.specs.Command.{Command}
use Rattle.hamr_cli.specs.Files.{HasWritten, HoldsTheSame}
use Rattle.hamr_cli.specs.Inner.{IsOnlyRead, IsUnread}
use Rattle.hamr_cli.specs.Output.{Gives}
use Rattle.hamr_cli.specs.Reads.{Names, TellsInput, IsTurnOf}
use Rattle.hamr_cli.specs.Status.{IsOfContent}

-- a command that reads a file has its output over stores that tell
pub telling_store : (store : StoreMeaning) (command : Command) (file : List ℕ) → Names command file → TellsInput store command → store.tells ≡ true
telling_store store command file named (inl tells) = tells
telling_store store command file named (inr none) = absurd (none file named)

-- nothing is written where each name holds what it held
pub wrote_nothing : (before after : StoreMeaning) → HoldsTheSame before after → HasWritten before after [] 0
wrote_nothing before after kept = record {
  written = λ tells place file is. absurd (cc);
  others = λ name apart. kept name;
}

-- a report alone is the output of a command
pub output_due : (command : Command) (before after : StoreMeaning) (report : Report) → IsOfContent report.status → HoldsTheSame before after →
    (TellsInput before command → Gives before.held command (record { report = report; files = [] })) → IsDue command before after report
output_due command before after report content kept gives = inl (record {
  output = record { report = report; files = [] };
  reported = refl;
  content = content;
  gives = gives;
  left = wrote_nothing before after kept;
})

-- a file that was not read is reported in the place of the output
pub unread_due : (command : Command) (before after : StoreMeaning) (file : List ℕ) (report : Report) → IsTurnOf before command file → HoldsTheSame before after →
    IsUnread before after file report → IsDue command before after report
unread_due command before after file report turn kept (inl missing) = inr (inl (record {
  file = file;
  turn = turn;
  rose = missing.rose;
  missing = missing.missing;
  reported = missing.reported;
  left = kept;
}))
unread_due command before after file report turn kept (inr failed) = inr (inr (inl (record {
  file = file;
  turn = turn;
  rose = failed.rose;
  reported = failed.reported;
  left = kept;
})))

-- what was not read behind other reads was not read in the whole
pub unread_earlier : (before between after : StoreMeaning) (file : List ℕ) (report : Report) → IsOnlyRead before between →
    IsUnread between after file report → IsUnread before after file report
unread_earlier before between after file report read (inl missing) = inl (record {
  rose = λ below. omega (arith, read.absences file, missing.rose (omega (arith)));
  missing = λ tells. sym (read.held file) ∙ missing.missing (read.tells ∙ tells);
  reported = missing.reported;
})
unread_earlier before between after file report read (inr failed) = inr (record {
  rose = λ below. omega (arith, read.read_faults file, failed.rose (omega (arith)));
  reported = failed.reported;
})

-- a refused text has a status that contents decide
document_content : (d : Document) → IsOfContent (status_of_document d)
document_content document.Model = inr (inr (inl refl))
document_content document.Contract = inr (inr (inl refl))
document_content document.UserCode = inr (inr (inr (inl refl)))
document_content document.Trace = inr (inr (inr (inr refl)))
document_content document.RunFile = inr (inr (inr (inr refl)))

pub refused_content : (file : List ℕ) (refusal : Refusal) (report : Report) → report ≡ report_of (refused file refusal) → IsOfContent report.status
refused_content file refusal report reported = subst (λ (r : Report). IsOfContent r.status) (sym reported) (document_content (document_of refusal.code))
