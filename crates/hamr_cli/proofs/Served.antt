-- What is answered where nothing outside fails.
use Rattle.std.proofs.Common.{◌≡◌, ◌⊎◌, ℕ, List, Option, None, IsSome, refl, ap, sym, ◌∙◌, subst, inl, inr}
use Rattle.std.proofs.lemmas.Option.{same_Some}
use Rattle.hw_text.specs.WholeTexts.{IsTextOf}
use Rattle.aadl_tree.specs.declared.package.Package.{Package}
use Rattle.aadl_parse.specs.Rules.{model_rules}
use Rattle.hamr_cli.specs.declared.status.Status.{Status}
use Rattle.hamr_cli.specs.declared.report.Report.{Report}
use Rattle.hamr_cli.specs.declared.judgement.Judgement.{Judgement}
use Rattle.hamr_cli.specs.declared.judgement.Judgement.TheVariants as judgement
use Rattle.hamr_cli.specs.Answer.{IsDue, IsForAbsence, IsForReadFault, IsForWriteFault, IsPrintedWhole, IsPrinted, IsSilent, IsAnswerOf, IsAnswer}
use Rattle.hamr_cli.specs.Cause.{report_of, words}
use Rattle.hamr_cli.specs.Command.{Command, judge, tidy, IsRow, IsNoRow}
use Rattle.hamr_cli.specs.Complete.{Serves, IsDone, IsDoneOrNoMemory}
use Rattle.hamr_cli.specs.Judge.{IsJudged, JudgeReports, AreAccepted, report_of_judgement}
use Rattle.hamr_cli.specs.ModelFile.{RefusesModel, TakesModel, OnModel, HoldsPackage}
use Rattle.hamr_cli.specs.Outside.{Outside}
use Rattle.hamr_cli.specs.Output.{Output, Gives, Accepts}
use Rattle.hamr_cli.specs.Reads.{Reads, IsTurnOf}
use Rattle.hamr_cli.specs.Status.{IsSuccess, IsWordsOrNothing}
use Rattle.hamr_cli.specs.Tidy.{IsTidied}
use Rattle.hamr_cli.proofs.Due.{telling_store}
use Rattle.hamr_cli.proofs.Rows.{row-one}

-- the package in the file is the one that is read there
same-package : (held : List ℕ → Option (List ℕ)) (model : List ℕ) (Reports : Package → Report → Type 0) (report : Report) (p : Package) → HoldsPackage held model p → (t : TakesModel held model Reports report) → p ≡ t.tree
same-package held model Reports report p holds takes =
    takes.accepted.only p (subst (λ (b : List ℕ). IsTextOf model_rules b p) (same_Some holds.bytes takes.bytes (sym holds.model_held ∙ takes.model_held)) holds.is_text)

not-refused : (held : List ℕ → Option (List ℕ)) (model : List ℕ) (report : Report) (p : Package) → HoldsPackage held model p → RefusesModel held model report → ⊥
not-refused held model report p holds refuses =
    refuses.rejected.no_text p (subst (λ (b : List ℕ). IsTextOf model_rules b p) (same_Some holds.bytes refuses.bytes (sym holds.model_held ∙ refuses.model_held)) holds.is_text)

-- two accepted files are judged by the rules
judged-accepted : (held : List ℕ → Option (List ℕ)) (model trace : List ℕ) (tree : Package) (found : Judgement) (files : AreAccepted held model trace) → files.tree ≡ tree →
    IsJudged held tree trace found → IsSuccess (report_of_judgement model trace found).status
judged-accepted held model trace tree judgement.NotBuilt files same judged = absurd (judged files.arch (rw (← same) files.is_thin))
judged-accepted held model trace tree (judgement.BadLine number) files same judged =
    let arch = judged.only files.arch (rw (← same) files.is_thin) in
    let same_trace = sym files.trace_held ∙ judged.judged.trace_held in
    let trace_bytes : files.trace_bytes ≡ judged.judged.bytes = cc in
    absurd (judged.judged.judged.none files.lines (rw (← trace_bytes, ← arch) files.is_trace))
judged-accepted held model trace tree judgement.Legal files same judged = inl refl
judged-accepted held model trace tree (judgement.Illegal number rule) files same judged = inr refl

judge-success : (held : List ℕ → Option (List ℕ)) (model trace : List ℕ) (report : Report) → OnModel held model (JudgeReports held model trace) report → AreAccepted held model trace → IsSuccess report.status
judge-success held model trace report (inl refuses) files = absurd (not-refused held model report files.tree files.is_model refuses)
judge-success held model trace report (inr takes) files =
    let reports = takes.reports in
    subst (λ (r : Report). IsSuccess r.status) (sym reports.reported)
    (judged-accepted held model trace takes.tree reports.found files (same-package held model (JudgeReports held model trace) report files.tree files.is_model takes) reports.judged)

tidy-success : (held : List ℕ → Option (List ℕ)) (model : List ℕ) (report : Report) → OnModel held model IsTidied report → (tree : Package) → HoldsPackage held model tree → IsSuccess report.status
tidy-success held model report (inl refuses) tree holds = absurd (not-refused held model report tree holds refuses)
tidy-success held model report (inr takes) tree holds = subst (λ (r : Report). IsSuccess r.status) (sym takes.reports.reported) (inl refl)

-- the output of a command whose files are accepted
success : (held : List ℕ → Option (List ℕ)) (command : Command) (output : Output) → Gives held command output → Accepts held command → IsSuccess output.report.status
success held (judge model trace) output gives files = judge-success held model trace output.report gives.reports files
success held (tidy model) output gives files = tidy-success held model output.report gives.reports files.0 files.1

-- the command comes to read a file whose turn it was
turn-reads : (before after : Outside) (command : Command) (file : List ℕ) → Serves before after command → IsTurnOf before.store command file → Reads before.store.held command file
turn-reads before after command file serves turn = turn.reads (telling_store before.store command file turn.named serves.input)

not-absent : (command : Command) (before after : Outside) (report : Report) → Serves before after command → IsForAbsence command before.store after.store report → ⊥
not-absent command before after report serves absence =
    let held = serves.held absence.file (turn-reads before after command absence.file serves absence.turn) in
    let none : IsSome {T = List ℕ} None = subst (λ (o : Option (List ℕ)). IsSome o) (absence.missing (telling_store before.store command absence.file absence.turn.named serves.input)) held in
    cc

not-unread : (command : Command) (before after : Outside) (report : Report) → Serves before after command → IsForReadFault command before.store after.store report → ⊥
not-unread command before after report serves failed =
    serves.readable failed.file (turn-reads before after command failed.file serves failed.turn) failed.rose

not-unwritten : (command : Command) (before after : Outside) (report : Report) → Serves before after command → IsForWriteFault command before.store after.store report → ⊥
not-unwritten command before after report serves failed =
    serves.writable failed.output failed.place failed.file (failed.gives serves.input) failed.is_file failed.rose

-- what was due and is printed whole is the output
due-done : (command : Command) (before after : Outside) (report : Report) (answer : Status) → Serves before after command →
    IsDue command before.store after.store report → IsPrintedWhole report before.sink after.sink answer → IsDone before after command answer
due-done command before after report answer serves (inl due) whole =
    let gives = due.gives serves.input in
    let answered : answer ≡ due.output.report.status = whole.answered ∙ ap (λ (r : Report). r.status) due.reported in
    record {
      output = due.output;
      gives = gives;
      answered = answered;
      went_out = rw (← due.reported) whole.went_out;
      left = due.left;
      accepted = λ files. subst IsSuccess (sym answered) (success before.store.held command due.output gives files);
    }
due-done command before after report answer serves (inr (inl absence)) whole = absurd (not-absent command before after report serves absence)
due-done command before after report answer serves (inr (inr (inl failed))) whole = absurd (not-unread command before after report serves failed)
due-done command before after report answer serves (inr (inr (inr failed))) whole = absurd (not-unwritten command before after report serves failed)

printed-done : (command : Command) (before after : Outside) (report : Report) (answer : Status) → Serves before after command →
    IsDue command before.store after.store report → IsPrinted report before.sink after.sink answer → IsDone before after command answer
printed-done command before after report answer serves due (inl whole) = due-done command before after report answer serves due whole
printed-done command before after report answer serves due (inr cut) = absurd (serves.printable cut.failed)

answer-done : (command : Command) (before after : Outside) (answer : Status) → Serves before after command →
    IsAnswerOf command before after answer → IsDoneOrNoMemory before after command answer
answer-done command before after answer serves (inr (inl silent)) memory = absurd (memory silent.answered)
answer-done command before after answer serves (inr (inr broken)) memory = absurd (memory broken.answered)
answer-done command before after answer serves (inl prints) memory = printed-done command before after prints.report answer serves prints.due prints.printed

pub answer_done : (asked : List (List ℕ)) (command : Command) (before after : Outside) (answer : Status) → IsAnswer asked before after answer →
    IsRow asked command → Serves before after command → IsDoneOrNoMemory before after command answer
answer_done asked command before after answer (inl answers) row serves =
    answer-done command before after answer serves (subst (λ (c : Command). IsAnswerOf c before after answer) (row-one asked answers.command command answers.row row) answers.answers)
answer_done asked command before after answer (inr refuses) row serves = absurd (refuses.no_row command row)

refused-so : (before after : Outside) (answer : Status) → IsPrinted (report_of words) before.sink after.sink answer ⊎ IsSilent before after answer → IsWordsOrNothing answer
refused-so before after answer (inl (inl whole)) = inl whole.answered
refused-so before after answer (inl (inr cut)) = inr (inl cut.answered)
refused-so before after answer (inr silent) = inr (inr silent.answered)

-- words that are no row are refused
pub answer_no_row : (asked : List (List ℕ)) (before after : Outside) (answer : Status) → IsAnswer asked before after answer → IsNoRow asked → IsWordsOrNothing answer
answer_no_row asked before after answer (inl answers) none = absurd (none answers.command answers.row)
answer_no_row asked before after answer (inr refuses) none = refused-so before after answer refuses.prints
