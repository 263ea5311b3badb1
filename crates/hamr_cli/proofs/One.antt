-- What the files hold decides the report.
use Rattle.std.proofs.Common.{◌≡◌, ℕ, suc, List, [], ◌∷◌, ◌++◌, length, Option, refl, ap, sym, ◌∙◌, subst, arith}
use Rattle.arch_model.specs.declared.parts.ArchParts.{ArchParts}
use Rattle.rts_rules.specs.declared.event.Event.{Event}
use Rattle.rts_rules.specs.declared.rule.Rule.{Rule}
use Rattle.rts_rules.specs.Services.{Services, start_of}
use Rattle.rts_rules.specs.Rule.{rule_of}
use Rattle.rts_rules.specs.Left.{after}
use Rattle.rts_rules.specs.Step.{IsAllowed}
use Rattle.rts_rules.specs.Run.{AreAllowed, after_all, IsFirstIllegal}
use Rattle.hamr_cli.specs.declared.judgement.Judgement.{Judgement}
use Rattle.hamr_cli.specs.declared.judgement.Judgement.TheVariants as judgement
use Rattle.std.proofs.Common.{inl, inr}
use Rattle.std.proofs.lemmas.Option.{same_Some}
use Rattle.hw_text.specs.declared.refusal.Refusal.{Refusal}
use Rattle.hw_text.specs.WholeTexts.{IsTextOf, IsRefusedAs}
use Rattle.aadl_tree.specs.declared.package.Package.{Package}
use Rattle.aadl_parse.specs.Rules.{model_rules}
use Rattle.hamr_cli.specs.declared.report.Report.{Report}
use Rattle.hamr_cli.specs.Cause.{report_of, refused}
use Rattle.hamr_cli.specs.ModelFile.{OnModel}
use Rattle.hamr_cli.specs.Tidy.{IsTidied}
use Rattle.hamr_cli.specs.Judge.{IsJudgedBy, IsJudged, JudgeReports, report_of_judgement, events_of}
use Rattle.hamr_cli.specs.Output.{Output, PrintsAlone, OutputIsOne}
use Rattle.hamr_cli.specs.Command.{judge, tidy}

-- the first event that no rule allows stands at one place
pub record SamePlace (before before' : List Event) (here here' : Event) : Type 0 where
  pub many : length before ≡ length before'
  pub same : here ≡ here'

first-one : (arch : ArchParts) (state : Services) (before before' rest rest' : List Event) (here here' : Event) →
    before ++ here ∷ rest ≡ before' ++ here' ∷ rest' →
    AreAllowed arch state before → AreAllowed arch state before' →
    (IsAllowed arch (after_all arch state before) here → ⊥) → (IsAllowed arch (after_all arch state before') here' → ⊥) →
    SamePlace before before' here here'
first-one arch state [] [] rest rest' here here' is run run' never never' = record { many = refl; same = cc }
first-one arch state [] (first ∷ before') rest rest' here here' is run run' never never' =
    let head : here ≡ first = cc in
    absurd (never (subst (λ (e : Event). IsAllowed arch state e) (sym head) run'.0))
first-one arch state (first ∷ before) [] rest rest' here here' is run run' never never' =
    let head : here' ≡ first = cc in
    absurd (never' (subst (λ (e : Event). IsAllowed arch state e) (sym head) run.0))
first-one arch state (first ∷ before) (first' ∷ before') rest rest' here here' is run run' never never' =
    let head : first' ≡ first = cc in
    let tails : before ++ here ∷ rest ≡ before' ++ here' ∷ rest' = cc in
    let run'' = subst (λ (e : Event). AreAllowed arch state (e ∷ before')) head run' in
    let never'' = subst (λ (e : Event). IsAllowed arch (after_all arch (after arch state e) before') here' → ⊥) head never' in
    let same = first-one arch (after arch state first) before before' rest rest' here here' tails run.1 run''.1 never never'' in
    record { many = ap suc same.many; same = same.same }

illegal-one : (arch : ArchParts) (events : List Event) (number number' : ℕ) (rule rule' : Rule) →
    IsFirstIllegal arch events number rule → IsFirstIllegal arch events number' rule' →
    judgement.Illegal number rule ≡ judgement.Illegal number' rule'
illegal-one arch events number number' rule rule' one other =
    let same = first-one arch (start_of arch) one.before other.before one.rest other.rest one.here other.here (sym one.all ∙ other.all)
    one.run other.run one.illegal other.illegal in
    let numbers : number ≡ number' = omega (arith, one.counted, other.counted, same.many) in
    let rules : rule ≡ rule' = one.word ∙ ap (λ (e : Event). rule_of e.what) same.same ∙ sym other.word in
    rw (numbers, rules) refl

-- the two files that two judgements speak of are the same
pub record SameFiles {held : List ℕ → Option (List ℕ)} {tree : Package} {trace : List ℕ} {found found' : Judgement}
    (one : IsJudgedBy held tree trace found) (other : IsJudgedBy held tree trace found') : Type 0 where
  pub arch : other.arch ≡ one.arch
  pub bytes : other.judged.bytes ≡ one.judged.bytes

same-files : (held : List ℕ → Option (List ℕ)) (tree : Package) (trace : List ℕ) (found found' : Judgement)
    (one : IsJudgedBy held tree trace found) (other : IsJudgedBy held tree trace found') → SameFiles one other
same-files held tree trace found found' one other =
    let traces = sym other.judged.trace_held ∙ one.judged.trace_held in
    let trace_bytes : other.judged.bytes ≡ one.judged.bytes = cc in
    record { arch = one.only other.arch other.is_thin; bytes = trace_bytes }

judged-one : (held : List ℕ → Option (List ℕ)) (tree : Package) (trace : List ℕ) (found found' : Judgement) →
    IsJudgedBy held tree trace found → IsJudgedBy held tree trace found' → found ≡ found'
judged-one held tree trace judgement.NotBuilt found' one other = absurd one.judged.judged
judged-one held tree trace (judgement.BadLine number) judgement.NotBuilt one other = absurd other.judged.judged
judged-one held tree trace (judgement.BadLine number) (judgement.BadLine number') one other =
    let files = same-files held tree trace (judgement.BadLine number) (judgement.BadLine number') one other in
    let numbers : number' ≡ number = one.judged.judged.only number' (rw (← files.arch, ← files.bytes) other.judged.judged.first) in
    rw numbers refl
judged-one held tree trace (judgement.BadLine number) judgement.Legal one other =
    let files = same-files held tree trace (judgement.BadLine number) judgement.Legal one other in
    absurd (one.judged.judged.none other.judged.judged.lines (rw (← files.arch, ← files.bytes) other.judged.judged.text))
judged-one held tree trace (judgement.BadLine number) (judgement.Illegal number' rule) one other =
    let files = same-files held tree trace (judgement.BadLine number) (judgement.Illegal number' rule) one other in
    absurd (one.judged.judged.none other.judged.judged.lines (rw (← files.arch, ← files.bytes) other.judged.judged.text))
judged-one held tree trace judgement.Legal judgement.NotBuilt one other = absurd other.judged.judged
judged-one held tree trace judgement.Legal (judgement.BadLine number) one other =
    let files = same-files held tree trace (judgement.BadLine number) judgement.Legal other one in
    absurd (other.judged.judged.none one.judged.judged.lines (rw (← files.arch, ← files.bytes) one.judged.judged.text))
judged-one held tree trace judgement.Legal judgement.Legal one other = refl
judged-one held tree trace judgement.Legal (judgement.Illegal number rule) one other =
    let files = same-files held tree trace judgement.Legal (judgement.Illegal number rule) one other in
    let lines = one.judged.judged.only other.judged.judged.lines (rw (← files.arch, ← files.bytes) other.judged.judged.text) in
    absurd (other.judged.judged.says.no_run (rw (files.arch, lines) one.judged.judged.says))
judged-one held tree trace (judgement.Illegal number rule) judgement.NotBuilt one other = absurd other.judged.judged
judged-one held tree trace (judgement.Illegal number rule) (judgement.BadLine number') one other =
    let files = same-files held tree trace (judgement.BadLine number') (judgement.Illegal number rule) other one in
    absurd (other.judged.judged.none one.judged.judged.lines (rw (← files.arch, ← files.bytes) one.judged.judged.text))
judged-one held tree trace (judgement.Illegal number rule) judgement.Legal one other =
    let files = same-files held tree trace judgement.Legal (judgement.Illegal number rule) other one in
    let lines = other.judged.judged.only one.judged.judged.lines (rw (← files.arch, ← files.bytes) one.judged.judged.text) in
    absurd (one.judged.judged.says.no_run (rw (files.arch, lines) other.judged.judged.says))
judged-one held tree trace (judgement.Illegal number rule) (judgement.Illegal number' rule') one other =
    let files = same-files held tree trace (judgement.Illegal number rule) (judgement.Illegal number' rule') one other in
    let lines = one.judged.judged.only other.judged.judged.lines (rw (← files.arch, ← files.bytes) other.judged.judged.text) in
    illegal-one one.arch (events_of one.judged.judged.lines) number number' rule rule' one.judged.judged.says.first
    (rw (← files.arch, ← lines) other.judged.judged.says.first)

judgement-one : (held : List ℕ → Option (List ℕ)) (tree : Package) (trace : List ℕ) (found found' : Judgement) →
    IsJudged held tree trace found → IsJudged held tree trace found' → found ≡ found'
judgement-one held tree trace judgement.NotBuilt judgement.NotBuilt one other = refl
judgement-one held tree trace judgement.NotBuilt (judgement.BadLine number) one other = absurd (one other.arch other.is_thin)
judgement-one held tree trace judgement.NotBuilt judgement.Legal one other = absurd (one other.arch other.is_thin)
judgement-one held tree trace judgement.NotBuilt (judgement.Illegal number rule) one other = absurd (one other.arch other.is_thin)
judgement-one held tree trace (judgement.BadLine number) judgement.NotBuilt one other = absurd (other one.arch one.is_thin)
judgement-one held tree trace (judgement.BadLine number) (judgement.BadLine number') one other = judged-one held tree trace (judgement.BadLine number) (judgement.BadLine number') one other
judgement-one held tree trace (judgement.BadLine number) judgement.Legal one other = judged-one held tree trace (judgement.BadLine number) judgement.Legal one other
judgement-one held tree trace (judgement.BadLine number) (judgement.Illegal number' rule) one other = judged-one held tree trace (judgement.BadLine number) (judgement.Illegal number' rule) one other
judgement-one held tree trace judgement.Legal judgement.NotBuilt one other = absurd (other one.arch one.is_thin)
judgement-one held tree trace judgement.Legal (judgement.BadLine number) one other = judged-one held tree trace judgement.Legal (judgement.BadLine number) one other
judgement-one held tree trace judgement.Legal judgement.Legal one other = refl
judgement-one held tree trace judgement.Legal (judgement.Illegal number rule) one other = judged-one held tree trace judgement.Legal (judgement.Illegal number rule) one other
judgement-one held tree trace (judgement.Illegal number rule) judgement.NotBuilt one other = absurd (other one.arch one.is_thin)
judgement-one held tree trace (judgement.Illegal number rule) (judgement.BadLine number') one other = judged-one held tree trace (judgement.Illegal number rule) (judgement.BadLine number') one other
judgement-one held tree trace (judgement.Illegal number rule) judgement.Legal one other = judged-one held tree trace (judgement.Illegal number rule) judgement.Legal one other
judgement-one held tree trace (judgement.Illegal number rule) (judgement.Illegal number' rule') one other = judged-one held tree trace (judgement.Illegal number rule) (judgement.Illegal number' rule') one other

-- a file is one model, or refused for one cause
model-one : (held : List ℕ → Option (List ℕ)) (model : List ℕ) (Reports : Package → Report → Type 0) → ((p : Package) (r s : Report) → Reports p r → Reports p s → r ≡ s) →
    (r s : Report) → OnModel held model Reports r → OnModel held model Reports s → r ≡ s
model-one held model Reports one r s (inl h) (inl k) =
    let bytes = same_Some k.bytes h.bytes (sym k.model_held ∙ h.model_held) in
    let refusal = h.rejected.only k.refusal (subst (λ (b : List ℕ). IsRefusedAs model_rules b k.refusal) bytes k.rejected.refused) in
    h.reported ∙ ap (λ (x : Refusal). report_of (refused model x)) (sym refusal) ∙ sym k.reported
model-one held model Reports one r s (inl h) (inr k) =
    absurd (h.rejected.no_text k.tree (subst (λ (b : List ℕ). IsTextOf model_rules b k.tree) (same_Some k.bytes h.bytes (sym k.model_held ∙ h.model_held)) k.accepted.text))
model-one held model Reports one r s (inr h) (inl k) =
    absurd (k.rejected.no_text h.tree (subst (λ (b : List ℕ). IsTextOf model_rules b h.tree) (same_Some h.bytes k.bytes (sym h.model_held ∙ k.model_held)) h.accepted.text))
model-one held model Reports one r s (inr h) (inr k) =
    let bytes = same_Some k.bytes h.bytes (sym k.model_held ∙ h.model_held) in
    let tree = h.accepted.only k.tree (subst (λ (b : List ℕ). IsTextOf model_rules b k.tree) bytes k.accepted.text) in
    one h.tree r s h.reports (subst (λ (p : Package). Reports p s) tree k.reports)

judge-one : (held : List ℕ → Option (List ℕ)) (model trace : List ℕ) (p : Package) (r s : Report) → JudgeReports held model trace p r → JudgeReports held model trace p s → r ≡ s
judge-one held model trace p r s h k =
    h.reported ∙ ap (λ (found : Judgement). report_of_judgement model trace found) (judgement-one held p trace h.found k.found h.judged k.judged) ∙ sym k.reported

-- a command that writes nothing has one output, where it has one report
alone-one : (Reports : Report → Type 0) → ((r s : Report) → Reports r → Reports s → r ≡ s) → (one other : Output) → PrintsAlone Reports one → PrintsAlone Reports other → one ≡ other
alone-one Reports same one other h k =
    let reports = same one.report other.report h.reports k.reports in
    let files : one.files ≡ other.files = h.no_files ∙ sym k.no_files in
    rw (reports, files) refl

-- there is one output
pub output-one : OutputIsOne
output-one held (judge model trace) one other gives gives' =
    alone-one (OnModel held model (JudgeReports held model trace)) (model-one held model (JudgeReports held model trace) (judge-one held model trace)) one other gives gives'
output-one held (tidy model) one other gives gives' =
    alone-one (OnModel held model IsTidied) (model-one held model IsTidied (λ p r s h k. h.reported ∙ sym k.reported)) one other gives gives'
