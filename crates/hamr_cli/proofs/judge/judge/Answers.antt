use Rattle.std.proofs.Common.{◌≡◌, true}
use Rattle.hamr_cli.specs.Judge.{IsJudgedFile, IsJudged}
use Rattle.hamr_cli.specs.Package.{IsThin}
use Rattle.hamr_cli.proofs.Judged.{IfOk-map, OnStopped-all, judged-by}
use Rattle.hamr_cli.proofs.judge.judge.Goals as goal

pub returns-in-None-clause-judged : goal.returns-in-None-clause-judged
returns-in-None-clause-judged g c = λ tells arch is.
    let found = c.in_ok-arch.ensures.only arch is in
    let missing = c.in-None.is in
    cc

pub returns-in-Some-clause-judged : goal.returns-in-Some-clause-judged
returns-in-Some-clause-judged g c =
    let held = (g.S.Store.means c.args.store.now).held in
    let tree = c.args.tree.now in
    let trace = c.args.trace.now in
    let thin = rw c.in-Some.is at c.in_ok-arch.ensures.found in
    IfOk-map c.judge_by.result
    (λ found. (g.S.Store.means c.args.store.now).tells ≡ true → IsJudgedFile held c.in-Some.arch trace found)
    (λ found. (g.S.Store.means c.args.store.now).tells ≡ true → IsJudged held tree trace found)
    (λ found judged tells. judged-by held tree trace found (record {
      arch = c.in-Some.arch;
      is_thin = thin;
      only = λ other is.
          let one = c.in_ok-arch.ensures.only other is in
          let this = c.in-Some.is in
          cc;
      judged = judged tells;
    })) c.judge_by.ensures.judged

pub returns-in-Some-clause-thin : goal.returns-in-Some-clause-thin
returns-in-Some-clause-thin g c =
    let thin = rw c.in-Some.is at c.in_ok-arch.ensures.found in
    OnStopped-all c.judge_by.result (λ report. IsThin c.args.tree.now) (λ report. (c.in-Some.arch, thin))
