use Rattle.std.proofs.Common.{rules}
use Rattle.std.specs.Prelude.{codes}
use Rattle.hamr_cli.specs.TraceFault.{IsMemory}
use Rattle.hamr_cli.proofs.TraceActs.{no-word, by-release, by-receive, other-word, release-found, receive-found, is-word, is-not-word}
use Rattle.hamr_cli.proofs.trace.events.read_what.Goals as goal

pub returns-in_default-clause-only : goal.returns-in_default-clause-only
returns-in_default-clause-only c = λ what more fits m e.
    no-word c.args.arch.now c.args.who what _ more c.in_default.ensures.only fits e

pub returns-in_err-port-clause-only : goal.returns-in_err-port-clause-only
returns-in_err-port-clause-only c = λ what more fits m e.
    let release = is-word c.in-Some.word.now (codes "release") c.eq.result c.eq.ensures c.if-eq.true in
    let r = by-release c.args.arch.now c.args.who what _ _ _ more c.in-Some.ensures.only release fits e in
    let memory : IsMemory c.in_err-port.field-0.0 = c.in_err-port.ensures.only r.port r.value more r.fits m r.text in
    search rules

pub returns-then-eq-clause-found : goal.returns-then-eq-clause-found
returns-then-eq-clause-found c =
    let release = is-word c.in-Some.word.now (codes "release") c.eq.result c.eq.ensures c.if-eq.true in
    release-found c.args.arch.now _ _ _ _ _ _ c.in-Some.ensures.found release c.in_ok-port.ensures.found

pub returns-then-eq-clause-only : goal.returns-then-eq-clause-only
returns-then-eq-clause-only c = λ what more fits m e.
    let release = is-word c.in-Some.word.now (codes "release") c.eq.result c.eq.ensures c.if-eq.true in
    let r = by-release c.args.arch.now c.args.who what _ _ _ more c.in-Some.ensures.only release fits e in
    let same = c.in_ok-port.ensures.only r.port r.value more r.fits m r.text in
    let port = same.0 in
    let value = same.1 in
    let is = r.is in
    (cc, same.2)

pub returns-in_err-port-2-clause-only : goal.returns-in_err-port-2-clause-only
returns-in_err-port-2-clause-only c = λ what more fits m e.
    let receive = is-word c.in-Some.word.now (codes "receive") c.eq-2.result c.eq-2.ensures c.if-eq-2.true in
    let r = by-receive c.args.arch.now c.args.who what _ _ _ more c.in-Some.ensures.only receive fits e in
    let memory : IsMemory c.in_err-port-2.field-0.0 = c.in_err-port-2.ensures.only r.port r.values more r.fits r.text in
    search rules

pub returns-then-eq-2-clause-found : goal.returns-then-eq-2-clause-found
returns-then-eq-2-clause-found c =
    let receive = is-word c.in-Some.word.now (codes "receive") c.eq-2.result c.eq-2.ensures c.if-eq-2.true in
    receive-found c.args.arch.now _ _ _ _ _ _ c.in-Some.ensures.found receive c.in_ok-port-2.ensures.found

pub returns-then-eq-2-clause-only : goal.returns-then-eq-2-clause-only
returns-then-eq-2-clause-only c = λ what more fits m e.
    let receive = is-word c.in-Some.word.now (codes "receive") c.eq-2.result c.eq-2.ensures c.if-eq-2.true in
    let r = by-receive c.args.arch.now c.args.who what _ _ _ more c.in-Some.ensures.only receive fits e in
    let same = c.in_ok-port-2.ensures.only r.port r.values more r.fits r.text in
    let port = same.0 in
    let values = same.1 in
    let is = r.is in
    (cc, same.2)

pub returns-clause-only : goal.returns-clause-only
returns-clause-only c = λ what more fits m e.
    other-word c.args.arch.now c.args.who what _ _ _ more c.in-Some.ensures.only
    (is-not-word c.in-Some.word.now (codes "release") c.eq.result c.eq.ensures c.if-eq.false)
    (is-not-word c.in-Some.word.now (codes "receive") c.eq-2.result c.eq-2.ensures c.if-eq-2.false) fits e
