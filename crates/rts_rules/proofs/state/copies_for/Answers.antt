use Rattle.std.proofs.Common.{◌≡◌, ◌==◌, true, length, replicate, ap, sym, ◌∙◌, not, arith}
use Rattle.std.proofs.lemmas.Bool.Decides.{nat_tests}
use Rattle.arch_model.specs.LookUp.{receivers_of}
use Rattle.arch_model.proofs.Begins.{begins-nowhere}
use Rattle.rts_rules.proofs.state.copies_for.Goals as goal

pub returns-then-not-has_receiver-clause-copies : goal.returns-then-not-has_receiver-clause-copies
returns-then-not-has_receiver-clause-copies c =
    let test : (length (receivers_of c.args.arch.now.links c.args.port) == 0) ≡ true =
    begins-nowhere c.args.arch.now.links c.args.port ∙ ap not (sym c.has_receiver.ensures.receiver ∙ c.if-not-has_receiver.true) in
    let none : length (receivers_of c.args.arch.now.links c.args.port) ≡ 0 = grind (arith, nat_tests) in
    c.new-copies.ensures ∙ ap (λ n. replicate n c.args.value.now) (sym none)
