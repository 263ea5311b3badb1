use Rattle.std.proofs.Common.{◌≡◌, ◌<◌, ◌++◌, ◌∷◌, [], suc, sym, append_assoc, length-append, length, replicate, ap, ◌∙◌, rules, arith}
use Rattle.std.proofs.Math.ListN.{length-set}
use Rattle.arch_model.specs.LookUp.{receivers_of}
use Rattle.arch_model.specs.Receivers.{receivers_left}
use Rattle.rts_rules.specs.Services.{Services}
use Rattle.rts_rules.specs.Queue.{appended}
use Rattle.rts_rules.proofs.Queues.{released-none, set-released, receivers-All, receivers-differ, is_among-before, All-middle, replicate-last}
use Rattle.rts_rules.proofs.state.ServiceState.append.Goals as goal

pub loop-receiver-init : goal.loop-receiver-init
loop-receiver-init c = record {
  left = search rules;
  threads = ap (λ (s : Services). s.threads) c.self.view_is;
  many = search rules;
  queued = ap length (ap (λ (s : Services). s.queues) c.self.view_is);
  queues = λ value are. (
    search rules,
    released-none value c.self.inside.queues.items c.args.self.now.queues (ap (λ (s : Services). s.queues) c.self.view_is),
  );
}

pub index_mut-requires : goal.index_mut-requires
index_mut-requires c =
    let ports = c.args.arch.now.ports in
    let links = c.args.arch.now.links in
    let queues = c.loop-receiver.self-inside.queues in
    let before = c.loop-receiver.yielded in
    let steps = c.in-Some.ensures.steps in
    let all : receivers_of links c.args.port ≡ before ++ c.in-Some.receiver ∷ receivers_left c.next.new.self =
    c.loop-receiver.invariant.left ∙ ap (λ rest. before ++ rest) steps in
    let well_formed = c.receivers-receiver-items.ensures.well_formed in
    let there : c.in-Some.receiver.0 < length ports =
    All-middle (λ k. k < length ports) before (receivers_left c.next.new.self) (receivers_of links c.args.port) c.in-Some.receiver all
    (receivers-All (λ k. k < length ports) links c.args.port (λ k d inside. (well_formed.links k d inside).to)) in
    omega (arith, c.loop-receiver.invariant.queued, c.requires.queues)

pub loop-receiver-preserved : goal.loop-receiver-preserved
loop-receiver-preserved c =
    let links = c.args.arch.now.links in
    let before = c.loop-receiver.yielded in
    let rest = receivers_left c.next.new.self in
    let steps = c.in-Some.ensures.steps in
    let all : receivers_of links c.args.port ≡ before ++ c.in-Some.receiver ∷ rest =
    c.loop-receiver.invariant.left ∙ ap (λ more. before ++ more) steps in
    let well_formed = c.receivers-receiver-items.ensures.well_formed in
    let absent = is_among-before before rest (receivers_of links c.args.port) c.in-Some.receiver all
    (receivers-differ links c.args.port well_formed.one_sender) in
    let there : c.in-Some.receiver.0 < length c.args.arch.now.ports =
    All-middle (λ k. k < length c.args.arch.now.ports) before rest (receivers_of links c.args.port) c.in-Some.receiver all
    (receivers-All (λ k. k < length c.args.arch.now.ports) links c.args.port (λ k d inside. (well_formed.links k d inside).to)) in
    let inside : c.in-Some.receiver.0 < length c.args.self.now.queues = omega (arith, c.requires.queues) in
    record {
      left = all ∙ sym (append_assoc before (c.in-Some.receiver ∷ []) rest);
      threads = c.loop-receiver.invariant.threads;
      many = omega (arith, ap length steps, c.loop-receiver.invariant.many, ap length c.in-Some-pop.ensures, length-append c.pop.new.self (c.in-Some-pop.copy ∷ []));
      queued = length-set c.loop-receiver.self-inside.queues.items c.in-Some.receiver.0 c.append.new.self ∙ c.loop-receiver.invariant.queued;
      queues = λ value are.
          let so_far = c.loop-receiver.invariant.queues value are in
          let copies : replicate (suc (length rest)) value ≡ c.pop.new.self ++ c.in-Some-pop.copy ∷ [] =
          ap (λ many. replicate (length many) value) (sym steps) ∙ sym so_far.0 ∙ c.in-Some-pop.ensures in
          let last = replicate-last (length rest) value c.in-Some-pop.copy c.pop.new.self copies in (
            last.0,
            set-released c.loop-receiver.self-inside.queues.items c.args.self.now.queues before c.in-Some.receiver value
                c.index_mut.result.now c.append.new.self so_far.1 inside absent c.index_mut.ensures.value
                (c.append.ensures ∙ ap (λ v. appended c.index_mut.result.now v) last.1),
          );
    }
