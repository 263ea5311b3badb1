use Rattle.std.proofs.Common.{ap, ◌∙◌}
use Rattle.hw_text.specs.Name.{is_name}
use Rattle.hamr_cli.specs.TraceText.{port_name}
use Rattle.hamr_cli.proofs.TracePorts.{port-found, port_from-port_name}
use Rattle.hamr_cli.proofs.TraceNames.{name-word}
use Rattle.hamr_cli.proofs.TracePortCount.{few-ports}
use Rattle.hamr_cli.proofs.trace.names.read_port.Goals as goal

pub returns-in_err-name-clause-only : goal.returns-in_err-name-clause-only
returns-in_err-name-clause-only c = λ port more named e.
    absurd (c.in_err-name.ensures.only _ more (name-word (port_name c.args.arch.now port) named.name) e)

pub port_named-requires : goal.port_named-requires
port_named-requires c = few-ports c.args.arch.now _ c.ports.ensures.rows c.ports.ensures.well_formed

pub returns-in_err-port-clause-only : goal.returns-in_err-port-clause-only
returns-in_err-port-clause-only c = λ port more named e.
    let word = c.in_ok-name.ensures.only _ more (name-word (port_name c.args.arch.now port) named.name) e in
    let found = port_from-port_name c.args.arch.now _ _ _ _ port c.ports.ensures.rows c.ports.ensures.well_formed named.own word.0 in
    absurd (let none = c.in_err-port.ensures.place in cc)

pub returns-clause-port : goal.returns-clause-port
returns-clause-port c =
    let f = port-found c.args.arch.now _ _ _ _ _ c.ports.ensures.rows c.in_ok-port.ensures.place in
    record { own = f.own; name = ap is_name f.named ∙ c.in_ok-port.ensures.name }

pub returns-clause-found : goal.returns-clause-found
returns-clause-found c =
    rw (port-found c.args.arch.now _ _ _ _ _ c.ports.ensures.rows c.in_ok-port.ensures.place).named c.in_ok-name.ensures.found

pub returns-clause-only : goal.returns-clause-only
returns-clause-only c = λ port more named e.
    let word = c.in_ok-name.ensures.only _ more (name-word (port_name c.args.arch.now port) named.name) e in
    let found = port_from-port_name c.args.arch.now _ _ _ _ port c.ports.ensures.rows c.ports.ensures.well_formed named.own word.0 in
    let some = c.in_ok-port.ensures.place in
    (cc, word.1)
