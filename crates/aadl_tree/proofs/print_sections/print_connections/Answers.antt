use Rattle.std.specs.List.{flat_map}
use Rattle.aadl_tree.specs.Packages.{connection_tokens}
use Rattle.aadl_tree.specs.Layout.{written}
use Rattle.aadl_tree.proofs.Writing.{each_step}
use Rattle.aadl_tree.proofs.print_sections.print_connections.Goals as goal

pub loop-connection-preserved : goal.loop-connection-preserved
loop-connection-preserved c =
    each_step connection_tokens c.args.connections.now c.loop-connection.connection-index c.connection-item.result c.loop-connection.page c.print.new.page
    (written c.word.new.self (flat_map connection_tokens c.args.connections.now)) c.loop-connection-test.true c.connection-item.is c.in_ok-print.ensures c.loop-connection.invariant
