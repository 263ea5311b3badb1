use Rattle.c_tree.proofs.PrintedStatements.{count-printed, forever-printed}
use Rattle.c_tree.proofs.+statements.Goals as goal

pub statement::Statement::print-returns-in_ok-print_count-in-Count : goal.statement::Statement::print-returns-in_ok-print_count-in-Count
statement::Statement::print-returns-in_ok-print_count-in-Count t c =
    count-printed c.print_block.result c.args.self.now c.in-Count.class c.in-Count.name c.in-Count.from c.in-Count.place c.in-Count.below c.in-Count.body c.rows-in-Count.result.now
    c.args.margin.now c.args.out.now c.print_count.new.out c.print_block.new.out c.in-Count.is c.in_ok-print_count-in-Count.ensures c.rows-in-Count.ensures c.print_block.ensures

pub statement::Statement::print-returns-in_ok-print_forever-in-Forever : goal.statement::Statement::print-returns-in_ok-print_forever-in-Forever
statement::Statement::print-returns-in_ok-print_forever-in-Forever t c =
    forever-printed c.print_block-in-Forever.result c.args.self.now c.in-Forever.body c.rows-in-Forever.result.now
    c.args.margin.now c.args.out.now c.print_forever.new.out c.print_block-in-Forever.new.out c.in-Forever.is c.in_ok-print_forever-in-Forever.ensures c.rows-in-Forever.ensures c.print_block-in-Forever.ensures
