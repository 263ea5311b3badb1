use Rattle.std.proofs.Common.{◌≡◌, ◌++◌, drop, map}
use Rattle.std.specs.List.{flat_map}
use Rattle.c_tree.specs.Statements.{all_lines, else_text, statement_text, branch_text}
use Rattle.c_tree.proofs.+statements.Given as goal

abbrev pub invariant-print_statement::print_all-loop-statement : goal.invariant-print_statement::print_all-loop-statement
invariant-print_statement::print_all-loop-statement l =
    l.out ++ all_lines (map statement_text (drop l.statement-index l.statements)) l.margin ≡ l.fn.out ++ all_lines (map statement_text l.statements) l.margin

abbrev pub invariant-print_statement::print_others-loop-branch : goal.invariant-print_statement::print_others-loop-branch
invariant-print_statement::print_others-loop-branch l =
    l.out ++ flat_map (else_text l.margin) (map branch_text (drop l.branch-index l.branches)) ≡ l.fn.out ++ flat_map (else_text l.margin) (map branch_text l.branches)
