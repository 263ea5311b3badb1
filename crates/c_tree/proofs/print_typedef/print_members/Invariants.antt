use Rattle.std.proofs.Common.{◌≡◌, ◌++◌, drop}
use Rattle.std.specs.List.{flat_map}
use Rattle.c_tree.specs.Items.{member_text}
use Rattle.c_tree.proofs.print_typedef.print_members.Given as goal

abbrev pub invariant-loop-member : goal.invariant-loop-member
invariant-loop-member l =
    l.out ++ flat_map member_text (drop l.member-index l.others) ≡ l.initial.out ++ flat_map member_text l.others
