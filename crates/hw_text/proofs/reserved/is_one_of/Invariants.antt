use Rattle.std.proofs.Common.{◌≡◌, drop, map}
use Rattle.std.specs.List.{list_any}
use Rattle.hw_text.specs.Name.{is_same_word}
use Rattle.hw_text.proofs.reserved.is_one_of.Given as goal

abbrev pub invariant-loop-other : goal.invariant-loop-other
invariant-loop-other l =
    list_any (is_same_word l.word) (map (λ w. w.now) (drop l.other-index l.words)) ≡
    list_any (is_same_word l.word) (map (λ w. w.now) l.words)
