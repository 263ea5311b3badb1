-- what was yielded so far, but for the first, is in the words
use Rattle.std.proofs.Common.{◌≡◌, ◌≤◌, true, false, [], length, drop, map}
use Rattle.std.specs.String.{string_bytes}
use Rattle.hamr_cli.proofs.arguments.words_behind_the_name.Given as goal

abbrev pub invariant-loop-word : goal.invariant-loop-word
invariant-loop-word l = record {
  words : l.words ≡ map string_bytes (drop 1 l.yielded);
  first : l.is_name ≡ true → l.yielded ≡ [];
  behind : l.is_name ≡ false → 1 ≤ length l.yielded;
}
