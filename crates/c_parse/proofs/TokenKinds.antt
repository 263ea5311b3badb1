-- What has a value, and what has none.
use Rattle.std.proofs.Common.{◌≡◌, ap, true, Option, Some, None}
use Rattle.std.specs.Prelude.{is_some}
use Rattle.std.proofs.lemmas.Bool.{false≢true}

pub none-some : {X : Type 0} (x : X) → None ≡ Some x → ⊥
none-some x same = false≢true (ap is_some same)

pub some-is : {X : Type 0} (o : Option X) (x : X) → o ≡ Some x → is_some o ≡ true
some-is o x is = ap is_some is
