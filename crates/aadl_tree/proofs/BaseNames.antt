-- The names of base types are names.
use Rattle.std.proofs.Common.{codes, refl}
use Rattle.hw_text.specs.Name.{is_reserved}
use Rattle.hw_text.specs.declared.base_type.BaseType.{BaseType}
use Rattle.hw_text.specs.declared.base_type.BaseType.TheVariants.{Boolean}
use Rattle.aadl_tree.specs.declared.token.Token.TheVariants as token
use Rattle.aadl_tree.specs.Allowed.{IsAllowed}
use Rattle.hw_text.specs.BaseTypes.{base_name}

pub package-allowed : IsAllowed (token.Name (codes "base_types"))
unfolding is_reserved
package-allowed = refl

pub base-allowed : (b : BaseType) → IsAllowed (token.Name (base_name b))
unfolding is_reserved base_name
base-allowed Boolean = refl
base-allowed _ = refl
