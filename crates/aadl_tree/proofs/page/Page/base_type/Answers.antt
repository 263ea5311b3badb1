use Rattle.std.proofs.Common.{List, ℕ, sym, ◌∙◌, subst}
use Rattle.aadl_tree.specs.declared.token.Token.TheVariants as token
use Rattle.aadl_tree.specs.Allowed.{IsAllowed}
use Rattle.aadl_tree.proofs.BaseNames.{package-allowed, base-allowed}
use Rattle.aadl_tree.proofs.page.Page.base_type.Goals as goal

pub plain-requires : goal.plain-requires
plain-requires c = package-allowed

pub plain-requires-2 : goal.plain-requires-2
plain-requires-2 c =
    subst (λ (n : List ℕ). IsAllowed (token.Name n)) (sym (c.as_bytes.ensures.value ∙ c.name.ensures)) (base-allowed c.args.base)
