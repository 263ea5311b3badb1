-- What is seen of a page (this project's own).
use Rattle.std.specs.Prelude.{ℕ, Bool, List}
use Rattle.aadl_tree.specs.declared.page.Margin.{Margin}

-- its text, where the next token stands, and whether each of its tokens is one that the types of trees allow
pub record Sheet : Type 0 where
  pub text : List ℕ
  pub margin : Margin
  pub sound : Bool
