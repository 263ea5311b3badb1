-- Which canonical texts are within the limits (this project's own; docs/formats/model.md).
use Rattle.std.specs.Prelude.{◌≤◌, ℕ, List, map, length, take}
use Rattle.hw_text.specs.declared.placed.Placed.{Placed}
use Rattle.aadl_tree.specs.declared.package.Package.{Package}
use Rattle.aadl_tree.specs.declared.token.Token.{Token}
use Rattle.aadl_tree.specs.Layout.{canonical_text}
use Rattle.aadl_tree.specs.Packages.{package_tokens}
use Rattle.aadl_parse.specs.Flaws.{open_behind}
use Rattle.aadl_parse.specs.Stops.{start}

-- tokens, all at the start: brackets are counted wherever they stand
abbrev pub at_start : List Token → List (Placed Token)
at_start ts = map (λ t. record { token = t; place = start }) ts

-- a canonical text of at most 1,048,576 bytes, behind no token of which more than 64 brackets are open
pub record IsWithinLimits (p : Package) : Type 0 where
  pub small : length (canonical_text p) ≤ 1048576
  pub shallow : (k : ℕ) → open_behind 0 (take k (at_start (package_tokens p))) ≤ 64
