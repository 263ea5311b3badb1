-- The rules by which a text is a model, or a part of one, and by which another one is refused (this project's own; docs/formats/model.md).
use Rattle.std.specs.Prelude.{◌≡◌, ℕ, nat_lt, if◌then◌else◌, List, length, slice_get, option_and_then, Option, Some, None}
use Rattle.std.specs.Option.{option_map}
use Rattle.hw_text.specs.declared.placed.Placed.{Placed}
use Rattle.hw_text.specs.declared.refusal.Refusal.{Refusal}
use Rattle.hw_text.specs.WholeTexts.{Rules}
use Rattle.aadl_tree.specs.declared.package.Package.{Package}
use Rattle.aadl_tree.specs.declared.token.Token.{Token}
use Rattle.aadl_parse.specs.declared.stop.Stop.{Stop}
use Rattle.aadl_parse.specs.declared.stop.Stop.TheVariants as stop
use Rattle.aadl_parse.specs.Flaws.{flaw_at}
use Rattle.aadl_parse.specs.Grammar.{SpellsPackage}
use Rattle.aadl_parse.specs.Refusals.{too_long, unexpected_there, flawed}
use Rattle.aadl_parse.specs.Stops.{IsLexed}

-- what is told of a text before its tokens are looked at: that it has too many bytes
abbrev pub told_before : List ℕ → Option Refusal
told_before bytes = if nat_lt 1048576 (length bytes) then Some (too_long (length bytes)) else None

-- what is told of the token at the index for its flaw
abbrev pub flaw_told : List (Placed Token) → ℕ → Option Refusal
flaw_told ts i = option_and_then (λ t. option_map (flawed t.place) (flaw_at ts i)) (slice_get ts i)

-- the rules of a part of the grammar
abbrev pub text_rules : {X : Type 0} → (X → List (Placed Token) → Type 0) → Rules (Placed Token) Stop X
text_rules A = record {
  before = told_before;
  lexed = IsLexed;
  whole = λ cause. cause ≡ stop.End;
  spelled = λ end. A;
  flaw = flaw_told;
  unexpected = λ ts end cause i. unexpected_there end cause (slice_get ts i);
}

-- the rules of models
abbrev pub model_rules : Rules (Placed Token) Stop Package
model_rules = text_rules SpellsPackage
