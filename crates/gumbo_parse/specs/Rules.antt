-- The rules by which a text is a contract, and by which another one is refused (this project's own; docs/formats/contracts.md).
use Rattle.std.specs.Prelude.{◌≡◌, ℕ, List, [], slice_get, Option, None}
use Rattle.std.specs.Option.{option_map}
use Rattle.hw_text.specs.declared.place.Place.{Place}
use Rattle.hw_text.specs.declared.placed.Placed.{Placed}
use Rattle.hw_text.specs.declared.refusal.Refusal.{Refusal}
use Rattle.hw_text.specs.Text.{skipped}
use Rattle.hw_text.specs.Tokens.{Lexes}
use Rattle.hw_text.specs.WholeTexts.{Rules}
use Rattle.gumbo_parse.specs.declared.contract.Contract.{Contract}
use Rattle.gumbo_parse.specs.declared.token.Token.{Token}
use Rattle.gumbo_parse.specs.Annex.{SpellsContract}
use Rattle.gumbo_parse.specs.Flaws.{flaw_at}
use Rattle.gumbo_parse.specs.Refusals.{unexpected_there, flawed}
use Rattle.gumbo_parse.specs.Tokens.{token_at}
use Rattle.gumbo_parse.specs.Values.{Tokens}

-- what is told of the token at the index for its flaw
abbrev pub flaw_told : Tokens → ℕ → Option Refusal
flaw_told ts i = option_map (flawed ts i) (flaw_at ts i)

-- the rules of contracts whose texts begin at a place
abbrev pub contract_rules : Place → Rules (Placed Token) (List ℕ) Contract
contract_rules at = record {
  before = λ bytes. None;
  lexed = Lexes token_at skipped at;
  whole = λ left. left ≡ [];
  spelled = λ end. SpellsContract;
  flaw = flaw_told;
  unexpected = λ ts end left i. unexpected_there end (slice_get ts i);
}
