use Rattle.std.proofs.Common.{◌∙◌, sym, ap, subst, ◌++◌, List, ℕ}
use Rattle.gumbo_parse.specs.Annex.{annex_text}
use Rattle.gumbo_parse.specs.ContractTokens.{contract_tokens}
use Rattle.gumbo_parse.specs.Lexed.{HasTokens}
use Rattle.gumbo_parse.proofs.WrittenContracts.{contract_lexed}
use Rattle.gumbo_parse.proofs.annex.print_annex.Goals as goal

pub returns-clause-tokens : goal.returns-clause-tokens
returns-clause-tokens c =
    let contract = c.args.contract.now in
    subst (λ (text : List ℕ). HasTokens text (contract_tokens contract)) (sym (c.in_ok-print.ensures.text ∙ ap (λ (o : List ℕ). o ++ annex_text contract) c.new-out.ensures))
    (contract_lexed contract c.in_ok-print.ensures.allowed)
