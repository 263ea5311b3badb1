use Rattle.std.proofs.Common.{◌≡◌, List, ℕ, sym, ap, ◌∙◌, subst}
use Rattle.aadl_tree.specs.declared.page.Margin.TheVariants.{LineStart}
use Rattle.aadl_tree.specs.declared.token.Token.{Token}
use Rattle.aadl_tree.specs.Layout.{laid_from, written}
use Rattle.aadl_tree.specs.Lexed.{HasTokens}
use Rattle.aadl_tree.specs.Packages.{package_tokens}
use Rattle.aadl_tree.specs.Sheet.{Sheet}
use Rattle.aadl_tree.proofs.ApartPackages.{package-apart}
use Rattle.aadl_tree.proofs.LaidOut.{laid_out}
use Rattle.aadl_tree.proofs.Writing.{all-allowed, text_of_page}
use Rattle.aadl_tree.proofs.printing.print.Goals as goal

pub returns-clause-allowed : goal.returns-clause-allowed
returns-clause-allowed c =
    (all-allowed c.new-page.result (package_tokens c.args.model.now)
    (ap (λ (p : Sheet). p.sound) (sym c.in_ok-print.ensures) ∙ c.into_text.ensures.sound)).1

pub returns-clause-tokens : goal.returns-clause-tokens
returns-clause-tokens c =
    let ts : List Token = package_tokens c.args.model.now in
    let page = c.in_ok-print.ensures in
    let text : c.into_text.result ≡ laid_from LineStart ts =
    c.into_text.ensures.text ∙ ap (λ (p : Sheet). p.text) (page ∙ ap (λ (p : Sheet). written p ts) c.new-page.ensures) ∙ text_of_page ts in
    let allowed = (all-allowed c.new-page.result ts (ap (λ (p : Sheet). p.sound) (sym page) ∙ c.into_text.ensures.sound)).1 in
    subst (λ (bs : List ℕ). HasTokens bs ts) (sym text) (laid_out ts allowed (package-apart c.args.model.now))
