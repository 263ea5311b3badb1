-- An outermost expression stands behind a token behind which one may begin, and is one.
use Rattle.std.proofs.Common.{◌≡◌, ◌∙◌, refl, sym, ap, subst, List, [], ◌++◌, append_assoc, append-nil, Bool, true, false, inl, inr}
use Rattle.std.specs.Prelude.{is_some}
use Rattle.hw_text.specs.Language.{Each, ◌⋅◌}
use Rattle.c_tree.specs.declared.dialect.Dialect.TheVariants.{User}
use Rattle.c_tree.specs.declared.expression.Argument.{Argument}
use Rattle.c_tree.specs.declared.expression.Expression.{Expression}
use Rattle.c_parse.specs.declared.keyword.Keyword.TheVariants as keyword
use Rattle.c_parse.specs.declared.mark.Mark.TheVariants as mark
use Rattle.c_parse.specs.Values.{Tokens}
use Rattle.c_parse.specs.ExpressionGrammar.{Sign, Name, SpellsBase, SpellsParts, SpellsLvalue, SpellsWhole}
use Rattle.c_parse.specs.CallGrammar.{Word, BehindComma, SpellsType, SpellsArgument, SpellsRightSide}
use Rattle.c_parse.specs.StatementGrammar.{SpellsStatements}
use Rattle.c_parse.specs.UnitGrammar.{SpellsParameters, SpellsItem}
use Rattle.c_parse.specs.Outermost.{InLaterArgument, InArguments, InCall, InRightSide, InIndex, InParts, InGiven, InLocal, InAssignment, InPlain, InCondition, InStatement, InStatements, InBlock, InBranch, InElseIfs, InReturned, InBody, InFunction, InItem, InUnit, in_plain, in_first_branch, in_later_branch, in_else, in_loop, in_first, in_later, in_block, in_condition, in_body, in_first_link, in_later_link}
use Rattle.c_parse.specs.Standing.{All, ◌▸◌, ◌◂◌, ◌∥◌}
use Rattle.c_parse.proofs.Explained.{Led}
use Rattle.c_parse.proofs.ExplainedAssignments.{Assigned}
use Rattle.c_parse.proofs.LeafTokens.{sign-led, return-led}
use Rattle.c_parse.proofs.Within.{regrouped}

abbrev IsBegun : Tokens → Tokens → Type 0
IsBegun us es = Led us × ((x : Expression) × SpellsWhole User x es)

-- what stands so in a text, with these tokens before it
abbrev Begun : Tokens → (Tokens → Tokens → Tokens → Type 0) → Type 0
Begun b M = (us es vs : Tokens) → M us es vs → IsBegun (b ++ us) es

moved : (b ws ms us es : Tokens) → us ≡ ws ++ ms → IsBegun ((b ++ ws) ++ ms) es → IsBegun (b ++ us) es
moved b ws ms us es split begun = (subst Led (append_assoc b ws ms ∙ ap (λ (l : Tokens). b ++ l) (sym split)) begun.0, begun.1)

all-begun : (b : Tokens) → Led b → Begun b (All (SpellsWhole User))
all-begun b led us es vs (x, none, nothing, text) = (subst Led (sym (ap (λ (l : Tokens). b ++ l) none ∙ append-nil b)) led, (x, text))

behind-begun : {X : Type 0} (A : X → Tokens → Type 0) (M : Tokens → Tokens → Tokens → Type 0) (b : Tokens) → ((x : X) (w : Tokens) → A x w → Begun (b ++ w) M) → Begun b (A ▸ M)
behind-begun A M b each us es vs (x, ws, ms, split, text, there) = moved b ws ms us es split (each x ws text ms es vs there)

before-begun : {X : Type 0} (M : Tokens → Tokens → Tokens → Type 0) (A : X → Tokens → Type 0) (b : Tokens) → Begun b M → Begun b (M ◂ A)
before-begun M A b begun us es vs (x, ms, ws, split, there, text) = begun us es ms there

either-begun : (M N : Tokens → Tokens → Tokens → Type 0) (b : Tokens) → Begun b M → Begun b N → Begun b (M ∥ N)
either-begun M N b one other us es vs (inl there) = one us es vs there
either-begun M N b one other us es vs (inr there) = other us es vs there

abbrev Others : List Argument → Tokens → Type 0
Others = Each (BehindComma (SpellsArgument User))

later-argument-begun : (b : Tokens) → Begun b InLaterArgument
later-argument-begun b = behind-begun (Sign mark.Comma) (All (SpellsWhole User)) b (λ p w comma. all-begun (b ++ w) (sign-led mark.Comma p w comma refl b))

arguments-begun : (b : Tokens) → Led b → Begun b InArguments
arguments-begun b led =
    either-begun (All (SpellsWhole User) ◂ Others) (SpellsArgument User ▸ Others ▸ InLaterArgument ◂ Others) b (before-begun (All (SpellsWhole User)) Others b (all-begun b led))
    (behind-begun (SpellsArgument User) (Others ▸ InLaterArgument ◂ Others) b
    (λ x w first. behind-begun Others (InLaterArgument ◂ Others) (b ++ w) (λ xs v rest. before-begun InLaterArgument Others ((b ++ w) ++ v) (later-argument-begun ((b ++ w) ++ v)))))

call-begun : (b : Tokens) → Begun b InCall
call-begun b =
    behind-begun Name (Sign mark.OpenParenthesis ▸ InArguments ◂ Sign mark.CloseParenthesis) b
    (λ x w name. behind-begun (Sign mark.OpenParenthesis) (InArguments ◂ Sign mark.CloseParenthesis) (b ++ w)
    (λ p v opening. before-begun InArguments (Sign mark.CloseParenthesis) ((b ++ w) ++ v)
    (arguments-begun ((b ++ w) ++ v) (sign-led mark.OpenParenthesis p v opening refl (b ++ w)))))

right-begun : (b : Tokens) → Led b → Begun b InRightSide
right-begun b led = either-begun InCall (All (SpellsWhole User)) b (call-begun b) (all-begun b led)

index-begun : (b : Tokens) → Begun b InIndex
index-begun b =
    behind-begun (Sign mark.OpenBracket) (All (SpellsWhole User) ◂ Sign mark.CloseBracket) b
    (λ p w opening. before-begun (All (SpellsWhole User)) (Sign mark.CloseBracket) (b ++ w) (all-begun (b ++ w) (sign-led mark.OpenBracket p w opening refl b)))

parts-begun : (b : Tokens) → Begun b InParts
parts-begun b =
    behind-begun (SpellsParts User) (InIndex ◂ SpellsParts User) b (λ ps w parts. before-begun InIndex (SpellsParts User) (b ++ w) (index-begun (b ++ w)))

given-begun : (b : Tokens) → Begun b InGiven
given-begun b = behind-begun (Sign mark.Assign) InRightSide b (λ p w assign. right-begun (b ++ w) (sign-led mark.Assign p w assign refl b))

local-begun : (b : Tokens) → Begun b InLocal
local-begun b =
    behind-begun SpellsType (Name ▸ InGiven ◂ Sign mark.Semicolon) b
    (λ c w class. behind-begun Name (InGiven ◂ Sign mark.Semicolon) (b ++ w)
    (λ x v name. before-begun InGiven (Sign mark.Semicolon) ((b ++ w) ++ v) (given-begun ((b ++ w) ++ v))))

assignment-begun : (b : Tokens) → Begun b InAssignment
assignment-begun b =
    either-begun (SpellsBase User ▸ InParts ◂ Assigned) (SpellsLvalue User ▸ InGiven ◂ Sign mark.Semicolon) b
    (behind-begun (SpellsBase User) (InParts ◂ Assigned) b (λ x w base. before-begun InParts Assigned (b ++ w) (parts-begun (b ++ w))))
    (behind-begun (SpellsLvalue User) (InGiven ◂ Sign mark.Semicolon) b (λ l w target. before-begun InGiven (Sign mark.Semicolon) (b ++ w) (given-begun (b ++ w))))

plain-begun : (b : Tokens) → Begun b InPlain
plain-begun b =
    either-begun InLocal (InAssignment ∥ (InCall ◂ Sign mark.Semicolon)) b (local-begun b)
    (either-begun InAssignment (InCall ◂ Sign mark.Semicolon) b (assignment-begun b) (before-begun InCall (Sign mark.Semicolon) b (call-begun b)))

condition-begun : (b : Tokens) → Begun b InCondition
condition-begun b =
    behind-begun (Sign mark.OpenParenthesis) (InRightSide ◂ Sign mark.CloseParenthesis) b
    (λ p w opening. before-begun InRightSide (Sign mark.CloseParenthesis) (b ++ w) (right-begun (b ++ w) (sign-led mark.OpenParenthesis p w opening refl b)))

mutual
  statement-begun : (b us es vs : Tokens) → InStatement us es vs → IsBegun (b ++ us) es
  statement-begun b us es vs (in_plain us' es' vs' there) = plain-begun b us es vs there
  statement-begun b us es vs (in_first_branch bs o us' es' ms ns os vs' split there links otherwise) = branch-begun b us es ms there
  statement-begun b us es vs (in_later_branch x o ws ms us' es' ns os vs' split next first there otherwise) =
      moved b ws ms us es split (links-begun (b ++ ws) ms es ns there)
  statement-begun b us es vs (in_else x bs p ws ns os ms us' es' vs' split first links word there) =
      moved b (ws ++ (ns ++ os)) ms us es (split ∙ sym (regrouped ws ns os ms)) (block-begun (b ++ (ws ++ (ns ++ os))) ms es vs there)
  statement-begun b us es vs (in_loop p q h fs os hs ms us' es' vs' split word opening head there) =
      moved b (fs ++ (os ++ hs)) ms us es (split ∙ sym (regrouped fs os hs ms)) (block-begun (b ++ (fs ++ (os ++ hs))) ms es vs there)

  statements-begun : (b us es vs : Tokens) → InStatements us es vs → IsBegun (b ++ us) es
  statements-begun b us es vs (in_first ss us' es' ms ns vs' split there rest) = statement-begun b us es ms there
  statements-begun b us es vs (in_later s ws ms us' es' vs' split first there) = moved b ws ms us es split (statements-begun (b ++ ws) ms es vs there)

  block-begun : (b us es vs : Tokens) → InBlock us es vs → IsBegun (b ++ us) es
  block-begun b us es vs (in_block p q os ms us' es' ns cs vs' split next opening there closing) = moved b os ms us es split (statements-begun (b ++ os) ms es ns there)

  branch-begun : (b us es vs : Tokens) → InBranch us es vs → IsBegun (b ++ us) es
  branch-begun b us es vs (in_condition p body is ms us' es' ns bs vs' split next word there text) =
      moved b is ms us es split (condition-begun (b ++ is) ms es ns there)
  branch-begun b us es vs (in_body p c is cs ms us' es' vs' split word condition there) =
      moved b (is ++ cs) ms us es (split ∙ sym (append_assoc is cs ms)) (block-begun (b ++ (is ++ cs)) ms es vs there)

  links-begun : (b us es vs : Tokens) → InElseIfs us es vs → IsBegun (b ++ us) es
  links-begun b us es vs (in_first_link p bs os ms us' es' ns ws vs' split next word there rest) = moved b os ms us es split (branch-begun (b ++ os) ms es ns there)
  links-begun b us es vs (in_later_link p x os ws ms us' es' vs' split word first there) =
      moved b (os ++ ws) ms us es (split ∙ sym (append_assoc os ws ms)) (links-begun (b ++ (os ++ ws)) ms es vs there)

body-begun : (returns : Bool) (b : Tokens) → Begun b (InBody returns)
body-begun true b =
    let returned = Word keyword.Return ⋅ SpellsRightSide User ⋅ Sign mark.Semicolon ⋅ Sign mark.CloseBrace in
    let ending = Sign mark.Semicolon ⋅ Sign mark.CloseBrace in
    either-begun (InStatements ◂ returned) (SpellsStatements User ▸ InReturned ◂ ending) b (before-begun InStatements returned b (statements-begun b))
    (behind-begun (SpellsStatements User) (InReturned ◂ ending) b
    (λ ss w text. before-begun InReturned ending (b ++ w)
    (behind-begun (Word keyword.Return) InRightSide (b ++ w) (λ p v word. right-begun ((b ++ w) ++ v) (return-led p v (b ++ w) word)))))
body-begun false b = before-begun InStatements (Sign mark.CloseBrace) b (statements-begun b)

function-begun : (returns : Bool) (b : Tokens) → Begun b (InFunction returns)
function-begun returns b =
    behind-begun (Sign mark.OpenParenthesis) (SpellsParameters User ▸ Sign mark.CloseParenthesis ▸ Sign mark.OpenBrace ▸ InBody returns) b
    (λ p w opening. behind-begun (SpellsParameters User) (Sign mark.CloseParenthesis ▸ Sign mark.OpenBrace ▸ InBody returns) (b ++ w)
    (λ ps v parameters. behind-begun (Sign mark.CloseParenthesis) (Sign mark.OpenBrace ▸ InBody returns) ((b ++ w) ++ v)
    (λ q u closing. behind-begun (Sign mark.OpenBrace) (InBody returns) (((b ++ w) ++ v) ++ u)
    (λ r x brace. body-begun returns ((((b ++ w) ++ v) ++ u) ++ x)))))

item-begun : (b : Tokens) → Begun b InItem
item-begun b us es vs (h, ws, ms, split, heading, there) = moved b ws ms us es split (function-begun (is_some h.class) (b ++ ws) ms es vs there)

pub unit-begun : (us es vs : Tokens) → InUnit us es vs → Led us × ((x : Expression) × SpellsWhole User x es)
unit-begun =
    behind-begun (Each (SpellsItem User)) (InItem ◂ Each (SpellsItem User)) []
    (λ is w items. before-begun InItem (Each (SpellsItem User)) w (item-begun w))
