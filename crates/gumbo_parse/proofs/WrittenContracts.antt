-- The canonical text of a contract has its canonical tokens.
use Rattle.std.proofs.Common.{◌≡◌, ℕ, List, [], ◌∷◌, ◌++◌, codes, Option, Some, None, refl, subst}
use Rattle.std.proofs.lemmas.List.{append-nil}
use Rattle.std.specs.List.{flat_map}
use Rattle.gumbo_parse.specs.Tokens.{token_at}
use Rattle.hw_text.specs.Text.{skipped}
use Rattle.gumbo_parse.specs.declared.class.Class.{Class}
use Rattle.gumbo_parse.specs.declared.class.Class.TheVariants.{Base, Model}
use Rattle.gumbo_parse.specs.declared.class.Variable.{Variable}
use Rattle.gumbo_parse.specs.declared.contract.Clause.{Clause}
use Rattle.gumbo_parse.specs.declared.contract.Handler.{Handler}
use Rattle.gumbo_parse.specs.declared.contract.Compute.{Compute}
use Rattle.gumbo_parse.specs.declared.contract.Contract.{Contract}
use Rattle.gumbo_parse.specs.declared.mark.Mark.TheVariants as mark
use Rattle.gumbo_parse.specs.declared.token.Token.{Token}
use Rattle.gumbo_parse.specs.declared.token.Token.TheVariants as token
use Rattle.gumbo_parse.specs.declared.word.Word.{Word}
use Rattle.gumbo_parse.specs.declared.word.Word.TheVariants as word
use Rattle.gumbo_parse.specs.Allowed.{AreAllowed}
use Rattle.gumbo_parse.specs.Annex.{clause_word, line, description_text, clause_text, clauses_text, section_text, handler_text, compute_text, annex_text}
use Rattle.gumbo_parse.specs.Classes.{behind_colons, implementation_text, class_text, variable_text}
use Rattle.gumbo_parse.specs.ContractTokens.{step_tokens, implementation_tokens, class_tokens, variable_tokens, description_tokens, clause_tokens, section_tokens, handler_tokens, compute_tokens, contract_tokens}
use Rattle.gumbo_parse.specs.Lexed.{HasTokens}
use Rattle.hw_text.specs.BaseTypes.{base_name}
use Rattle.gumbo_parse.specs.Words.{word_spelling}
use Rattle.gumbo_parse.proofs.Pieces.{Ended, name, a_word, closed, spaced}
use Rattle.gumbo_parse.proofs.Phrases.{behind_dot}
use Rattle.gumbo_parse.proofs.SymbolTokens.{colon-before-line, text-stands}
use Rattle.gumbo_parse.proofs.Written.{Writes}
use Rattle.hw_reading.proofs.Written.{Has, Anything, both, blank-behind, blank-before, nothing, nothing-left, members, has-tokens}
use Rattle.hw_reading.proofs.Written as written
use Rattle.gumbo_parse.proofs.WrittenExpressions.{expression_written}

-- a line end behind a word or a mark
line_end : {Q : List ℕ → Type 0} {s : List ℕ} {ts : List Token} → Writes Q s ts → ((rest : List ℕ) → Q (10 ∷ rest)) → Writes Anything (s ++ 10 ∷ []) ts
line_end text fits = blank-behind (10 ∷ []) (λ rest. refl) text fits

semicolon_line : Writes Anything (line (codes ";")) (token.Mark mark.Semicolon ∷ [])
semicolon_line = line_end (closed mark.Semicolon refl) (λ rest. tt)

-- a colon that ends a line
abbrev Broken : List ℕ → Type 0
Broken rest = (more : List ℕ) × (rest ≡ 10 ∷ more)

colon_line : Writes Anything (line (codes ":")) (token.Mark mark.Colon ∷ [])
colon_line =
    line_end (written.token Broken (codes ":") (token.Mark mark.Colon) (λ rest allowed broken. rw broken.1 (colon-before-line broken.0))) (λ rest. (rest, refl))

colons : (n : List ℕ) → Writes Ended (behind_colons n) (step_tokens n)
colons n = both (closed mark.DoubleColon refl) (name n) (λ rest allowed ended. tt)

steps-ended : (ns : List (List ℕ)) (rest : List ℕ) → Ended rest → Ended (flat_map behind_colons ns ++ rest)
steps-ended [] rest ended = ended
steps-ended (n ∷ ns) rest ended = (refl, refl)

steps : (ns : List (List ℕ)) → Writes Ended (flat_map behind_colons ns) (flat_map step_tokens ns)
steps [] = nothing
steps (n ∷ ns) = both (colons n) (steps ns) (λ rest allowed ended. steps-ended ns rest ended)

implementation : (o : Option (List ℕ)) → Writes Ended (implementation_text o) (implementation_tokens o)
implementation None = nothing
implementation (Some n) = behind_dot n

implementation-ended : (o : Option (List ℕ)) (rest : List ℕ) → Ended rest → Ended (implementation_text o ++ rest)
implementation-ended None rest ended = ended
implementation-ended (Some n) rest ended = (refl, refl)

class : (c : Class) → Writes Ended (class_text c) (class_tokens c)
class (Base at base) = both (both (name (codes "base_types")) (closed mark.DoubleColon refl) (λ rest allowed any. (refl, refl))) (name (base_name base)) (λ rest allowed ended. tt)
class (Model m) =
    both (both (name m.first.name) (steps m.others) (λ rest allowed ended. steps-ended m.others rest ended))
    (implementation m.implementation) (λ rest allowed ended. implementation-ended m.implementation rest ended)

variable : (v : Variable) → Writes Anything (variable_text v) (variable_tokens v)
variable v =
    line_end (both (both (both (name v.name.name) (spaced mark.Colon) (λ rest allowed any. (refl, refl)))
    (class v.class) (λ rest allowed ended. tt))
    (closed mark.Semicolon refl) (λ rest allowed any. (refl, refl))) (λ rest. tt)

description : (o : Option (List ℕ)) → Writes Anything (description_text o) (description_tokens o)
description None = nothing
description (Some d) =
    blank-before (codes " ") (λ rest. refl) (written.token Anything (codes "\"" ++ d ++ codes "\"") (token.Text d) (λ rest allowed any. text-stands d rest allowed))

clause : (c : Clause) → Writes Anything (clause_text c) (clause_tokens c)
clause c =
    both (both (described c.description)
    (expression_written c.expression) (λ rest allowed ended. tt))
    semicolon_line (λ rest allowed any. (refl, refl))
  where
    headed : Writes Ended (word_spelling (clause_word c.kind) ++ codes " " ++ c.name.name) (token.Word (clause_word c.kind) ∷ token.Name c.name.name ∷ [])
    headed = both (blank-behind (codes " ") (λ rest. refl) (a_word (clause_word c.kind)) (λ rest. (refl, refl))) (name c.name.name) (λ rest allowed ended. tt)

    described : (o : Option (List ℕ)) → Writes Anything (word_spelling (clause_word c.kind) ++ codes " " ++ c.name.name ++ description_text o ++ codes ": ") (token.Word (clause_word c.kind) ∷ token.Name c.name.name ∷ description_tokens o ++ token.Mark mark.Colon ∷ [])
    described None = both (both headed (nothing {Q = Ended}) (λ rest allowed ended. ended)) (spaced mark.Colon) (λ rest allowed any. (refl, refl))
    described (Some d) = both (both headed (description (Some d)) (λ rest allowed any. (refl, refl))) (spaced mark.Colon) (λ rest allowed any. tt)

section : {X : Type 0} (w : Word) (text : X → List ℕ) (tokens : X → List Token) → ((x : X) → Writes Anything (text x) (tokens x)) → (xs : List X) → Writes Anything (section_text w text xs) (section_tokens w tokens xs)
section w text tokens each [] = nothing
section w text tokens each (x ∷ xs) = both (line_end (a_word w) (λ rest. (refl, refl))) (members text tokens each (x ∷ xs)) (λ rest allowed any. tt)

clauses : (cs : List Clause) → Writes Anything (clauses_text cs) (flat_map clause_tokens cs)
clauses cs = members clause_text clause_tokens clause cs

handler : (h : Handler) → Writes Anything (handler_text h) (handler_tokens h)
handler h =
    both (both (both (both (blank-behind (codes " ") (λ rest. refl) (a_word word.Handle) (λ rest. (refl, refl)))
    (name h.port.name) (λ rest allowed ended. tt))
    colon_line (λ rest allowed any. (refl, refl)))
    (clause h.first) (λ rest allowed any. tt))
    (clauses h.others) (λ rest allowed any. tt)

compute : (o : Option Compute) → Writes Anything (compute_text o) (compute_tokens o)
compute None = nothing
compute (Some c) =
    both (both (line_end (a_word word.Compute) (λ rest. (refl, refl))) (clauses c.clauses) (λ rest allowed any. tt))
    (members handler_text handler_tokens handler c.handlers) (λ rest allowed any. tt)

contract : (c : Contract) → Writes Anything (annex_text c) (contract_tokens c)
contract c =
    both (both (both (section word.State variable_text variable_tokens variable c.state)
    (section word.Integration clause_text clause_tokens clause c.integration) (λ rest allowed any. tt))
    (section word.Initialize clause_text clause_tokens clause c.initialize) (λ rest allowed any. tt))
    (compute c.compute) (λ rest allowed any. tt)

-- the canonical text of a contract of which the tokens are as the types allow has these tokens and no others
pub contract_lexed : (c : Contract) → AreAllowed (contract_tokens c) → HasTokens (annex_text c) (contract_tokens c)
unfolding token_at
contract_lexed c allowed =
    has-tokens (annex_text c) (contract_tokens c)
    (subst (λ (bs : List ℕ). Has token_at skipped bs (contract_tokens c)) (append-nil (annex_text c))
    (subst (λ (ts : List Token). Has token_at skipped (annex_text c ++ []) ts) (append-nil (contract_tokens c)) ((contract c).before [] [] tt allowed (nothing-left refl refl))))
