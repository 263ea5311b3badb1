-- Tokens of contracts whose expressions are short: none of them is too far behind the colon of a clause.
use Rattle.std.proofs.Common.{◌≡◌, ℕ, ◌+◌, ◌≤◌, List, [], ◌∷◌, ◌++◌, length, codes, Option, Some, None, refl, sym, ap, subst, arith}
use Rattle.std.proofs.lemmas.List.Elements.{All-head, All-tail}
use Rattle.std.specs.List.{All, flat_map}
use Rattle.gumbo_parse.specs.declared.level.Level.TheVariants as level
use Rattle.gumbo_parse.specs.declared.class.Class.{Class}
use Rattle.gumbo_parse.specs.declared.class.Class.TheVariants.{Base, Model}
use Rattle.gumbo_parse.specs.declared.class.Variable.{Variable}
use Rattle.gumbo_parse.specs.declared.contract.Clause.{Clause}
use Rattle.gumbo_parse.specs.declared.contract.ClauseKind.{ClauseKind}
use Rattle.gumbo_parse.specs.declared.contract.ClauseKind.TheVariants.{Assume, Guarantee}
use Rattle.gumbo_parse.specs.declared.contract.Compute.{Compute}
use Rattle.gumbo_parse.specs.declared.contract.Contract.{Contract}
use Rattle.gumbo_parse.specs.declared.contract.Handler.{Handler}
use Rattle.gumbo_parse.specs.declared.flaw.Spot.{Spot}
use Rattle.gumbo_parse.specs.declared.flaw.Spot.TheVariants.{Outside, Heading, Expression}
use Rattle.gumbo_parse.specs.declared.mark.Mark.TheVariants as mark
use Rattle.gumbo_parse.specs.declared.token.Token.{Token}
use Rattle.gumbo_parse.specs.declared.token.Token.TheVariants as token
use Rattle.gumbo_parse.specs.declared.word.Word.{Word}
use Rattle.gumbo_parse.specs.declared.word.Word.TheVariants as word
use Rattle.gumbo_parse.specs.Annex.{clause_word}
use Rattle.gumbo_parse.specs.ContractTokens.{step_tokens, implementation_tokens, class_tokens, variable_tokens, description_tokens, clause_tokens, section_tokens, handler_tokens, compute_tokens, contract_tokens}
use Rattle.gumbo_parse.specs.ExpressionTokens.{expression_tokens}
use Rattle.gumbo_parse.specs.Flaws.{spot_behind, length_in}
use Rattle.gumbo_parse.specs.Printed.{handler_clauses, compute_clauses, clauses_of, IsShort}
use Rattle.hw_text.specs.BaseTypes.{base_name}
use Rattle.hw_reading.proofs.Written.{all-left, all-right}
use Rattle.gumbo_parse.proofs.InnerTokens.{Inner, one-more, expression_inner}

-- these tokens lead from here to there in a clause, and none of them is too far behind a colon
abbrev pub Along : Spot → List Token → Spot → Type 0
Along s [] e = s ≡ e
Along s (t ∷ ts) e = (length_in (spot_behind s t) ≤ 500) × Along (spot_behind s t) ts e

pub record Leads (s : Spot) (ts : List Token) (e : Spot) : Type 0 where
  pub along : Along s ts e

along-both : (s m e : Spot) (ts us : List Token) → Along s ts m → Along m us e → Along s (ts ++ us) e
along-both s m e [] us a b = subst (λ (x : Spot). Along x us e) (sym a) b
along-both s m e (t ∷ ts) us a b = (a.0, along-both (spot_behind s t) m e ts us a.1 b)

-- one behind the other
both : {s m e : Spot} {ts us : List Token} → Leads s ts m → Leads m us e → Leads s (ts ++ us) e
both {s} {m} {e} {ts} {us} a b = record { along = along-both s m e ts us a.along b.along }

none : (s : Spot) → Leads s [] s
none s = record { along = refl }

pass : (s : Spot) (t : Token) (e : Spot) → spot_behind s t ≡ e → length_in e ≤ 500 → Leads s (t ∷ []) e
pass s t e is small = record { along = (subst (λ (x : Spot). length_in x ≤ 500) (sym is) small, is) }

low : 0 ≤ 500
low = omega arith

-- outside of clauses
outside : (t : Token) → spot_behind Outside t ≡ Outside → Leads Outside (t ∷ []) Outside
outside t is = pass Outside t Outside is low

members : {X : Type 0} (tokens : X → List Token) → ((x : X) → Leads Outside (tokens x) Outside) → (xs : List X) → Leads Outside (flat_map tokens xs) Outside
members tokens each [] = none Outside
members tokens each (x ∷ xs) = both (each x) (members tokens each xs)

steps : (ns : List (List ℕ)) → Leads Outside (flat_map step_tokens ns) Outside
steps = members step_tokens (λ n. both (outside (token.Mark mark.DoubleColon) refl) (outside (token.Name n) refl))

implementation : (o : Option (List ℕ)) → Leads Outside (implementation_tokens o) Outside
implementation None = none Outside
implementation (Some n) = both (outside (token.Mark mark.Dot) refl) (outside (token.Name n) refl)

class : (c : Class) → Leads Outside (class_tokens c) Outside
class (Base at base) = both (outside (token.Name (codes "base_types")) refl) (both (outside (token.Mark mark.DoubleColon) refl) (outside (token.Name (base_name base)) refl))
class (Model m) = both (both (outside (token.Name m.first.name) refl) (steps m.others)) (implementation m.implementation)

variable : (v : Variable) → Leads Outside (variable_tokens v) Outside
variable v =
    both (both (outside (token.Name v.name.name) refl) (both (outside (token.Mark mark.Colon) refl) (class v.class))) (outside (token.Mark mark.Semicolon) refl)

kind : (k : ClauseKind) → Leads Outside (token.Word (clause_word k) ∷ []) Heading
kind Assume = pass Outside (token.Word word.Assume) Heading refl low
kind Guarantee = pass Outside (token.Word word.Guarantee) Heading refl low

description : (o : Option (List ℕ)) → Leads Heading (description_tokens o) Heading
description None = none Heading
description (Some d) = pass Heading (token.Text d) Heading refl low

-- so many more tokens of an expression
inside : (n : ℕ) (ts : List Token) → Inner ts → n + length ts ≤ 500 → Along (Expression n) ts (Expression (n + length ts))
inside n [] inner small = ap (λ (k : ℕ). Expression k) (omega arith)
inside n (t ∷ ts) inner small =
    let one : spot_behind (Expression n) t ≡ Expression (n + 1) = one-more t n inner.0 in
    let rest : Along (Expression (n + 1)) ts (Expression (n + 1 + length ts)) = inside (n + 1) ts inner.1 (omega arith) in
    subst (λ (x : Spot). (length_in x ≤ 500) × Along x ts (Expression (n + length (t ∷ ts)))) (sym one)
    (omega arith, subst (λ (k : ℕ). Along (Expression (n + 1)) ts (Expression k)) (omega arith) rest)

clause : (c : Clause) → IsShort c → Leads Outside (clause_tokens c) Outside
clause c short =
    let us : List Token = expression_tokens c.expression level.Implication in
    let expressed : Leads (Expression 0) us (Expression (0 + length us)) = record { along = inside 0 us (expression_inner c.expression level.Implication) (omega arith) } in
    both (both (both (both (kind c.kind) (both (pass Heading (token.Name c.name.name) Heading refl low) (description c.description)))
    (pass Heading (token.Mark mark.Colon) (Expression 0) refl low)) expressed)
    (pass (Expression (0 + length us)) (token.Mark mark.Semicolon) Outside refl low)

clauses : (cs : List Clause) → All IsShort cs → Leads Outside (flat_map clause_tokens cs) Outside
clauses [] short = none Outside
clauses (c ∷ cs) short = both (clause c (All-head IsShort c cs short)) (clauses cs (All-tail IsShort c cs short))

handler : (h : Handler) → All IsShort (handler_clauses h) → Leads Outside (handler_tokens h) Outside
handler h short =
    both (both (outside (token.Word word.Handle) refl) (both (outside (token.Name h.port.name) refl) (both (outside (token.Mark mark.Colon) refl) (clause h.first (All-head IsShort h.first h.others short)))))
    (clauses h.others (All-tail IsShort h.first h.others short))

handlers : (hs : List Handler) → All IsShort (flat_map handler_clauses hs) → Leads Outside (flat_map handler_tokens hs) Outside
handlers [] short = none Outside
handlers (h ∷ hs) short =
    both (handler h (all-left IsShort (handler_clauses h) (flat_map handler_clauses hs) short)) (handlers hs (all-right IsShort (handler_clauses h) (flat_map handler_clauses hs) short))

compute : (o : Option Compute) → All IsShort (compute_clauses o) → Leads Outside (compute_tokens o) Outside
compute None short = none Outside
compute (Some c) short =
    both (both (outside (token.Word word.Compute) refl) (clauses c.clauses (all-left IsShort c.clauses (flat_map handler_clauses c.handlers) short)))
    (handlers c.handlers (all-right IsShort c.clauses (flat_map handler_clauses c.handlers) short))

variables : (vs : List Variable) → Leads Outside (section_tokens word.State variable_tokens vs) Outside
variables [] = none Outside
variables (v ∷ vs) = both (outside (token.Word word.State) refl) (members variable_tokens variable (v ∷ vs))

section : (w : Word) (cs : List Clause) → spot_behind Outside (token.Word w) ≡ Outside → All IsShort cs → Leads Outside (section_tokens w clause_tokens cs) Outside
section w [] is short = none Outside
section w (c ∷ cs) is short = both (outside (token.Word w) is) (clauses (c ∷ cs) short)

-- the canonical tokens of a contract whose expressions are short
pub contract_leads : (c : Contract) → All IsShort (clauses_of c) → Leads Outside (contract_tokens c) Outside
contract_leads c short =
    let front : All IsShort (c.integration ++ c.initialize) = all-left IsShort (c.integration ++ c.initialize) (compute_clauses c.compute) short in
    both (both (both (variables c.state) (section word.Integration c.integration refl (all-left IsShort c.integration c.initialize front)))
    (section word.Initialize c.initialize refl (all-right IsShort c.integration c.initialize front)))
    (compute c.compute (all-right IsShort (c.integration ++ c.initialize) (compute_clauses c.compute) short))
