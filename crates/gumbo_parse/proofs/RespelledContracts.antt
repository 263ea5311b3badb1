-- The canonical tokens of contracts spell them.
use Rattle.std.proofs.Common.{◌≡◌, inl, inr, ℕ, List, [], ◌∷◌, map, codes, Option, Some, None, refl, ap}
use Rattle.std.specs.List.{flat_map}
use Rattle.std.specs.Option.{option_map}
use Rattle.hw_text.specs.Language.{One, ◌⋅◌, Maybe, Each}
use Rattle.hw_text.specs.declared.base_type.BaseType.{BaseType}
use Rattle.hw_reading.specs.Lists.{all_of, SomeOf}
use Rattle.hw_text.specs.BaseTypes.{base_name}
use Rattle.hw_text.proofs.BaseNames.{named_own}
use Rattle.gumbo_parse.specs.declared.shape.Shape.TheVariants as shape
use Rattle.gumbo_parse.specs.declared.level.Level.TheVariants as level
use Rattle.gumbo_parse.specs.declared.class.Class.{Class}
use Rattle.gumbo_parse.specs.declared.class.Class.TheVariants.{Base, Model}
use Rattle.gumbo_parse.specs.declared.class.Variable.{Variable}
use Rattle.gumbo_parse.specs.declared.class_name.ClassName.{ClassName}
use Rattle.gumbo_parse.specs.declared.contract.Clause.{Clause}
use Rattle.gumbo_parse.specs.declared.contract.ClauseKind.{ClauseKind}
use Rattle.gumbo_parse.specs.declared.contract.ClauseKind.TheVariants.{Assume, Guarantee}
use Rattle.gumbo_parse.specs.declared.contract.Compute.{Compute}
use Rattle.gumbo_parse.specs.declared.contract.Contract.{Contract}
use Rattle.gumbo_parse.specs.declared.contract.Handler.{Handler}
use Rattle.gumbo_parse.specs.declared.mark.Mark.TheVariants as mark
use Rattle.gumbo_parse.specs.declared.token.Token.{Token}
use Rattle.gumbo_parse.specs.declared.token.Token.TheVariants as token
use Rattle.gumbo_parse.specs.declared.word.Word.{Word}
use Rattle.gumbo_parse.specs.declared.word.Word.TheVariants as word
use Rattle.gumbo_parse.specs.Annex.{clause_word, kinds, clause_of, SpellsClause, or_none, SpellsSection, initial, handler_of, SpellsHandler, compute_of, SpellsCompute, contract_of, SpellsContract}
use Rattle.gumbo_parse.specs.Classes.{base_class, name_behind, SpellsStep, SpellsImplementation, model_class, SpellsClass, variable_of, SpellsVariable}
use Rattle.gumbo_parse.specs.ClassNames.{other_of}
use Rattle.gumbo_parse.specs.ContractTokens.{step_tokens, implementation_tokens, class_tokens, variable_tokens, description_tokens, clause_tokens, section_tokens, handler_tokens, compute_tokens, contract_tokens}
use Rattle.gumbo_parse.specs.ExpressionTokens.{expression_tokens}
use Rattle.gumbo_parse.specs.Grammar.{Keyword}
use Rattle.gumbo_parse.specs.Unplaced.{unplaced_first, unplaced_class, unplaced_variable, unplaced_clause, unplaced_handler, unplaced_compute, unplaced_contract}
use Rattle.gumbo_parse.specs.Values.{Tokens, start, place_of, one_listed, text_of, base_of}
use Rattle.gumbo_parse.proofs.OtherNames.{other_name_there}
use Rattle.gumbo_parse.proofs.Respelled.{Spelled, one, then, made, there, not-there, there-plain, not-there-plain, each, each-plain, onto, told_as}
use Rattle.gumbo_parse.proofs.RespelledExpressions.{respelled}
use Rattle.gumbo_parse.proofs.RespelledOperands.{started}
use Rattle.gumbo_parse.proofs.RespelledPieces.{at_start, sign, keyword, named, regroup-four}

base_type : (b : BaseType) → Spelled (One base_of) (λ x. x) b (token.Name (base_name b) ∷ [])
base_type b = one base_of (λ x. x) b (token.Name (base_name b)) (λ at. b) (λ at. named_own (base_name b) b refl) (λ at. refl)

base_package : Spelled (One (place_of shape.BasePackage)) (λ at. start) start (token.Name (codes "base_types") ∷ [])
base_package = one (place_of shape.BasePackage) (λ at. start) start (token.Name (codes "base_types")) (λ at. at) (λ at. refl) (λ at. refl)

-- "::" NAME
step : (n : List ℕ) → Spelled SpellsStep (λ m. m) n (step_tokens n)
step n = made name_behind (λ m. m) (λ p. refl) (then (sign mark.DoubleColon) (named (record { name = n; place = start })))

dotted : (n : List ℕ) → Spelled SpellsImplementation (λ m. m) n (token.Mark mark.Dot ∷ token.Name n ∷ [])
dotted n = made name_behind (λ m. m) (λ p. refl) (then (sign mark.Dot) (named (record { name = n; place = start })))

implementation : (o : Option (List ℕ)) → Spelled (Maybe SpellsImplementation) (λ m. m) o (implementation_tokens o)
implementation None = not-there-plain SpellsImplementation
implementation (Some n) = there-plain SpellsImplementation (dotted n)

first_name : (n : ClassName) → Spelled (One other_of) unplaced_first (unplaced_first n) (token.Name n.name ∷ [])
first_name n = one other_of unplaced_first (unplaced_first n) (token.Name n.name) (λ at. record { name = n.name; place = at; other = n.other }) (λ at. other_name_there n at) (λ at. refl)

class : (c : Class) → Spelled SpellsClass unplaced_class (unplaced_class c) (class_tokens c)
class (Base at base) =
    onto SpellsClass (λ y ts spelled. inl spelled) (made base_class unplaced_class (λ p. refl) (then base_package (then (sign mark.DoubleColon) (base_type base))))
class (Model m) =
    onto SpellsClass (λ y ts spelled. inr spelled)
    (made model_class unplaced_class (λ p. refl) (then (first_name m.first) (then (each-plain SpellsStep step_tokens step m.others) (implementation m.implementation))))

variable : (v : Variable) → Spelled SpellsVariable unplaced_variable (unplaced_variable v) (variable_tokens v)
variable v = made variable_of unplaced_variable (λ p. refl) (then (named v.name) (then (sign mark.Colon) (then (class v.class) (sign mark.Semicolon))))

kind : (k : ClauseKind) → Spelled (One (one_listed kinds)) at_start (start, k) (token.Word (clause_word k) ∷ [])
kind Assume = one (one_listed kinds) at_start (start, Assume) (token.Word word.Assume) (λ at. (at, Assume)) (λ at. refl) (λ at. refl)
kind Guarantee = one (one_listed kinds) at_start (start, Guarantee) (token.Word word.Guarantee) (λ at. (at, Guarantee)) (λ at. refl) (λ at. refl)

description : (o : Option (List ℕ)) → Spelled (Maybe (One text_of)) (λ d. d) o (description_tokens o)
description None = not-there-plain (One text_of)
description (Some d) = there-plain (One text_of) (one text_of (λ x. x) d (token.Text d) (λ at. d) (λ at. refl) (λ at. refl))

clause : (c : Clause) → Spelled SpellsClause unplaced_clause (unplaced_clause c) (clause_tokens c)
clause c =
    told_as
    (ap (λ (l : List Token). token.Word (clause_word c.kind) ∷ token.Name c.name.name ∷ l)
    (regroup-four (description_tokens c.description) (token.Mark mark.Colon ∷ []) (expression_tokens c.expression level.Implication) (token.Mark mark.Semicolon ∷ []))) refl
    (made clause_of unplaced_clause (λ p. refl)
    (then (kind c.kind) (then (named c.name) (then (description c.description) (then (sign mark.Colon) (then (started (respelled c.expression level.Implication)) (sign mark.Semicolon)))))))

-- [ word x { x } ]
module _ {V X : Type 0} (W : V → Tokens → Type 0) (g : V → V) (v : V) (w : Word) (A : X → Tokens → Type 0) (f : X → X) (tokens : X → List Token) (head : Spelled W g v (token.Word w ∷ [])) (member : (x : X) → Spelled A f (f x) (tokens x)) where
  none-bare : (o : Option (V × List X)) → map f (or_none o) ≡ or_none (option_map (λ p. (g p.0, map f p.1)) o)
  none-bare None = refl
  none-bare (Some p) = refl

  some : (x : X) (xs : List X) → Spelled (SomeOf A) (map f) (map f (x ∷ xs)) (flat_map tokens (x ∷ xs))
  some x xs = made all_of (map f) (λ p. refl) (then (member x) (each A f tokens member xs))

  section : (xs : List X) → Spelled (SpellsSection W A) (map f) (map f xs) (section_tokens w tokens xs)
  section [] = made or_none (map f) none-bare (not-there (W ⋅ SomeOf A) (λ p. (g p.0, map f p.1)))
  section (x ∷ xs) = made or_none (map f) none-bare (there (then head (some x xs)))

clauses : (cs : List Clause) → Spelled (Each SpellsClause) (map unplaced_clause) (map unplaced_clause cs) (flat_map clause_tokens cs)
clauses = each SpellsClause unplaced_clause clause_tokens clause

handler : (h : Handler) → Spelled SpellsHandler unplaced_handler (unplaced_handler h) (handler_tokens h)
handler h =
    made handler_of unplaced_handler (λ p. refl) (then (keyword word.Handle) (then (named h.port) (then (sign mark.Colon) (then (clause h.first) (clauses h.others)))))

compute : (o : Option Compute) → Spelled (Maybe SpellsCompute) (option_map unplaced_compute) (option_map unplaced_compute o) (compute_tokens o)
compute None = not-there SpellsCompute unplaced_compute
compute (Some c) =
    there (made compute_of unplaced_compute (λ p. refl) (then (keyword word.Compute) (then (clauses c.clauses) (each SpellsHandler unplaced_handler handler_tokens handler c.handlers))))

initializes : Spelled (One (one_listed initial)) at_start (start, tt) (token.Word word.Initialize ∷ [])
initializes = one (one_listed initial) at_start (start, tt) (token.Word word.Initialize) (λ at. (at, tt)) (λ at. refl) (λ at. refl)

-- the canonical tokens of a contract spell it, but for places
pub contract_spelled : (c : Contract) → Spelled SpellsContract unplaced_contract (unplaced_contract c) (contract_tokens c)
contract_spelled c =
    told_as
    (regroup-four (section_tokens word.State variable_tokens c.state) (section_tokens word.Integration clause_tokens c.integration) (section_tokens word.Initialize clause_tokens c.initialize) (compute_tokens c.compute)) refl
    (made contract_of unplaced_contract (λ p. refl)
    (then (section (Keyword word.State) (λ at. start) start word.State SpellsVariable unplaced_variable variable_tokens (keyword word.State) variable c.state)
    (then (section (Keyword word.Integration) (λ at. start) start word.Integration SpellsClause unplaced_clause clause_tokens (keyword word.Integration) clause c.integration)
    (then (section (One (one_listed initial)) at_start (start, tt) word.Initialize SpellsClause unplaced_clause clause_tokens initializes clause c.initialize) (compute c.compute)))))
