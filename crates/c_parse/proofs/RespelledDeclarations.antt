-- The canonical tokens of what a unit declares beside functions spell it.
use Rattle.std.proofs.Common.{◌≡◌, Bool, true, false, List, [], ◌∷◌, ◌++◌, Option, Some, None, inl, inr, refl, sym, ap, append_assoc}
use Rattle.std.specs.List.{flat_map}
use Rattle.std.specs.Option.{option_map}
use Rattle.hw_text.specs.declared.place.Place.{Place}
use Rattle.hw_text.specs.Language.{Nothing, ◌⋅◌, Maybe, Made}
use Rattle.c_tree.specs.declared.dialect.Dialect.{Dialect}
use Rattle.c_tree.specs.Unplaced.{unplaced_named}
use Rattle.c_tree.specs.UnplacedUnits.{unplaced_enumeration, unplaced_member, unplaced_structure, unplaced_initial, unplaced_external, unplaced_pointer, unplaced_item}
use Rattle.c_tree.specs.declared.named.Named.{Named}
use Rattle.c_tree.specs.declared.named.Literal.{Literal}
use Rattle.c_tree.specs.declared.type_name.TypeName.{TypeName}
use Rattle.c_tree.specs.declared.item.Enumeration.{Enumeration}
use Rattle.c_tree.specs.declared.item.Member.{Member}
use Rattle.c_tree.specs.declared.item.Structure.{Structure}
use Rattle.c_tree.specs.declared.item.InitialValue.{InitialValue}
use Rattle.c_tree.specs.declared.item.InitialValue.TheVariants as initial
use Rattle.c_tree.specs.declared.item.Variable.{Variable}
use Rattle.c_tree.specs.declared.item.External.{External}
use Rattle.c_tree.specs.declared.item.Pointer.{Pointer}
use Rattle.c_tree.specs.declared.item.Item.{Item}
use Rattle.c_tree.specs.declared.item.Item.TheVariants as item
use Rattle.c_parse.specs.CallGrammar.{Word, SpellsType}
use Rattle.c_parse.specs.ExpressionGrammar.{Sign, Name}
use Rattle.c_parse.specs.PrintedExpressions.{name_tokens, separated, truth_token}
use Rattle.c_parse.specs.PrintedStatements.{type_token, signed_tokens, length_tokens}
use Rattle.c_parse.specs.PrintedUnits.{member_tokens, static_tokens, initial_tokens, variable_tokens, external_tokens, pointer_tokens}
use Rattle.c_parse.specs.TypedefGrammar.{Opening, Closing, enumeration_of, SpellsEnumeration, member_of, SpellsMember, structure_of, SpellsStructure}
use Rattle.c_parse.specs.UnitGrammar.{initial_truth, SpellsInitial, SpellsStatic, external_of, SpellsExternal, pointer_of, SpellsPointer, heading_of, SpellsHeading, variable_of, SpellsDeclared}
use Rattle.c_parse.specs.Values.{Tokens}
use Rattle.c_parse.specs.declared.keyword.Keyword.{Keyword}
use Rattle.c_parse.specs.declared.keyword.Keyword.TheVariants as keyword
use Rattle.c_parse.specs.declared.mark.Mark.TheVariants as mark
use Rattle.c_parse.specs.declared.token.Token.{Token}
use Rattle.c_parse.specs.declared.token.Token.TheVariants as token
use Rattle.c_tree.proofs.ExpressionInduction.{OfEach}
use Rattle.c_parse.proofs.Respelled.{Respells, respelled-as, no-tokens, after, turned, built, one-way, other-way, not-there, there, each}
use Rattle.c_parse.proofs.RespelledCalls.{later-read, type_name, signed, a_length, zeros_tokens, zeros}
use Rattle.c_parse.proofs.RespelledWords.{sign, word, named, truth}

no_token : Respells Nothing (λ u. u) tt []
no_token = record { found = λ ts e. (tt, no-tokens ts e, refl) }

opening : (w : Keyword) → Respells (Opening w) (λ u. u) tt (token.Keyword w ∷ token.Mark mark.OpenBrace ∷ [])
opening w = built (λ p. tt) (after (word w) (sign mark.OpenBrace)) (λ y. refl) refl

closing : (x : Named) → Respells Closing unplaced_named (unplaced_named x) (token.Mark mark.CloseBrace ∷ token.Name x.name ∷ token.Mark mark.Semicolon ∷ [])
closing x = built (λ p. p.1.0) (after (sign mark.CloseBrace) (after (named x) (sign mark.Semicolon))) (λ y. refl) refl

each-named : (xs : List Named) → OfEach (λ x. Respells Name unplaced_named (unplaced_named x) (name_tokens x)) xs
each-named [] = tt
each-named (x ∷ xs) = (named x, each-named xs)

pub enumeration : (e : Enumeration) → Respells SpellsEnumeration unplaced_enumeration (unplaced_enumeration e) (token.Keyword keyword.Enum ∷ token.Mark mark.OpenBrace ∷ separated name_tokens (e.first ∷ e.others) ++ token.Mark mark.CloseBrace ∷ token.Name e.name.name ∷ token.Mark mark.Semicolon ∷ [])
enumeration e =
    built enumeration_of (after (opening keyword.Enum) (after (named e.first) (after (later-read Name name_tokens e.others (each-named e.others)) (closing e.name)))) (λ y. refl) refl

member : (m : Member) → Respells SpellsMember unplaced_member (unplaced_member m) (member_tokens m)
member m = built member_of (after (type_name m.class) (after (named m.name) (after (a_length m.length) (sign mark.Semicolon)))) (λ y. refl) refl

pub structure : (s : Structure) → Respells SpellsStructure unplaced_structure (unplaced_structure s) (token.Keyword keyword.Struct ∷ token.Mark mark.OpenBrace ∷ flat_map member_tokens (s.first ∷ s.others) ++ token.Mark mark.CloseBrace ∷ token.Name s.name.name ∷ token.Mark mark.Semicolon ∷ [])
structure s =
    let end : List Token = token.Mark mark.CloseBrace ∷ token.Name s.name.name ∷ token.Mark mark.Semicolon ∷ [] in
    let is = ap (λ (l : List Token). token.Keyword keyword.Struct ∷ token.Mark mark.OpenBrace ∷ l) (sym (append_assoc (member_tokens s.first) (flat_map member_tokens s.others) end)) in
    respelled-as is refl
    (built structure_of (after (opening keyword.Struct) (after (member s.first) (after (each member_tokens member s.others) (closing s.name)))) (λ y. refl) refl)

pub static : (b : Bool) → Respells SpellsStatic (λ v. v) b (static_tokens b)
static true = one-way (built (λ p. true) (word keyword.Static) (λ y. refl) refl)
static false = other-way (built (λ p. false) no_token (λ y. refl) refl)

-- the tokens behind the "=" of a variable
abbrev behind_assign : InitialValue → List Token
behind_assign initial.Zero = zeros_tokens
behind_assign (initial.Number l) = signed_tokens l
behind_assign (initial.Truth at b) = truth_token b ∷ []
behind_assign (initial.Enumerator x) = token.Name x.name ∷ []

initial-is : (v : InitialValue) → token.Mark mark.Assign ∷ behind_assign v ≡ initial_tokens (Some v)
initial-is initial.Zero = refl
initial-is (initial.Number l) = refl
initial-is (initial.Truth at b) = refl
initial-is (initial.Enumerator x) = refl

initial_value : (v : InitialValue) → Respells SpellsInitial unplaced_initial (unplaced_initial v) (behind_assign v)
initial_value initial.Zero = one-way (built (λ u. initial.Zero) zeros (λ y. refl) refl)
initial_value (initial.Truth at b) = other-way (one-way (built initial_truth (truth b) (λ y. refl) refl))
initial_value (initial.Enumerator x) = other-way (other-way (one-way (built initial.Enumerator (named x) (λ y. refl) refl)))
initial_value (initial.Number l) = other-way (other-way (other-way (built initial.Number (signed l) (λ y. refl) refl)))

initially : (o : Option InitialValue) → Respells (Maybe (Made (λ p. p.1) (Sign mark.Assign ⋅ SpellsInitial))) (option_map unplaced_initial) (option_map unplaced_initial o) (initial_tokens o)
initially None = not-there
initially (Some v) = respelled-as (initial-is v) refl (there (built (λ p. p.1) (after (sign mark.Assign) (initial_value v)) (λ y. refl) refl))

pub external : (x : External) → Respells SpellsExternal unplaced_external (unplaced_external x) (external_tokens x)
external x =
    built external_of (after (word keyword.Extern) (after (type_name x.class) (after (named x.name) (after (a_length x.length) (sign mark.Semicolon))))) (λ y. refl) refl

pub pointer : (p : Pointer) → Respells SpellsPointer unplaced_pointer (unplaced_pointer p) (pointer_tokens p)
pointer p =
    built pointer_of (after (word keyword.Volatile) (after (named p.class) (after (sign mark.Star) (after (named p.name) (sign mark.Semicolon))))) (λ y. refl) refl

-- a heading with a type, and one with `void`
pub typed-heading : (s : Bool) (t : TypeName) (x : Named) (us : Tokens) → (SpellsStatic ⋅ SpellsType ⋅ Name) (s, (t, x)) us → SpellsHeading (heading_of (s, (Some t, x))) us
typed-heading s t x us text =
    ((s, (Some t, x)), refl, (text.0, text.1, text.2, text.3, (text.4.0, text.4.1, text.4.2, inr (t, refl, text.4.3), text.4.4)))

pub void-heading : (s : Bool) (p : Place) (x : Named) (us : Tokens) → (SpellsStatic ⋅ Word keyword.Void ⋅ Name) (s, (p, x)) us → SpellsHeading (heading_of (s, (None, x))) us
void-heading s p x us text =
    ((s, (None, x)), refl, (text.0, text.1, text.2, text.3, (text.4.0, text.4.1, text.4.2, inl (p, refl, text.4.3), text.4.4)))

abbrev VariableParts : Type 0
VariableParts = (Bool × (TypeName × Named)) × (Option Literal × (Option InitialValue × Place))

abbrev a_variable_of : VariableParts → Item
a_variable_of k = variable_of k.0.0 k.0.1.0 k.0.1.1 k.1

variable-split : (s l i : List Token) (t n c : Token) → (s ++ t ∷ n ∷ []) ++ (l ++ (i ++ c ∷ [])) ≡ s ++ (t ∷ n ∷ l) ++ i ++ c ∷ []
variable-split s l i t n c = simp append_assoc

pub variable : (dialect : Dialect) (v : Variable) → Respells (SpellsDeclared dialect) unplaced_item (unplaced_item (item.Variable v)) (variable_tokens v)
variable dialect v =
    respelled-as (variable-split (static_tokens v.is_static) (length_tokens v.length) (initial_tokens v.initial) (type_token v.class) (token.Name v.name.name) (token.Mark mark.Semicolon)) refl
    (turned a_variable_of
    (λ k ts text. (heading_of (k.0.0, (Some k.0.1.0, k.0.1.1)), text.0, text.1, text.2, typed-heading k.0.0 k.0.1.0 k.0.1.1 text.0 text.3, inl (k.1, refl, text.4)))
    (λ k same. ap a_variable_of same)
    (after (after (static v.is_static) (after (type_name v.class) (named v.name))) (after (a_length v.length) (after (initially v.initial) (sign mark.Semicolon)))))
