-- The canonical text of a unit has its canonical tokens.
use Rattle.std.proofs.Common.{ℕ, Bool, true, false, if◌then◌else◌, List, [], ◌∷◌, ◌++◌, codes, Option, Some, None, refl, subst, append-nil}
use Rattle.std.specs.List.{flat_map}
use Rattle.c_tree.specs.declared.named.Named.{Named}
use Rattle.c_tree.specs.declared.type_name.TypeName.{TypeName}
use Rattle.c_tree.specs.declared.item.Pointer.{Pointer}
use Rattle.c_tree.specs.declared.item.Parameter.{Parameter}
use Rattle.c_tree.specs.declared.item.Prototype.{Prototype}
use Rattle.c_tree.specs.declared.item.Returned.{Returned}
use Rattle.c_tree.specs.declared.item.Function.{Function}
use Rattle.c_tree.specs.declared.item.Item.{Item}
use Rattle.c_tree.specs.declared.item.Item.TheVariants as item
use Rattle.c_tree.specs.declared.unit.Unit.{Unit as CUnit}
use Rattle.c_tree.specs.Items.{static_text, pointer_text, parameter_text, parameters_text, result_text, signature_text, prototype_text, class_of, return_text, opening_text, body_text, function_text, item_text, unit_text}
use Rattle.c_parse.specs.Lexed.{IsLexedAs}
use Rattle.c_parse.specs.PrintedStatements.{statement_tokens}
use Rattle.c_parse.specs.PrintedUnits.{static_tokens, pointer_tokens, star_tokens, parameter_tokens, parameters_tokens, result_tokens, signature_tokens, prototype_tokens, return_tokens, function_tokens, item_tokens, unit_tokens}
use Rattle.c_parse.specs.declared.keyword.Keyword.TheVariants as keyword
use Rattle.c_parse.specs.declared.mark.Mark.TheVariants as mark
use Rattle.c_parse.specs.declared.token.Token.{Token}
use Rattle.c_parse.specs.declared.token.Token.TheVariants as token
use Rattle.c_parse.proofs.PrintedPieces.{name, word, word_space, closed}
use Rattle.c_parse.proofs.WordFronts.{Ended}
use Rattle.c_parse.proofs.Written.{Has, Writes, Anything, IsGap, both, next, blank-before, nothing, nothing-left, members, has-tokens, space}
use Rattle.c_parse.proofs.WrittenCalls.{with-commas, right_side, type_name}
use Rattle.c_parse.proofs.WrittenStatements.{four_spaces, lines}
use Rattle.c_parse.proofs.WrittenHeads.{semicolon}
use Rattle.c_parse.proofs.WrittenDeclarations.{ended_line, enumeration, structure, static, variable, external}

space_star : Writes Anything (codes " *") (token.Mark mark.Star ∷ [])
space_star = blank-before (codes " ") space (closed mark.Star refl)

pointer : (p : Pointer) → Writes Anything (pointer_text p) (pointer_tokens p)
pointer p =
    ended_line (both (next (both (next (word_space keyword.Volatile) (name p.class.name)) space_star (λ rest any. refl)) (name p.name.name))
    semicolon (λ rest any. refl)) (λ rest. tt)

star : (b : Bool) → Writes Anything (if b then codes " *" else codes " ") (star_tokens b)
star true = space_star
star false = blank-before (codes " ") space nothing

star-ended : (b : Bool) (rest : List ℕ) → Ended ((if b then codes " *" else codes " ") ++ rest)
star-ended true rest = refl
star-ended false rest = refl

parameter : (p : Parameter) → Writes Ended (parameter_text p) (parameter_tokens p)
parameter p = next (both (type_name p.class) (star p.is_pointer) (λ rest any. star-ended p.is_pointer rest)) (name p.name.name)

parameters : (ps : List Parameter) → Writes Ended (parameters_text ps) (parameters_tokens ps)
parameters [] = word keyword.Void
parameters (p ∷ ps) = with-commas parameter_text parameter_tokens parameter (p ∷ ps)

result_type : (o : Option TypeName) → Writes Ended (result_text o) (result_tokens o)
result_type None = word keyword.Void
result_type (Some class) = type_name class

signature : (x : Named) (ps : List Parameter) → Writes Anything (signature_text x ps) (signature_tokens x ps)
signature x ps =
    both (next (both (blank-before (codes " ") space (name x.name)) (closed mark.OpenParenthesis refl) (λ rest any. refl)) (parameters ps))
    (closed mark.CloseParenthesis refl) (λ rest any. refl)

heading : (is_static : Bool) (o : Option TypeName) (x : Named) (ps : List Parameter) → Writes Anything (static_text is_static ++ result_text o ++ signature_text x ps) (static_tokens is_static ++ result_tokens o ++ signature_tokens x ps)
heading is_static o x ps = both (next (static is_static) (result_type o)) (signature x ps) (λ rest any. refl)

prototype : (p : Prototype) → Writes Anything (prototype_text p) (prototype_tokens p)
prototype p = ended_line (next (heading p.is_static p.class p.name p.parameters) semicolon) (λ rest. tt)

returned : (margin : List ℕ) → IsGap margin → (o : Option Returned) → Writes Anything (return_text margin o) (return_tokens o)
returned margin gap None = nothing
returned margin gap (Some r) =
    ended_line (blank-before margin gap (both (next (word_space keyword.Return) (right_side r.value)) semicolon (λ rest any. refl))) (λ rest. tt)

opening : (f : Function) → Writes Anything (opening_text f) (static_tokens f.is_static ++ result_tokens (class_of f.returned) ++ signature_tokens f.name f.parameters ++ token.Mark mark.OpenBrace ∷ [])
unfolding opening_text
opening f =
    ended_line (next (heading f.is_static (class_of f.returned) f.name f.parameters) (blank-before (codes " ") space (closed mark.OpenBrace refl))) (λ rest. tt)

body : (f : Function) → Writes Anything (body_text (codes "    ") f) (flat_map statement_tokens f.body ++ return_tokens f.returned)
unfolding body_text
body f = next (lines f.body (codes "    ") four_spaces) (returned (codes "    ") four_spaces f.returned)

function : (f : Function) → Writes Anything (function_text f) (function_tokens f)
function f = next (next (opening f) (body f)) (ended_line (closed mark.CloseBrace refl) (λ rest. tt))

item_written : (i : Item) → Writes Anything (item_text i) (item_tokens i)
item_written (item.Enumeration e) = enumeration e
item_written (item.Structure s) = structure s
item_written (item.Variable v) = variable v
item_written (item.External x) = external x
item_written (item.Pointer p) = pointer p
item_written (item.Prototype p) = prototype p
item_written (item.Function f) = function f

-- the canonical text of a unit of which the tokens are as the types allow has these tokens and no others
pub unit-lexed : (u : CUnit) → IsLexedAs (unit_text u) (unit_tokens u)
unit-lexed u =
    let whole = (members item_text item_tokens item_written u.items).before [] [] tt nothing-left in
    has-tokens (unit_text u) (unit_tokens u)
    (subst (λ (bs : List ℕ). Has bs (unit_tokens u)) (append-nil (unit_text u)) (subst (λ (ts : List Token). Has (unit_text u ++ []) ts) (append-nil (unit_tokens u)) whole))
