-- The canonical texts of types and variables of a unit have their canonical tokens.
use Rattle.std.proofs.Common.{◌≡◌, ℕ, Bool, true, false, List, [], ◌∷◌, ◌++◌, codes, Option, Some, None, refl, append_assoc}
use Rattle.std.specs.List.{flat_map}
use Rattle.c_tree.specs.declared.item.Enumeration.{Enumeration}
use Rattle.c_tree.specs.declared.item.Member.{Member}
use Rattle.c_tree.specs.declared.item.Structure.{Structure}
use Rattle.c_tree.specs.declared.item.InitialValue.{InitialValue}
use Rattle.c_tree.specs.declared.item.InitialValue.TheVariants as initial
use Rattle.c_tree.specs.declared.item.Variable.{Variable}
use Rattle.c_tree.specs.declared.item.External.{External}
use Rattle.c_tree.specs.Items.{name_text, enumeration_opening, enumeration_text, member_text, structure_opening, structure_text, static_text, initial_text, variable_text, external_text}
use Rattle.c_parse.specs.PrintedExpressions.{name_tokens, separated}
use Rattle.c_parse.specs.PrintedUnits.{enumeration_tokens, member_tokens, structure_tokens, static_tokens, initial_tokens, variable_tokens, external_tokens}
use Rattle.c_parse.specs.declared.keyword.Keyword.TheVariants as keyword
use Rattle.c_parse.specs.declared.mark.Mark.TheVariants as mark
use Rattle.c_parse.specs.declared.token.Token.{Token}
use Rattle.c_parse.specs.declared.token.Token.TheVariants as token
use Rattle.c_parse.proofs.PrintedPieces.{name, word_space, truth, closed, mark_space}
use Rattle.c_parse.proofs.WordFronts.{Ended}
use Rattle.c_parse.proofs.Written.{Writes, Anything, both, next, blank-behind, blank-before, nothing, known-as, members, space, newline}
use Rattle.c_parse.proofs.WrittenCalls.{with-commas, signed, declared}
use Rattle.c_parse.proofs.WrittenOperands.{open_ended}
use Rattle.c_parse.proofs.WrittenHeads.{assign, zero, semicolon}

-- a line of its own
pub ended_line : {Q : List ℕ → Type 0} {s : List ℕ} {ts : List Token} → Writes Q s ts → ((rest : List ℕ) → Q (10 ∷ rest)) → Writes Anything (s ++ 10 ∷ []) ts
ended_line text fits = blank-behind (10 ∷ []) newline text fits

brace_space : Writes Anything (codes " } ") (token.Mark mark.CloseBrace ∷ [])
brace_space = blank-behind (codes " ") space (blank-before (codes " ") space (closed mark.CloseBrace refl)) (λ rest. tt)

closed_space : Writes Anything (codes "} ") (token.Mark mark.CloseBrace ∷ [])
closed_space = blank-behind (codes " ") space (closed mark.CloseBrace refl) (λ rest. tt)

opened_space : Writes Anything (codes "{ ") (token.Mark mark.OpenBrace ∷ [])
opened_space = blank-behind (codes " ") space (closed mark.OpenBrace refl) (λ rest. tt)

three-behind : (ts : List Token) (a b c : Token) → ts ++ a ∷ b ∷ c ∷ [] ≡ ts ++ a ∷ [] ++ b ∷ [] ++ c ∷ []
three-behind ts a b c = simp append_assoc

typedef_enum : Writes Anything enumeration_opening (token.Keyword keyword.Typedef ∷ token.Keyword keyword.Enum ∷ token.Mark mark.OpenBrace ∷ [])
unfolding enumeration_opening
typedef_enum = next (next (word_space keyword.Typedef) (word_space keyword.Enum)) opened_space

pub enumeration : (e : Enumeration) → Writes Anything (enumeration_text e) (enumeration_tokens e)
enumeration e =
    let names = e.first ∷ e.others in
    let inner = both (next typedef_enum (with-commas name_text name_tokens (λ x. name x.name) names)) brace_space (λ rest any. refl) in
    let opening : List Token = token.Keyword keyword.Typedef ∷ token.Keyword keyword.Enum ∷ token.Mark mark.OpenBrace ∷ separated name_tokens names in
    known-as refl (three-behind opening (token.Mark mark.CloseBrace) (token.Name e.name.name) (token.Mark mark.Semicolon))
    (ended_line (both (next inner (name e.name.name)) semicolon (λ rest any. refl)) (λ rest. tt))

member : (m : Member) → Writes Anything (member_text m) (member_tokens m)
member m = both (declared m.class m.name m.length) (mark_space mark.Semicolon) (λ rest any. refl)

typedef_struct : Writes Anything structure_opening (token.Keyword keyword.Typedef ∷ token.Keyword keyword.Struct ∷ token.Mark mark.OpenBrace ∷ [])
unfolding structure_opening
typedef_struct = next (next (word_space keyword.Typedef) (word_space keyword.Struct)) opened_space

pub structure : (s : Structure) → Writes Anything (structure_text s) (structure_tokens s)
structure s =
    let all = s.first ∷ s.others in
    let inner = next (next typedef_struct (members member_text member_tokens member all)) closed_space in
    let opening : List Token = token.Keyword keyword.Typedef ∷ token.Keyword keyword.Struct ∷ token.Mark mark.OpenBrace ∷ flat_map member_tokens all in
    known-as refl (three-behind opening (token.Mark mark.CloseBrace) (token.Name s.name.name) (token.Mark mark.Semicolon))
    (ended_line (both (next inner (name s.name.name)) semicolon (λ rest any. refl)) (λ rest. tt))

pub static : (b : Bool) → Writes Anything (static_text b) (static_tokens b)
static true = word_space keyword.Static
static false = nothing

initial_value : (v : Option InitialValue) → Writes Ended (initial_text v) (initial_tokens v)
initial_value None = nothing
initial_value (Some initial.Zero) = open_ended zero
initial_value (Some (initial.Number l)) = next assign (signed l)
initial_value (Some (initial.Truth at b)) = next assign (truth b)
initial_value (Some (initial.Enumerator x)) = next assign (name x.name)

initial-ended : (v : Option InitialValue) (rest : List ℕ) → Ended rest → Ended (initial_text v ++ rest)
initial-ended None rest ended = ended
initial-ended (Some initial.Zero) rest ended = refl
initial-ended (Some (initial.Number l)) rest ended = refl
initial-ended (Some (initial.Truth at b)) rest ended = refl
initial-ended (Some (initial.Enumerator x)) rest ended = refl

pub variable : (v : Variable) → Writes Anything (variable_text v) (variable_tokens v)
variable v =
    ended_line (both (both (next (static v.is_static) (declared v.class v.name v.length)) (initial_value v.initial) (λ rest ended. initial-ended v.initial rest ended))
    semicolon (λ rest any. refl)) (λ rest. tt)

pub external : (x : External) → Writes Anything (external_text x) (external_tokens x)
external x = ended_line (both (next (word_space keyword.Extern) (declared x.class x.name x.length)) semicolon (λ rest any. refl)) (λ rest. tt)
