-- The tokens of marks, words, names and literals spell them.
use Rattle.std.proofs.Common.{◌≡◌, Bool, true, false, [], ◌∷◌, Some, refl, ap}
use Rattle.std.proofs.lemmas.Slice.Eq.{bytes_eq-Decides}
use Rattle.hw_text.specs.declared.place.Place.{Place}
use Rattle.hw_text.specs.Language.{One}
use Rattle.c_tree.specs.Unplaced.{origin, unplaced_named, unplaced_literal}
use Rattle.c_tree.specs.declared.integer_type.IntegerType.{IntegerType}
use Rattle.c_tree.specs.declared.integer_type.IntegerType.TheVariants as integer_type
use Rattle.c_tree.specs.declared.identifier.Identifier.{Identifier}
use Rattle.c_tree.specs.Spellings as numeral
use Rattle.c_tree.specs.declared.named.Named.{Named}
use Rattle.c_tree.specs.declared.named.Literal.{Literal}
use Rattle.c_parse.specs.CallGrammar.{Word}
use Rattle.c_parse.specs.ExpressionGrammar.{Sign, Name}
use Rattle.c_parse.specs.PrintedExpressions.{integer_token, truth_token}
use Rattle.c_parse.specs.Values.{found, mark_of, keyword_of, name_of, again_of, literal_of, zero_of, integer_of, truth_of}
use Rattle.c_parse.specs.declared.keyword.Keyword.{Keyword}
use Rattle.c_parse.specs.declared.keyword.Keyword.TheVariants as keyword
use Rattle.c_parse.specs.declared.mark.Mark.{Mark}
use Rattle.c_parse.specs.declared.mark.Mark.TheVariants as mark
use Rattle.c_parse.specs.declared.token.Token.TheVariants as token
use Rattle.c_parse.proofs.Respelled.{Respells, one, at_place}

sign-there : (m : Mark) (at : Place) → mark_of m (at_place (token.Mark m) at) ≡ Some at
sign-there mark.ShiftLeft at = refl
sign-there _ at = refl

word-there : (w : Keyword) (at : Place) → keyword_of w (at_place (token.Keyword w) at) ≡ Some at
word-there keyword.Static at = refl
word-there (keyword.Integer integer_type.I8) at = refl
word-there (keyword.Integer _) at = refl
word-there _ at = refl

pub sign : (m : Mark) → Respells (Sign m) (λ at. origin) origin (token.Mark m ∷ [])
sign m = one (mark_of m) (token.Mark m) (λ at. at) (sign-there m) (λ at. refl)

pub word : (w : Keyword) → Respells (Word w) (λ at. origin) origin (token.Keyword w ∷ [])
word w = one (keyword_of w) (token.Keyword w) (λ at. at) (word-there w) (λ at. refl)

pub named : (x : Named) → Respells Name unplaced_named (unplaced_named x) (token.Name x.name ∷ [])
named x = one name_of (token.Name x.name) (λ at. record { name = x.name; place = at }) (λ at. refl) (λ at. refl)

pub literal : (l : Literal) → Respells (One literal_of) unplaced_literal (unplaced_literal l) (token.Literal l.numeral ∷ [])
literal l = one literal_of (token.Literal l.numeral) (λ at. record { numeral = l.numeral; place = at }) (λ at. refl) (λ at. refl)

pub zero : Respells (One zero_of) (λ at. origin) origin (token.Literal numeral.zero ∷ [])
zero = one zero_of (token.Literal numeral.zero) (λ at. at) (λ at. refl) (λ at. refl)

pub again : (n : Identifier) → Respells (One (again_of n)) (λ at. origin) origin (token.Name n ∷ [])
again n = one (again_of n) (token.Name n) (λ at. at) (λ at. ap (λ (b : Bool). found b at) ((bytes_eq-Decides n.bytes n.bytes).1 refl)) (λ at. refl)

-- a type, but for its place
abbrev pub kind_bare : Place × IntegerType → Place × IntegerType
kind_bare p = (origin, p.1)

pub integer : (c : IntegerType) → Respells (One integer_of) kind_bare (origin, c) (integer_token c ∷ [])
integer c = one integer_of (integer_token c) (λ at. (at, c)) (λ at. refl) (λ at. refl)

-- a truth value, but for its place
abbrev pub truth_bare : Place × Bool → Place × Bool
truth_bare p = (origin, p.1)

pub truth : (b : Bool) → Respells (One truth_of) truth_bare (origin, b) (truth_token b ∷ [])
truth true = one truth_of (truth_token true) (λ at. (at, true)) (λ at. refl) (λ at. refl)
truth false = one truth_of (truth_token false) (λ at. (at, false)) (λ at. refl) (λ at. refl)
