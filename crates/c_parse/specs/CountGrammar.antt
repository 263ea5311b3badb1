-- The grammar of the heads of loops (docs/formats/c.md).
use Rattle.std.specs.Prelude.{◌≡◌, ◌++◌, ⊤}
use Rattle.hw_text.specs.declared.place.Place.{Place}
use Rattle.hw_text.specs.Language.{One, ◌⋅◌, Made}
use Rattle.c_tree.specs.declared.identifier.Identifier.{Identifier}
use Rattle.c_tree.specs.declared.integer_type.IntegerType.{IntegerType}
use Rattle.c_tree.specs.declared.named.Named.{Named}
use Rattle.c_tree.specs.declared.named.SignedLiteral.{SignedLiteral}
use Rattle.c_parse.specs.declared.counting.CountStart.{CountStart}
use Rattle.c_parse.specs.declared.counting.CountEnd.{CountEnd}
use Rattle.c_parse.specs.declared.mark.Mark.TheVariants as mark
use Rattle.c_parse.specs.Values.{Tokens, integer_of, again_of}
use Rattle.c_parse.specs.ExpressionGrammar.{Sign, Name}
use Rattle.c_parse.specs.CallGrammar.{SpellsSigned}

abbrev pub count_start_of : (Place × IntegerType) × (Named × (Place × (SignedLiteral × Place))) → CountStart
count_start_of p = record { class = p.0.1; name = p.1.0; from = p.1.1.1.0 }

-- ity NAME "=" lit ";"
abbrev pub SpellsCountStart : CountStart → Tokens → Type 0
SpellsCountStart = Made count_start_of (One integer_of ⋅ Name ⋅ Sign mark.Assign ⋅ SpellsSigned ⋅ Sign mark.Semicolon)

abbrev pub count_end_of : Place × (Place × (SignedLiteral × (Place × (Place × (Place × Place))))) → CountEnd
count_end_of p = record { place = p.1.0; below = p.1.1.0 }

-- NAME "<" lit ";" NAME "++" ")", each NAME being this one
abbrev pub SpellsCountEnd : Identifier → CountEnd → Tokens → Type 0
SpellsCountEnd n =
    Made count_end_of
    (One (again_of n) ⋅ Sign mark.Less ⋅ SpellsSigned ⋅ Sign mark.Semicolon ⋅ One (again_of n) ⋅ Sign mark.Increment ⋅ Sign mark.CloseParenthesis)

-- ity NAME "=" lit ";" NAME "<" lit ";" NAME "++" ")", where the names are one
abbrev pub SpellsCount : CountStart × CountEnd → Tokens → Type 0
SpellsCount p ts = (us vs : Tokens) × (ts ≡ us ++ vs) × SpellsCountStart p.0 us × SpellsCountEnd p.0.name.name p.1 vs

-- ";" ";" ")"
abbrev pub SpellsForeverHead : ⊤ → Tokens → Type 0
SpellsForeverHead = Made (λ p. tt) (Sign mark.Semicolon ⋅ Sign mark.Semicolon ⋅ Sign mark.CloseParenthesis)
