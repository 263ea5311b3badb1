-- How what lvalues begin with begins itself, and which of it stands ahead.
use Rattle.std.proofs.Common.{◌≡◌, ◌∙◌, refl, sym, ap, subst, [], ◌∷◌, ◌++◌, true, false, Option, Some, None, append-nil, inl, inr}
use Rattle.std.specs.Prelude.{◌&&◌, is_some}
use Rattle.std.proofs.lemmas.Bool.{false≢true}
use Rattle.hw_text.specs.Language.{◌⋅◌, Maybe, Made, ◌∣◌}
use Rattle.hw_text.specs.Reading.{begins, Begins, BeginsWithout, Leaves}
use Rattle.hw_text.proofs.Reading.{begun}
use Rattle.hw_text.specs.declared.place.Place.{Place}
use Rattle.c_tree.specs.Dialects.{is_full}
use Rattle.c_tree.specs.declared.dialect.Dialect.{Dialect}
use Rattle.c_tree.specs.declared.named.Named.{Named}
use Rattle.c_tree.specs.declared.expression.Base.{Base}
use Rattle.c_tree.specs.declared.expression.Base.TheVariants as base
use Rattle.c_parse.specs.declared.mark.Mark.TheVariants as mark
use Rattle.c_parse.specs.Values.{Tokens, is_mark, is_name}
use Rattle.c_parse.specs.ExpressionGrammar.{Sign, Name, InFull, SpellsBase}
use Rattle.c_parse.specs.PartGrammar.{from_name, SpellsNamedBase, SpellsPointed, SpellsPointedBase}
use Rattle.c_parse.proofs.Shapes.{built, first, either, apart, among}
use Rattle.c_parse.proofs.TokenShapes.{Starts, sign_shape, name_shape, a_name, this_sign, sign, name, full}
use Rattle.c_parse.proofs.Steps.{Sample, both, sample_of, at_first, at_second, in_full, by_test, by_full, is_there, and_left, and_right}
use Rattle.c_parse.proofs.Leaves.{the_sign, the_name}

abbrev pub NoArrow : Tokens → Type 0
NoArrow = BeginsWithout (is_mark mark.Arrow)

pub a_pointed : Sample SpellsPointed
a_pointed = sample_of (λ p. p.1.0) (both (the_sign mark.Star) (both the_name (the_sign mark.CloseParenthesis)))

pointer_starts : Starts (sign_shape mark.OpenParenthesis ∷ []) SpellsPointedBase
pointer_starts = built _ (first _ (sign mark.OpenParenthesis refl))

pub named_starts : (dialect : Dialect) → Starts (name_shape ∷ []) (SpellsNamedBase dialect)
named_starts dialect = either (built _ (name refl)) (full dialect (built _ (first _ (name refl))))

-- a name, and what stands behind it
abbrev Arrow : Dialect → Place × Named → Tokens → Type 0
Arrow dialect = InFull dialect (Sign mark.Arrow ⋅ Name)

abbrev pub named_of : Named × Option (Place × Named) → Base
named_of (x, None) = base.Variable x
named_of (x, Some p) = base.Member x p.1

pub arrow_starts : Starts (sign_shape mark.Arrow ∷ []) (Sign mark.Arrow ⋅ Name)
arrow_starts = first _ (sign mark.Arrow refl)

pub arrow_begins : Begins (is_mark mark.Arrow) true (Sign mark.Arrow ⋅ Name)
arrow_begins = among (this_sign mark.Arrow) arrow_starts refl

module _ (dialect : Dialect) (before : Tokens) where
  opened : (b : Base) (w : Tokens) → SpellsNamedBase dialect b w → Made named_of (Name ⋅ Maybe (Arrow dialect)) b w
  opened b w (inl (x, is, text)) = ((x, None), is, (w, [], sym (append-nil w), text, refl))
  opened b w (inr (whole, (p, is, (us, vs, split, text, rest)))) = ((p.0, Some p.1), is, (us, vs, split, text, (whole, rest)))

  shut : (p : Named × Option (Place × Named)) (w : Tokens) → (Name ⋅ Maybe (Arrow dialect)) p w → SpellsNamedBase dialect (named_of p) w
  shut (x, None) w (us, vs, split, text, none) = inl (x, refl, subst (Name x) (sym (split ∙ ap (λ (l : Tokens). us ++ l) none ∙ append-nil us)) text)
  shut (x, Some p) w (us, vs, split, text, rest) = inr (rest.0, ((x, p), refl, (us, vs, split, text, rest.1)))

  pub named_left : Leaves (SpellsNamedBase dialect) NoArrow before before named_of (Name ⋅ Maybe (Arrow dialect))
  named_left = begun (SpellsNamedBase dialect) NoArrow before named_of (Name ⋅ Maybe (Arrow dialect)) opened shut

  either_base : (b : Base) (w : Tokens) → SpellsBase dialect b w → (InFull dialect SpellsPointedBase ∣ SpellsNamedBase dialect) b w
  either_base b w (inl text) = inr (inl text)
  either_base b w (inr (inl (whole, (p, is, (us, vs, split, opening, rest))))) = inl (whole, ((p.0, p.1.1.0), is, (us, vs, split, opening, (p.1, refl, rest))))
  either_base b w (inr (inr text)) = inr (inr text)

  of_either : (b : Base) (w : Tokens) → (InFull dialect SpellsPointedBase ∣ SpellsNamedBase dialect) b w → SpellsBase dialect b w
  of_either b w (inl (whole, (p, is, (us, vs, split, opening, (q, at, rest))))) =
      inr (inl (whole, ((p.0, q), is ∙ ap (base.Pointed p.0) at, (us, vs, split, opening, rest))))
  of_either b w (inr (inl text)) = inl text
  of_either b w (inr (inr text)) = inr (inr text)

  base_left : Leaves (SpellsBase dialect) NoArrow before before (λ b. b) (InFull dialect SpellsPointedBase ∣ SpellsNamedBase dialect)
  base_left = begun (SpellsBase dialect) NoArrow before (λ b. b) (InFull dialect SpellsPointedBase ∣ SpellsNamedBase dialect) (λ b w text. (b, refl, either_base b w text)) of_either

  pub passed_there : begins is_name before ≡ true → Leaves (SpellsBase dialect) NoArrow before before (λ b. b) (SpellsNamedBase dialect)
  passed_there there = at_second base_left (by_test (apart a_name (full dialect pointer_starts) refl) there)

  pub pointer_there : (is_full dialect && begins (is_mark mark.OpenParenthesis) before) ≡ true → Leaves (SpellsBase dialect) NoArrow before before (λ b. b) SpellsPointedBase
  pointer_there there =
      in_full dialect
      (at_first base_left (by_test (apart (this_sign mark.OpenParenthesis) (named_starts dialect) refl) (and_right (is_full dialect) (begins (is_mark mark.OpenParenthesis) before) there)))
      (and_left (is_full dialect) (begins (is_mark mark.OpenParenthesis) before) there)

  pub named_there : (is_full dialect && begins (is_mark mark.OpenParenthesis) before) ≡ false → Leaves (SpellsBase dialect) NoArrow before before (λ b. b) (SpellsNamedBase dialect)
  named_there none = at_second base_left (by_full dialect (among (this_sign mark.OpenParenthesis) pointer_starts refl) none)

-- an arrow stands behind the name
pub arrow_there : (dialect : Dialect) {before at : Tokens} {build : Option (Place × Named) → Base} → Leaves (SpellsNamedBase dialect) NoArrow before at build (Maybe (Arrow dialect)) → (is_full dialect && begins (is_mark mark.Arrow) at) ≡ true → Leaves (SpellsNamedBase dialect) NoArrow before at (λ p. build (Some p)) (Sign mark.Arrow ⋅ Name)
arrow_there dialect {at = at} so there =
    in_full dialect (is_there so {test = is_mark mark.Arrow} (λ m follows. follows) (and_right (is_full dialect) (begins (is_mark mark.Arrow) at) there)) (and_left (is_full dialect) (begins (is_mark mark.Arrow) at) there)

-- a name that was passed stands ahead
pub name_passed : (passed : Option Named) (ts : Tokens) → is_some passed ≡ true → begins is_name (from_name passed ts) ≡ true
name_passed None ts is = absurd (false≢true is)
name_passed (Some x) ts is = refl

pub none_passed : (passed : Option Named) (ts : Tokens) → is_some passed ≡ false → from_name passed ts ≡ ts
none_passed None ts is = refl
none_passed (Some x) ts is = absurd (false≢true (sym is))
