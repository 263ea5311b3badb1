-- What is refused for the tokens of an expression is refused for those of an outermost one, where that begins.
use Rattle.std.proofs.Common.{◌≡◌, ◌∙◌, refl, sym, ap, ℕ, ◌-◌, List, [], ◌∷◌, codes, Bool, true, false, Option, Some, None, inl, inr}
use Rattle.std.specs.Prelude.{◌&&◌, slice_get}
use Rattle.std.specs.Option.{option_map}
use Rattle.std.specs.Str.{bytes_eq}
use Rattle.std.proofs.lemmas.Bool.{false≢true}
use Rattle.std.proofs.lemmas.Option.{same_Some}
use Rattle.hw_text.specs.WholeTexts.{FailsAt}
use Rattle.hw_text.specs.declared.code.Code.{Code}
use Rattle.hw_text.specs.declared.code.Code.TheVariants as code
use Rattle.hw_text.specs.declared.place.Place.{Place}
use Rattle.hw_text.specs.declared.placed.Placed.{Placed}
use Rattle.hw_text.specs.declared.refusal.Refusal.{Refusal}
use Rattle.c_tree.specs.declared.dialect.Dialect.TheVariants.{User}
use Rattle.c_parse.specs.declared.flaw.Flaw.{Flaw}
use Rattle.c_parse.specs.declared.flaw.Flaw.TheVariants.{TooDeep, TooLong, EmptyRange}
use Rattle.c_parse.specs.declared.token.Token.{Token}
use Rattle.c_parse.specs.declared.token.Token.TheVariants as token
use Rattle.c_parse.specs.Flaws.{flaw_at, flawed, place_at}
use Rattle.c_parse.specs.Outermost.{IsTooLongAt}
use Rattle.c_parse.specs.Refusals.{limit, unexpected, unexpected_there, unexpected_behind, stopped, token_before, link_of}
use Rattle.c_parse.specs.Values.{Tokens}
use Rattle.c_parse.specs.WholeUnits.{user_rules}
use Rattle.c_parse.proofs.OutermostLong.{refused}
use Rattle.c_parse.proofs.TokenKinds.{none-some}

abbrev is_limit : Code → Bool
is_limit code.UserLimit = true
is_limit _ = false

-- whether tokens are counted in what is told
abbrev is_of_tokens : Refusal → Bool
is_of_tokens r = is_limit r.code && bytes_eq r.word (codes "tokens")

not-unexpected : (t : Token) (at : Place) → is_of_tokens (unexpected t at) ≡ false
not-unexpected (token.Keyword w) at = refl
not-unexpected (token.Reserved w) at = refl
not-unexpected _ at = refl

not-stopped : (left : List ℕ) (end : Place) → is_of_tokens (stopped left end) ≡ false
not-stopped [] end = refl
not-stopped (b ∷ bs) end = refl

not-there : (end : Place) (left : List ℕ) (o : Option (Placed Token)) → is_of_tokens (unexpected_there end left o) ≡ false
not-there end left None = not-stopped left end
not-there end left (Some t) = not-unexpected t.token t.place

not-behind : (ts : Tokens) (end : Place) (left : List ℕ) (i : ℕ) (o : Option Place) → is_of_tokens (unexpected_behind User ts end left i o) ≡ false
not-behind ts end left i (Some at) = refl
not-behind ts end left i None = not-there end left (slice_get ts i)

told-flaw : (ts : Tokens) (i : ℕ) (o : Option Flaw) (r : Refusal) → option_map (flawed ts i) o ≡ Some r → is_of_tokens r ≡ true → (o ≡ Some TooLong) × (r ≡ flawed ts i TooLong)
told-flaw ts i None r is of = absurd (none-some r is)
told-flaw ts i (Some TooDeep) r is of = absurd (false≢true (ap is_of_tokens (same_Some (flawed ts i TooDeep) r is) ∙ of))
told-flaw ts i (Some TooLong) r is of = (refl, sym (same_Some (flawed ts i TooLong) r is))
told-flaw ts i (Some EmptyRange) r is of = absurd (false≢true (ap is_of_tokens (same_Some (flawed ts i EmptyRange) r is) ∙ of))

no-flaw-told : (ts : Tokens) (k : ℕ) (o : Option Flaw) → option_map (flawed ts k) o ≡ None → o ≡ None
no-flaw-told ts k None is = refl
no-flaw-told ts k (Some f) is = absurd (none-some (flawed ts k f) (sym is))

pub failure : (ts : Tokens) (end : Place) (stop : List ℕ) (i n : ℕ) (at : Place) → FailsAt user_rules ts end stop i (limit (codes "tokens") at n 500) → IsTooLongAt end ts i × (at ≡ place_at ts (i - 500))
failure ts end stop i n at fails = elim fails.fails [
  | inl stops ↦ absurd (false≢true (sym (not-behind ts end stop i (link_of (token_before ts i) (slice_get ts i))) ∙ ap is_of_tokens (sym stops.1)))
  | inr found ↦
      let known = told-flaw ts i (flaw_at User ts i) (limit (codes "tokens") at n 500) found.told refl in (
        refused ts i end found.goes_on known.0 (λ k less. no-flaw-told ts k (flaw_at User ts k) (fails.sound k less)),
        ap (λ (r : Refusal). r.place) known.1,
      )
]
