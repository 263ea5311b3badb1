-- What has been read of an expression is one, beside where it begins.
use Rattle.std.proofs.Common.{◌≡◌, ◌∙◌, sym, ap, subst, [], ◌∷◌, ◌++◌, true}
use Rattle.std.specs.Prelude.{Ok, Err, Result, IsErrAnd}
use Rattle.std.proofs.lemmas.Bool.{false≢true}
use Rattle.hw_text.specs.Language.{Noted}
use Rattle.hw_text.specs.Reading.{begins, Reached, Reads}
use Rattle.hw_text.specs.declared.place.Place.{Place}
use Rattle.hw_text.specs.declared.read_fault.ReadFault.{ReadFault}
use Rattle.hw_text.proofs.Reading.{noted, noted-stuck, failed}
use Rattle.gumbo_parse.specs.declared.expression.Expression.{Expression}
use Rattle.gumbo_parse.specs.declared.level.Level.{Level}
use Rattle.gumbo_parse.specs.declared.level.Level.TheVariants as level
use Rattle.gumbo_parse.specs.Grammar.{Spells, SpellsStarted, started, start_of}
use Rattle.gumbo_parse.specs.Levels.{Ends}
use Rattle.gumbo_parse.specs.Values.{Tokens, one_of}
use Rattle.hw_reading.proofs.Choices.{same}
use Rattle.gumbo_parse.proofs.LevelFacts.{starts}
use Rattle.gumbo_parse.proofs.LevelForms.{spells-begins}

abbrev F : Tokens → Type 0
F = Ends level.Implication

abbrev N : Place × Expression → Tokens → Type 0
N = Noted start_of (Spells level.Implication)

opened : (p : Place × Expression) (w : Tokens) → SpellsStarted p w → N p w
opened p w (started x q ts is text) = (ap (λ (r : Place × Expression). r.0) is, subst (λ (e : Expression). Spells level.Implication e w) (ap (λ (r : Place × Expression). r.1) (sym is)) text)

shut : (p : Place × Expression) (w : Tokens) → N p w → SpellsStarted p w
shut p w text = started p.1 p w (ap (λ (at : Place). (at, p.1)) text.0) text.1

taken-start : (taken after before : Tokens) → before ≡ taken ++ after → begins (one_of (starts level.Implication)) (taken ++ []) ≡ true → start_of before ≡ start_of taken
taken-start [] after before split there = absurd (false≢true there)
taken-start (t ∷ taken) after before split there = ap start_of split

module _ (before after : Tokens) where
  pub started-read : (at : Place) (x : Expression) → at ≡ start_of before → Reached (Spells level.Implication) F before after x → Reached SpellsStarted F before after (at, x)
  started-read at x is so =
      same SpellsStarted N F before after (Ok (at, x)) opened shut (λ m f. f)
      (noted start_of (Spells level.Implication) F before after at x so
      (is ∙ taken-start so.taken after before so.split (spells-begins level.Implication x so.taken [] so.spelled)))

  pub started-halt : (fault : ReadFault) (result : Result (Place × Expression) ReadFault) → IsErrAnd result (λ e. e ≡ fault) → Reads (Spells level.Implication) F before after (Err fault) → Reads SpellsStarted F before after result
  started-halt fault result is part =
      same SpellsStarted N F before after result opened shut (λ m f. f)
      (failed N F before (Spells level.Implication) F before after fault result is part (noted-stuck start_of (Spells level.Implication) F before after))

-- what stopped the reading of one level stopped that of the same level
pub moved : (k l : Level) (before after : Tokens) (fault : ReadFault) → k ≡ l → Reads (Spells k) (Ends k) before after (Err fault) → Reads (Spells l) (Ends l) before after (Err fault)
moved k l before after fault is part = subst (λ (n : Level). Reads (Spells n) (Ends n) before after (Err fault)) is part
