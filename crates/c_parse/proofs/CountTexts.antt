-- What has been read of a range, step by step.
use Rattle.std.proofs.Common.{◌≡◌, ◌∙◌, refl, sym, ap, subst, Bool, [], ◌∷◌, ◌++◌, append_assoc, Some, inl}
use Rattle.std.proofs.lemmas.Slice.Eq.{bytes_eq-Decides}
use Rattle.hw_text.specs.declared.place.Place.{Place}
use Rattle.hw_text.specs.declared.placed.Placed.{Placed}
use Rattle.hw_text.specs.Language.{One}
use Rattle.hw_text.specs.Reading.{begins, Anything, Reached, Stuck, Leaves}
use Rattle.c_tree.specs.declared.identifier.Identifier.{Identifier}
use Rattle.c_tree.specs.declared.integer_type.IntegerType.TheVariants.{I8}
use Rattle.c_parse.specs.declared.counting.CountStart.{CountStart}
use Rattle.c_parse.specs.declared.token.Token.{Token}
use Rattle.c_parse.specs.declared.token.Token.TheVariants as token
use Rattle.c_parse.specs.declared.keyword.Keyword.TheVariants as keyword
use Rattle.c_parse.specs.declared.mark.Mark.TheVariants as mark
use Rattle.c_parse.specs.Tokens.{start}
use Rattle.c_parse.specs.Values.{Tokens, again_of, integer_of, found}
use Rattle.c_parse.specs.CallGrammar.{SpellsSigned, plain_literal}
use Rattle.c_parse.specs.CountGrammar.{SpellsCountStart, SpellsCountEnd, SpellsCount, count_start_of, count_end_of}
use Rattle.c_parse.proofs.Steps.{Sample, both, sample_of}
use Rattle.c_parse.proofs.Leaves.{put, the_sign, the_name, the_literal}
use Rattle.c_parse.proofs.Shapes.{built, first}
use Rattle.c_parse.proofs.TokenShapes.{Starts, starts_so, integers, integer_type}

pub a_signed : Sample SpellsSigned
a_signed = (plain_literal the_literal.0, the_literal.1, inl (the_literal.0, refl, the_literal.2))

pub an_again : (n : Identifier) → (t : Placed Token) × (p : Place) × (again_of n t ≡ Some p)
an_again n = (put (token.Name n) start, start, ap (λ (b : Bool). found b start) ((bytes_eq-Decides n.bytes n.bytes).1 refl))

pub this_again : (n : Identifier) → Sample (One (again_of n))
this_again n = let s = an_again n in (s.1, s.0 ∷ [], (s.0, refl, s.2))

an_integer : Sample (One integer_of)
an_integer = ((start, I8), put (token.Keyword (keyword.Integer I8)) start ∷ [], (put (token.Keyword (keyword.Integer I8)) start, refl, refl))

pub a_count_start : Sample SpellsCountStart
a_count_start = sample_of count_start_of (both an_integer (both the_name (both (the_sign mark.Assign) (both a_signed (the_sign mark.Semicolon)))))

pub a_count_end : (n : Identifier) → Sample (SpellsCountEnd n)
a_count_end n = sample_of count_end_of (both (this_again n) (both (the_sign mark.Less) (both a_signed (both (the_sign mark.Semicolon) (both (this_again n) (both (the_sign mark.Increment) (the_sign mark.CloseParenthesis)))))))

pub a_count : Sample SpellsCount
a_count =
    let s = a_count_start in
    let e = a_count_end s.0.name.name in
    ((s.0, e.0), s.1 ++ e.1, (s.1, e.1, refl, s.2, e.2))

module _ (before at : Tokens) where
  pub start_stuck : Stuck SpellsCountStart Anything before at → Stuck SpellsCount Anything before at
  start_stuck part = record {
    taken = part.taken;
    split = part.split;
    goes_on =
        let s = part.goes_on in
        let e = a_count_end s.0.name.name in (
          (s.0, e.0),
          s.1 ++ e.1,
          (part.taken ++ s.1, e.1, sym (append_assoc part.taken s.1 e.1), s.2, e.2),
        );
    none = λ y w m n text follows same looked.
        part.none y.0 text.0 (text.1 ++ m) n text.3 tt (sym (append_assoc text.0 text.1 m) ∙ ap (λ (l : Tokens). l ++ m) (sym text.2) ∙ same) looked;
  }

  -- the names of the second part are that of the first
  pub start_read : (s : CountStart) → Reached SpellsCountStart Anything before at s → Leaves SpellsCount Anything before at (λ e. (s, e)) (SpellsCountEnd s.name.name)
  start_read s part = record {
    taken = part.taken;
    split = part.split;
    back = λ e v text. (part.taken, v, refl, part.spelled, text);
    forth = λ y w m n text follows same looked.
        let l = part.only y.0 text.0 (text.1 ++ m) n text.3 tt (sym (append_assoc text.0 text.1 m) ∙ ap (λ (l : Tokens). l ++ m) (sym text.2) ∙ same) looked in
        (y.1, text.1, ap (λ (a : CountStart). (a, y.1)) l.0, subst (λ (a : CountStart). SpellsCountEnd a.name.name y.1 text.1) l.0 text.4, l.1);
  }

start_starts : Starts integers SpellsCountStart
start_starts = built _ (first _ (integer_type refl))

pub count_starts : Starts integers SpellsCount
count_starts = record {
  begins = λ p w m text. ap (λ (l : Tokens). begins (starts_so integers) (l ++ m)) text.2 ∙ ap (begins (starts_so integers)) (append_assoc text.0 text.1 m)
      ∙ start_starts.begins p.0 text.0 (text.1 ++ m) text.3;
}
