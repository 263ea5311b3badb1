-- The marks and the words, each told by its spelling: what holds of all that are listed holds of each.
use Rattle.std.proofs.Common.{◌≡◌, ◌∙◌, refl, sym, ap, ℕ, List, [], ◌∷◌, Bool, true, false, not, cond, Option, Some, None}
use Rattle.std.specs.List.{list_all}
use Rattle.std.specs.Prelude.{is_some}
use Rattle.std.specs.Str.{bytes_eq}
use Rattle.std.proofs.lemmas.Bool.{false≢true, and_parts}
use Rattle.std.proofs.lemmas.Option.{same_Some}
use Rattle.std.proofs.lemmas.Slice.Eq.{bytes_eq-Decides}
use Rattle.hw_text.specs.Text.{behind_bytes, mark_or, mark_among}
use Rattle.c_tree.specs.declared.integer_type.IntegerType.TheVariants as integer
use Rattle.c_parse.specs.declared.keyword.Keyword.{Keyword}
use Rattle.c_parse.specs.declared.keyword.Keyword.TheVariants as keyword
use Rattle.c_parse.specs.declared.mark.Mark.{Mark}
use Rattle.c_parse.specs.declared.mark.Mark.TheVariants as mark
use Rattle.c_parse.specs.Keywords.{keyword_text, all_keywords, keyword_among}
use Rattle.c_parse.specs.Marks.{mark_text, all_marks}

word_back : (w : Keyword) → keyword_among all_keywords (keyword_text w) ≡ Some w
word_back keyword.Static = refl
word_back keyword.Void = refl
word_back keyword.Return = refl
word_back keyword.True = refl
word_back keyword.False = refl
word_back keyword.If = refl
word_back keyword.Else = refl
word_back keyword.For = refl
word_back keyword.Extern = refl
word_back keyword.Volatile = refl
word_back keyword.Typedef = refl
word_back keyword.Enum = refl
word_back keyword.Struct = refl
word_back keyword.Break = refl
word_back keyword.Bool = refl
word_back (keyword.Integer integer.I8) = refl
word_back (keyword.Integer integer.I16) = refl
word_back (keyword.Integer integer.I32) = refl
word_back (keyword.Integer integer.I64) = refl
word_back (keyword.Integer integer.U8) = refl
word_back (keyword.Integer integer.U16) = refl
word_back (keyword.Integer integer.U32) = refl
word_back (keyword.Integer integer.U64) = refl

mark_back : (m : Mark) → mark_among mark_text all_marks (mark_text m) ≡ Some (m, [])
mark_back mark.ShiftLeft = refl
mark_back mark.ShiftRight = refl
mark_back mark.LessOrEqual = refl
mark_back mark.GreaterOrEqual = refl
mark_back mark.Equal = refl
mark_back mark.NotEqual = refl
mark_back mark.And = refl
mark_back mark.Or = refl
mark_back mark.Increment = refl
mark_back mark.Decrement = refl
mark_back mark.Arrow = refl
mark_back mark.OpenBrace = refl
mark_back mark.CloseBrace = refl
mark_back mark.OpenParenthesis = refl
mark_back mark.CloseParenthesis = refl
mark_back mark.OpenBracket = refl
mark_back mark.CloseBracket = refl
mark_back mark.Semicolon = refl
mark_back mark.Comma = refl
mark_back mark.Dot = refl
mark_back mark.Assign = refl
mark_back mark.Less = refl
mark_back mark.Greater = refl
mark_back mark.Plus = refl
mark_back mark.Minus = refl
mark_back mark.Star = refl
mark_back mark.Slash = refl
mark_back mark.Percent = refl
mark_back mark.Ampersand = refl
mark_back mark.Bar = refl
mark_back mark.Caret = refl
mark_back mark.Bang = refl
mark_back mark.Tilde = refl

never-some : {X : Type 0} (x : X) → None ≡ Some x → ⊥
never-some x same = false≢true (ap is_some same)

pub marks-one : (m n : Mark) → bytes_eq (mark_text m) (mark_text n) ≡ true → m ≡ n
marks-one m n same =
    let spelled : mark_text m ≡ mark_text n = (bytes_eq-Decides (mark_text m) (mark_text n)).0 same in
    ap (λ (p : Mark × List ℕ). p.0) (same_Some (m, []) (n, []) (sym (mark_back m) ∙ ap (λ (l : List ℕ). mark_among mark_text all_marks l) spelled ∙ mark_back n))

module _ (test : Mark → Bool) where
  mark-step : (m : Mark) (ms : List Mark) (bs : List ℕ) (r : Mark × List ℕ) → test m ≡ true → (mark_among mark_text ms bs ≡ Some r → test r.0 ≡ true) → (o : Option (List ℕ)) → mark_or m o (mark_among mark_text ms bs) ≡ Some r → test r.0 ≡ true
  mark-step m ms bs r holds rest None other = rest other
  mark-step m ms bs r holds rest (Some more) same = ap (λ (p : Mark × List ℕ). test p.0) (sym (same_Some (m, more) r same)) ∙ holds

  mark-listed : (ms : List Mark) (bs : List ℕ) (r : Mark × List ℕ) → list_all test ms ≡ true → mark_among mark_text ms bs ≡ Some r → test r.0 ≡ true
  mark-listed [] bs r all is = absurd (never-some r is)
  mark-listed (m ∷ ms) bs r all is =
      let parts = and_parts (test m) (list_all test ms) all in
      mark-step m ms bs r parts.0 (mark-listed ms bs r parts.1) (behind_bytes (mark_text m) bs) is

  -- what holds of all marks, each being computed, holds of this one
  pub each_mark : list_all test all_marks ≡ true → (m : Mark) → test m ≡ true
  each_mark all m = mark-listed all_marks (mark_text m) (m, []) all (mark_back m)

module _ (test : Keyword → Bool) where
  word-step : (v : Keyword) (ws : List Keyword) (bs : List ℕ) (w : Keyword) → test v ≡ true → (keyword_among ws bs ≡ Some w → test w ≡ true) → (b : Bool) → cond b (Some v) (keyword_among ws bs) ≡ Some w → test w ≡ true
  word-step v ws bs w holds rest true same = ap test (sym (same_Some v w same)) ∙ holds
  word-step v ws bs w holds rest false other = rest other

  word-listed : (ws : List Keyword) (bs : List ℕ) (w : Keyword) → list_all test ws ≡ true → keyword_among ws bs ≡ Some w → test w ≡ true
  word-listed [] bs w all is = absurd (never-some w is)
  word-listed (v ∷ ws) bs w all is =
      let parts = and_parts (test v) (list_all test ws) all in
      word-step v ws bs w parts.0 (word-listed ws bs w parts.1) (bytes_eq bs (keyword_text v)) is

  pub each_word : list_all test all_keywords ≡ true → (w : Keyword) → test w ≡ true
  each_word all w = word-listed all_keywords (keyword_text w) w all (word_back w)

-- whether two answers are one
abbrev pub alike : Bool → Bool → Bool
alike true c = c
alike false c = not c

alike-same : (b c : Bool) → alike b c ≡ true → b ≡ c
alike-same true c is = sym is
alike-same false true is = is
alike-same false false is = refl

pub by_mark : (f g : Mark → Bool) → list_all (λ m. alike (f m) (g m)) all_marks ≡ true → (m : Mark) → f m ≡ g m
by_mark f g all m = alike-same (f m) (g m) (each_mark (λ n. alike (f n) (g n)) all m)

pub by_word : (f g : Keyword → Bool) → list_all (λ w. alike (f w) (g w)) all_keywords ≡ true → (w : Keyword) → f w ≡ g w
by_word f g all w = alike-same (f w) (g w) (each_word (λ v. alike (f v) (g v)) all w)

pub same-bytes : (s : List ℕ) → bytes_eq s s ≡ true
same-bytes s = (bytes_eq-Decides s s).1 refl
