-- Which item stands ahead, and what has been read of it, step by step.
use Rattle.std.proofs.Common.{◌≡◌, ◌∙◌, refl, sym, ap, subst, ℕ, List, ◌<◌, ◌≤◌, length, arith, Bool, true, false, ◌&&◌, ◌++◌, [], ◌∷◌, append_assoc, Option, Some, None, inr}
use Rattle.std.specs.Prelude.{is_some, Result}
use Rattle.hw_text.specs.declared.read_fault.ReadFault.{ReadFault}
use Rattle.hw_text.specs.Language.{◌∣◌, Made}
use Rattle.hw_text.specs.Reading.{begins, Anything, TheEnd, Reached, Stuck, Reads, Leaves}
use Rattle.c_tree.specs.declared.dialect.Dialect.{Dialect}
use Rattle.c_tree.specs.Dialects.{is_full}
use Rattle.c_tree.specs.declared.type_name.TypeName.{TypeName}
use Rattle.c_tree.specs.declared.named.Named.{Named}
use Rattle.c_tree.specs.declared.item.Item.{Item}
use Rattle.c_tree.specs.declared.item.Item.TheVariants as item
use Rattle.c_parse.specs.declared.headings.Heading.{Heading}
use Rattle.c_parse.specs.declared.keyword.Keyword.{Keyword}
use Rattle.c_parse.specs.declared.keyword.Keyword.TheVariants as keyword
use Rattle.c_parse.specs.declared.mark.Mark.TheVariants as mark
use Rattle.c_parse.specs.Values.{Tokens, is_word, is_mark}
use Rattle.c_parse.specs.ExpressionGrammar.{InFull}
use Rattle.c_parse.specs.TypedefGrammar.{SpellsTypedef}
use Rattle.c_parse.specs.UnitGrammar.{SpellsHeading, VariableBehind, FunctionBehind, function_of, ItemBehind, SpellsDeclared, SpellsItem, SpellsExternal, SpellsPointer}
use Rattle.c_parse.proofs.ItemTexts.{behind_length, some_parameters, an_ending}
use Rattle.c_parse.proofs.Lists.{Listed, any_token, some_member}
use Rattle.c_parse.proofs.Steps.{Sample, both, sample_of, all_left, at_first, at_second, unmake, in_full, by_test, by_full, either_way, and_left, and_right, handed}
use Rattle.c_parse.proofs.Leaves.{the_sign}
use Rattle.c_parse.proofs.Shapes.{built, first, either, wider, maybe_first, apart, among}
use Rattle.c_parse.proofs.TokenShapes.{Starts, starts_so, sign_shape, word_shape, this_sign, this_word, sign, word, full}
use Rattle.c_parse.proofs.TypeTexts.{type_shapes}
use Rattle.c_parse.proofs.HeadingTexts.{heading_starts}

abbrev headed : Bool → Option TypeName → Named → Heading
headed s c n = record { is_static = s; class = c; name = n }

variable_starts : (s : Bool) (c : TypeName) (n : Named) → Starts (sign_shape mark.OpenBracket ∷ sign_shape mark.Assign ∷ sign_shape mark.Semicolon ∷ []) (VariableBehind s c n)
variable_starts s c n = built _ (maybe_first (built _ (first _ (sign mark.OpenBracket refl))) (wider behind_length refl))

function_starts : (dialect : Dialect) (h : Heading) → Starts (sign_shape mark.OpenParenthesis ∷ []) (FunctionBehind dialect h)
function_starts dialect h = built _ (first _ (sign mark.OpenParenthesis refl))

module _ (dialect : Dialect) (s : Bool) (c : Option TypeName) (n : Named) where
  pub void_behind : c ≡ None → (before after : Tokens) (result : Result Item ReadFault) → Reads (FunctionBehind dialect (headed s None n)) Anything before after result → Reads (ItemBehind dialect (headed s c n) c) Anything before after result
  void_behind is before after result part = subst (λ (o : Option TypeName). Reads (ItemBehind dialect (headed s o n) o) Anything before after result) (sym is) part

  module _ (t : TypeName) (is : c ≡ Some t) (before after : Tokens) (result : Result Item ReadFault) where
    pub called_behind : begins (is_mark mark.OpenParenthesis) before ≡ true → Reads (FunctionBehind dialect (headed s (Some t) n)) Anything before after result → Reads (ItemBehind dialect (headed s c n) c) Anything before after result
    called_behind there part = subst (λ (o : Option TypeName). Reads (ItemBehind dialect (headed s o n) o) Anything before after result) (sym is)
        (handed
        (at_second (all_left (ItemBehind dialect (headed s (Some t) n) (Some t)) Anything before)
        (by_test (apart (this_sign mark.OpenParenthesis) (variable_starts s t n) refl) there))
        (λ m follows. tt) after result part)

    pub plain_behind : begins (is_mark mark.OpenParenthesis) before ≡ false → Reads (VariableBehind s t n) Anything before after result → Reads (ItemBehind dialect (headed s c n) c) Anything before after result
    plain_behind none part = subst (λ (o : Option TypeName). Reads (ItemBehind dialect (headed s o n) o) Anything before after result) (sym is)
        (handed
        (at_first (all_left (ItemBehind dialect (headed s (Some t) n) (Some t)) Anything before)
        (by_test (among (this_sign mark.OpenParenthesis) (function_starts dialect (headed s (Some t) n)) refl) none))
        (λ m follows. tt) after result part)

module _ (dialect : Dialect) where
  a_function : (h : Heading) → Sample (FunctionBehind dialect h)
  a_function h = sample_of (λ p. function_of h p.1.0 p.1.1.1)
      (both (the_sign mark.OpenParenthesis) (both (some_parameters dialect) (both (the_sign mark.CloseParenthesis) (an_ending dialect (is_some h.class)))))

  behind-sample : (h : Heading) (c : Option TypeName) → Sample (ItemBehind dialect h c)
  behind-sample h None = a_function h
  behind-sample h (Some t) = let f = a_function h in (f.0, f.1, inr f.2)

  module _ (before at : Tokens) where
    pub declared_stuck : Stuck SpellsHeading Anything before at → Stuck (SpellsDeclared dialect) Anything before at
    declared_stuck part = record {
      taken = part.taken;
      split = part.split;
      goes_on =
          let h = part.goes_on in
          let b = behind-sample h.0 h.0.class in
          (b.0, h.1 ++ b.1, (h.0, part.taken ++ h.1, b.1, sym (append_assoc part.taken h.1 b.1), h.2, b.2));
      none = λ y w m n text follows same looked.
          part.none text.0 text.1 (text.2 ++ m) n text.4 tt (sym (append_assoc text.1 text.2 m) ∙ ap (λ (l : Tokens). l ++ m) (sym text.3) ∙ same) looked;
    }

    -- what stands behind depends on the type
    pub declared_read : (h : Heading) → Reached SpellsHeading Anything before at h → Leaves (SpellsDeclared dialect) Anything before at (λ z. z) (ItemBehind dialect h h.class)
    declared_read h part = record {
      taken = part.taken;
      split = part.split;
      back = λ z v text. (h, part.taken, v, refl, part.spelled, text);
      forth = λ y w m n text follows same looked.
          let l = part.only text.0 text.1 (text.2 ++ m) n text.4 tt (sym (append_assoc text.1 text.2 m) ∙ ap (λ (l : Tokens). l ++ m) (sym text.3) ∙ same) looked in
          (y, text.2, refl, subst (λ (k : Heading). ItemBehind dialect k k.class y text.2) l.0 text.5, l.1);
    }

  abbrev declared_shapes : List (List ℕ)
  declared_shapes = word_shape keyword.Static ∷ word_shape keyword.Void ∷ type_shapes

  declared_starts : Starts declared_shapes (SpellsDeclared dialect)
  declared_starts = record {
    begins = λ i w m text. ap (λ (l : Tokens). begins (starts_so declared_shapes) (l ++ m)) text.3 ∙ ap (begins (starts_so declared_shapes)) (append_assoc text.1 text.2 m)
        ∙ heading_starts.begins text.0 text.1 (text.2 ++ m) text.4;
  }

  typedef_starts : Starts (word_shape keyword.Typedef ∷ []) SpellsTypedef
  typedef_starts = built _ (first _ (word keyword.Typedef refl))

  extern_starts : Starts (word_shape keyword.Extern ∷ []) (Made item.External SpellsExternal)
  extern_starts = built _ (built _ (first _ (word keyword.Extern refl)))

  pointer_starts : Starts (word_shape keyword.Volatile ∷ []) (Made item.Pointer SpellsPointer)
  pointer_starts = built _ (built _ (first _ (word keyword.Volatile refl)))

  item_starts : Starts (word_shape keyword.Typedef ∷ word_shape keyword.Extern ∷ word_shape keyword.Volatile ∷ declared_shapes) (SpellsItem dialect)
  item_starts = either (full dialect (wider typedef_starts refl)) (either (full dialect (wider extern_starts refl)) (either (full dialect (wider pointer_starts refl)) (wider declared_starts refl)))

  module _ (before : Tokens) where
    abbrev There : Keyword → Bool → Type 0
    There w so = (is_full dialect && begins (is_word w) before) ≡ so

    there_word : (w : Keyword) → There w true → begins (is_word w) before ≡ true
    there_word w there = and_right (is_full dialect) (begins (is_word w) before) there

    whole : Leaves (SpellsItem dialect) Anything before before (λ z. z) (SpellsItem dialect)
    whole = all_left (SpellsItem dialect) Anything before

    pub typedef_there : There keyword.Typedef true → Leaves (SpellsItem dialect) Anything before before (λ z. z) SpellsTypedef
    typedef_there there =
        let word = there_word keyword.Typedef there in
        in_full dialect
        (at_first whole
        (either_way (by_test (apart (this_word keyword.Typedef) (full dialect extern_starts) refl) word)
        (either_way (by_test (apart (this_word keyword.Typedef) (full dialect pointer_starts) refl) word) (by_test (apart (this_word keyword.Typedef) declared_starts refl) word))))
        (and_left (is_full dialect) (begins (is_word keyword.Typedef) before) there)

    no_typedef : There keyword.Typedef false → Leaves (SpellsItem dialect) Anything before before (λ z. z) (InFull dialect (Made item.External SpellsExternal) ∣ InFull dialect (Made item.Pointer SpellsPointer) ∣ SpellsDeclared dialect)
    no_typedef none = at_second whole (by_full dialect (among (this_word keyword.Typedef) typedef_starts refl) none)

    pub extern_there : There keyword.Typedef false → There keyword.Extern true → Leaves (SpellsItem dialect) Anything before before item.External SpellsExternal
    extern_there none there =
        let word = there_word keyword.Extern there in
        unmake
        (in_full dialect
        (at_first (no_typedef none) (either_way (by_test (apart (this_word keyword.Extern) (full dialect pointer_starts) refl) word) (by_test (apart (this_word keyword.Extern) declared_starts refl) word)))
        (and_left (is_full dialect) (begins (is_word keyword.Extern) before) there))

    no_extern : There keyword.Typedef false → There keyword.Extern false → Leaves (SpellsItem dialect) Anything before before (λ z. z) (InFull dialect (Made item.Pointer SpellsPointer) ∣ SpellsDeclared dialect)
    no_extern none other = at_second (no_typedef none) (by_full dialect (among (this_word keyword.Extern) extern_starts refl) other)

    pub pointer_there : There keyword.Typedef false → There keyword.Extern false → There keyword.Volatile true → Leaves (SpellsItem dialect) Anything before before item.Pointer SpellsPointer
    pointer_there none other there =
        unmake
        (in_full dialect (at_first (no_extern none other) (by_test (apart (this_word keyword.Volatile) declared_starts refl) (there_word keyword.Volatile there)))
        (and_left (is_full dialect) (begins (is_word keyword.Volatile) before) there))

    pub declared_there : There keyword.Typedef false → There keyword.Extern false → There keyword.Volatile false → Leaves (SpellsItem dialect) Anything before before (λ z. z) (SpellsDeclared dialect)
    declared_there none other neither = at_second (no_extern none other) (by_full dialect (among (this_word keyword.Volatile) pointer_starts refl) neither)

  pub items_listed : Listed (SpellsItem dialect) any_token true Anything TheEnd
  items_listed = record {
    some = some_member item_starts;
    starts = some_member item_starts;
    ends = λ m follows. ap (begins any_token) follows;
    follow = λ m follows. tt;
    next = λ x w m text. tt;
  }

pub some_left : (at : Tokens) {n : ℕ} → n ≡ length at → 0 < n → begins any_token at ≡ true
some_left [] is some = absurd (omega (arith, is, some))
some_left (t ∷ at) is some = refl

pub none_left : (at : Tokens) {n : ℕ} → n ≡ length at → n ≤ 0 → begins any_token at ≡ false
none_left [] is none = refl
none_left (t ∷ at) is none = absurd (omega (arith, is, none))
