-- What has been read of a value, step by step.
use Rattle.std.proofs.Common.{◌≡◌, ◌∙◌, Result, Ok, Err, refl, sym, ap, subst, ℕ, List, [], ◌∷◌, ◌++◌, codes, true, false, Some, None, inl, inr}
use Rattle.std.specs.Prelude.{⊤}
use Rattle.std.proofs.lemmas.Bool.{false≢true}
use Rattle.hw_text.specs.declared.placed.Placed.{Placed}
use Rattle.hw_text.specs.Language.{◌⋅◌, Made, ◌∣◌, Each, Maybe}
use Rattle.hw_text.specs.Reading.{first, begins, Begins, Reached, Stuck, Reads, Leaves}
use Rattle.hw_text.proofs.Reading.{begun, left, right, unmade, rebuilt, step, stuck, last, last-stuck, never-begins, first-begins}
use Rattle.aadl_tree.specs.declared.mark.Mark.TheVariants as mark
use Rattle.aadl_tree.specs.declared.token.Token.{Token}
use Rattle.aadl_tree.specs.declared.token.Token.TheVariants as token
use Rattle.aadl_tree.specs.declared.value.PropertyValue.{PropertyValue}
use Rattle.aadl_tree.specs.declared.value.RecordField.{RecordField}
use Rattle.aadl_parse.specs.Shapes.{one_of, Without, symbol_of, is_disjoint}
use Rattle.aadl_parse.specs.Laws.{begins-without, two-begins, made-begins, one-sample, symbol-sample, without-none}
use Rattle.aadl_parse.specs.SimpleValue.{Symbol, SpellsSimple, simple_starts, value_starts, value_goes_on, members_goes_on, simple-begun, SpellsFieldName, field_name-begun}
use Rattle.aadl_parse.specs.ValueText.{SpellsValue, SpellsNext, SpellsFirst, SpellsEach, SpellsField, second_of, first_of, members_of, field_of}
use Rattle.aadl_parse.specs.Stops.{start}
use Rattle.aadl_parse.specs.Terminals.{name_shapes}
use Rattle.hw_text.specs.declared.read_fault.ReadFault.{ReadFault}
use Rattle.hw_text.specs.declared.read_fault.ReadFault.TheVariants.{Syntax, NoMemory}
use Rattle.aadl_parse.proofs.Sequences as two
use Rattle.aadl_parse.proofs.Repeats.{absent, present-read, present-stuck, each-follows}
use Rattle.aadl_parse.proofs.ThreeParts as three
use Rattle.aadl_parse.specs.ValueForms.{list_of, set_of, ListForm, SetForm, ValueForm, opened, shut}
use Rattle.aadl_parse.specs.ValueBegins.{symbol-begins, opening, bracket, list-begins, set-begins, value-begun, a_value}

-- a value is made of another that was read
module _ {T X Y : Type 0} (make : X → Y) (A : X → List T → Type 0) (F : List T → Type 0) (before after : List T) where
  made : Leaves (Made make A) F before before make A
  made = begun (Made make A) F before make A (λ z w text. text) (λ y w text. (y, refl, text))

  pub made-read : (x : X) → Reached A F before after x → Reached (Made make A) F before after (make x)
  made-read x part = last (Made make A) F before A F before after make made (λ m follows. follows) x part

  pub made-stuck : Stuck A F before after → Stuck (Made make A) F before after
  made-stuck part = last-stuck (Made make A) F before A F before after make made (λ m follows. follows) part

-- what is left is a value of which another is made
module _ {T X Y Z : Type 0} (A : Z → List T → Type 0) (F : List T → Type 0) (before after : List T) (build : Y → Z) (make : X → Y) (B : X → List T → Type 0) where
  pub remade : Leaves A F before after (λ x. build (make x)) B → Leaves A F before after build (Made make B)
  remade so = record {
    taken = so.taken;
    split = so.split;
    back = λ y v text. subst (λ (z : Z). A z (so.taken ++ v)) (ap build (sym text.1)) (so.back text.0 v text.2);
    forth = λ z w m n text follows same looked.
        let l = so.forth z w m n text follows same looked in
        (make l.0, l.1, l.2, (l.0, refl, l.3), l.4);
  }

abbrev pub F : List (Placed Token) → Type 0
F = Without value_goes_on

module _ (before : List (Placed Token)) where
  value : Leaves SpellsValue F before before (λ v. v) ValueForm
  value = begun SpellsValue F before (λ v. v) ValueForm (λ v w text. (v, refl, opened v w text)) shut

  -- texts that begin otherwise than what stands ahead
  otherwise : {X : Type 0} (A : X → List (Placed Token) → Type 0) (xs ys : List (List ℕ)) → Begins (one_of xs) true A → begins (one_of ys) before ≡ true → Begins (one_of ys) false A → (x : X) (w m : List (Placed Token)) → A x w → F m → first (w ++ m) ≡ first before → ⊥
  otherwise A xs ys is there isnt x w m text follows same = false≢true (sym (isnt x w m text) ∙ first-begins (one_of ys) (w ++ m) before same ∙ there)

  module _ (no_list : begins (one_of opening) before ≡ false) where
    no_list_form : (v : PropertyValue) (w m : List (Placed Token)) → ListForm v w → F m → first (w ++ m) ≡ first before → ⊥
    no_list_form v w m text follows same = never-begins (one_of opening) ListForm before list-begins no_list v w m text same

    module _ (no_set : begins (one_of bracket) before ≡ false) where
      neither : (v : PropertyValue) (w m : List (Placed Token)) → (ListForm ∣ SetForm) v w → F m → first (w ++ m) ≡ first before → ⊥
      neither v w m (inl text) follows same = no_list_form v w m text follows same
      neither v w m (inr text) follows same = never-begins (one_of bracket) SetForm before set-begins no_set v w m text same

      no_parts : Leaves SpellsValue F before before (λ v. v) SpellsSimple
      no_parts = left SpellsValue F before before (λ v. v) SpellsSimple (ListForm ∣ SetForm) neither value

      pub simple-read : (after : List (Placed Token)) (v : PropertyValue) → Reached SpellsSimple F before after v → Reached SpellsValue F before after v
      simple-read after v part = last SpellsValue F before SpellsSimple F before after (λ x. x) no_parts (λ m follows. follows) v part

      pub simple-stuck : (after : List (Placed Token)) → Stuck SpellsSimple F before after → Stuck SpellsValue F before after
      simple-stuck after part = last-stuck SpellsValue F before SpellsSimple F before after (λ x. x) no_parts (λ m follows. follows) part

  module _ (there : begins (one_of opening) before ≡ true) where
    list_ahead : Leaves SpellsValue F before before list_of (Symbol (codes "(") ⋅ SpellsEach ⋅ Symbol (codes ")"))
    list_ahead = unmade SpellsValue F before before (λ v. v) list_of _
        (left SpellsValue F before before (λ v. v) ListForm SetForm
        (otherwise SetForm bracket opening set-begins there (begins-without SetForm bracket opening refl set-begins))
        (right SpellsValue F before before (λ v. v) SpellsSimple (ListForm ∣ SetForm)
        (otherwise SpellsSimple simple_starts opening simple-begun there (begins-without SpellsSimple simple_starts opening refl simple-begun)) value))

  module _ (there : begins (one_of bracket) before ≡ true) where
    set_ahead : Leaves SpellsValue F before before set_of (Symbol (codes "[") ⋅ Each SpellsField ⋅ Symbol (codes "]"))
    set_ahead = unmade SpellsValue F before before (λ v. v) set_of _
        (right SpellsValue F before before (λ v. v) ListForm SetForm
        (otherwise ListForm opening bracket list-begins there (begins-without ListForm opening bracket refl list-begins))
        (right SpellsValue F before before (λ v. v) SpellsSimple (ListForm ∣ SetForm)
        (otherwise SpellsSimple simple_starts bracket simple-begun there (begins-without SpellsSimple simple_starts bracket refl simple-begun)) value))

a_close : (u : ⊤) × (w : List (Placed Token)) × Symbol (codes ")") u w
a_close = one-sample (symbol_of (codes ")")) (symbol-sample (codes ")") (record { token = token.Mark mark.CloseParenthesis; place = start }, refl))

an_end : (u : ⊤) × (w : List (Placed Token)) × Symbol (codes "]") u w
an_end = one-sample (symbol_of (codes "]")) (symbol-sample (codes "]") (record { token = token.Mark mark.CloseBracket; place = start }, refl))

a_stop : (u : ⊤) × (w : List (Placed Token)) × Symbol (codes ";") u w
a_stop = one-sample (symbol_of (codes ";")) (symbol-sample (codes ";") (record { token = token.Mark mark.Semicolon; place = start }, refl))

no_members : (p : List PropertyValue × ⊤) × (w : List (Placed Token)) × (SpellsEach ⋅ Symbol (codes ")")) p w
no_members = (([], a_close.0), a_close.1, ([], a_close.1, refl, (None, refl, refl), a_close.2))

no_fields : (p : List RecordField × ⊤) × (w : List (Placed Token)) × (Each SpellsField ⋅ Symbol (codes "]")) p w
no_fields = (([], an_end.0), an_end.1, ([], an_end.1, refl, refl, an_end.2))

anything : {Y : Type 0} (A : Y → List (Placed Token) → Type 0) (G : List (Placed Token) → Type 0) → (y : Y) (w m : List (Placed Token)) → A y w → G m → Without [] (w ++ m)
anything A G y w m text follows = without-none (w ++ m)

-- what a symbol begins with is not what goes on
symbol-follows : (text : List ℕ) (goes_on : List (List ℕ)) (G : List (Placed Token) → Type 0) → is_disjoint (text ∷ []) goes_on ≡ true → (u : ⊤) (w m : List (Placed Token)) → Symbol text u w → G m → Without goes_on (w ++ m)
symbol-follows text goes_on G apart u w m here follows = begins-without (Symbol text) (text ∷ []) goes_on apart (symbol-begins text) u w m here

abbrev pub Members : List (Placed Token) → Type 0
Members = Without (value_starts ++ members_goes_on)

-- "(" [ value { "," value } ] ")"
module _ (before : List (Placed Token)) (there : begins (one_of opening) before ≡ true) where
  pub list-first-stuck : (at : List (Placed Token)) → Stuck (Symbol (codes "(")) (Without []) before at → Stuck SpellsValue F before at
  list-first-stuck = three.first-stuck SpellsValue F before list_of (Symbol (codes "(")) SpellsEach (Symbol (codes ")")) (Without []) Members (Without [])
      (list_ahead before there) (anything (SpellsEach ⋅ Symbol (codes ")")) F) (symbol-follows (codes ")") (value_starts ++ members_goes_on) F refl) (λ m follows. without-none m) no_members a_close

  pub list-second-stuck : (at : List (Placed Token)) (u : ⊤) → Reached (Symbol (codes "(")) (Without []) before at u → (mid : List (Placed Token)) → Stuck SpellsEach Members at mid → Stuck SpellsValue F before mid
  list-second-stuck = three.second-stuck SpellsValue F before list_of (Symbol (codes "(")) SpellsEach (Symbol (codes ")")) (Without []) Members (Without [])
      (list_ahead before there) (anything (SpellsEach ⋅ Symbol (codes ")")) F) (symbol-follows (codes ")") (value_starts ++ members_goes_on) F refl) (λ m follows. without-none m) no_members a_close

  pub list-third-stuck : (at : List (Placed Token)) (u : ⊤) → Reached (Symbol (codes "(")) (Without []) before at u → (mid : List (Placed Token)) (vs : List PropertyValue) → Reached SpellsEach Members at mid vs → (after : List (Placed Token)) → Stuck (Symbol (codes ")")) (Without []) mid after → Stuck SpellsValue F before after
  list-third-stuck = three.third-stuck SpellsValue F before list_of (Symbol (codes "(")) SpellsEach (Symbol (codes ")")) (Without []) Members (Without [])
      (list_ahead before there) (anything (SpellsEach ⋅ Symbol (codes ")")) F) (symbol-follows (codes ")") (value_starts ++ members_goes_on) F refl) (λ m follows. without-none m) no_members a_close

  pub list-read : (at : List (Placed Token)) (u : ⊤) → Reached (Symbol (codes "(")) (Without []) before at u → (mid : List (Placed Token)) (vs : List PropertyValue) → Reached SpellsEach Members at mid vs → (after : List (Placed Token)) (v : ⊤) → Reached (Symbol (codes ")")) (Without []) mid after v → Reached SpellsValue F before after (list_of (u, (vs, v)))
  list-read = three.three-read SpellsValue F before list_of (Symbol (codes "(")) SpellsEach (Symbol (codes ")")) (Without []) Members (Without [])
      (list_ahead before there) (anything (SpellsEach ⋅ Symbol (codes ")")) F) (symbol-follows (codes ")") (value_starts ++ members_goes_on) F refl) (λ m follows. without-none m) no_members a_close

abbrev pub Fields : List (Placed Token) → Type 0
Fields = Without (name_shapes)

-- "[" { field } "]"
module _ (before : List (Placed Token)) (there : begins (one_of bracket) before ≡ true) where
  pub set-first-stuck : (at : List (Placed Token)) → Stuck (Symbol (codes "[")) (Without []) before at → Stuck SpellsValue F before at
  set-first-stuck = three.first-stuck SpellsValue F before set_of (Symbol (codes "[")) (Each SpellsField) (Symbol (codes "]")) (Without []) Fields (Without [])
      (set_ahead before there) (anything (Each SpellsField ⋅ Symbol (codes "]")) F) (symbol-follows (codes "]") (name_shapes) F refl) (λ m follows. without-none m) no_fields an_end

  pub set-second-stuck : (at : List (Placed Token)) (u : ⊤) → Reached (Symbol (codes "[")) (Without []) before at u → (mid : List (Placed Token)) → Stuck (Each SpellsField) Fields at mid → Stuck SpellsValue F before mid
  set-second-stuck = three.second-stuck SpellsValue F before set_of (Symbol (codes "[")) (Each SpellsField) (Symbol (codes "]")) (Without []) Fields (Without [])
      (set_ahead before there) (anything (Each SpellsField ⋅ Symbol (codes "]")) F) (symbol-follows (codes "]") (name_shapes) F refl) (λ m follows. without-none m) no_fields an_end

  pub set-third-stuck : (at : List (Placed Token)) (u : ⊤) → Reached (Symbol (codes "[")) (Without []) before at u → (mid : List (Placed Token)) (fs : List RecordField) → Reached (Each SpellsField) Fields at mid fs → (after : List (Placed Token)) → Stuck (Symbol (codes "]")) (Without []) mid after → Stuck SpellsValue F before after
  set-third-stuck = three.third-stuck SpellsValue F before set_of (Symbol (codes "[")) (Each SpellsField) (Symbol (codes "]")) (Without []) Fields (Without [])
      (set_ahead before there) (anything (Each SpellsField ⋅ Symbol (codes "]")) F) (symbol-follows (codes "]") (name_shapes) F refl) (λ m follows. without-none m) no_fields an_end

  pub set-read : (at : List (Placed Token)) (u : ⊤) → Reached (Symbol (codes "[")) (Without []) before at u → (mid : List (Placed Token)) (fs : List RecordField) → Reached (Each SpellsField) Fields at mid fs → (after : List (Placed Token)) (v : ⊤) → Reached (Symbol (codes "]")) (Without []) mid after v → Reached SpellsValue F before after (set_of (u, (fs, v)))
  set-read = three.three-read SpellsValue F before set_of (Symbol (codes "[")) (Each SpellsField) (Symbol (codes "]")) (Without []) Fields (Without [])
      (set_ahead before there) (anything (Each SpellsField ⋅ Symbol (codes "]")) F) (symbol-follows (codes "]") (name_shapes) F refl) (λ m follows. without-none m) no_fields an_end

-- NAME "=>" value ";"
module _ (before : List (Placed Token)) where
  field_ahead : Leaves SpellsField (Without []) before before field_of (SpellsFieldName ⋅ SpellsValue ⋅ Symbol (codes ";"))
  field_ahead = begun SpellsField (Without []) before field_of _ (λ z w text. text) (λ y w text. (y, refl, text))

  a_rest : (p : PropertyValue × ⊤) × (w : List (Placed Token)) × (SpellsValue ⋅ Symbol (codes ";")) p w
  a_rest = ((a_value.0, a_stop.0), a_value.1 ++ a_stop.1, (a_value.1, a_stop.1, refl, a_value.2, a_stop.2))

  pub field-first-stuck : (at : List (Placed Token)) → Stuck SpellsFieldName (Without []) before at → Stuck SpellsField (Without []) before at
  field-first-stuck = three.first-stuck SpellsField (Without []) before field_of SpellsFieldName SpellsValue (Symbol (codes ";")) (Without []) F (Without [])
      field_ahead (anything (SpellsValue ⋅ Symbol (codes ";")) (Without [])) (symbol-follows (codes ";") value_goes_on (Without []) refl) (λ m follows. follows) a_rest a_stop

  pub field-second-stuck : (at : List (Placed Token)) (n : List ℕ) → Reached SpellsFieldName (Without []) before at n → (mid : List (Placed Token)) → Stuck SpellsValue F at mid → Stuck SpellsField (Without []) before mid
  field-second-stuck = three.second-stuck SpellsField (Without []) before field_of SpellsFieldName SpellsValue (Symbol (codes ";")) (Without []) F (Without [])
      field_ahead (anything (SpellsValue ⋅ Symbol (codes ";")) (Without [])) (symbol-follows (codes ";") value_goes_on (Without []) refl) (λ m follows. follows) a_rest a_stop

  pub field-third-stuck : (at : List (Placed Token)) (n : List ℕ) → Reached SpellsFieldName (Without []) before at n → (mid : List (Placed Token)) (v : PropertyValue) → Reached SpellsValue F at mid v → (after : List (Placed Token)) → Stuck (Symbol (codes ";")) (Without []) mid after → Stuck SpellsField (Without []) before after
  field-third-stuck = three.third-stuck SpellsField (Without []) before field_of SpellsFieldName SpellsValue (Symbol (codes ";")) (Without []) F (Without [])
      field_ahead (anything (SpellsValue ⋅ Symbol (codes ";")) (Without [])) (symbol-follows (codes ";") value_goes_on (Without []) refl) (λ m follows. follows) a_rest a_stop

  pub field-read : (at : List (Placed Token)) (n : List ℕ) → Reached SpellsFieldName (Without []) before at n → (mid : List (Placed Token)) (v : PropertyValue) → Reached SpellsValue F at mid v → (after : List (Placed Token)) (u : ⊤) → Reached (Symbol (codes ";")) (Without []) mid after u → Reached SpellsField (Without []) before after (field_of (n, (v, u)))
  field-read = three.three-read SpellsField (Without []) before field_of SpellsFieldName SpellsValue (Symbol (codes ";")) (Without []) F (Without [])
      field_ahead (anything (SpellsValue ⋅ Symbol (codes ";")) (Without [])) (symbol-follows (codes ";") value_goes_on (Without []) refl) (λ m follows. follows) a_rest a_stop

-- "," value
module _ (before at : List (Placed Token)) where
  next-follow : (v : PropertyValue) (w m : List (Placed Token)) → SpellsValue v w → F m → Without [] (w ++ m)
  next-follow = anything SpellsValue F

  pub next-first-stuck : Stuck (Symbol (codes ",")) (Without []) before at → Stuck SpellsNext F before at
  next-first-stuck part = made-stuck second_of (Symbol (codes ",") ⋅ SpellsValue) F before at (two.first-stuck (Symbol (codes ",")) SpellsValue (Without []) F F next-follow (λ m f. f) before at a_value part)

  pub next-second-stuck : (u : ⊤) → Reached (Symbol (codes ",")) (Without []) before at u → (after : List (Placed Token)) → Stuck SpellsValue F at after → Stuck SpellsNext F before after
  next-second-stuck u one after part = made-stuck second_of (Symbol (codes ",") ⋅ SpellsValue) F before after (two.second-stuck (Symbol (codes ",")) SpellsValue (Without []) F F next-follow (λ m f. f) before at after u one part)

  pub next-read : (u : ⊤) → Reached (Symbol (codes ",")) (Without []) before at u → (after : List (Placed Token)) (v : PropertyValue) → Reached SpellsValue F at after v → Reached SpellsNext F before after v
  next-read u one after v part = made-read second_of (Symbol (codes ",") ⋅ SpellsValue) F before after (u, v) (two.both-read (Symbol (codes ",")) SpellsValue (Without []) F F next-follow (λ m f. f) before at after u v one part)

pub next-begun : Begins (one_of (codes "," ∷ [])) true SpellsNext
next-begun = made-begins _ second_of (codes "," ∷ []) (two-begins _ _ (codes "," ∷ []) (symbol-begins (codes ",")))

pub field-begun : Begins (one_of (name_shapes)) true SpellsField
field-begun = made-begins _ field_of (name_shapes) (two-begins _ _ (name_shapes) field_name-begun)

abbrev pub G : List (Placed Token) → Type 0
G = Without members_goes_on

first-begun : Begins (one_of value_starts) true SpellsFirst
first-begun = made-begins _ first_of value_starts (two-begins SpellsValue (Each SpellsNext) value_starts value-begun)

-- value { "," value }
module _ (before at : List (Placed Token)) where
  first_ahead : Leaves SpellsFirst G before before first_of (SpellsValue ⋅ Each SpellsNext)
  first_ahead = begun SpellsFirst G before first_of _ (λ z w text. text) (λ y w text. (y, refl, text))

  others-follow : (vs : List PropertyValue) (w m : List (Placed Token)) → Each SpellsNext vs w → G m → F (w ++ m)
  others-follow = each-follows SpellsNext (codes "," ∷ []) value_goes_on next-begun refl

  pub first-value-stuck : Stuck SpellsValue F before at → Stuck SpellsFirst G before at
  first-value-stuck part = stuck SpellsFirst G before SpellsValue F before at first_of (Each SpellsNext) first_ahead others-follow ([], [], refl) part

  module _ (v : PropertyValue) (one : Reached SpellsValue F before at v) (values : List PropertyValue) (is : values ≡ v ∷ []) where
    others_left : Leaves SpellsFirst G before at (λ x. x) (Made (λ later. values ++ later) (Each SpellsNext))
    others_left = remade SpellsFirst G before at (λ x. x) (λ later. values ++ later) (Each SpellsNext)
        (rebuilt SpellsFirst G before at (λ later. v ∷ later) (λ later. values ++ later) (Each SpellsNext) (λ later. ap (λ (l : List PropertyValue). l ++ later) (sym is))
        (step SpellsFirst G before SpellsValue F before at first_of (Each SpellsNext) first_ahead others-follow v one))

    pub first-reads : (after : List (Placed Token)) (result : Result (List PropertyValue) ReadFault) → Reads (Made (λ later. values ++ later) (Each SpellsNext)) G at after result → Reads SpellsFirst G before after result
    first-reads after (Ok vs) part = last SpellsFirst G before (Made (λ later. values ++ later) (Each SpellsNext)) G at after (λ x. x) others_left (λ m follows. follows) vs part
    first-reads after (Err Syntax) part = last-stuck SpellsFirst G before (Made (λ later. values ++ later) (Each SpellsNext)) G at after (λ x. x) others_left (λ m follows. follows) part
    first-reads after (Err NoMemory) part = tt

-- [ value { "," value } ]
module _ (before : List (Placed Token)) where
  pub members-absent : begins (one_of value_starts) before ≡ false → Reached SpellsEach Members before before []
  members-absent none = made-read members_of (Maybe SpellsFirst) Members before before None (absent SpellsFirst value_starts members_goes_on first-begun before none)

  pub members-reads : begins (one_of value_starts) before ≡ true → (after : List (Placed Token)) (result : Result (List PropertyValue) ReadFault) → Reads SpellsFirst G before after result → Reads SpellsEach Members before after result
  members-reads there after (Ok vs) part = made-read members_of (Maybe SpellsFirst) Members before after (Some vs) (present-read SpellsFirst value_starts members_goes_on first-begun before after vs there part)
  members-reads there after (Err Syntax) part = made-stuck members_of (Maybe SpellsFirst) Members before after (present-stuck SpellsFirst value_starts members_goes_on first-begun before after there part)
  members-reads there after (Err NoMemory) part = tt

-- a value without parts
pub simple-reads : (before : List (Placed Token)) → begins (one_of opening) before ≡ false → begins (one_of bracket) before ≡ false → (after : List (Placed Token)) (result : Result PropertyValue ReadFault) → Reads SpellsSimple F before after result → Reads SpellsValue F before after result
simple-reads before no_list no_set after (Ok v) part = simple-read before no_list no_set after v part
simple-reads before no_list no_set after (Err Syntax) part = simple-stuck before no_list no_set after part
simple-reads before no_list no_set after (Err NoMemory) part = tt
