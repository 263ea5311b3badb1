-- The canonical tokens of features, subcomponents, connections, annexes, and of the sections of components spell them.
use Rattle.std.proofs.Common.{◌≡◌, ℕ, List, [], ◌∷◌, ◌++◌, map, codes, Option, Some, None, refl, ap, sym, append_assoc}
use Rattle.std.specs.Prelude.{⊤}
use Rattle.std.specs.List.{flat_map}
use Rattle.std.specs.Option.{option_map}
use Rattle.hw_text.specs.declared.place.Place.{Place}
use Rattle.hw_text.specs.declared.placed.Placed.{Placed}
use Rattle.hw_text.specs.Language.{One, ◌⋅◌, Maybe, Each, Made}
use Rattle.aadl_tree.specs.declared.annex.Annex.{Annex}
use Rattle.aadl_tree.specs.declared.connection.Connection.{Connection}
use Rattle.aadl_tree.specs.declared.connection.ConnectionEnd.{ConnectionEnd}
use Rattle.aadl_tree.specs.declared.feature.Feature.{Feature}
use Rattle.aadl_tree.specs.declared.mark.Mark.TheVariants as mark
use Rattle.aadl_tree.specs.declared.names.Named.{Named}
use Rattle.aadl_tree.specs.declared.subcomponent.Subcomponent.{Subcomponent}
use Rattle.aadl_tree.specs.declared.token.Token.{Token}
use Rattle.aadl_tree.specs.declared.token.Token.TheVariants as token
use Rattle.aadl_tree.specs.declared.word.Word.{Word}
use Rattle.aadl_tree.specs.declared.word.Word.TheVariants as word
use Rattle.aadl_tree.specs.Canonical.{category_word, maybe_behind_dot, class_tokens, section_tokens}
use Rattle.aadl_tree.specs.Packages.{own_tokens, direction_word, kind_tokens, feature_tokens, subcomponent_tokens, end_tokens, connection_tokens, annex_token, annex_tokens}
use Rattle.aadl_tree.specs.Unplaced.{origin, unplaced_named, unplaced_class, unplaced_own, unplaced_kind, unplaced_feature, unplaced_subcomponent, unplaced_end, unplaced_connection, unplaced_annex}
use Rattle.aadl_parse.specs.Choice.{Choice, First, Second}
use Rattle.aadl_parse.specs.Builds.{section_of, or_none, listed, feature_of, subcomponent_of, connection_end_of, connection_of, members_behind, annex_of}
use Rattle.aadl_parse.specs.Grammar.{SpellsEnding, SpellsKind, SpellsFeature, SpellsSubcomponent, SpellsEnd, SpellsDestination, SpellsConnection, SpellsNone, Section, SpellsAnnex}
use Rattle.aadl_parse.specs.SimpleValue.{Symbol, SpellsClass, Either}
use Rattle.aadl_parse.specs.Shapes.{symbol_of}
use Rattle.aadl_parse.specs.Terminals.{named_of, category_of, direction_of, annex_body_of}
use Rattle.aadl_parse.proofs.Respelled.{Spelled, at_place, spelled-by, then, made, one, symbol, not-there, there, each, either_bare, second}
use Rattle.aadl_parse.proofs.RespelledKinds.{a_category, a_direction, colon, port, kind_of}
use Rattle.aadl_parse.proofs.RespelledMembers.{semicolon, ending}
use Rattle.aadl_parse.proofs.RespelledNames.{named, BehindDot, maybe_dot, class}

-- NAME ":", and what stands behind it
headed : {X : Type 0} (A : X → List (Placed Token) → Type 0) (f : X → X) (n : Named) (x : X) (us : List Token) → Spelled A f x us → Spelled (One named_of ⋅ (Symbol (codes ":") ⋅ A)) (λ p. (unplaced_named p.0, (p.1.0, f p.1.1))) (unplaced_named n, (tt, x)) (token.Name n.name ∷ token.Mark mark.Colon ∷ us)
headed A f n x us text =
    then (One named_of) (Symbol (codes ":") ⋅ A) unplaced_named (λ p. (p.0, f p.1)) (unplaced_named n) (tt, x) (token.Name n.name ∷ []) (token.Mark mark.Colon ∷ us) (named n)
    (then (Symbol (codes ":")) A (λ u. u) f tt x (token.Mark mark.Colon ∷ []) us colon text)

pub feature : (f : Feature) → Spelled SpellsFeature unplaced_feature (unplaced_feature f) (feature_tokens f)
unfolding feature_tokens
feature f =
    let end : List Token = own_tokens f.own ++ token.Mark mark.Semicolon ∷ [] in
    let us : List Token = token.Word (direction_word f.direction) ∷ (kind_tokens f.kind ++ end) in
    spelled-by SpellsFeature unplaced_feature (unplaced_feature f) (unplaced_feature f) (token.Name f.name.name ∷ token.Mark mark.Colon ∷ us) (feature_tokens f)
    (ap (λ (l : List Token). token.Name f.name.name ∷ token.Mark mark.Colon ∷ token.Word (direction_word f.direction) ∷ l) (sym (append_assoc (kind_tokens f.kind) (own_tokens f.own) (token.Mark mark.Semicolon ∷ [])))) refl
    (made feature_of (One named_of ⋅ (Symbol (codes ":") ⋅ (One direction_of ⋅ (SpellsKind ⋅ SpellsEnding)))) (λ p. (unplaced_named p.0, (p.1.0, (p.1.1.0, (unplaced_kind p.1.1.1.0, unplaced_own p.1.1.1.1))))) unplaced_feature (unplaced_named f.name, (tt, (f.direction, (unplaced_kind f.kind, unplaced_own f.own))))
    (token.Name f.name.name ∷ token.Mark mark.Colon ∷ us) (λ p. refl)
    (headed (One direction_of ⋅ (SpellsKind ⋅ SpellsEnding)) (λ p. (p.0, (unplaced_kind p.1.0, unplaced_own p.1.1))) f.name (f.direction, (unplaced_kind f.kind, unplaced_own f.own)) us
    (then (One direction_of) (SpellsKind ⋅ SpellsEnding) (λ d. d) (λ p. (unplaced_kind p.0, unplaced_own p.1)) f.direction (unplaced_kind f.kind, unplaced_own f.own) (token.Word (direction_word f.direction) ∷ []) (kind_tokens f.kind ++ end)
    (a_direction f.direction)
    (then SpellsKind SpellsEnding unplaced_kind unplaced_own (unplaced_kind f.kind) (unplaced_own f.own) (kind_tokens f.kind) end (kind_of f.kind) (ending f.own)))))

pub subcomponent : (s : Subcomponent) → Spelled SpellsSubcomponent unplaced_subcomponent (unplaced_subcomponent s) (subcomponent_tokens s)
unfolding subcomponent_tokens
subcomponent s =
    let end : List Token = own_tokens s.own ++ token.Mark mark.Semicolon ∷ [] in
    let us : List Token = token.Word (category_word s.category) ∷ (class_tokens s.class ++ end) in
    spelled-by SpellsSubcomponent unplaced_subcomponent (unplaced_subcomponent s) (unplaced_subcomponent s) (token.Name s.name.name ∷ token.Mark mark.Colon ∷ us) (subcomponent_tokens s)
    (ap (λ (l : List Token). token.Name s.name.name ∷ token.Mark mark.Colon ∷ token.Word (category_word s.category) ∷ l) (sym (append_assoc (class_tokens s.class) (own_tokens s.own) (token.Mark mark.Semicolon ∷ [])))) refl
    (made subcomponent_of (One named_of ⋅ (Symbol (codes ":") ⋅ (One category_of ⋅ (SpellsClass ⋅ SpellsEnding)))) (λ p. (unplaced_named p.0, (p.1.0, (p.1.1.0, (unplaced_class p.1.1.1.0, unplaced_own p.1.1.1.1))))) unplaced_subcomponent (unplaced_named s.name, (tt, (s.category, (unplaced_class s.class, unplaced_own s.own))))
    (token.Name s.name.name ∷ token.Mark mark.Colon ∷ us) (λ p. refl)
    (headed (One category_of ⋅ (SpellsClass ⋅ SpellsEnding)) (λ p. (p.0, (unplaced_class p.1.0, unplaced_own p.1.1))) s.name (s.category, (unplaced_class s.class, unplaced_own s.own)) us
    (then (One category_of) (SpellsClass ⋅ SpellsEnding) (λ c. c) (λ p. (unplaced_class p.0, unplaced_own p.1)) s.category (unplaced_class s.class, unplaced_own s.own) (token.Word (category_word s.category) ∷ []) (class_tokens s.class ++ end)
    (a_category s.category)
    (then SpellsClass SpellsEnding unplaced_class unplaced_own (unplaced_class s.class) (unplaced_own s.own) (class_tokens s.class) end (class s.class) (ending s.own)))))

tip : (e : ConnectionEnd) → Spelled SpellsEnd unplaced_end (unplaced_end e) (end_tokens e)
tip e =
    made connection_end_of (One named_of ⋅ Maybe BehindDot) (λ p. (unplaced_named p.0, p.1)) unplaced_end (unplaced_named e.first, e.port) (end_tokens e) (λ p. refl)
    (then (One named_of) (Maybe BehindDot) unplaced_named (λ o. o) (unplaced_named e.first) e.port (token.Name e.first.name ∷ []) (maybe_behind_dot e.port) (named e.first) (maybe_dot e.port))

destination : (c : Connection) → Spelled SpellsDestination (λ p. (p.0, (unplaced_end p.1.0, unplaced_own p.1.1))) (tt, (unplaced_end c.to, unplaced_own c.own)) (token.Mark mark.Arrow ∷ (end_tokens c.to ++ (own_tokens c.own ++ token.Mark mark.Semicolon ∷ [])))
destination c =
    let end : List Token = own_tokens c.own ++ token.Mark mark.Semicolon ∷ [] in
    then (Symbol (codes "->")) (SpellsEnd ⋅ SpellsEnding) (λ u. u) (λ p. (unplaced_end p.0, unplaced_own p.1)) tt (unplaced_end c.to, unplaced_own c.own) (token.Mark mark.Arrow ∷ []) (end_tokens c.to ++ end)
    (symbol (codes "->") (token.Mark mark.Arrow) (λ at. refl))
    (then SpellsEnd SpellsEnding unplaced_end unplaced_own (unplaced_end c.to) (unplaced_own c.own) (end_tokens c.to) end (tip c.to) (ending c.own))

pub regroup : (a b c d : List Token) → a ++ (b ++ (c ++ d)) ≡ a ++ b ++ c ++ d
regroup a b c d = rw (append_assoc, append_assoc) refl

pub connection : (c : Connection) → Spelled SpellsConnection unplaced_connection (unplaced_connection c) (connection_tokens c)
unfolding connection_tokens
connection c =
    let to : List Token = token.Mark mark.Arrow ∷ (end_tokens c.to ++ (own_tokens c.own ++ token.Mark mark.Semicolon ∷ [])) in
    let us : List Token = token.Word word.Port ∷ (end_tokens c.from ++ to) in
    spelled-by SpellsConnection unplaced_connection (unplaced_connection c) (unplaced_connection c) (token.Name c.name.name ∷ token.Mark mark.Colon ∷ us) (connection_tokens c)
    (ap (λ (l : List Token). token.Name c.name.name ∷ token.Mark mark.Colon ∷ token.Word word.Port ∷ l) (regroup (end_tokens c.from) (token.Mark mark.Arrow ∷ end_tokens c.to) (own_tokens c.own) (token.Mark mark.Semicolon ∷ []))) refl
    (made connection_of (One named_of ⋅ (Symbol (codes ":") ⋅ (Symbol (codes "port") ⋅ (SpellsEnd ⋅ SpellsDestination)))) (λ p. (unplaced_named p.0, (p.1.0, (p.1.1.0, (unplaced_end p.1.1.1.0, (p.1.1.1.1.0, (unplaced_end p.1.1.1.1.1.0, unplaced_own p.1.1.1.1.1.1)))))))
    unplaced_connection (unplaced_named c.name, (tt, (tt, (unplaced_end c.from, (tt, (unplaced_end c.to, unplaced_own c.own)))))) (token.Name c.name.name ∷ token.Mark mark.Colon ∷ us) (λ p. refl)
    (headed (Symbol (codes "port") ⋅ (SpellsEnd ⋅ SpellsDestination)) (λ p. (p.0, (unplaced_end p.1.0, (p.1.1.0, (unplaced_end p.1.1.1.0, unplaced_own p.1.1.1.1))))) c.name (tt, (unplaced_end c.from, (tt, (unplaced_end c.to, unplaced_own c.own)))) us
    (then (Symbol (codes "port")) (SpellsEnd ⋅ SpellsDestination) (λ u. u) (λ p. (unplaced_end p.0, (p.1.0, (unplaced_end p.1.1.0, unplaced_own p.1.1.1)))) tt (unplaced_end c.from, (tt, (unplaced_end c.to, unplaced_own c.own)))
    (token.Word word.Port ∷ []) (end_tokens c.from ++ to) port
    (then SpellsEnd SpellsDestination unplaced_end (λ p. (p.0, (unplaced_end p.1.0, unplaced_own p.1.1))) (unplaced_end c.from) (tt, (unplaced_end c.to, unplaced_own c.own)) (end_tokens c.from) to (tip c.from) (destination c)))))

annex_body : (o : Option (List ℕ)) → Spelled (One annex_body_of) (λ p. (p.0, origin)) (o, origin) (annex_token o ∷ [])
annex_body None = one annex_body_of (λ p. (p.0, origin)) (None, origin) (token.Word word.None) (λ at. (None, at)) (λ at. refl) (λ at. refl)
annex_body (Some t) = one annex_body_of (λ p. (p.0, origin)) (Some t, origin) (token.Annex t) (λ at. (Some t, at)) (λ at. refl) (λ at. refl)

pub annex : (a : Annex) → Spelled SpellsAnnex unplaced_annex (unplaced_annex a) (annex_tokens a)
unfolding annex_tokens
annex a =
    let end : List Token = token.Mark mark.Semicolon ∷ [] in
    made annex_of (Symbol (codes "annex") ⋅ (One named_of ⋅ (One annex_body_of ⋅ Symbol (codes ";")))) (λ p. (p.0, (unplaced_named p.1.0, ((p.1.1.0.0, origin), p.1.1.1)))) unplaced_annex (tt, (unplaced_named a.name, ((a.text, origin), tt))) (annex_tokens a) (λ p. refl)
    (then (Symbol (codes "annex")) (One named_of ⋅ (One annex_body_of ⋅ Symbol (codes ";"))) (λ u. u) (λ p. (unplaced_named p.0, ((p.1.0.0, origin), p.1.1))) tt (unplaced_named a.name, ((a.text, origin), tt))
    (token.Word word.Annex ∷ []) (token.Name a.name.name ∷ annex_token a.text ∷ end) (symbol (codes "annex") (token.Word word.Annex) (λ at. refl))
    (then (One named_of) (One annex_body_of ⋅ Symbol (codes ";")) unplaced_named (λ p. ((p.0.0, origin), p.1)) (unplaced_named a.name) ((a.text, origin), tt) (token.Name a.name.name ∷ []) (annex_token a.text ∷ end) (named a.name)
    (then (One annex_body_of) (Symbol (codes ";")) (λ p. (p.0, origin)) (λ u. u) (a.text, origin) tt (annex_token a.text ∷ []) end (annex_body a.text) semicolon)))

section-bare : {X : Type 0} (f : X → X) (c : Choice ⊤ (List X)) → map f (section_of c) ≡ section_of (either_bare (λ u. u) (map f) c)
section-bare f (First u) = refl
section-bare f (Second xs) = refl

-- a section, which is there where it has members
module _ {X : Type 0} (text : List ℕ) (w : Word) (is : (at : Place) → symbol_of text (at_place (token.Word w) at) ≡ Some tt) (A : X → List (Placed Token) → Type 0) (f : X → X) (tokens : X → List Token) (all : (x : X) → Spelled A f (f x) (tokens x)) where
  members : (x : X) (xs : List X) → Spelled (Section text A) (map f) (map f (x ∷ xs)) (section_tokens w tokens (x ∷ xs))
  members x xs =
      let us : List Token = flat_map tokens (x ∷ xs) in
      made members_behind (Symbol text ⋅ Either SpellsNone (Made listed (A ⋅ Each A))) (λ p. (p.0, either_bare (λ u. u) (map f) p.1)) (map f) (tt, Second (map f (x ∷ xs))) (token.Word w ∷ us) (λ p. section-bare f p.1)
      (then (Symbol text) (Either SpellsNone (Made listed (A ⋅ Each A))) (λ u. u) (either_bare (λ u. u) (map f)) tt (Second (map f (x ∷ xs))) (token.Word w ∷ []) us (symbol text (token.Word w) is)
      (second SpellsNone (Made listed (A ⋅ Each A)) (λ u. u) (map f) (map f (x ∷ xs)) us
      (made listed (A ⋅ Each A) (λ p. (f p.0, map f p.1)) (map f) (f x, map f xs) us (λ p. refl)
      (then A (Each A) f (map f) (f x) (map f xs) (tokens x) (flat_map tokens xs) (all x) (each A f tokens all xs)))))

  pub section : (xs : List X) → (o : Option (List X)) × Spelled (Maybe (Section text A)) (option_map (map f)) o (section_tokens w tokens xs) × (or_none o ≡ map f xs)
  section [] = (None, not-there (Section text A) (map f), refl)
  section (x ∷ xs) = (Some (map f (x ∷ xs)), there (Section text A) (map f) (map f (x ∷ xs)) (section_tokens w tokens (x ∷ xs)) (members x xs), refl)
