-- The canonical tokens of associations and of the members of components spell them.
use Rattle.std.proofs.Common.{◌≡◌, Bool, true, false, is_some, List, [], ◌∷◌, ◌++◌, map, codes, Option, Some, None, refl, ap, ◌∙◌, append_assoc}
use Rattle.std.specs.Prelude.{⊤}
use Rattle.std.specs.List.{flat_map}
use Rattle.std.specs.Option.{option_map}
use Rattle.hw_text.specs.declared.placed.Placed.{Placed}
use Rattle.hw_text.specs.Language.{One, ◌⋅◌, Maybe, Each, Made}
use Rattle.aadl_tree.specs.declared.association.Association.{Association}
use Rattle.aadl_tree.specs.declared.association.Operator.{Operator}
use Rattle.aadl_tree.specs.declared.association.Operator.TheVariants.{Set, Append}
use Rattle.aadl_tree.specs.declared.mark.Mark.TheVariants as mark
use Rattle.aadl_tree.specs.declared.names.Path.{Path}
use Rattle.aadl_tree.specs.declared.names.QualifiedName.{QualifiedName}
use Rattle.aadl_tree.specs.declared.token.Token.{Token}
use Rattle.aadl_tree.specs.declared.token.Token.TheVariants as token
use Rattle.aadl_tree.specs.declared.word.Word.TheVariants as word
use Rattle.aadl_tree.specs.Canonical.{behind_comma, qualified_tokens, path_tokens}
use Rattle.aadl_tree.specs.Packages.{own_tokens}
use Rattle.aadl_tree.specs.Unplaced.{unplaced_qualified, unplaced_path, unplaced_value, unplaced_association, unplaced_own}
use Rattle.aadl_tree.specs.Values.{operator_mark, value_tokens, constant_tokens, applies_tokens, association_tokens}
use Rattle.aadl_parse.specs.Builds.{or_none, behind_mark, behind_words, listed, SettingParts, association_of, own_of, ending_of}
use Rattle.aadl_parse.specs.Grammar.{BehindComma, SpellsApplies, SpellsSetting, SpellsAssociation, SpellsOwn, SpellsEnding}
use Rattle.aadl_parse.specs.SimpleValue.{Symbol, SpellsQualified, SpellsPath}
use Rattle.aadl_parse.specs.Terminals.{operator_of}
use Rattle.aadl_parse.specs.ValueText.{SpellsValue}
use Rattle.aadl_parse.proofs.Respelled.{Spelled, spelled-by, then, made, one, symbol, not-there, there, not-there-plain, there-plain, each}
use Rattle.aadl_parse.proofs.RespelledLists.{bracketed, valued}
use Rattle.aadl_parse.proofs.RespelledNames.{qualified, path}

pub semicolon : Spelled (Symbol (codes ";")) (λ u. u) tt (token.Mark mark.Semicolon ∷ [])
semicolon = symbol (codes ";") (token.Mark mark.Semicolon) (λ at. refl)

-- members behind commas
module _ {X : Type 0} (A : X → List (Placed Token) → Type 0) (f : X → X) (tokens : X → List Token) (all : (x : X) → Spelled A f (f x) (tokens x)) where
  behind-comma : (x : X) → Spelled (BehindComma A) f (f x) (behind_comma tokens x)
  behind-comma x =
      made behind_mark (Symbol (codes ",") ⋅ A) (λ p. (p.0, f p.1)) f (tt, f x) (behind_comma tokens x) (λ p. refl)
      (then (Symbol (codes ",")) A (λ u. u) f tt (f x) (token.Mark mark.Comma ∷ []) (tokens x) (symbol (codes ",") (token.Mark mark.Comma) (λ at. refl)) (all x))

  pub further : (xs : List X) → Spelled (Each (BehindComma A)) (map f) (map f xs) (flat_map (behind_comma tokens) xs)
  further xs = each (BehindComma A) f (behind_comma tokens) behind-comma xs

constant : (b : Bool) → (o : Option ⊤) × Spelled (Maybe (Symbol (codes "constant"))) (λ w. w) o (constant_tokens b) × (is_some o ≡ b)
constant true =
    (Some tt, there-plain (Symbol (codes "constant")) tt (token.Word word.Constant ∷ []) (symbol (codes "constant") (token.Word word.Constant) (λ at. refl)), refl)
constant false = (None, not-there-plain (Symbol (codes "constant")), refl)

applies-all : (p : Path) (ps : List Path) → Spelled SpellsApplies (map unplaced_path) (map unplaced_path (p ∷ ps)) (applies_tokens (p ∷ ps))
applies-all p ps =
    let paths : List Token = path_tokens p ++ flat_map (behind_comma path_tokens) ps in
    made behind_words (Symbol (codes "applies") ⋅ (Symbol (codes "to") ⋅ Made listed (SpellsPath ⋅ Each (BehindComma SpellsPath)))) (λ q. (q.0, (q.1.0, map unplaced_path q.1.1))) (map unplaced_path)
    (tt, (tt, map unplaced_path (p ∷ ps))) (applies_tokens (p ∷ ps)) (λ q. refl)
    (then (Symbol (codes "applies")) (Symbol (codes "to") ⋅ Made listed (SpellsPath ⋅ Each (BehindComma SpellsPath))) (λ u. u) (λ q. (q.0, map unplaced_path q.1)) tt (tt, map unplaced_path (p ∷ ps))
    (token.Word word.Applies ∷ []) (token.Word word.To ∷ paths) (symbol (codes "applies") (token.Word word.Applies) (λ at. refl))
    (then (Symbol (codes "to")) (Made listed (SpellsPath ⋅ Each (BehindComma SpellsPath))) (λ u. u) (map unplaced_path) tt (map unplaced_path (p ∷ ps)) (token.Word word.To ∷ []) paths
    (symbol (codes "to") (token.Word word.To) (λ at. refl))
    (made listed (SpellsPath ⋅ Each (BehindComma SpellsPath)) (λ q. (unplaced_path q.0, map unplaced_path q.1)) (map unplaced_path) (unplaced_path p, map unplaced_path ps) paths (λ q. refl)
    (then SpellsPath (Each (BehindComma SpellsPath)) unplaced_path (map unplaced_path) (unplaced_path p) (map unplaced_path ps) (path_tokens p) (flat_map (behind_comma path_tokens) ps) (path p)
    (further SpellsPath unplaced_path path_tokens path ps)))))

applies : (ps : List Path) → (o : Option (List Path)) × Spelled (Maybe SpellsApplies) (option_map (map unplaced_path)) o (applies_tokens ps) × (or_none o ≡ map unplaced_path ps)
applies [] = (None, not-there SpellsApplies (map unplaced_path), refl)
applies (p ∷ ps) = (Some (map unplaced_path (p ∷ ps)), there SpellsApplies (map unplaced_path) (map unplaced_path (p ∷ ps)) (applies_tokens (p ∷ ps)) (applies-all p ps), refl)

pub or_none-map : {X : Type 0} (f : X → X) (o : Option (List X)) → map f (or_none o) ≡ or_none (option_map (map f) o)
or_none-map f None = refl
or_none-map f (Some xs) = refl

an_operator : (o : Operator) → Spelled (One operator_of) (λ x. x) o (token.Mark (operator_mark o) ∷ [])
an_operator Set = one operator_of (λ x. x) Set (token.Mark mark.Association) (λ at. Set) (λ at. refl) (λ at. refl)
an_operator Append = one operator_of (λ x. x) Append (token.Mark mark.Addition) (λ at. Append) (λ at. refl) (λ at. refl)

abbrev bare_setting : SettingParts → SettingParts
bare_setting p = (p.0, (p.1.0, (unplaced_value p.1.1.0, (map unplaced_value p.1.1.1.0, (option_map (map unplaced_path) p.1.1.1.1.0, p.1.1.1.1.1)))))

-- the tokens of what a property is set to, each part behind the one before it
abbrev setting_tokens : Association → List Token
setting_tokens a =
    token.Mark (operator_mark a.operator) ∷
    (constant_tokens a.constant ++ (value_tokens a.first ++ (flat_map (behind_comma value_tokens) a.others ++ (applies_tokens a.applies_to ++ token.Mark mark.Semicolon ∷ []))))

setting : (a : Association) (c : Option ⊤) (ps : Option (List Path)) → Spelled (Maybe (Symbol (codes "constant"))) (λ w. w) c (constant_tokens a.constant) → Spelled (Maybe SpellsApplies) (option_map (map unplaced_path)) ps (applies_tokens a.applies_to) → Spelled SpellsSetting bare_setting (a.operator, (c, (unplaced_value a.first, (map unplaced_value a.others, (ps, tt))))) (setting_tokens a)
setting a c ps is_constant applied =
    let end : List Token = token.Mark mark.Semicolon ∷ [] in
    let others : List Token = flat_map (behind_comma value_tokens) a.others in
    let paths : List Token = applies_tokens a.applies_to in
    then (One operator_of) (Maybe (Symbol (codes "constant")) ⋅ (SpellsValue ⋅ (Each (BehindComma SpellsValue) ⋅ (Maybe SpellsApplies ⋅ Symbol (codes ";"))))) (λ x. x) (λ p. (bare_setting (Set, p)).1)
    a.operator (c, (unplaced_value a.first, (map unplaced_value a.others, (ps, tt)))) (token.Mark (operator_mark a.operator) ∷ []) (constant_tokens a.constant ++ (value_tokens a.first ++ (others ++ (paths ++ end))))
    (an_operator a.operator)
    (then (Maybe (Symbol (codes "constant"))) (SpellsValue ⋅ (Each (BehindComma SpellsValue) ⋅ (Maybe SpellsApplies ⋅ Symbol (codes ";")))) (λ w. w) (λ p. (unplaced_value p.0, (map unplaced_value p.1.0, (option_map (map unplaced_path) p.1.1.0, p.1.1.1))))
    c (unplaced_value a.first, (map unplaced_value a.others, (ps, tt))) (constant_tokens a.constant) (value_tokens a.first ++ (others ++ (paths ++ end))) is_constant
    (then SpellsValue (Each (BehindComma SpellsValue) ⋅ (Maybe SpellsApplies ⋅ Symbol (codes ";"))) unplaced_value (λ p. (map unplaced_value p.0, (option_map (map unplaced_path) p.1.0, p.1.1))) (unplaced_value a.first) (map unplaced_value a.others, (ps, tt))
    (value_tokens a.first) (others ++ (paths ++ end)) (valued a.first)
    (then (Each (BehindComma SpellsValue)) (Maybe SpellsApplies ⋅ Symbol (codes ";")) (map unplaced_value) (λ p. (option_map (map unplaced_path) p.0, p.1)) (map unplaced_value a.others) (ps, tt) others (paths ++ end)
    (further SpellsValue unplaced_value value_tokens valued a.others)
    (then (Maybe SpellsApplies) (Symbol (codes ";")) (option_map (map unplaced_path)) (λ u. u) ps tt paths end applied semicolon))))

association-bare : (q : QualifiedName) (p : SettingParts) → unplaced_association (association_of (q, p)) ≡ association_of (unplaced_qualified q, bare_setting p)
association-bare q p =
    ap (λ (ps : List Path). record { property = unplaced_qualified q; operator = p.0; constant = is_some p.1.0; first = unplaced_value p.1.1.0; others = map unplaced_value p.1.1.1.0; applies_to = ps })
    (or_none-map unplaced_path p.1.1.1.1.0)

regroup : (q o c v w a e : List Token) → q ++ (o ++ (c ++ (v ++ (w ++ (a ++ e))))) ≡ q ++ (o ++ c) ++ v ++ w ++ a ++ e
regroup q o c v w a e = rw (append_assoc, append_assoc, append_assoc, append_assoc, append_assoc) refl

pub association : (a : Association) → Spelled SpellsAssociation unplaced_association (unplaced_association a) (association_tokens a)
unfolding association_tokens
association a =
    let c = constant a.constant in
    let ps = applies a.applies_to in
    let z = association_of (unplaced_qualified a.property, (a.operator, (c.0, (unplaced_value a.first, (map unplaced_value a.others, (ps.0, tt)))))) in
    spelled-by SpellsAssociation unplaced_association z (unplaced_association a) (qualified_tokens a.property ++ setting_tokens a) (association_tokens a)
    (regroup (qualified_tokens a.property) (token.Mark (operator_mark a.operator) ∷ []) (constant_tokens a.constant) (value_tokens a.first) (flat_map (behind_comma value_tokens) a.others) (applies_tokens a.applies_to) (token.Mark mark.Semicolon ∷ []))
    (ap (λ (b : Bool). record { property = unplaced_qualified a.property; operator = a.operator; constant = b; first = unplaced_value a.first; others = map unplaced_value a.others; applies_to = or_none ps.0 }) c.2
    ∙ ap (λ (l : List Path). record { property = unplaced_qualified a.property; operator = a.operator; constant = a.constant; first = unplaced_value a.first; others = map unplaced_value a.others; applies_to = l }) ps.2)
    (made association_of (SpellsQualified ⋅ SpellsSetting) (λ p. (unplaced_qualified p.0, bare_setting p.1)) unplaced_association
    (unplaced_qualified a.property, (a.operator, (c.0, (unplaced_value a.first, (map unplaced_value a.others, (ps.0, tt)))))) (qualified_tokens a.property ++ setting_tokens a) (λ p. association-bare p.0 p.1)
    (then SpellsQualified SpellsSetting unplaced_qualified bare_setting (unplaced_qualified a.property) (a.operator, (c.0, (unplaced_value a.first, (map unplaced_value a.others, (ps.0, tt))))) (qualified_tokens a.property) (setting_tokens a)
    (qualified a.property) (setting a c.0 ps.0 c.1 ps.1)))

-- what stands in braces
braces : (all : List Association) → Spelled SpellsOwn (map unplaced_association) (map unplaced_association all) (own_tokens (Some all))
braces all =
    made own_of (Symbol (codes "{") ⋅ (Each SpellsAssociation ⋅ Symbol (codes "}"))) (λ p. (p.0, (map unplaced_association p.1.0, p.1.1))) (map unplaced_association) (tt, (map unplaced_association all, tt)) (own_tokens (Some all)) (λ p. refl)
    (bracketed (Each SpellsAssociation) (map unplaced_association) (map unplaced_association all) (flat_map association_tokens all) (codes "{") (codes "}") (token.Mark mark.OpenBrace) (token.Mark mark.CloseBrace)
    (symbol (codes "{") (token.Mark mark.OpenBrace) (λ at. refl)) (symbol (codes "}") (token.Mark mark.CloseBrace) (λ at. refl)) (each SpellsAssociation unplaced_association association_tokens association all))

own : (o : Option (List Association)) → Spelled (Maybe SpellsOwn) unplaced_own (unplaced_own o) (own_tokens o)
own None = not-there SpellsOwn (map unplaced_association)
own (Some all) = there SpellsOwn (map unplaced_association) (map unplaced_association all) (own_tokens (Some all)) (braces all)

-- the end of a member
pub ending : (o : Option (List Association)) → Spelled SpellsEnding unplaced_own (unplaced_own o) (own_tokens o ++ token.Mark mark.Semicolon ∷ [])
ending o =
    made ending_of (Maybe SpellsOwn ⋅ Symbol (codes ";")) (λ p. (unplaced_own p.0, p.1)) unplaced_own (unplaced_own o, tt) (own_tokens o ++ token.Mark mark.Semicolon ∷ []) (λ p. refl)
    (then (Maybe SpellsOwn) (Symbol (codes ";")) unplaced_own (λ u. u) (unplaced_own o) tt (own_tokens o) (token.Mark mark.Semicolon ∷ []) (own o) semicolon)
