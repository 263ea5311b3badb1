-- The canonical tokens of packages spell them.
use Rattle.std.proofs.Common.{◌≡◌, List, [], ◌∷◌, ◌++◌, map, codes, refl, ap, sym, append_assoc}
use Rattle.std.specs.List.{flat_map}
use Rattle.hw_text.specs.Language.{◌⋅◌, Each}
use Rattle.aadl_tree.specs.declared.mark.Mark.TheVariants as mark
use Rattle.aadl_tree.specs.declared.package.Import.{Import}
use Rattle.aadl_tree.specs.declared.package.Package.{Package}
use Rattle.aadl_tree.specs.declared.token.Token.{Token}
use Rattle.aadl_tree.specs.declared.token.Token.TheVariants as token
use Rattle.aadl_tree.specs.declared.word.Word.TheVariants as word
use Rattle.aadl_tree.specs.Canonical.{behind_comma, qualified_tokens}
use Rattle.aadl_tree.specs.Packages.{declaration_tokens, import_tokens, package_tokens}
use Rattle.aadl_tree.specs.Unplaced.{unplaced_qualified, unplaced_declaration, unplaced_import, unplaced_package}
use Rattle.aadl_parse.specs.Builds.{import_of, BodyParts, package_of}
use Rattle.aadl_parse.specs.Grammar.{BehindComma, SpellsDeclaration, SpellsImport, SpellsBody, SpellsPackage}
use Rattle.aadl_parse.specs.SimpleValue.{Symbol, SpellsQualified}
use Rattle.aadl_parse.proofs.Respelled.{Spelled, spelled-by, then, made, symbol, each}
use Rattle.aadl_parse.proofs.RespelledMembers.{semicolon, further}
use Rattle.aadl_parse.proofs.RespelledNames.{qualified}
use Rattle.aadl_parse.proofs.RespelledTypes.{both_bare, ended}
use Rattle.aadl_parse.proofs.RespelledDeclarations.{declared}

an_import : (i : Import) → Spelled SpellsImport unplaced_import (unplaced_import i) (import_tokens i)
unfolding import_tokens
an_import i =
    let end : List Token = token.Mark mark.Semicolon ∷ [] in
    let others : List Token = flat_map (behind_comma qualified_tokens) i.others in
    let us : List Token = token.Word word.With ∷ (qualified_tokens i.first ++ (others ++ end)) in
    spelled-by SpellsImport unplaced_import (unplaced_import i) (unplaced_import i) us (import_tokens i) (ap (λ (l : List Token). token.Word word.With ∷ l) (sym (append_assoc (qualified_tokens i.first) others end))) refl
    (made import_of (Symbol (codes "with") ⋅ (SpellsQualified ⋅ (Each (BehindComma SpellsQualified) ⋅ Symbol (codes ";")))) (both_bare (λ u. u) (both_bare unplaced_qualified (both_bare (map unplaced_qualified) (λ u. u)))) unplaced_import
    (tt, (unplaced_qualified i.first, (map unplaced_qualified i.others, tt))) us (λ p. refl)
    (then (Symbol (codes "with")) (SpellsQualified ⋅ (Each (BehindComma SpellsQualified) ⋅ Symbol (codes ";"))) (λ u. u) (both_bare unplaced_qualified (both_bare (map unplaced_qualified) (λ u. u))) tt (unplaced_qualified i.first, (map unplaced_qualified i.others, tt))
    (token.Word word.With ∷ []) (qualified_tokens i.first ++ (others ++ end)) (symbol (codes "with") (token.Word word.With) (λ at. refl))
    (then SpellsQualified (Each (BehindComma SpellsQualified) ⋅ Symbol (codes ";")) unplaced_qualified (both_bare (map unplaced_qualified) (λ u. u)) (unplaced_qualified i.first) (map unplaced_qualified i.others, tt) (qualified_tokens i.first) (others ++ end)
    (qualified i.first)
    (then (Each (BehindComma SpellsQualified)) (Symbol (codes ";")) (map unplaced_qualified) (λ u. u) (map unplaced_qualified i.others) tt others end (further SpellsQualified unplaced_qualified qualified_tokens qualified i.others) semicolon))))

regroup-five : (a b c d e : List Token) → a ++ (b ++ (c ++ (d ++ e))) ≡ a ++ b ++ c ++ d ++ e
regroup-five a b c d e = rw (append_assoc, append_assoc, append_assoc) refl

abbrev bare_body : BodyParts → BodyParts
bare_body = both_bare (λ u. u) (both_bare (map unplaced_import) (both_bare (map unplaced_declaration) (both_bare (λ u. u) (both_bare unplaced_qualified (λ u. u)))))

abbrev body_tokens : Package → List Token
body_tokens p =
    token.Word word.Public ∷ (flat_map import_tokens p.imports ++ (flat_map declaration_tokens p.declarations ++ token.Word word.End ∷ (qualified_tokens p.end_name ++ token.Mark mark.Semicolon ∷ [])))

body : (p : Package) → Spelled SpellsBody bare_body (tt, (map unplaced_import p.imports, (map unplaced_declaration p.declarations, (tt, (unplaced_qualified p.end_name, tt))))) (body_tokens p)
body p =
    let end : List Token = token.Word word.End ∷ (qualified_tokens p.end_name ++ token.Mark mark.Semicolon ∷ []) in
    let imports : List Token = flat_map import_tokens p.imports in
    let declarations : List Token = flat_map declaration_tokens p.declarations in
    then (Symbol (codes "public")) (Each SpellsImport ⋅ (Each SpellsDeclaration ⋅ (Symbol (codes "end") ⋅ (SpellsQualified ⋅ Symbol (codes ";"))))) (λ u. u)
    (both_bare (map unplaced_import) (both_bare (map unplaced_declaration) (both_bare (λ u. u) (both_bare unplaced_qualified (λ u. u))))) tt
    (map unplaced_import p.imports, (map unplaced_declaration p.declarations, (tt, (unplaced_qualified p.end_name, tt)))) (token.Word word.Public ∷ []) (imports ++ (declarations ++ end)) (symbol (codes "public") (token.Word word.Public) (λ at. refl))
    (then (Each SpellsImport) (Each SpellsDeclaration ⋅ (Symbol (codes "end") ⋅ (SpellsQualified ⋅ Symbol (codes ";")))) (map unplaced_import) (both_bare (map unplaced_declaration) (both_bare (λ u. u) (both_bare unplaced_qualified (λ u. u))))
    (map unplaced_import p.imports) (map unplaced_declaration p.declarations, (tt, (unplaced_qualified p.end_name, tt))) imports (declarations ++ end) (each SpellsImport unplaced_import import_tokens an_import p.imports)
    (then (Each SpellsDeclaration) (Symbol (codes "end") ⋅ (SpellsQualified ⋅ Symbol (codes ";"))) (map unplaced_declaration) (both_bare (λ u. u) (both_bare unplaced_qualified (λ u. u))) (map unplaced_declaration p.declarations) (tt, (unplaced_qualified p.end_name, tt))
    declarations end (each SpellsDeclaration unplaced_declaration declaration_tokens declared p.declarations)
    (ended SpellsQualified unplaced_qualified (unplaced_qualified p.end_name) (qualified_tokens p.end_name) (qualified p.end_name))))

pub a_package : (p : Package) → Spelled SpellsPackage unplaced_package (unplaced_package p) (package_tokens p)
unfolding package_tokens SpellsPackage
a_package p =
    let us : List Token = token.Word word.Package ∷ (qualified_tokens p.name ++ body_tokens p) in
    spelled-by SpellsPackage unplaced_package (unplaced_package p) (unplaced_package p) us (package_tokens p)
    (regroup-five (token.Word word.Package ∷ qualified_tokens p.name) (token.Word word.Public ∷ flat_map import_tokens p.imports) (flat_map declaration_tokens p.declarations) (token.Word word.End ∷ qualified_tokens p.end_name) (token.Mark mark.Semicolon ∷ [])) refl
    (made package_of (Symbol (codes "package") ⋅ (SpellsQualified ⋅ SpellsBody)) (both_bare (λ u. u) (both_bare unplaced_qualified bare_body)) unplaced_package
    (tt, (unplaced_qualified p.name, (tt, (map unplaced_import p.imports, (map unplaced_declaration p.declarations, (tt, (unplaced_qualified p.end_name, tt))))))) us (λ q. refl)
    (then (Symbol (codes "package")) (SpellsQualified ⋅ SpellsBody) (λ u. u) (both_bare unplaced_qualified bare_body) tt
    (unplaced_qualified p.name, (tt, (map unplaced_import p.imports, (map unplaced_declaration p.declarations, (tt, (unplaced_qualified p.end_name, tt)))))) (token.Word word.Package ∷ []) (qualified_tokens p.name ++ body_tokens p)
    (symbol (codes "package") (token.Word word.Package) (λ at. refl))
    (then SpellsQualified SpellsBody unplaced_qualified bare_body (unplaced_qualified p.name) (tt, (map unplaced_import p.imports, (map unplaced_declaration p.declarations, (tt, (unplaced_qualified p.end_name, tt))))) (qualified_tokens p.name) (body_tokens p)
    (qualified p.name) (body p))))
