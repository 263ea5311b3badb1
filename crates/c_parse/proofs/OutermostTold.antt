-- The 501st token of an outermost expression is told as one too many.
use Rattle.std.proofs.Common.{◌≡◌, ◌∙◌, sym, ap, ℕ, ◌+◌, ◌<◌, ◌∷◌, [], ◌++◌, length, take, true, append_assoc, arith, length-append}
use Rattle.hw_text.specs.declared.place.Place.{Place}
use Rattle.c_parse.specs.Flaws.{is_too_long}
use Rattle.c_parse.specs.Outermost.{IsTooLongAt}
use Rattle.c_parse.specs.Values.{Tokens}
use Rattle.c_parse.proofs.LongExpressions.{too-long}
use Rattle.c_parse.proofs.OutermostBegun.{unit-begun}
use Rattle.c_parse.proofs.Windows.{too-long-same}

pub told : (ts : Tokens) (i : ℕ) (end : Place) → i < length ts → IsTooLongAt end ts i → is_too_long ts i ≡ true
told ts i end within (us, es, vs, more, (u, text, there), same, at, many) =
    let begun = unit-begun us es vs there in
    let before = begun.0.0 in
    let t = begun.0.1 in
    let all = es ++ vs in
    let whole : take (i + 1) ts ++ more ≡ before ++ t ∷ all = sym same ∙ ap (λ (l : Tokens). l ++ all) begun.0.2 ∙ append_assoc before (t ∷ []) all in
    let size : length us ≡ length before + 1 = ap {B = ℕ} (λ (l : Tokens). length l) begun.0.2 ∙ length-append before (t ∷ []) ∙ omega arith in
    let place : i ≡ length before + 501 = omega (arith, at, size) in
    sym (too-long-same ts more i i (omega arith) within) ∙ ap (λ (l : Tokens). is_too_long l i) whole ∙ ap (is_too_long (before ++ t ∷ all)) place ∙
    too-long es begun.1.0 begun.1.1 before vs t begun.0.3 many
