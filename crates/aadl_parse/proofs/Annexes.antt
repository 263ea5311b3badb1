-- What stands before the end of an annex text has no such end in it.
use Rattle.std.proofs.Common.{◌≡◌, ℕ, ◌+◌, Bool, true, false, ◌==◌, List, [], ◌∷◌, take, zero, suc, codes, Option, None, refl, add-one, cond}
use Rattle.std.specs.Prelude.{is_some}
use Rattle.hw_text.specs.Text.{behind_bytes}
use Rattle.aadl_tree.specs.Text.{annex_length}

behind-step : (v : Bool) (longer shorter : Option (List ℕ)) → is_some (cond v longer None) ≡ false → (is_some longer ≡ false → is_some shorter ≡ false) → is_some (cond v shorter None) ≡ false
behind-step true longer shorter h next = next h
behind-step false longer shorter h next = refl

-- a text that does not begin with these bytes has no part at its front that does
behind-take : (cs : List ℕ) (k : ℕ) (bs : List ℕ) → is_some (behind_bytes cs bs) ≡ false → is_some (behind_bytes cs (take k bs)) ≡ false
behind-take [] k bs h = cc
behind-take (c ∷ cs) zero bs h = refl
behind-take (c ∷ cs) (suc k) [] h = refl
behind-take (c ∷ cs) (suc k) (b ∷ bs) h = behind-step (b == c) (behind_bytes cs bs) (behind_bytes cs (take k bs)) h (behind-take cs k bs)

length-step : (b : ℕ) (bs : List ℕ) (v : Bool) → is_some (behind_bytes (codes "**}") (b ∷ bs)) ≡ v → annex_length (take (annex_length bs) bs) ≡ annex_length bs → annex_length (take (cond v 0 (annex_length bs + 1)) (b ∷ bs)) ≡ cond v 0 (annex_length bs + 1)
length-step b bs true e same = refl
length-step b bs false e same =
    let open_still : is_some (behind_bytes (codes "**}") (b ∷ take (annex_length bs) bs)) ≡ false = behind-take (codes "**}") (suc (annex_length bs)) (b ∷ bs) e in
    rw (add-one, open_still, same, add-one) refl

pub annex_length-take : (bs : List ℕ) → annex_length (take (annex_length bs) bs) ≡ annex_length bs
annex_length-take [] = refl
annex_length-take (b ∷ bs) = length-step b bs (is_some (behind_bytes (codes "**}") (b ∷ bs))) refl (annex_length-take bs)
