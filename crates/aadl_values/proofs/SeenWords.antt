-- Words that were seen, as the keys of an index.
use Rattle.std.proofs.Common.{◌≡◌, ℕ, ◌+◌, Bool, true, false, ◌&&◌, ◌||◌, not, List, [], ◌∷◌, ◌++◌, map, Option, Some, refl, sym, ap, ◌∙◌, if◌then◌else◌}
use Rattle.std.proofs.lemmas.List.{map-append}
use Rattle.std.specs.Option.{is_some}
use Rattle.std.specs.List.{list_any}
use Rattle.std.specs.Str.{bytes_eq}
use Rattle.aadl_names.specs.Keys.{Key, key, same_key, place_from, place_of}
use Rattle.aadl_values.specs.Distinct.{are_new, are_distinct}

abbrev pub word_key : List ℕ → Key
word_key w = key 0 w []

-- none of these words has its key among those before it
abbrev pub have_new_keys : List Key → List (List ℕ) → Bool
have_new_keys seen [] = true
have_new_keys seen (w ∷ ws) = not (is_some (place_of seen (word_key w))) && have_new_keys (seen ++ word_key w ∷ []) ws

and_true : (b : Bool) → (b && true) ≡ b
and_true true = refl
and_true false = refl

step : (b : Bool) (at : ℕ) (found : Option ℕ) (among : Bool) → is_some found ≡ among → is_some (if b then Some at else found) ≡ (b || among)
step true at found among is = refl
step false at found among is = is

same_word : (w v : List ℕ) → same_key (word_key w) (word_key v) ≡ bytes_eq w v
same_word w v = and_true (bytes_eq w v)

-- a word has a place among the keys where it is among the words
seen_from : (at : ℕ) (words : List (List ℕ)) (w : List ℕ) → is_some (place_from at (map word_key words) (word_key w)) ≡ list_any (bytes_eq w) words
seen_from at [] w = refl
seen_from at (v ∷ words) w =
    ap (λ (b : Bool). is_some (if b then Some at else place_from (at + 1) (map word_key words) (word_key w))) (same_word w v)
    ∙ step (bytes_eq w v) at (place_from (at + 1) (map word_key words) (word_key w)) (list_any (bytes_eq w) words) (seen_from (at + 1) words w)

keys_new : (seen ws : List (List ℕ)) → have_new_keys (map word_key seen) ws ≡ are_new seen ws
keys_new seen [] = refl
keys_new seen (w ∷ ws) =
    ap (λ (b : Bool). not b && have_new_keys (map word_key seen ++ word_key w ∷ []) ws) (seen_from 0 seen w)
    ∙ ap (λ (b : Bool). not (list_any (bytes_eq w) seen) && b)
    (ap (λ (keys : List Key). have_new_keys keys ws) (sym (map-append word_key seen (w ∷ []))) ∙ keys_new (seen ++ w ∷ []) ws)

pub keys_distinct : (ws : List (List ℕ)) → have_new_keys [] ws ≡ are_distinct ws
keys_distinct ws = keys_new [] ws
