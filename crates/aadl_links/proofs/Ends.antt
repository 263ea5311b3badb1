-- Which ports the ends of connections are.
use Rattle.std.proofs.Common.{◌≡◌, ℕ, ◌-◌, Bool, true, false, not, List, [], ◌∷◌, ◌++◌, length, Option, Some, None, refl, sym, ap, ◌∙◌, arith}
use Rattle.std.specs.List.{slice_get}
use Rattle.std.specs.Option.{option_map, is_some, unwrap_or}
use Rattle.std.proofs.lemmas.List.{length-append}
use Rattle.aadl_links.specs.Wires.{Wires, PortAt, port_at, innermost, end_named, subcomponent_named}

pub last_of : (path : List ℕ) (s : ℕ) → slice_get (path ++ s ∷ []) (length path) ≡ Some s
last_of [] s = refl
last_of (x ∷ path) s = last_of path s

-- the last of a path that was made longer
pub innermost_pushed : (path : List ℕ) (s : ℕ) → innermost (path ++ s ∷ []) ≡ Some s
innermost_pushed path s =
    let many = length-append path (s ∷ []) in
    let at : length (path ++ s ∷ []) - 1 ≡ length path = omega (arith, many) in
    ap (slice_get (path ++ s ∷ [])) at ∙ last_of path s

pub pushed_last : (p q : List ℕ) (s t : ℕ) → p ++ s ∷ [] ≡ q ++ t ∷ [] → s ≡ t
pushed_last p q s t same = ap (λ (o : Option ℕ). unwrap_or o s) (sym (innermost_pushed p s) ∙ (ap innermost same ∙ innermost_pushed q t))

abbrev tail : List ℕ → List ℕ
tail [] = []
tail (x ∷ xs) = xs

abbrev head : ℕ → List ℕ → ℕ
head d [] = d
head d (x ∷ xs) = x

pub pushed_path : (p q : List ℕ) (s t : ℕ) → p ++ s ∷ [] ≡ q ++ t ∷ [] → p ≡ q
pushed_path [] [] s t same = refl
pushed_path [] (y ∷ q) s t same = let long = ap length same in let more = length-append q (t ∷ []) in absurd (omega (arith, long, more))
pushed_path (x ∷ p) [] s t same = let long = ap length same in let more = length-append p (s ∷ []) in absurd (omega (arith, long, more))
pushed_path (x ∷ p) (y ∷ q) s t same =
    ap (λ (n : ℕ). n ∷ p) (ap (head x) same) ∙ ap (λ (xs : List ℕ). y ∷ xs) (pushed_path p q s t (ap tail same))

-- an end with a dot that is a port of a subcomponent
pub record IsInside (w : Wires) (n : ℕ) (path outer : List ℕ) (first : List ℕ) (o : Option (List ℕ)) (s : ℕ) (port : List ℕ) : Type 0 where
  pub same : path ≡ outer
  pub sub : subcomponent_named w n first ≡ Some s
  pub dotted : o ≡ Some port

inside_by : (w : Wires) (n : ℕ) (path outer first q : List ℕ) (s : ℕ) (port : List ℕ) (found : Option ℕ) → subcomponent_named w n first ≡ found →
    option_map (λ (s : ℕ). port_at (path ++ s ∷ []) q) found ≡ Some (port_at (outer ++ s ∷ []) port) → IsInside w n path outer first (Some q) s port
inside_by w n path outer first q s port None is ends = absurd (cc)
inside_by w n path outer first q s port (Some t) is ends =
    let same = ap (λ (o : Option PortAt). unwrap_or o (port_at [] [])) ends in
    let paths = ap (λ (at : PortAt). at.path) same in
    record {
      same = pushed_path path outer t s paths;
      sub = is ∙ ap Some (pushed_last path outer t s paths);
      dotted = ap Some (ap (λ (at : PortAt). at.name) same);
    }

pub inside_end : (w : Wires) (n : ℕ) (path outer first : List ℕ) (o : Option (List ℕ)) (s : ℕ) (port : List ℕ) → is_some o ≡ true →
    end_named w n path first o ≡ Some (port_at (outer ++ s ∷ []) port) → IsInside w n path outer first o s port
inside_end w n path outer first None s port some ends = absurd (cc)
inside_end w n path outer first (Some q) s port some ends = inside_by w n path outer first q s port (subcomponent_named w n first) refl ends

-- one without a dot, which is a port of the component itself
pub record IsOwn (path first : List ℕ) (o : Option (List ℕ)) (at : PortAt) : Type 0 where
  pub same : path ≡ at.path
  pub named : first ≡ at.name
  pub plain : o ≡ None

pub own_end : (w : Wires) (n : ℕ) (path first : List ℕ) (o : Option (List ℕ)) (at : PortAt) → is_some o ≡ false →
    end_named w n path first o ≡ Some at → IsOwn path first o at
own_end w n path first None at some ends =
    let same = ap (λ (p : Option PortAt). unwrap_or p at) ends in
    record { same = ap (λ (p : PortAt). p.path) same; named = ap (λ (p : PortAt). p.name) same; plain = refl }
own_end w n path first (Some q) at some ends = absurd (cc)

-- an end with a dot stands one subcomponent deeper
pub record IsDeeper (path : List ℕ) (at : PortAt) : Type 0 where
  pub sub : ℕ
  pub longer : at.path ≡ path ++ sub ∷ []

deeper_by : (path q : List ℕ) (at : PortAt) (found : Option ℕ) → option_map (λ (s : ℕ). port_at (path ++ s ∷ []) q) found ≡ Some at → IsDeeper path at
deeper_by path q at None ends = absurd (cc)
deeper_by path q at (Some s) ends = record { sub = s; longer = sym (ap (λ (p : PortAt). p.path) (ap (λ (o : Option PortAt). unwrap_or o at) ends)) }

pub deeper_end : (w : Wires) (n : ℕ) (path first : List ℕ) (o : Option (List ℕ)) (at : PortAt) → is_some o ≡ true → end_named w n path first o ≡ Some at → IsDeeper path at
deeper_end w n path first None at some ends = absurd (cc)
deeper_end w n path first (Some q) at some ends = deeper_by path q at (subcomponent_named w n first) ends

pub no_is : (b : Bool) → not b ≡ true → b ≡ false
no_is true is = absurd (cc)
no_is false is = refl
