-- What has been read of a production, part by part.
use Rattle.std.proofs.Common.{◌≡◌, refl, List, ◌++◌}
use Rattle.std.specs.Prelude.{Result, Err, IsErrAnd}
use Rattle.hw_text.specs.Language.{◌⋅◌, Made}
use Rattle.hw_text.specs.Reading.{Anything, Reached, Reads, Leaves}
use Rattle.hw_text.specs.declared.read_fault.ReadFault.{ReadFault}
use Rattle.hw_text.proofs.Reading.{begun, step, stuck, last, last-stuck, failed}

module _ {T Z : Type 0} where
  -- nothing has been read of a production
  pub opening : {Y : Type 0} (build : Y → Z) (B : Y → List T → Type 0) (F : List T → Type 0) (before : List T) → Leaves (Made build B) F before before build B
  opening build B F before = begun (Made build B) F before build B (λ z w text. text) (λ y w text. (y, refl, text))

module _ {T Z : Type 0} {A : Z → List T → Type 0} {F : List T → Type 0} {before at : List T} where
  module _ {X Y : Type 0} {build : X × Y → Z} {C : Y → List T → Type 0} where
    -- a part that ends by itself was read
    pub then : {B : X → List T → Type 0} {after : List T} {x : X} → Leaves A F before at build (B ⋅ C) → Reached B Anything at after x → Leaves A F before after (λ y. build (x, y)) C
    then {B} {after} {x} so part = step A F before B Anything at after build C so (λ y w m text follows. tt) x part

    -- it was not read
    pub halt : (B : X → List T → Type 0) (after : List T) (fault : ReadFault) (result : Result Z ReadFault) → Leaves A F before at build (B ⋅ C) → ((y : Y) × (w : List T) × C y w) → IsErrAnd result (λ e. e ≡ fault) → Reads B Anything at after (Err fault) → Reads A F before after result
    halt B after fault result so sample is part =
        failed A F before B Anything at after fault result is part (stuck A F before B Anything at after build C so (λ y w m text follows. tt) sample)

    -- a part was read behind which only some tokens may stand
    pub next_before : {B : X → List T → Type 0} {Behind : List T → Type 0} {after : List T} {x : X} → Leaves A F before at build (B ⋅ C) → ((y : Y) (w m : List T) → C y w → F m → Behind (w ++ m)) → Reached B Behind at after x → Leaves A F before after (λ y. build (x, y)) C
    next_before {B} {Behind} {after} {x} so follow part = step A F before B Behind at after build C so follow x part

    pub halt_before : (B : X → List T → Type 0) (Behind : List T → Type 0) (after : List T) (fault : ReadFault) (result : Result Z ReadFault) → Leaves A F before at build (B ⋅ C) → ((y : Y) (w m : List T) → C y w → F m → Behind (w ++ m)) → ((y : Y) × (w : List T) × C y w) → IsErrAnd result (λ e. e ≡ fault) → Reads B Behind at after (Err fault) → Reads A F before after result
    halt_before B Behind after fault result so follow sample is part =
        failed A F before B Behind at after fault result is part (stuck A F before B Behind at after build C so follow sample)

  module _ {X : Type 0} {build : X → Z} {B : X → List T → Type 0} where
    -- the last part was read
    pub final : {after : List T} {x : X} → Leaves A F before at build B → Reached B Anything at after x → Reached A F before after (build x)
    final {after} {x} so part = last A F before B Anything at after build so (λ m follows. tt) x part

    pub final_halt : (after : List T) (fault : ReadFault) (result : Result Z ReadFault) → Leaves A F before at build B → IsErrAnd result (λ e. e ≡ fault) → Reads B Anything at after (Err fault) → Reads A F before after result
    final_halt after fault result so is part = failed A F before B Anything at after fault result is part (last-stuck A F before B Anything at after build so (λ m follows. tt))

    -- the last part was read, behind which only some tokens may stand
    pub final_before : {Behind : List T → Type 0} {after : List T} {x : X} → Leaves A F before at build B → ((m : List T) → F m → Behind m) → Reached B Behind at after x → Reached A F before after (build x)
    final_before {Behind} {after} {x} so follow part = last A F before B Behind at after build so follow x part

    pub final_halt_before : (Behind : List T → Type 0) (after : List T) (fault : ReadFault) (result : Result Z ReadFault) → Leaves A F before at build B → ((m : List T) → F m → Behind m) → IsErrAnd result (λ e. e ≡ fault) → Reads B Behind at after (Err fault) → Reads A F before after result
    final_halt_before Behind after fault result so follow is part = failed A F before B Behind at after fault result is part (last-stuck A F before B Behind at after build so follow)
