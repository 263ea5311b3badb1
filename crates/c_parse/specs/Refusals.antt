-- Why a text is no unit: what is told where no unit goes on, and of more than is allowed (docs/formats/c.md).
use Rattle.std.specs.Prelude.{ℕ, ◌-◌, ◌==◌, pos, ◌&&◌, if◌then◌else◌, List, [], ◌∷◌, slice_get, codes, Option, Some, None}
use Rattle.hw_text.specs.declared.code.Code.{Code}
use Rattle.hw_text.specs.declared.code.Code.TheVariants as code
use Rattle.hw_text.specs.declared.place.Place.{Place}
use Rattle.hw_text.specs.declared.placed.Placed.{Placed}
use Rattle.hw_text.specs.declared.refusal.Refusal.{Refusal}
use Rattle.c_tree.specs.declared.dialect.Dialect.{Dialect}
use Rattle.c_tree.specs.declared.dialect.Dialect.TheVariants.{User}
use Rattle.c_parse.specs.declared.keyword.Keyword.TheVariants as keyword
use Rattle.c_parse.specs.declared.token.Token.{Token}
use Rattle.c_parse.specs.declared.token.Token.TheVariants as token
use Rattle.c_parse.specs.Keywords.{keyword_text}
use Rattle.c_parse.specs.Tokens.{start}
use Rattle.c_parse.specs.Values.{Tokens, is_word}

-- a refusal that names a word, or none
abbrev pub told : Code → Place → List ℕ → Refusal
told c at word = record { code = c; place = at; word = word; low = pos 0; high = pos 0; length = pos 0 }

-- what there is more of than is allowed, how much, and how much is allowed
abbrev pub limit : List ℕ → Place → ℕ → ℕ → Refusal
limit kind at counted allowed =
    record { code = code.UserLimit; place = at; word = kind; low = pos counted; high = pos allowed; length = pos 0 }

-- a text of more bytes than a user's may have
abbrev pub too_long : ℕ → Refusal
too_long counted = limit (codes "bytes") start counted 1048576

-- no unit goes on with what stands there
abbrev pub syntax : Place → Refusal
syntax at = told code.UserSyntax at []

-- no unit goes on with this token: a word of C is named
abbrev pub unexpected : Token → Place → Refusal
unexpected (token.Keyword w) at = told code.UserNotInSubset at (keyword_text w)
unexpected (token.Reserved w) at = told code.UserNotInSubset at w
unexpected _ at = syntax at

-- the tokens end there, before this, and are no unit
abbrev pub stopped : List ℕ → Place → Refusal
stopped [] at = syntax at
stopped (b ∷ bs) at = told code.UserBadToken at []

-- no unit goes on with what stands there: a token, or the end
abbrev pub unexpected_there : Place → List ℕ → Option (Placed Token) → Refusal
unexpected_there end left None = stopped left end
unexpected_there end left (Some t) = unexpected t.token t.place

-- the token before the one at the index
abbrev pub token_before : Tokens → ℕ → Option (Placed Token)
token_before ts i = if i == 0 then None else slice_get ts (i - 1)

-- where the `else` of an `else if` stands
abbrev pub link_of : Option (Placed Token) → Option (Placed Token) → Option Place
link_of (Some t) (Some u) = if is_word keyword.Else t && is_word keyword.If u then Some t.place else None
link_of _ _ = None

-- in the grammar of users an `else` goes on with `if` unless that is one link too many, which is told at the `else`
abbrev pub unexpected_behind : Dialect → Tokens → Place → List ℕ → ℕ → Option Place → Refusal
unexpected_behind User ts end left i (Some at) = limit (codes "nesting") at 65 64
unexpected_behind _ ts end left i _ = unexpected_there end left (slice_get ts i)

-- what is told where no unit goes on behind so many of the tokens
abbrev pub unexpected_at : Dialect → Tokens → Place → List ℕ → ℕ → Refusal
unexpected_at dialect ts end left i = unexpected_behind dialect ts end left i (link_of (token_before ts i) (slice_get ts i))
