-- The words of the contract language (this project's own; docs/formats/contracts.md).
use Rattle.std.specs.Prelude.{ℕ, Bool, not, is_some, List, [], ◌∷◌, codes, Option, Some, None, if◌then◌else◌, ◌&&◌}
use Rattle.hw_text.specs.Name.{is_name, is_same_word}
use Rattle.gumbo_parse.specs.declared.word.Word.{Word}
use Rattle.gumbo_parse.specs.declared.word.Word.TheVariants as word

-- as it is printed; case does not matter where it is read
abbrev pub word_spelling : Word → List ℕ
word_spelling word.State = codes "state"
word_spelling word.Integration = codes "integration"
word_spelling word.Initialize = codes "initialize"
word_spelling word.Initialise = codes "initialise"
word_spelling word.Compute = codes "compute"
word_spelling word.Handle = codes "handle"
word_spelling word.Assume = codes "assume"
word_spelling word.Guarantee = codes "guarantee"
word_spelling word.Implies = codes "implies"
word_spelling word.Or = codes "or"
word_spelling word.And = codes "and"
word_spelling word.Not = codes "not"
word_spelling word.True = codes "true"
word_spelling word.False = codes "false"
word_spelling word.In = codes "In"
word_spelling word.HasEvent = codes "HasEvent"
word_spelling word.NoSend = codes "NoSend"
word_spelling word.MustSend = codes "MustSend"
word_spelling word.ForAll = codes "forall"
word_spelling word.Exists = codes "exists"

abbrev pub all_words : List Word
all_words =
    word.State ∷ word.Integration ∷ word.Initialize ∷ word.Initialise ∷ word.Compute ∷ word.Handle ∷ word.Assume ∷
    word.Guarantee ∷ word.Implies ∷ word.Or ∷ word.And ∷ word.Not ∷ word.True ∷ word.False ∷ word.In ∷ word.HasEvent ∷
    word.NoSend ∷ word.MustSend ∷ word.ForAll ∷ word.Exists ∷ []

-- the first of these words that the bytes spell
abbrev pub word_among : List Word → List ℕ → Option Word
word_among [] bs = None
word_among (w ∷ ws) bs = if is_same_word bs (word_spelling w) then Some w else word_among ws bs

-- the word that the bytes spell
unfoldable pub word_named : List ℕ → Option Word
word_named bs = word_among all_words bs

-- a name of model text that is no word of the contract language
abbrev pub is_identifier : List ℕ → Bool
is_identifier bs = is_name bs && not (is_some (word_named bs))
