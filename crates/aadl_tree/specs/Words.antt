-- The reserved words of models (SAE AS5506, reserved words; docs/formats/model.md).
use Rattle.std.specs.Prelude.{ℕ, Bool, true, false, List, [], ◌∷◌, codes, Option, Some, None, if◌then◌else◌}
use Rattle.hw_text.specs.Name.{is_same_word}
use Rattle.aadl_tree.specs.declared.word.Word.{Word}
use Rattle.aadl_tree.specs.declared.word.Word.TheVariants as word

-- in lower case, as it is printed
abbrev pub word_spelling : Word → List ℕ
word_spelling word.Abstract = codes "abstract"
word_spelling word.Access = codes "access"
word_spelling word.Annex = codes "annex"
word_spelling word.Applies = codes "applies"
word_spelling word.Bus = codes "bus"
word_spelling word.Calls = codes "calls"
word_spelling word.Classifier = codes "classifier"
word_spelling word.Compute = codes "compute"
word_spelling word.Connections = codes "connections"
word_spelling word.Constant = codes "constant"
word_spelling word.Data = codes "data"
word_spelling word.Delta = codes "delta"
word_spelling word.Device = codes "device"
word_spelling word.End = codes "end"
word_spelling word.Event = codes "event"
word_spelling word.Extends = codes "extends"
word_spelling word.False = codes "false"
word_spelling word.Feature = codes "feature"
word_spelling word.Features = codes "features"
word_spelling word.Flow = codes "flow"
word_spelling word.Flows = codes "flows"
word_spelling word.Group = codes "group"
word_spelling word.Implementation = codes "implementation"
word_spelling word.In = codes "in"
word_spelling word.Inverse = codes "inverse"
word_spelling word.Memory = codes "memory"
word_spelling word.Modes = codes "modes"
word_spelling word.None = codes "none"
word_spelling word.Out = codes "out"
word_spelling word.Package = codes "package"
word_spelling word.Parameter = codes "parameter"
word_spelling word.Port = codes "port"
word_spelling word.Private = codes "private"
word_spelling word.Process = codes "process"
word_spelling word.Processor = codes "processor"
word_spelling word.Properties = codes "properties"
word_spelling word.Prototypes = codes "prototypes"
word_spelling word.Provides = codes "provides"
word_spelling word.Public = codes "public"
word_spelling word.Reference = codes "reference"
word_spelling word.Refined = codes "refined"
word_spelling word.Renames = codes "renames"
word_spelling word.Requires = codes "requires"
word_spelling word.SelfWord = codes "self"
word_spelling word.Subcomponents = codes "subcomponents"
word_spelling word.Subprogram = codes "subprogram"
word_spelling word.System = codes "system"
word_spelling word.Thread = codes "thread"
word_spelling word.To = codes "to"
word_spelling word.True = codes "true"
word_spelling word.Virtual = codes "virtual"
word_spelling word.With = codes "with"

abbrev pub all_words : List Word
all_words =
    word.Abstract ∷ word.Access ∷ word.Annex ∷ word.Applies ∷ word.Bus ∷ word.Calls ∷ word.Classifier ∷ word.Compute ∷
    word.Connections ∷ word.Constant ∷ word.Data ∷ word.Delta ∷ word.Device ∷ word.End ∷ word.Event ∷ word.Extends ∷
    word.False ∷ word.Feature ∷ word.Features ∷ word.Flow ∷ word.Flows ∷ word.Group ∷ word.Implementation ∷ word.In ∷
    word.Inverse ∷ word.Memory ∷ word.Modes ∷ word.None ∷ word.Out ∷ word.Package ∷ word.Parameter ∷ word.Port ∷
    word.Private ∷ word.Process ∷ word.Processor ∷ word.Properties ∷ word.Prototypes ∷ word.Provides ∷ word.Public ∷
    word.Reference ∷ word.Refined ∷ word.Renames ∷ word.Requires ∷ word.SelfWord ∷ word.Subcomponents ∷
    word.Subprogram ∷ word.System ∷ word.Thread ∷ word.To ∷ word.True ∷ word.Virtual ∷ word.With ∷ []

-- the first of these words that the bytes spell
abbrev pub word_among : List Word → List ℕ → Option Word
word_among [] bs = None
word_among (w ∷ ws) bs = if is_same_word bs (word_spelling w) then Some w else word_among ws bs

-- the word that the bytes spell, in whatever case
unfoldable pub word_named : List ℕ → Option Word
word_named bs = word_among all_words bs

-- a word of AADL that this profile leaves out wherever its grammar does not quote it
abbrev pub is_left_out : Word → Bool
is_left_out word.Abstract = true
is_left_out word.Access = true
is_left_out word.Bus = true
is_left_out word.Calls = true
is_left_out word.Compute = true
is_left_out word.Delta = true
is_left_out word.Extends = true
is_left_out word.Feature = true
is_left_out word.Flow = true
is_left_out word.Flows = true
is_left_out word.Group = true
is_left_out word.In = true
is_left_out word.Inverse = true
is_left_out word.Memory = true
is_left_out word.Modes = true
is_left_out word.Out = true
is_left_out word.Parameter = true
is_left_out word.Private = true
is_left_out word.Prototypes = true
is_left_out word.Provides = true
is_left_out word.Refined = true
is_left_out word.Renames = true
is_left_out word.Requires = true
is_left_out word.SelfWord = true
is_left_out word.Subprogram = true
is_left_out word.Virtual = true
is_left_out _ = false
