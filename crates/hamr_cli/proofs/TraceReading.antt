-- What is known of a list that is read in part.
use Rattle.std.proofs.Common.{◌≡◌, ℕ, ℤ, ◌<◌, ◌≤◌, ◌+◌, List, ◌∷◌, ◌++◌, length}
use Rattle.std.specs.Prelude.{All}
use Rattle.arch_model.specs.declared.parts.ArchParts.{ArchParts}
use Rattle.hamr_cli.specs.PortType.{IsPortValue}
use Rattle.hamr_cli.specs.declared.trace.line.Line.{Line}
use Rattle.hamr_cli.specs.Trace.{FitsTrace, NoLineBegins}
use Rattle.hamr_cli.specs.TraceText.{values_text, further_text, line_text, trace_text, value_text}
use Rattle.hamr_cli.specs.TraceWord.{EndsWord}

-- no other value stands in front
abbrev pub OnlyValue : List ℕ → List ℤ → List ℕ → Type 0
OnlyValue bytes read rest =
    (value : List ℤ) (more : List ℕ) → IsPortValue value → EndsWord more → bytes ≡ value_text value ++ more → (read ≡ value) × (rest ≡ more)

-- of these values, some are read, and the rest of the text writes the others, a bracket and more
pub record ValuesLeft (values : List (List ℤ)) (rest : List ℕ) (all_values : List (List ℤ)) (more : List ℕ) : Type 0 where
  pub others : List (List ℤ)
  pub whole : all_values ≡ values ++ others
  pub typed : All IsPortValue others
  pub text : rest ≡ further_text others ++ 93 ∷ more

-- values are read from the front of the bytes
pub record ReadsValues (bytes : List ℕ) (values : List (List ℤ)) (rest : List ℕ) : Type 0 where
  pub typed : All IsPortValue values
  pub some : 0 < length values
  pub text : bytes ≡ values_text values ++ rest
  pub left : (value : List ℤ) (others : List (List ℤ)) (more : List ℕ) → All IsPortValue (value ∷ others)
      → bytes ≡ values_text (value ∷ others) ++ 93 ∷ more → ValuesLeft values rest (value ∷ others) more

-- no other line stands in front
abbrev pub OnlyLine : ArchParts → List ℕ → Line → List ℕ → Type 0
OnlyLine arch bytes read rest =
    (line : Line) (more : List ℕ) → FitsTrace arch line → bytes ≡ line_text arch line ++ more → (read ≡ line) × (rest ≡ more)

-- of these lines, some are read, and the rest of the text writes the others and more
pub record LinesLeft (arch : ArchParts) (lines : List Line) (rest : List ℕ) (all_lines : List Line) (more : List ℕ) : Type 0 where
  pub others : List Line
  pub whole : all_lines ≡ lines ++ others
  pub fits : All (FitsTrace arch) others
  pub text : rest ≡ trace_text arch others ++ more

-- lines are read from the front of the bytes
pub record ReadsLines (arch : ArchParts) (bytes : List ℕ) (lines : List Line) (rest : List ℕ) : Type 0 where
  pub fits : All (FitsTrace arch) lines
  pub text : bytes ≡ trace_text arch lines ++ rest
  pub counted : length lines + length rest ≤ length bytes
  pub left : (all_lines : List Line) (more : List ℕ) → All (FitsTrace arch) all_lines → NoLineBegins arch more
      → bytes ≡ trace_text arch all_lines ++ more → LinesLeft arch lines rest all_lines more
