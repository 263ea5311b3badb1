-- Lines are read one after another in one way.
use Rattle.std.proofs.Common.{◌≡◌, ℕ, ◌<◌, ◌≤◌, ◌+◌, List, [], ◌∷◌, ◌++◌, length, length-append, refl, sym, ap, ◌∙◌, append_assoc, arith}
use Rattle.std.specs.Prelude.{All}
use Rattle.std.proofs.lemmas.Grind.{flat_map-append}
use Rattle.std.proofs.lemmas.List.{append-nil}
use Rattle.std.proofs.lemmas.List.Elements.{All-nil, All-head, All-tail, All-push}
use Rattle.arch_model.specs.declared.parts.ArchParts.{ArchParts}
use Rattle.hamr_cli.specs.declared.trace.line.Line.{Line}
use Rattle.hamr_cli.specs.Trace.{FitsTrace, IsTraceOf, NoLineBegins, HasBadLine}
use Rattle.hamr_cli.specs.TraceText.{spot_text, domain_name, what_text, line_text, trace_text}
use Rattle.hamr_cli.proofs.TraceReading.{OnlyLine, LinesLeft, ReadsLines}

-- a text with a byte behind its front is not empty
longer : (front mid : List ℕ) → 0 < length (front ++ 32 ∷ mid)
longer front mid = simp length-append (omega arith)

line-some : (arch : ArchParts) (line : Line) → 0 < length (line_text arch line)
line-some arch line =
    let back = longer (domain_name arch line.event.who) (what_text arch line.event.what ++ 10 ∷ []) in
    omega (arith, back, length-append (spot_text line.spot) (domain_name arch line.event.who ++ 32 ∷ (what_text arch line.event.what ++ 10 ∷ [])))

-- so no line begins what is empty
pub none-begins : (arch : ArchParts) → NoLineBegins arch []
none-begins arch line more fits e =
    let same : 0 ≡ length (line_text arch line) + length more = ap length e ∙ length-append (line_text arch line) more in
    omega (arith, same, line-some arch line)

pub shorter : (arch : ArchParts) (line : Line) (rest after : List ℕ) → rest ≡ line_text arch line ++ after → length after < length rest
shorter arch line rest after e =
    let same : length rest ≡ length (line_text arch line) + length after = ap length e ∙ length-append (line_text arch line) after in
    omega (arith, same, line-some arch line)

-- nothing is read yet
pub reads-none : (arch : ArchParts) (bytes : List ℕ) (lines : List Line) → lines ≡ [] → ReadsLines arch bytes lines bytes
reads-none arch bytes lines is = rw is (record {
  fits = All-nil (FitsTrace arch);
  text = refl;
  counted = omega arith;
  left = λ all_lines more fits none e. record { others = all_lines; whole = refl; fits = fits; text = e };
})

trace-split : (arch : ArchParts) (line : Line) (others : List Line) (more : List ℕ) →
    trace_text arch (line ∷ others) ++ more ≡ line_text arch line ++ (trace_text arch others ++ more)
trace-split arch line others more = append_assoc (line_text arch line) (trace_text arch others) more

-- another line is read
more-left : (arch : ArchParts) (lines : List Line) (rest : List ℕ) (line : Line) (after : List ℕ) (all_lines others : List Line) (more : List ℕ) →
    FitsTrace arch line → rest ≡ line_text arch line ++ after → OnlyLine arch rest line after → NoLineBegins arch more →
    all_lines ≡ lines ++ others → All (FitsTrace arch) others → rest ≡ trace_text arch others ++ more → LinesLeft arch (lines ++ line ∷ []) after all_lines more
more-left arch lines rest line after all_lines [] more h e one none is all f = absurd (none line after h (sym f ∙ e))
more-left arch lines rest line after all_lines (o ∷ os) more h e one none is all f =
    let same = one o (trace_text arch os ++ more) (All-head (FitsTrace arch) o os all) (f ∙ trace-split arch o os more) in
    record { others = os; whole = is ∙ (ap (λ l. lines ++ l ∷ os) (sym same.0) ∙ sym (append_assoc lines (line ∷ []) os)); fits = All-tail (FitsTrace arch) o os all; text = same.1 }

more-text : (arch : ArchParts) (lines : List Line) (line : Line) → trace_text arch (lines ++ line ∷ []) ≡ trace_text arch lines ++ line_text arch line
more-text arch lines line = flat_map-append (line_text arch) lines (line ∷ []) ∙ ap (λ t. trace_text arch lines ++ t) (append-nil (line_text arch line))

more-reads : (arch : ArchParts) (bytes : List ℕ) (lines : List Line) (rest : List ℕ) (line : Line) (after : List ℕ) → ReadsLines arch bytes lines rest →
    FitsTrace arch line → rest ≡ line_text arch line ++ after → OnlyLine arch rest line after → ReadsLines arch bytes (lines ++ line ∷ []) after
more-reads arch bytes lines rest line after r h e one = record {
  fits = All-push (FitsTrace arch) lines line r.fits h;
  text = r.text ∙ (ap (λ t. trace_text arch lines ++ t) e ∙ (sym (append_assoc (trace_text arch lines) (line_text arch line) after) ∙ ap (λ t. t ++ after) (sym (more-text arch lines line))));
  counted = omega (arith, r.counted, shorter arch line rest after e, length-append lines (line ∷ []));
  left = λ all_lines more fits none f.
      let l = r.left all_lines more fits none f in
      more-left arch lines rest line after all_lines l.others more h e one none l.whole l.fits l.text;
}

pub reads-line : (arch : ArchParts) (bytes : List ℕ) (lines : List Line) (rest : List ℕ) (line : Line) (after : List ℕ) (new_lines : List Line) → ReadsLines arch bytes lines rest →
    FitsTrace arch line → rest ≡ line_text arch line ++ after → OnlyLine arch rest line after → new_lines ≡ lines ++ line ∷ [] → ReadsLines arch bytes new_lines after
reads-line arch bytes lines rest line after new_lines r h e one is = rw is (more-reads arch bytes lines rest line after r h e one)

-- where no line goes on, the lines that are read are all
none_left : (arch : ArchParts) (rest : List ℕ) (others : List Line) (more : List ℕ) → NoLineBegins arch rest → All (FitsTrace arch) others →
    rest ≡ trace_text arch others ++ more → (others ≡ []) × (rest ≡ more)
none_left arch rest [] more none all e = (refl, e)
none_left arch rest (o ∷ os) more none all e = absurd (none o (trace_text arch os ++ more) (All-head (FitsTrace arch) o os all) (e ∙ trace-split arch o os more))

pub lines-end : (arch : ArchParts) (bytes : List ℕ) (lines : List Line) (rest : List ℕ) → ReadsLines arch bytes lines rest → NoLineBegins arch rest →
    (all_lines : List Line) (more : List ℕ) → All (FitsTrace arch) all_lines → NoLineBegins arch more → bytes ≡ trace_text arch all_lines ++ more →
    (all_lines ≡ lines) × (rest ≡ more)
lines-end arch bytes lines rest r none all_lines more fits begins e =
    let l = r.left all_lines more fits begins e in
    let end = none_left arch rest l.others more none l.fits l.text in
    (l.whole ∙ (ap (λ o. lines ++ o) end.0 ∙ append-nil lines), end.1)

-- a trace is these lines, and nothing is left
pub trace-end : (arch : ArchParts) (bytes : List ℕ) (lines : List Line) (rest : List ℕ) → ReadsLines arch bytes lines rest → NoLineBegins arch rest →
    (all_lines : List Line) → IsTraceOf arch bytes all_lines → (all_lines ≡ lines) × (rest ≡ [])
trace-end arch bytes lines rest r none all_lines trace =
    lines-end arch bytes lines rest r none all_lines [] trace.fits (none-begins arch) (trace.text ∙ sym (append-nil (trace_text arch all_lines)))

-- the line that is refused is the one behind those that are read
pub bad-end : (arch : ArchParts) (bytes : List ℕ) (lines : List Line) (rest : List ℕ) → ReadsLines arch bytes lines rest → NoLineBegins arch rest →
    (number : ℕ) (bad : HasBadLine arch bytes number) → (length lines + 1 ≡ number) × (rest ≡ bad.rest)
bad-end arch bytes lines rest r none number bad =
    let end = lines-end arch bytes lines rest r none bad.good bad.rest bad.fits bad.none_begins bad.text in
    (omega (arith, bad.counted, ap length end.0), end.1)

pub none-begins-end : (arch : ArchParts) (rest : List ℕ) → length rest ≤ 0 → NoLineBegins arch rest
none-begins-end arch rest none line more fits e = omega (arith, none, shorter arch line rest more e)
