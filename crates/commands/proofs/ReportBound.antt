-- How long a report of a call is at most.
use Rattle.std.proofs.Common.{◌≡◌, ◌≤◌, ◌<◌, ◌+◌, ◌*◌, ◌^◌, ℕ, List, [], ◌∷◌, ◌++◌, length, map, codes, decimal, length-append, refl, ap, subst, arith, Option, Some, None, All}
use Rattle.std.specs.List.{AllByRecursion, join_with_byte}
use Rattle.std.proofs.lemmas.Fmt.{length-decimal-le}
use Rattle.std.proofs.lemmas.List.Elements.{recursion_from_All}
use Rattle.std.proofs.lemmas.Nat.{mul-le}
use Rattle.pd_base.specs.declared.ids.PinRef.{PinRef}
use Rattle.pd_base.specs.declared.limits.TheConstants.{MOST_BYTES, MOST_PATHS}
use Rattle.netlist.specs.Circuit.{Circuit, gate_at, gate_line}
use Rattle.netlist.specs.Lawful.{IsCircuit}
use Rattle.netlist.specs.Levels.{greatest_level}
use Rattle.netlist.specs.Names.{longest_name, name_at}
use Rattle.netlist.specs.Pins.{IsPin}
use Rattle.netlist.proofs.CircuitLines.{name_of_gate}
use Rattle.delay_annotation.proofs.Settled.{pins_fit}
use Rattle.runs.specs.declared.run.ListedPath.{ListedPath}
use Rattle.runs.specs.declared.run.Verdict.{Verdict}
use Rattle.runs.specs.declared.run.Verdict.TheVariants.{Robust, Nonrobust, Untestable, Aborted}
use Rattle.runs.specs.Lawful.{IsNameable, Named, named_with}
use Rattle.text_pieces.specs.Tokens.{comma, direction_word, line, space}
use Rattle.text_pieces.specs.LineFiles.{lines_text}
use Rattle.run_files.specs.ReportForm.{due_direction, line_fields, lines_told, report_form, report_headings, report_start, state_with, HasSmallNumbers, IsSpelledReport, ReportLine, ReportState}
use Rattle.run_files.specs.ReportText.{nothing, report_text, step_text, steps_text, verdict_fields}
use Rattle.run_files.proofs.ReportFiles.{text_is}
use Rattle.commands.specs.declared.inputs.sizes.TheConstants.{MOST_PATH_TEXT}
use Rattle.commands.specs.Sizes.{path_text_product}
use Rattle.commands.proofs.TextBounds.{bytes_of, direction_length, headed_length, joined_length, line_length, lines_within}
use Rattle.commands.proofs.NameBounds.{below_longest}

-- the fields of a verdict
ten_digits : (number : ℕ) → number < 2 ^ 32 → length (decimal number) ≤ 10
ten_digits number small = length-decimal-le 10 number (omega arith) (omega arith) (omega arith)

verdict_within : (verdict : Verdict) → HasSmallNumbers verdict → bytes_of (verdict_fields verdict) ≤ 44
verdict_within (Robust test) small =
    let word : length (codes "robust") ≡ 6 = refl in
    let none : length nothing ≡ 1 = refl in
    omega (arith, word, none, ten_digits test small)
verdict_within (Nonrobust test proof) small =
    let word : length (codes "nonrobust") ≡ 9 = refl in
    let none : length nothing ≡ 1 = refl in
    omega (arith, word, none, ten_digits test small.0, ten_digits proof small.1)
verdict_within (Untestable proof) small =
    let word : length (codes "untestable") ≡ 10 = refl in
    let none : length nothing ≡ 1 = refl in
    omega (arith, word, none, ten_digits proof small)
verdict_within (Aborted robust nonrobust) small =
    let word : length (codes "aborted") ≡ 7 = refl in
    let none : length nothing ≡ 1 = refl in
    omega (arith, word, none, ten_digits robust small.0, ten_digits nonrobust small.1)

-- two lines for each path
told_count : (paths : List ListedPath) → length (lines_told paths) ≡ 2 * length paths
told_count [] = refl
told_count (listed ∷ paths) = omega (arith, told_count paths)

-- the number of the path goes on by one at most
number_goes_on : (number : ℕ) (waiting : Option ReportLine) (told : ReportLine) (named : Named)
    → (state_with number waiting told named).number ≤ number + 1
number_goes_on number None told named = omega arith
number_goes_on number (Some rise) told named = omega arith

-- two lines for each path, and ninety bytes in each beside what the product counts
report_product : (count levels name : ℕ) → count ≤ MOST_PATHS → count * levels * name ≤ MOST_PATH_TEXT → 2 * count * (levels * name + 90) ≤ 137000000
report_product count levels name few product = omega arith

module _ (c : Circuit) (circuit : IsCircuit c) where
  -- a step takes the longest name, four digits and two signs at most
  step_within : (step : PinRef) → IsPin c step → length (step_text c step) + 1 ≤ longest_name c + 6
  step_within step is =
      let name = (gate_at c step.gate.0).name in
      let gate : length name ≤ longest_name c =
      subst (λ (text : List ℕ). length text ≤ longest_name c) (name_of_gate c step.gate.0 is.in_circuit)
      (below_longest c (gate_line c step.gate.0)) in
      let few = pins_fit c circuit step.gate.0 is.in_circuit in
      let within = is.in_gate in
      let pin = length-decimal-le 4 step.pin (omega arith) (omega arith) (omega arith) in
      let colon : length (codes ":") ≡ 1 = refl in
      omega (arith, length-append (name ++ codes ":") (decimal step.pin), length-append name (codes ":"), gate, pin, colon)

  all_steps_within : (steps : List PinRef) → AllByRecursion (IsPin c) steps
      → bytes_of (map (step_text c) steps) ≤ length steps * (longest_name c + 6)
  all_steps_within [] each = omega arith
  all_steps_within (step ∷ steps) each = omega (arith, step_within step each.0, all_steps_within steps each.1)

  -- the steps of a path take so much for each, and two bytes where there are none
  steps_within : (steps : List PinRef) → AllByRecursion (IsPin c) steps
      → length (steps_text c steps) + 1 ≤ length steps * (longest_name c + 6) + 2
  steps_within [] each = let none : length nothing ≡ 1 = refl in omega (arith, none)
  steps_within (step ∷ steps) each =
      omega (arith, joined_length space (step_text c step) (map (step_text c) steps), all_steps_within (step ∷ steps) each)

  -- what a line tells: a path that can be named, with few steps, and numbers such as the program keeps
  record IsShortLine (told : ReportLine) : Type 0 where
    nameable : IsNameable c told.path
    few_steps : length told.path.steps ≤ greatest_level c
    small : told.length < 2 ^ 64
    verdict : HasSmallNumbers told.verdict

  -- the most bytes of a line
  abbrev line_bytes : ℕ
  line_bytes = (greatest_level c + 1) * (longest_name c + 6) + 90

  abbrev text_after : ReportState → ReportLine → List ℕ
  text_after state told = join_with_byte comma (line_fields c state.number (due_direction state.waiting) told)

  report_line_within : (state : ReportState) (told : ReportLine) → state.number < 100000 → IsShortLine told
      → length (line (text_after state told)) ≤ line_bytes
  report_line_within state told few is =
      let direction = due_direction state.waiting in
      let verdict = verdict_fields told.verdict in
      let source = name_at c told.path.source.0 in
      let steps = steps_text c told.path.steps in
      let own = length-decimal-le 5 state.number (omega arith) (omega arith) (omega arith) in
      let long = length-decimal-le 20 told.length (omega arith) (omega (arith, is.small)) is.small in
      let path = steps_within told.path.steps (recursion_from_All (IsPin c) told.path.steps is.nameable.steps) in
      let levels = mul-le (length told.path.steps) (longest_name c + 6) (greatest_level c) (longest_name c + 6) is.few_steps (omega arith) in
      omega (
        arith,
        line_length (text_after state told),
        joined_length comma (decimal state.number) (direction_word direction ∷ decimal told.length ∷ source ∷ steps ∷ verdict),
        own,
        direction_length direction,
        long,
        below_longest c told.path.source.0,
        path,
        levels,
        verdict_within told.verdict is.verdict,
      )

  -- such lines, behind what was told before
  record AreFewLines (state : ReportState) (lines : List ReportLine) : Type 0 where
    few : state.number + length lines ≤ 20001
    each : AllByRecursion IsShortLine lines

  next_line : (state : ReportState) (told : ReportLine) (lines : List ReportLine) → AreFewLines state (told ∷ lines)
      → (length (line (text_after state told)) ≤ line_bytes)
      × AreFewLines (state_with state.number state.waiting told (named_with state.named told.verdict)) lines
  next_line state told lines are =
      let few = are.few in (
        report_line_within state told (omega arith) are.each.0,
        record {
          few = omega (arith, number_goes_on state.number state.waiting told (named_with state.named told.verdict));
          each = are.each.1;
        },
      )

  -- of paths with few steps
  short_lines : (paths : List ListedPath) → AllByRecursion (λ listed. IsNameable c listed.path) paths
      → AllByRecursion (λ (listed : ListedPath). length listed.path.steps ≤ greatest_level c) paths
      → AllByRecursion (λ (listed : ListedPath). listed.length < 2 ^ 64) paths
      → AllByRecursion (λ listed. HasSmallNumbers listed.rise) paths → AllByRecursion (λ listed. HasSmallNumbers listed.fall) paths
      → AllByRecursion IsShortLine (lines_told paths)
  short_lines [] nameable steps long rises falls = tt
  short_lines (listed ∷ paths) nameable steps long rises falls = (
    record { nameable = nameable.0; few_steps = steps.0; small = long.0; verdict = rises.0 },
    (
      record { nameable = nameable.0; few_steps = steps.0; small = long.0; verdict = falls.0 },
      short_lines paths nameable.1 steps.1 long.1 rises.1 falls.1,
    ),
  )

  -- the report of so many paths at most, where their product is within its limit
  pub report_within : (count : ℕ) (paths : List ListedPath) → count ≤ MOST_PATHS → path_text_product count c ≤ MOST_PATH_TEXT
      → IsSpelledReport c paths → All (λ (listed : ListedPath). length listed.path.steps ≤ greatest_level c) paths
      → length paths ≤ count → length (report_text c paths) ≤ MOST_BYTES
  report_within count paths few product spelled steps counted =
      let each = short_lines paths (recursion_from_All (λ listed. IsNameable c listed.path) paths spelled.lawful.nameable)
      (recursion_from_All (λ (listed : ListedPath). length listed.path.steps ≤ greatest_level c) paths steps)
      (recursion_from_All (λ (listed : ListedPath). listed.length < 2 ^ 64) paths spelled.lengths)
      (recursion_from_All (λ listed. HasSmallNumbers listed.rise) paths spelled.rises)
      (recursion_from_All (λ listed. HasSmallNumbers listed.fall) paths spelled.falls) in
      let lines = lines_within (report_form c) line_bytes AreFewLines next_line report_start (lines_told paths)
      (record { few = omega (arith, told_count paths); each = each }) in
      let all : length (lines_told paths) * line_bytes ≤ 2 * count * line_bytes =
      mul-le (length (lines_told paths)) line_bytes (2 * count) line_bytes (omega (arith, told_count paths)) (omega arith) in
      let heading : bytes_of report_headings ≡ 77 = refl in
      omega (
        arith,
        ap length (text_is c paths),
        headed_length report_headings (lines_text (report_form c) report_start (lines_told paths)),
        heading,
        lines,
        all,
        report_product count (greatest_level c + 1) (longest_name c + 6) few product,
      )
