-- A report is that of one list of paths: each line tells one path and one verdict.
use Rattle.std.proofs.Common.{◌≡◌, ◌<◌, ◌+◌, ◌^◌, ℕ, List, [], ◌∷◌, ◌++◌, Some, All, length, get_or, take, drop, codes, decimal, refl, sym, ap, subst, ◌∙◌, append_assoc, arith}
use Rattle.std.proofs.lemmas.List.{drop_at, get_or_at, length-append}
use Rattle.std.proofs.lemmas.List.Elements.{recursion_from_All}
use Rattle.std.proofs.lemmas.Option.{same_Some}
use Rattle.pd_base.specs.declared.ids.PinRef.{PinRef}
use Rattle.netlist.specs.declared.kind.GateKind.{GateKind}
use Rattle.netlist.specs.declared.kind.GateKind.TheVariants.{And, Nand, Or, Nor, Xor, Xnor, Not, Buff}
use Rattle.netlist.specs.Circuit.{Circuit, kind_at, pins_at}
use Rattle.netlist.specs.Lawful.{IsCircuit, IsFanIn}
use Rattle.netlist.specs.Names.{name_at}
use Rattle.netlist.specs.Pins.{IsPin}
use Rattle.runs.specs.declared.run.ListedPath.{ListedPath}
use Rattle.runs.specs.declared.run.Verdict.{Verdict}
use Rattle.runs.specs.declared.run.Verdict.TheVariants.{Robust, Nonrobust, Untestable, Aborted}
use Rattle.text_pieces.specs.Tokens.{comma, space}
use Rattle.text_pieces.specs.LineFiles.{lines_text}
use Rattle.text_pieces.specs.Cuts.{pieces, ArePieces, Lacks}
use Rattle.text_pieces.proofs.Decimals.{decimal_once}
use Rattle.text_pieces.proofs.Ends.{cut_at_last}
use Rattle.text_pieces.proofs.Headings.{headed_once}
use Rattle.text_pieces.proofs.Listing.{map_once}
use Rattle.text_pieces.proofs.PieceTexts.{are_pieces}
use Rattle.text_pieces.proofs.Cuts.{pieces_of_joined}
use Rattle.text_pieces.proofs.ReadLines.{lines_once, AreToldApart}
use Rattle.run_files.specs.ReportForm.{due_direction, line_fields, lines_told, report_form, report_headings, report_start, HasSmallNumbers, IsSpelledReport, ReportLine, ReportState}
use Rattle.run_files.specs.ReportReading.{gate_name}
use Rattle.run_files.specs.ReportText.{report_text, step_text, steps_text, verdict_fields}
use Rattle.run_files.proofs.ReportFiles.{paths_once, text_is, whole_lines}
use Rattle.run_files.proofs.ReportLines.{fields_are_pieces, one_line}
use Rattle.run_files.proofs.ReportNames.{gates_apart, lines_apart}
use Rattle.run_files.proofs.ReportSteps.{no_colon, no_steps_read, steps_parted, CutsStep}

-- the first bytes of the words for verdicts differ
words_differ : (word other : List ℕ) → ¬ (get_or word 0 0 ≡ get_or other 0 0) → ¬ (word ≡ other)
words_differ word other apart same = apart (ap (λ (text : List ℕ). get_or text 0 0) same)

-- fields are those of one verdict
verdict_once : (a b : Verdict) → HasSmallNumbers a → HasSmallNumbers b → verdict_fields a ≡ verdict_fields b → a ≡ b
verdict_once (Robust t) (Robust u) small also same =
    ap Robust (decimal_once t u (omega arith) (omega arith) (let one : decimal t ≡ decimal u = cc in one))
verdict_once (Nonrobust t p) (Nonrobust u q) small also same =
    let one : decimal t ≡ decimal u = cc in
    let two : decimal p ≡ decimal q = cc in
    let test = decimal_once t u (omega (arith, small.0)) (omega (arith, also.0)) one in
    let proof = decimal_once p q (omega (arith, small.1)) (omega (arith, also.1)) two in
    (λ i. Nonrobust (test i) (proof i))
verdict_once (Untestable p) (Untestable q) small also same =
    ap Untestable (decimal_once p q (omega arith) (omega arith) (let one : decimal p ≡ decimal q = cc in one))
verdict_once (Aborted p q) (Aborted r s) small also same =
    let one : decimal p ≡ decimal r = cc in
    let two : decimal q ≡ decimal s = cc in
    let first = decimal_once p r (omega (arith, small.0)) (omega (arith, also.0)) one in
    let second = decimal_once q s (omega (arith, small.1)) (omega (arith, also.1)) two in
    (λ i. Aborted (first i) (second i))
verdict_once (Robust t) (Nonrobust u q) small also same =
    let word : codes "robust" ≡ codes "nonrobust" = cc in absurd (words_differ (codes "robust") (codes "nonrobust") (λ e. omega arith) word)
verdict_once (Robust t) (Untestable q) small also same =
    let word : codes "robust" ≡ codes "untestable" = cc in absurd (words_differ (codes "robust") (codes "untestable") (λ e. omega arith) word)
verdict_once (Robust t) (Aborted r s) small also same =
    let word : codes "robust" ≡ codes "aborted" = cc in absurd (words_differ (codes "robust") (codes "aborted") (λ e. omega arith) word)
verdict_once (Nonrobust t p) (Robust u) small also same =
    let word : codes "nonrobust" ≡ codes "robust" = cc in absurd (words_differ (codes "nonrobust") (codes "robust") (λ e. omega arith) word)
verdict_once (Nonrobust t p) (Untestable q) small also same =
    let word : codes "nonrobust" ≡ codes "untestable" = cc in
    absurd (words_differ (codes "nonrobust") (codes "untestable") (λ e. omega arith) word)
verdict_once (Nonrobust t p) (Aborted r s) small also same =
    let word : codes "nonrobust" ≡ codes "aborted" = cc in absurd (words_differ (codes "nonrobust") (codes "aborted") (λ e. omega arith) word)
verdict_once (Untestable p) (Robust u) small also same =
    let word : codes "untestable" ≡ codes "robust" = cc in absurd (words_differ (codes "untestable") (codes "robust") (λ e. omega arith) word)
verdict_once (Untestable p) (Nonrobust u q) small also same =
    let word : codes "untestable" ≡ codes "nonrobust" = cc in
    absurd (words_differ (codes "untestable") (codes "nonrobust") (λ e. omega arith) word)
verdict_once (Untestable p) (Aborted r s) small also same =
    let word : codes "untestable" ≡ codes "aborted" = cc in absurd (words_differ (codes "untestable") (codes "aborted") (λ e. omega arith) word)
verdict_once (Aborted p q) (Robust u) small also same =
    let word : codes "aborted" ≡ codes "robust" = cc in absurd (words_differ (codes "aborted") (codes "robust") (λ e. omega arith) word)
verdict_once (Aborted p q) (Nonrobust u r) small also same =
    let word : codes "aborted" ≡ codes "nonrobust" = cc in absurd (words_differ (codes "aborted") (codes "nonrobust") (λ e. omega arith) word)
verdict_once (Aborted p q) (Untestable r) small also same =
    let word : codes "aborted" ≡ codes "untestable" = cc in absurd (words_differ (codes "aborted") (codes "untestable") (λ e. omega arith) word)

-- a gate has few pins
few_pins : (kind : GateKind) (count : ℕ) → IsFanIn kind count → count < 2 ^ 64
few_pins And count is = omega (arith, is.few)
few_pins Nand count is = omega (arith, is.few)
few_pins Or count is = omega (arith, is.few)
few_pins Nor count is = omega (arith, is.few)
few_pins Xor count is = omega (arith, is.few)
few_pins Xnor count is = omega (arith, is.few)
few_pins Not count is = omega (arith, is)
few_pins Buff count is = omega (arith, is)

module _ (c : Circuit) (circuit : IsCircuit c) where
  -- the text of a step is cut at the colon before its pin
  step_cut : (step : PinRef)
      → CutsStep (step_text c step)
      (Some (take (length (gate_name c step.gate)) (step_text c step), drop (length (gate_name c step.gate) + 1) (step_text c step)))
  step_cut step =
      let name = gate_name c step.gate in
      let pin = decimal step.pin in
      let text : step_text c step ≡ name ++ 58 ∷ pin = append_assoc name (codes ":") pin in
      let long : length (name ++ codes ":") ≡ length name + 1 = length-append name (codes ":") in
      let rest : drop (length name + 1) (step_text c step) ≡ pin = drop_at (name ++ codes ":") pin (length name + 1) long in
      cut_at_last 58 (step_text c step) (length name)
      (omega (arith, ap length text, length-append name (58 ∷ pin)))
      (ap (λ (bytes : List ℕ). get_or bytes (length name) 0) text ∙ get_or_at name 58 pin 0 (length name) refl)
      (subst (λ bytes. Lacks 58 bytes) (sym rest) (no_colon step.pin))

  -- so it is that of one step
  step_once : (a b : PinRef) → IsPin c a → IsPin c b → step_text c a ≡ step_text c b → a ≡ b
  step_once a b in_a in_b same =
      let own = (step_cut a).only (gate_name c a.gate, decimal a.pin) (no_colon a.pin) (append_assoc (gate_name c a.gate) (codes ":") (decimal a.pin)) in
      let other = (step_cut a).only (gate_name c b.gate, decimal b.pin) (no_colon b.pin)
      (same ∙ append_assoc (gate_name c b.gate) (codes ":") (decimal b.pin)) in
      let parts = same_Some (gate_name c a.gate, decimal a.pin) (gate_name c b.gate, decimal b.pin) (sym own ∙ other) in
      let gate = gates_apart c circuit a.gate b.gate in_a.in_circuit in_b.in_circuit (ap (λ (cut : List ℕ × List ℕ). cut.0) parts) in
      let few = few_pins (kind_at c a.gate.0) (length (pins_at c a.gate.0)) (circuit.fan_in a.gate.0 in_a.in_circuit) in
      let few' = few_pins (kind_at c b.gate.0) (length (pins_at c b.gate.0)) (circuit.fan_in b.gate.0 in_b.in_circuit) in
      let pin = decimal_once a.pin b.pin (omega (arith, in_a.in_gate, few)) (omega (arith, in_b.in_gate, few'))
      (ap (λ (cut : List ℕ × List ℕ). cut.1) parts) in
      (λ i. record { gate = gate i; pin = pin i })

  steps_once : (xs ys : List PinRef) → All (IsPin c) xs → All (IsPin c) ys → steps_text c xs ≡ steps_text c ys → xs ≡ ys
  steps_once [] ys in_x in_y same = same_Some [] ys ((no_steps_read c circuit (steps_text c []) refl).only ys in_y same)
  steps_once (x ∷ xs) [] in_x in_y same =
      sym (same_Some [] (x ∷ xs) ((no_steps_read c circuit (steps_text c []) refl).only (x ∷ xs) in_x (sym same)))
  steps_once (x ∷ xs) (y ∷ ys) in_x in_y same =
      map_once (step_text c) (IsPin c) step_once (x ∷ xs) (y ∷ ys) (recursion_from_All (IsPin c) (x ∷ xs) in_x)
      (recursion_from_All (IsPin c) (y ∷ ys) in_y)
      (sym (steps_parted c circuit x xs in_x) ∙ ap (pieces space) same ∙ steps_parted c circuit y ys in_y)

  -- a line tells one path and verdict
  told_apart : (state : ReportState) → AreToldApart (report_form c) state
  told_apart state a b next next' same =
      let direction = due_direction state.waiting in
      let parted : (told : ReportLine) → _ → ArePieces comma (line_fields c state.number direction told) =
      λ told is. are_pieces comma (line_fields c state.number direction told) (omega arith) (fields_are_pieces c circuit state.number direction told is) in
      let fields : line_fields c state.number direction a ≡ line_fields c state.number direction b =
      sym (pieces_of_joined comma (line_fields c state.number direction a) (parted a next.path)) ∙ ap (pieces comma) same
      ∙ pieces_of_joined comma (line_fields c state.number direction b) (parted b next'.path) in
      let length_text : decimal a.length ≡ decimal b.length = cc in
      let source_text : name_at c a.path.source.0 ≡ name_at c b.path.source.0 = cc in
      let steps_is : steps_text c a.path.steps ≡ steps_text c b.path.steps = cc in
      let verdict_is : verdict_fields a.verdict ≡ verdict_fields b.verdict = cc in
      let long = decimal_once a.length b.length next.path.small next'.path.small length_text in
      let source = lines_apart c circuit a.path.source.0 b.path.source.0 (omega (arith, next.path.nameable.source))
      (omega (arith, next'.path.nameable.source)) source_text in
      let steps = steps_once a.path.steps b.path.steps next.path.nameable.steps next'.path.nameable.steps steps_is in
      let verdict = verdict_once a.verdict b.verdict next.verdict.small next'.verdict.small verdict_is in
      (λ i. record { path = record { source = record { 0 = source i }; steps = steps i }; length = long i; verdict = verdict i })

  -- two lists of paths with one report are one
  pub report_once : (paths others : List ListedPath) → IsSpelledReport c paths → IsSpelledReport c others
      → report_text c paths ≡ report_text c others → paths ≡ others
  report_once paths others spelled spelled' same =
      paths_once c paths others
      (lines_once (report_form c) (one_line c circuit) told_apart report_start (lines_told paths) (lines_told others)
      (whole_lines c paths spelled).each (whole_lines c others spelled').each
      (headed_once report_headings (lines_text (report_form c) report_start (lines_told paths))
      (lines_text (report_form c) report_start (lines_told others)) (sym (text_is c paths) ∙ same ∙ text_is c others)))
