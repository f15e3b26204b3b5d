-- The texts of a path's steps: how they are put together, and that names which call for no quotes make texts that don't.
use Rattle.std.proofs.Common.{◌≡◌, ℕ, ◌<◌, ◌≤◌, List, [], ◌∷◌, ◌++◌, length, get_or, drop, map, codes, decimal, flat_map, refl, sym, ap, ◌∙◌, subst, arith}
use Rattle.std.specs.List.{All, AllByRecursion}
use Rattle.std.proofs.lemmas.List.Elements.{All-append, recursion_from_All}
use Rattle.std.proofs.lemmas.List.Folds.{flat_map-map}
use Rattle.pd_base.specs.declared.ids.PinRef.{PinRef}
use Rattle.netlist.specs.Circuit.{Circuit, gate_at, gate_line, line_count}
use Rattle.netlist.specs.Names.{name_at}
use Rattle.netlist.proofs.CircuitLines.{line_names-length, name_of_gate}
use Rattle.netlist.specs.Pins.{IsPin}
use Rattle.text_pieces.specs.Tokens.{space, after_space}
use Rattle.run_files.specs.PlainTexts.{HasPlainNames, IsPlain, IsPlainByte}
use Rattle.run_files.specs.ReportText.{nothing, step_text, steps_text}
use Rattle.text_pieces.proofs.Cuts.{join_with_byte-cons}
use Rattle.run_files.proofs.PlainTexts.{decimal_plain, plain_by_test}

module _ (c : Circuit) where
  -- the texts of steps, each behind a space
  abbrev pub spaced_steps : List PinRef → List ℕ
  spaced_steps steps = flat_map (λ step. after_space (step_text c step)) steps

  -- the first step, and then each other one behind a space
  steps_joined : (first : PinRef) (rest : List PinRef) → steps_text c (first ∷ rest) ≡ step_text c first ++ spaced_steps rest
  steps_joined first rest =
      join_with_byte-cons space (step_text c first) (map (step_text c) rest)
      ∙ ap (λ (text : List ℕ). step_text c first ++ text) (flat_map-map after_space (step_text c) rest)

  -- the same of steps of which there is a first
  pub steps_joined_at : (steps : List PinRef) (d : PinRef) → 1 ≤ length steps
      → steps_text c steps ≡ step_text c (get_or steps 0 d) ++ spaced_steps (drop 1 steps)
  steps_joined_at [] d some = absurd (omega arith)
  steps_joined_at (first ∷ rest) d some = steps_joined first rest

  module _ (names : HasPlainNames c) where
    -- the name of a line is plain
    pub name_plain : (line : ℕ) → line < line_count c → IsPlain (name_at c line)
    name_plain line within = names line [] (omega (arith, line_names-length c))

    -- so is the text of a step through one of the circuit's pins
    step_plain : (step : PinRef) → IsPin c step → IsPlain (step_text c step)
    step_plain step is =
        let gate = step.gate.0 in
        let within : gate_line c gate < line_count c = omega (arith, is.in_circuit) in
        let name : IsPlain (gate_at c gate).name = subst IsPlain (name_of_gate c gate is.in_circuit) (name_plain (gate_line c gate) within) in
        All-append IsPlainByte ((gate_at c gate).name ++ codes ":") (decimal step.pin)
        (All-append IsPlainByte (gate_at c gate).name (codes ":") name (plain_by_test (codes ":") refl)) (decimal_plain step.pin)

    -- so are further steps, each behind a space
    spaced_plain : (steps : List PinRef) → AllByRecursion (IsPin c) steps → IsPlain (spaced_steps steps)
    spaced_plain [] all = λ k d within. absurd (omega arith)
    spaced_plain (step ∷ steps) all =
        All-append IsPlainByte (after_space (step_text c step)) (spaced_steps steps)
        (All-append IsPlainByte (space ∷ []) (step_text c step) (plain_by_test (space ∷ []) refl) (step_plain step all.0))
        (spaced_plain steps all.1)

    -- so is the text of all steps
    pub steps_plain : (steps : List PinRef) → All (IsPin c) steps → IsPlain (steps_text c steps)
    steps_plain [] all = plain_by_test nothing refl
    steps_plain (step ∷ steps) all =
        let each = recursion_from_All (IsPin c) (step ∷ steps) all in
        subst IsPlain (sym (steps_joined step steps))
        (All-append IsPlainByte (step_text c step) (spaced_steps steps) (step_plain step each.0) (spaced_plain steps each.1))
