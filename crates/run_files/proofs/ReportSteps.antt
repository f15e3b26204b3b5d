-- The text of a step is parted at its last colon, and the field of steps into the texts of steps.
use Rattle.std.proofs.Common.{◌≡◌, ◌≢◌, ◌⊎◌, inl, ◌<◌, ◌≤◌, ◌%◌, ◌/◌, ◌==◌, ℕ, zero, suc, true, false, List, [], ◌∷◌, ◌++◌, Option, Some, None, IfSome, All, length, get_or, map, codes, decimal, refl, sym, ap, ap₂, subst, ◌∙◌, append_assoc, arith}
use Rattle.std.specs.Prelude.{if◌then◌else◌}
use Rattle.std.specs.Fmt.{digit_glyph, digits, digits_onto}
use Rattle.std.specs.List.{AllByRecursion, join_with_byte}
use Rattle.std.proofs.lemmas.Bool.{lt-ltb}
use Rattle.std.proofs.lemmas.Bool.Decides.{nat_tests}
use Rattle.std.proofs.lemmas.List.Elements.{All-nil, recursion_from_All}
use Rattle.std.proofs.lemmas.List.Splits.{join_with_byte-slice_split, length-slice_split}
use Rattle.std.proofs.lemmas.List.{length-append}
use Rattle.std.proofs.lemmas.Option.{none-some, same_Some}
use Rattle.pd_base.specs.declared.ids.GateId.{GateId}
use Rattle.pd_base.specs.declared.ids.PinRef.{PinRef}
use Rattle.netlist.specs.Circuit.{Circuit, gate_count, gate_line, pins_at}
use Rattle.netlist.specs.Lawful.{IsCircuit}
use Rattle.netlist.specs.Pins.{IsPin}
use Rattle.netlist.proofs.CircuitLines.{name_of_gate}
use Rattle.text_pieces.specs.Tokens.{space}
use Rattle.text_pieces.specs.Cuts.{Lacks, pieces}
use Rattle.text_pieces.specs.Reads.{Reads}
use Rattle.text_pieces.proofs.Decimals.{decimal_lacks}
use Rattle.text_pieces.proofs.Cuts.{joined_lacks, lacks-append, pieces_of_joined}
use Rattle.text_pieces.proofs.Spelled.{none_spelled, one_spelled}
use Rattle.run_files.specs.ReportText.{nothing, step_text, steps_text}
use Rattle.run_files.specs.ReportReading.{gate_name}
use Rattle.run_files.proofs.ReportNames.{name_lacks}

-- a digit is no byte above the digit 9
glyph_lacks : (byte digit : ℕ) → 57 < byte → digit < 10 → (digit_glyph false digit == byte) ≡ false
glyph_lacks byte digit great ten = rw (lt-ltb digit 10 ten) (grind (arith, nat_tests))

digits_lack : (byte : ℕ) → 57 < byte → (count n : ℕ) (text : List ℕ) → Lacks byte text → Lacks byte (digits_onto count 10 false n text)
digits_lack byte great zero n text lacks = lacks
digits_lack byte great (suc count) n text lacks =
    let last = digit_glyph false (n % 10) in
    let longer : Lacks byte (last ∷ text) = (glyph_lacks byte (n % 10) great (omega arith), lacks) in
    elim (n / 10 == 0) as (λ ends. Lacks byte (if ends then last ∷ text else digits_onto count 10 false (n / 10) (last ∷ text))) [
      | true ↦ longer
      | false ↦ digits_lack byte great count (n / 10) (last ∷ text) longer
    ]

-- so the colon is in no number
pub no_colon : (number : ℕ) → Lacks 58 (decimal number)
unfolding digits
no_colon number = digits_lack 58 (omega arith) 64 number [] tt

-- how a word is cut at its last colon
abbrev pub CutsStep : List ℕ → Option (List ℕ × List ℕ) → Type 0
CutsStep word read = Reads (λ (parts : List ℕ × List ℕ). parts.0 ++ 58 ∷ parts.1) (λ parts. Lacks 58 parts.1) word read

-- a dash has no colon
dash : (front rest : List ℕ) → ¬ (codes "-" ≡ front ++ 58 ∷ rest)
dash [] rest same = omega (arith, ap (λ (text : List ℕ). get_or text 0 0) same)
dash (byte ∷ front) rest same = omega (arith, ap (λ (text : List ℕ). length text) same, length-append front (58 ∷ rest))

module _ (c : Circuit) (word : List ℕ) where
  step_parts : (read : Option (List ℕ × List ℕ)) → CutsStep word read → (step : PinRef) → word ≡ step_text c step
      → read ≡ Some (gate_name c step.gate, decimal step.pin)
  step_parts read cuts step is =
      cuts.only (gate_name c step.gate, decimal step.pin) (no_colon step.pin)
      (is ∙ append_assoc (gate_name c step.gate) (codes ":") (decimal step.pin))

  pub no_colon_there : CutsStep word None → Reads (step_text c) (IsPin c) word None
  no_colon_there cuts =
      none_spelled (step_text c) (IsPin c) word (λ step is same. none-some _ (step_parts None cuts step same))

  module _ (name pin : List ℕ) (cuts : CutsStep word (Some (name, pin))) where
    name_is : (step : PinRef) → word ≡ step_text c step → name ≡ gate_name c step.gate
    name_is step is = ap (λ (parts : List ℕ × List ℕ). parts.0) (same_Some _ _ (step_parts (Some (name, pin)) cuts step is))

    pin_is : (step : PinRef) → word ≡ step_text c step → pin ≡ decimal step.pin
    pin_is step is = ap (λ (parts : List ℕ × List ℕ). parts.1) (same_Some _ _ (step_parts (Some (name, pin)) cuts step is))

    pub no_gate_there : Reads (gate_name c) (λ gate. gate.0 < gate_count c) name None → Reads (step_text c) (IsPin c) word None
    no_gate_there gates =
        none_spelled (step_text c) (IsPin c) word
        (λ step is same. none-some _ (gates.only step.gate is.in_circuit (name_is step same)))

    module _ (gate : GateId) (gates : Reads (gate_name c) (λ gate. gate.0 < gate_count c) name (Some gate)) where
      gate_is : (step : PinRef) → IsPin c step → word ≡ step_text c step → gate ≡ step.gate
      gate_is step is same = same_Some gate step.gate (gates.only step.gate is.in_circuit (name_is step same))

      pin_within : (step : PinRef) → IsPin c step → word ≡ step_text c step → step.pin < length (pins_at c gate.0)
      pin_within step is same =
          subst (λ (g : GateId). step.pin < length (pins_at c g.0)) (sym (gate_is step is same)) is.in_gate

      pub no_pin_there : Reads decimal (λ number. number < length (pins_at c gate.0)) pin None → Reads (step_text c) (IsPin c) word None
      no_pin_there numbers =
          none_spelled (step_text c) (IsPin c) word
          (λ step is same. none-some _ (numbers.only step.pin (pin_within step is same) (pin_is step same)))

      pub one_step : (number : ℕ) → Reads decimal (λ number. number < length (pins_at c gate.0)) pin (Some number)
          → Reads (step_text c) (IsPin c) word (Some (record { gate = gate; pin = number }))
      one_step number numbers =
          one_spelled (step_text c) (IsPin c) word (record { gate = gate; pin = number })
          (record { in_circuit = gates.found.0; in_gate = numbers.found.0 })
          (cuts.found.1 ∙ ap₂ (λ a b. a ++ 58 ∷ b) gates.found.1 numbers.found.1
          ∙ sym (append_assoc (gate_name c gate) (codes ":") (decimal number)))
          (λ step is same.
          let one = gate_is step is same in
          let also = same_Some number step.pin (numbers.only step.pin (pin_within step is same) (pin_is step same)) in
          (λ i. record { gate = one i; pin = also i }))

module _ (c : Circuit) (is : IsCircuit c) where
  -- a byte that is in no name, nor in a number or the colon, is in no step's text
  pub step_lacks : (byte : ℕ) → (byte ≤ 32) ⊎ (byte ≡ 44) → byte < 48 → (step : PinRef) → IsPin c step → Lacks byte (step_text c step)
  step_lacks byte small low step there =
      lacks-append byte (gate_name c step.gate ++ codes ":") (decimal step.pin)
      (lacks-append byte (gate_name c step.gate) (codes ":")
      (subst (Lacks byte) (name_of_gate c step.gate.0 there.in_circuit)
      (name_lacks c is byte small (gate_line c step.gate.0) (omega (arith, there.in_circuit))))
      (let other : (58 == byte) ≡ false = grind (arith, nat_tests) in (other, tt)))
      (decimal_lacks byte step.pin low)

  each_lacks : (byte : ℕ) → (byte ≤ 32) ⊎ (byte ≡ 44) → byte < 48 → (steps : List PinRef) → AllByRecursion (IsPin c) steps
      → AllByRecursion (Lacks byte) (map (step_text c) steps)
  each_lacks byte small low [] there = tt
  each_lacks byte small low (step ∷ steps) there = (step_lacks byte small low step there.0, each_lacks byte small low steps there.1)

  pub steps_lack : (byte : ℕ) → (byte ≤ 32) ⊎ (byte ≡ 44) → byte < 45 → (space == byte) ≡ false → (steps : List PinRef) → All (IsPin c) steps
      → Lacks byte (steps_text c steps)
  steps_lack byte small low other [] there = let differs : (45 == byte) ≡ false = grind (arith, nat_tests) in (differs, tt)
  steps_lack byte small low other (step ∷ steps) there =
      joined_lacks byte space (map (step_text c) (step ∷ steps)) other
      (each_lacks byte small (omega arith) (step ∷ steps) (recursion_from_All (IsPin c) (step ∷ steps) there))

  -- steps, of which there is a first, are the words of their text
  pub steps_parted : (step : PinRef) (steps : List PinRef) → All (IsPin c) (step ∷ steps)
      → pieces space (steps_text c (step ∷ steps)) ≡ map (step_text c) (step ∷ steps)
  steps_parted step steps there =
      pieces_of_joined space (map (step_text c) (step ∷ steps))
      (record {
        some_text = omega arith;
        lack = each_lacks space (inl (omega arith)) (omega arith) (step ∷ steps) (recursion_from_All (IsPin c) (step ∷ steps) there);
      })

  module _ (field : List ℕ) where
    -- what the words of a field are read as, the field is, where it says something
    pub steps_read : field ≢ nothing → (read : Option (List PinRef)) → Reads (λ all. map (step_text c) all) (All (IsPin c)) (pieces space field) read
        → Reads (steps_text c) (All (IsPin c)) field read
    steps_read some read reads = record { found = found read reads.found; only = only }
      where
        found : (read : Option (List PinRef)) → IfSome read (λ steps. All (IsPin c) steps × (pieces space field ≡ map (step_text c) steps))
            → IfSome read (λ steps. All (IsPin c) steps × (field ≡ steps_text c steps))
        found None h = tt
        found (Some []) h =
            absurd (omega (arith, ap length h.1, length-slice_split (λ other. other == space) field))
        found (Some (step ∷ steps)) h = (h.0, sym (join_with_byte-slice_split space field) ∙ ap (join_with_byte space) h.1)

        only : (steps : List PinRef) → All (IsPin c) steps → field ≡ steps_text c steps → read ≡ Some steps
        only [] there same = absurd (some same)
        only (step ∷ steps) there same = reads.only (step ∷ steps) there (ap (pieces space) same ∙ steps_parted step steps there)

    -- a field that says nothing is that of no steps
    pub no_steps_read : field ≡ nothing → Reads (steps_text c) (All (IsPin c)) field (Some [])
    no_steps_read none =
        one_spelled (steps_text c) (All (IsPin c)) field [] (All-nil (IsPin c)) none (λ steps there same. at steps there same)
      where
        at : (steps : List PinRef) → All (IsPin c) steps → field ≡ steps_text c steps → [] ≡ steps
        at [] there same = refl
        at (step ∷ steps) there same =
            let words : codes "-" ∷ [] ≡ map (step_text c) (step ∷ steps) =
            ap (pieces space) (sym none ∙ same) ∙ steps_parted step steps there in
            let first : codes "-" ≡ step_text c step = cc in
            absurd (dash (gate_name c step.gate) (decimal step.pin) (first ∙ append_assoc (gate_name c step.gate) (codes ":") (decimal step.pin)))
