-- Where the lines of a ladder stand: at one place each, so no two have one name, and there are five for each stage and one before.
use Rattle.std.proofs.Common.{◌≡◌, ◌+◌, ◌-◌, ◌*◌, ◌<◌, ◌≤◌, ◌^◌, ℕ, zero, suc, List, [], ◌∷◌, ◌++◌, length, map, get_or, refl, sym, ap, ap₂, ◌∙◌, subst, arith}
use Rattle.std.specs.List.{All, flat_map, range_with_len}
use Rattle.std.proofs.lemmas.List.{get_or-map, length-map, map-append}
use Rattle.std.proofs.lemmas.List.Elements.{All-append, All-cons, All-nil}
use Rattle.std.proofs.lemmas.List.FromFn.{get_or-range_with_len, length-range_with_len}
use Rattle.netlist.specs.Description.{NamedGate}
use Rattle.net_builder.proofs.ByLine.{Differ, map_flat}
use Rattle.ladder.specs.declared.line.Letter.{Letter}
use Rattle.ladder.specs.declared.line.Letter.TheVariants.{X, P, Q, U, V}
use Rattle.ladder.specs.declared.line.LadderLine.{LadderLine}
use Rattle.ladder.specs.Ladder.{ladder_name, ladder_names, stage_gates, stages_of}
use Rattle.ladder.proofs.Names.{name_once}

-- the line of this letter at a stage
abbrev line : Letter → ℕ → LadderLine
line letter stage = record { letter = letter; stage = stage }

-- the name of a line
abbrev name : LadderLine → List ℕ
name l = ladder_name l.letter l.stage

-- the sources of stages, and the lines of their gates
abbrev sources_at : ℕ → List LadderLine
sources_at stage = line P stage ∷ line Q stage ∷ []

abbrev gates_at : ℕ → List LadderLine
gates_at stage = line U stage ∷ line V stage ∷ line X stage ∷ []

-- two lists of numbers that run on, one behind the other
runs_on : (from some more : ℕ) → range_with_len from some ++ range_with_len (from + some) more ≡ range_with_len from (some + more)
runs_on from zero more = ap (λ (n : ℕ). range_with_len n more) (omega arith) ∙ ap (λ (n : ℕ). range_with_len from n) (omega arith)
runs_on from (suc some) more =
    let moved : from + suc some ≡ from + 1 + some = omega arith in
    let longer : suc (some + more) ≡ suc some + more = omega arith in
    ap (λ (n : ℕ). from ∷ (range_with_len (from + 1) some ++ range_with_len n more)) moved
    ∙ ap (λ rest. from ∷ rest) (runs_on (from + 1) some more) ∙ ap (λ (n : ℕ). range_with_len from n) longer

module _ (stages : ℕ) where
  -- the place of a line: the source before the first stage, the sources of the stages, and then the gates of the stages
  abbrev x_place : ℕ → ℕ
  x_place zero = 0
  x_place (suc before) = 2 * stages + 3 * suc before

  abbrev place_of : Letter → ℕ → ℕ
  place_of X stage = x_place stage
  place_of P stage = 2 * stage - 1
  place_of Q stage = 2 * stage
  place_of U stage = 2 * stages + 3 * stage - 2
  place_of V stage = 2 * stages + 3 * stage - 1

  abbrev place : LadderLine → ℕ
  place l = place_of l.letter l.stage

  -- behind the first stage the line that leaves a stage stands last of its gates
  later_x : (stage : ℕ) → 1 ≤ stage → x_place stage ≡ 2 * stages + 3 * stage
  later_x zero some = absurd (omega arith)
  later_x (suc before) some = refl

  -- the places of sources run on
  source_places : (from count : ℕ) → 1 ≤ from
      → map place (flat_map sources_at (range_with_len from count)) ≡ range_with_len (2 * from - 1) (2 * count)
  source_places from zero some = refl
  source_places from (suc count) some =
      let rest = source_places (from + 1) count (omega arith) in
      let longer : suc (suc (2 * count)) ≡ 2 * suc count = omega arith in
      let second : 2 * from ≡ 2 * from - 1 + 1 = omega arith in
      let third : 2 * (from + 1) - 1 ≡ 2 * from - 1 + 1 + 1 = omega arith in
      ap (λ more. (2 * from - 1) ∷ (2 * from) ∷ more) rest
      ∙ (λ i. (2 * from - 1) ∷ second i ∷ range_with_len (third i) (2 * count))
      ∙ ap (λ (n : ℕ). range_with_len (2 * from - 1) n) longer

  -- and so do those of gates
  gate_places : (from count : ℕ) → 1 ≤ from
      → map place (flat_map gates_at (range_with_len from count)) ≡ range_with_len (2 * stages + 3 * from - 2) (3 * count)
  gate_places from zero some = refl
  gate_places from (suc count) some =
      let first = 2 * stages + 3 * from - 2 in
      let rest = gate_places (from + 1) count (omega arith) in
      let longer : suc (suc (suc (3 * count))) ≡ 3 * suc count = omega arith in
      let second : 2 * stages + 3 * from - 1 ≡ first + 1 = omega arith in
      let third : x_place from ≡ first + 1 + 1 = later_x from some ∙ omega arith in
      let fourth : 2 * stages + 3 * (from + 1) - 2 ≡ first + 1 + 1 + 1 = omega arith in
      ap (λ more. first ∷ (2 * stages + 3 * from - 1) ∷ x_place from ∷ more) rest
      ∙ (λ i. first ∷ second i ∷ third i ∷ range_with_len (fourth i) (3 * count))
      ∙ ap (λ (n : ℕ). range_with_len first n) longer

  -- all lines, by line number
  abbrev lines : List LadderLine
  lines = line X 0 ∷ flat_map sources_at (stages_of stages) ++ flat_map gates_at (stages_of stages)

  line_places : map place lines ≡ range_with_len 0 (5 * stages + 1)
  line_places =
      let sources = source_places 1 stages (omega arith) in
      let gates = gate_places 1 stages (omega arith) in
      let start : 2 * stages + 3 * 1 - 2 ≡ 1 + 2 * stages = omega arith in
      let all : suc (2 * stages + 3 * stages) ≡ 5 * stages + 1 = omega arith in
      ap (λ rest. 0 ∷ rest) (map-append place (flat_map sources_at (stages_of stages)) (flat_map gates_at (stages_of stages)))
      ∙ (λ i. 0 ∷ (sources i ++ gates i))
      ∙ ap (λ (n : ℕ). 0 ∷ (range_with_len 1 (2 * stages) ++ range_with_len n (3 * stages))) start
      ∙ ap (λ rest. 0 ∷ rest) (runs_on 1 (2 * stages) (3 * stages))
      ∙ ap (λ (n : ℕ). range_with_len 0 n) all

  -- the names of all lines
  names_of_lines : map name lines ≡ ladder_names stages
  names_of_lines =
      ap (λ rest. ladder_name X 0 ∷ rest)
      (map-append name (flat_map sources_at (stages_of stages)) (flat_map gates_at (stages_of stages))
      ∙ ap₂ ◌++◌ (map_flat name sources_at (stages_of stages))
      (map_flat name gates_at (stages_of stages) ∙ sym (map_flat (λ (gate : NamedGate). gate.name) stage_gates (stages_of stages))))

  -- there are five for each stage, and one before
  length_lines : length lines ≡ 5 * stages + 1
  length_lines =
      let mapped = length-map lines place in
      let same = ap length line_places in
      let ranged = length-range_with_len 0 (5 * stages + 1) in
      omega (arith, mapped, same, ranged)

  pub names_total : length (ladder_names stages) ≡ 5 * stages + 1
  names_total =
      let mapped = length-map lines name in
      let same = ap length names_of_lines in
      omega (arith, mapped, same, length_lines)

  -- no line is at a stage behind the last
  abbrev IsAtStage : LadderLine → Type 0
  IsAtStage l = l.stage ≤ stages

  sources_at_stages : (from count : ℕ) → from + count ≤ stages + 1 → All IsAtStage (flat_map sources_at (range_with_len from count))
  sources_at_stages from zero within = All-nil IsAtStage
  sources_at_stages from (suc count) within =
      let here : from ≤ stages = omega arith in
      let later = flat_map sources_at (range_with_len (from + 1) count) in
      All-cons IsAtStage (line P from) (line Q from ∷ later) here (All-cons IsAtStage (line Q from) later here
      (sources_at_stages (from + 1) count (omega arith)))

  gates_at_stages : (from count : ℕ) → from + count ≤ stages + 1 → All IsAtStage (flat_map gates_at (range_with_len from count))
  gates_at_stages from zero within = All-nil IsAtStage
  gates_at_stages from (suc count) within =
      let here : from ≤ stages = omega arith in
      let later = flat_map gates_at (range_with_len (from + 1) count) in
      All-cons IsAtStage (line U from) (line V from ∷ line X from ∷ later) here
      (All-cons IsAtStage (line V from) (line X from ∷ later) here
      (All-cons IsAtStage (line X from) later here (gates_at_stages (from + 1) count (omega arith))))

  lines_at_stages : All IsAtStage lines
  lines_at_stages =
      All-cons IsAtStage (line X 0) (flat_map sources_at (stages_of stages) ++ flat_map gates_at (stages_of stages)) (omega arith)
      (All-append IsAtStage (flat_map sources_at (stages_of stages)) (flat_map gates_at (stages_of stages))
      (sources_at_stages 1 stages (omega arith)) (gates_at_stages 1 stages (omega arith)))

  -- the line at a place has it
  place_at : (at : ℕ) (d : LadderLine) → at < length lines → place (get_or lines at d) ≡ at
  place_at at d within =
      let ranged = get_or-range_with_len 0 (5 * stages + 1) at 0 (omega (arith, length_lines)) in
      sym (get_or-map place lines at d 0 within) ∙ ap (λ (list : List ℕ). get_or list at 0) line_places ∙ ranged ∙ omega arith

  -- so lines at two places have two names
  lines_differ : stages < 2 ^ 32 → Differ (map name lines)
  lines_differ fits i j d before within same =
      let long = length-map lines name in
      let one = get_or lines i (line X 0) in
      let two = get_or lines j (line X 0) in
      let in_i : i < length lines = omega (arith, long) in
      let in_j : j < length lines = omega (arith, long) in
      let named : name one ≡ name two = sym (get_or-map name lines i (line X 0) d in_i) ∙ same ∙ get_or-map name lines j (line X 0) d in_j in
      let at_one = lines_at_stages i (line X 0) in_i in
      let at_two = lines_at_stages j (line X 0) in_j in
      let once = name_once one.letter two.letter one.stage two.stage (omega (arith, at_one)) (omega (arith, at_two)) named in
      let placed : place one ≡ place two = λ k. place_of (once.letter k) (once.number k) in
      let first = place_at i (line X 0) in_i in
      let second = place_at j (line X 0) in_j in
      omega (arith, placed, first, second)

  -- no two lines have one name
  pub names_differ : stages < 2 ^ 32 → Differ (ladder_names stages)
  names_differ fits = subst Differ names_of_lines (lines_differ fits)
