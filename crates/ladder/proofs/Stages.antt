-- The gates of a ladder use only names that stand before their own, and the last line is one of it.
use Rattle.std.proofs.Common.{◌≡◌, ◌+◌, ◌-◌, ◌*◌, ◌<◌, ◌≤◌, ℕ, zero, suc, List, [], ◌∷◌, ◌++◌, length, map, get_or, refl, sym, ◌∙◌, subst, arith}
use Rattle.std.specs.List.{All, Contains, flat_map, range_with_len}
use Rattle.std.proofs.lemmas.List.Elements.{All-append, All-cons, All-from_recursion, All-nil, Contains-append_left, Contains-append_right, Contains-push}
use Rattle.std.proofs.lemmas.List.FromFn.{get_or-range_with_len, length-range_with_len}
use Rattle.netlist.specs.Description.{NamedGate}
use Rattle.net_builder.proofs.ByLine.{map_flat}
use Rattle.ladder.specs.declared.line.Letter.TheVariants.{X, P, Q, U, V}
use Rattle.ladder.specs.Ladder.{ladder_gates, ladder_name, ladder_names, ladder_sources, stage_gates, stage_sources, stages_of}
use Rattle.ladder.proofs.Order.{UseEarlier}

-- a list of names
abbrev Names : Type 0
Names = List (List ℕ)

module _ {A B : Type 0} (f : A → List B) where
  -- a piece's element is one of all pieces together
  in_piece : (xs : List A) (place : ℕ) (x : A) (y : B) → place < length xs → get_or xs place x ≡ x → Contains (f x) y
      → Contains (flat_map f xs) y
  in_piece [] place x y within is own = absurd (omega arith)
  in_piece (first ∷ xs) zero x y within is own =
      Contains-append_left (f first) (flat_map f xs) y (subst (λ (piece : A). Contains (f piece) y) (sym is) own)
  in_piece (first ∷ xs) (suc place) x y within is own =
      Contains-append_right (f first) (flat_map f xs) y (in_piece xs place x y (omega arith) is own)

  in_pieces : (xs : List A) (x : A) (y : B) → Contains xs x → Contains (f x) y → Contains (flat_map f xs) y
  in_pieces xs x y has own = in_piece xs has.0 x y has.1 has.2 own

-- a stage is one of a ladder's
is_stage : (stages stage : ℕ) → 1 ≤ stage → stage ≤ stages → Contains (stages_of stages) stage
is_stage stages stage some few =
    let long = length-range_with_len 1 stages in
    (stage - 1, omega (arith, long), get_or-range_with_len 1 stages (stage - 1) stage (omega arith) ∙ omega arith)

-- two names that are known
both_known : (known : Names) (first second : List ℕ) → Contains known first → Contains known second
    → All (Contains known) (first ∷ second ∷ [])
both_known known first second has_first has_second =
    All-cons (Contains known) first (second ∷ []) has_first (All-cons (Contains known) second [] has_second (All-nil (Contains known)))

-- a name that is known still is when one more is
still_known : (known : Names) (name more : List ℕ) → Contains known name → Contains (known ++ more ∷ []) name
still_known known name more = Contains-append_left known (more ∷ []) name

-- the sources of these stages are known
abbrev KnowsSources : Names → ℕ → ℕ → Type 0
KnowsSources known from count =
    (stage : ℕ) → from ≤ stage → stage < from + count
    → Contains known (ladder_name P stage) × Contains known (ladder_name Q stage)

-- stages in order, the line before them and their sources being known
stages_use : (from count : ℕ) (known : Names) → 1 ≤ from → Contains known (ladder_name X (from - 1)) → KnowsSources known from count
    → UseEarlier known (flat_map stage_gates (range_with_len from count))
stages_use from zero known some before sources = tt
stages_use from (suc count) known some before sources =
    let first = known ++ ladder_name U from ∷ [] in
    let second = first ++ ladder_name V from ∷ [] in
    let third = second ++ ladder_name X from ∷ [] in
    let own = sources from (omega arith) (omega arith) in
    let on : (name : List ℕ) → Contains known name → Contains third name =
    λ name has. still_known second name (ladder_name X from)
    (still_known first name (ladder_name V from) (still_known known name (ladder_name U from) has)) in
    let back : from + 1 - 1 ≡ from = omega arith in (
      both_known known (ladder_name X (from - 1)) (ladder_name P from) before own.0,
      (
        both_known first (ladder_name X (from - 1)) (ladder_name Q from)
            (still_known known (ladder_name X (from - 1)) (ladder_name U from) before)
            (still_known known (ladder_name Q from) (ladder_name U from) own.1),
        (
          both_known second (ladder_name U from) (ladder_name V from)
              (still_known first (ladder_name U from) (ladder_name V from) (Contains-push known (ladder_name U from)))
              (Contains-push first (ladder_name V from)),
          stages_use (from + 1) count third (omega arith)
              (subst (λ (stage : ℕ). Contains third (ladder_name X stage)) (sym back) (Contains-push second (ladder_name X from)))
              (λ stage low high.
              let has = sources stage (omega arith) (omega arith) in
              (on (ladder_name P stage) has.0, on (ladder_name Q stage) has.1)),
        ),
      ),
    )

-- a source of a stage is one of the ladder
source_known : (stages stage : ℕ) (name : List ℕ) → 1 ≤ stage → stage ≤ stages → Contains (stage_sources stage) name
    → Contains (ladder_sources stages) name
source_known stages stage name some few own =
    Contains-append_right (ladder_name X 0 ∷ []) (flat_map stage_sources (stages_of stages)) name
    (in_pieces stage_sources (stages_of stages) stage name (is_stage stages stage some few) own)

-- so the gates of a ladder use names of sources and of gates before them
pub ladder_uses : (stages : ℕ) → UseEarlier (ladder_sources stages) (ladder_gates stages)
ladder_uses stages =
    stages_use 1 stages (ladder_sources stages) (omega arith) (0, omega arith, refl)
    (λ stage low high. (
      source_known stages stage (ladder_name P stage) low (omega arith) (0, omega arith, refl),
      source_known stages stage (ladder_name Q stage) low (omega arith) (1, omega arith, refl),
    ))

-- the line that leaves the last stage is one of the ladder
pub output_known : (stages : ℕ) → 1 ≤ stages → Contains (ladder_names stages) (ladder_name X stages)
output_known stages some =
    let name_of = λ (gate : NamedGate). gate.name in
    Contains-append_right (ladder_sources stages) (map name_of (ladder_gates stages)) (ladder_name X stages)
    (subst (λ (list : Names). Contains list (ladder_name X stages)) (sym (map_flat name_of stage_gates (stages_of stages)))
    (in_pieces (λ (stage : ℕ). map name_of (stage_gates stage)) (stages_of stages) stages (ladder_name X stages)
    (is_stage stages stages some (omega arith)) (2, omega arith, refl)))

-- a gate has two pins
abbrev pub HasTwoPins : NamedGate → Type 0
HasTwoPins gate = length gate.arguments ≡ 2

-- the three gates of each stage have
two_pins_at : (stage : ℕ) → All HasTwoPins (stage_gates stage)
two_pins_at stage = All-from_recursion HasTwoPins (stage_gates stage) (refl, (refl, (refl, tt)))

two_pins_from : (from count : ℕ) → All HasTwoPins (flat_map stage_gates (range_with_len from count))
two_pins_from from zero = All-nil HasTwoPins
two_pins_from from (suc count) =
    All-append HasTwoPins (stage_gates from) (flat_map stage_gates (range_with_len (from + 1) count)) (two_pins_at from)
    (two_pins_from (from + 1) count)

pub two_pins : (stages : ℕ) → All HasTwoPins (ladder_gates stages)
two_pins stages = two_pins_from 1 stages

-- there are three for each stage
gate_total_from : (from count : ℕ) → length (flat_map stage_gates (range_with_len from count)) ≡ 3 * count
gate_total_from from zero = refl
gate_total_from from (suc count) = let rest = gate_total_from (from + 1) count in omega (arith, rest)

pub gate_total : (stages : ℕ) → length (ladder_gates stages) ≡ 3 * stages
gate_total stages = gate_total_from 1 stages
