-- How long the names of a circuit's lines are.
use Rattle.std.proofs.Common.{◌≤◌, ℕ, List, [], ◌∷◌, ◌++◌, length, map, ap, ⊎_elim, arith}
use Rattle.std.specs.List.{AllByRecursion}
use Rattle.std.proofs.lemmas.Bool.{cases_lt}
use Rattle.std.proofs.lemmas.List.{get_or_past}
use Rattle.std.proofs.lemmas.List.Elements.{recursion_from_All}
use Rattle.std.proofs.lemmas.Option.{slice_get-get_or}
use Rattle.pd_base.specs.declared.ids.LineId.{LineId}
use Rattle.netlist.specs.declared.limits.TheConstants.{MOST_NAME_BYTES}
use Rattle.netlist.specs.Circuit.{Circuit, line_names}
use Rattle.netlist.specs.Lawful.{IsCircuit}
use Rattle.netlist.specs.Names.{name_at, longest_name, IsName}
use Rattle.netlist.proofs.RankOrder.{below_greatest}

-- what holds of each item holds of each in front
each_in_front : {X : Type 0} (P : X → Type 0) (xs ys : List X) → AllByRecursion P (xs ++ ys) → AllByRecursion P xs
each_in_front P [] ys all = tt
each_in_front P (x ∷ xs) ys all = (all.0, each_in_front P xs ys all.1)

-- no name is longer than the longest, and past the last line there is none
pub below_longest : (c : Circuit) (line : ℕ) → length (name_at c line) ≤ longest_name c
below_longest c line =
    ⊎_elim
    (λ within. below_greatest length (line_names c) line (name_at c line) (slice_get-get_or (line_names c) line [] within))
    (λ past. omega (arith, ap length (get_or_past (line_names c) line [] past)))
    (cases_lt line (length (line_names c)))

module _ (c : Circuit) (circuit : IsCircuit c) where
  -- a name is short
  pub name_within : (line : ℕ) → length (name_at c line) ≤ MOST_NAME_BYTES
  name_within line =
      ⊎_elim
      (λ within. (circuit.names line [] within).few_bytes)
      (λ past. omega (arith, ap length (get_or_past (line_names c) line [] past)))
      (cases_lt line (length (line_names c)))

  -- so are those of lines
  pub names_within : (lines : List LineId) → AllByRecursion (λ name. length name ≤ MOST_NAME_BYTES) (map (λ (line : LineId). name_at c line.0) lines)
  names_within [] = tt
  names_within (line ∷ lines) = (name_within line.0, names_within lines)

  short_names : (names : List (List ℕ)) → AllByRecursion IsName names → AllByRecursion (λ name. length name ≤ MOST_NAME_BYTES) names
  short_names [] each = tt
  short_names (name ∷ names) each = (each.0.few_bytes, short_names names each.1)

  -- and those of the sources
  pub sources_within : AllByRecursion (λ name. length name ≤ MOST_NAME_BYTES) c.sources
  sources_within =
      short_names c.sources
      (each_in_front IsName c.sources (map (λ g. g.name) c.gates) (recursion_from_All IsName (line_names c) circuit.names))
