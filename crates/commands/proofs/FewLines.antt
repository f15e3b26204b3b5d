-- A list that has each of its lines once has no more lines than the circuit.
use Rattle.std.proofs.Common.{◌≡◌, ◌≢◌, ℕ, ◌<◌, ◌≤◌, List, length, map, ap, sym, ◌∙◌, subst, arith}
use Rattle.std.specs.Prelude.{All, AllPairs}
use Rattle.std.proofs.lemmas.Bool.{eqb-true}
use Rattle.std.proofs.lemmas.Bool.Decides.{Decides-eqb}
use Rattle.std.proofs.lemmas.List.{get_or-map, length-map}
use Rattle.std.proofs.lemmas.List.Elements.{All-contains}
use Rattle.std.proofs.lemmas.Map.Made.{IsDistinct-from_AllPairs}
use Rattle.std.proofs.lemmas.Map.Steps.{length-le_from_distinct_below}
use Rattle.std.proofs.lemmas.Map.Views.{Contains-from_any}
use Rattle.pd_base.specs.declared.ids.LineId.{LineId}
use Rattle.netlist.specs.Circuit.{Circuit, HasLines, line_count}

-- the number of a line
abbrev number : LineId → ℕ
number line = line.0

-- lines of one number are one line
one_line : (a b : LineId) → number a ≡ number b → a ≡ b
one_line a b same = ap (λ (n : ℕ). record { 0 = n }) same

module _ (lines : List LineId) where
  -- lines that differ have numbers that differ
  numbers_differ : AllPairs (λ a b. a ≢ b) lines → AllPairs (λ a b. a ≢ b) (map number lines)
  numbers_differ once i j d before within same =
      let inside : j < length lines = subst (λ (n : ℕ). j < n) (length-map lines number) within in
      once i j (record { 0 = d }) before inside
      (one_line _ _ (sym (get_or-map number lines i (record { 0 = d }) d (omega arith)) ∙ same
      ∙ get_or-map number lines j (record { 0 = d }) d inside))

  -- the numbers of lines of a circuit are below the number of its lines
  numbers_below : (c : Circuit) → HasLines c lines → All (λ n. n < line_count c) (map number lines)
  numbers_below c in_circuit k d within =
      let inside : k < length lines = subst (λ (n : ℕ). k < n) (length-map lines number) within in
      subst (λ (n : ℕ). n < line_count c) (sym (get_or-map number lines k (record { 0 = d }) d inside))
      (in_circuit k (record { 0 = d }) inside)

  -- so many lines at most
  pub few_lines : (c : Circuit) → AllPairs (λ a b. a ≢ b) lines → HasLines c lines → length lines ≤ line_count c
  few_lines c once in_circuit =
      subst (λ (n : ℕ). n ≤ line_count c) (length-map lines number)
      (length-le_from_distinct_below (map number lines) (line_count c)
      (IsDistinct-from_AllPairs Decides-eqb (map number lines) (numbers_differ once))
      (λ q found. All-contains (λ n. n < line_count c) (map number lines) q (numbers_below c in_circuit)
      (Contains-from_any eqb-true q (map number lines) found)))
