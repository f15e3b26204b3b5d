-- The first line over the limit of levels is the line of the first gate that is.
use Rattle.std.proofs.Common.{◌≡◌, inl, inr, ℕ, ◌+◌, ◌<◌, ◌≤◌, List, length, get_or, slice_get, Some, sym, ap, ◌∙◌, arith}
use Rattle.std.proofs.lemmas.Bool.{cases_lt}
use Rattle.std.proofs.lemmas.List.{length-map}
use Rattle.netlist.specs.declared.limits.TheConstants.{MOST_LINES}
use Rattle.netlist.specs.Circuit.{Circuit, gate_count, gate_line, line_count, source_count}
use Rattle.netlist.specs.Description.{AreNamed, Mention, described, gate_mentions, gate_on, gates, names_by_line, IsWithinLimits}
use Rattle.netlist.specs.Greatest.{greatest}
use Rattle.netlist.specs.Lawful.{IsLoopFree}
use Rattle.netlist.specs.Levels.{level, line_levels}
use Rattle.netlist.specs.Statements.{Numbered}
use Rattle.netlist.proofs.Evaluation.{value_at_source}
use Rattle.netlist.proofs.StoredLists.{by_line-at, by_line-length}
use Rattle.net_builder.specs.Depth.{IsFirstOver}
use Rattle.net_builder.specs.Refusals.{RefusesDepth, RefusesLoop}
use Rattle.net_builder.specs.Faults.{IsFirstLooped}
use Rattle.net_builder.proofs.Circuits.{defined_lines}
use Rattle.net_builder.proofs.Exclusive.{count_of_mentions}

-- as many gates are mentioned as the circuit has
pub gates_mentioned : (st : List Numbered) → length (gate_mentions st) ≡ gate_count (described st)
gates_mentioned st = count_of_mentions st ∙ sym (length-map (gates st) (gate_on (names_by_line st)))

-- a circuit within the limits has few lines
pub few_lines : (st : List Numbered) → IsWithinLimits st → line_count (described st) ≤ MOST_LINES
few_lines st limits = omega (arith, defined_lines st, limits.few_lines)

-- the first looped gate
pub refuses_loop : (st : List Numbered) → AreNamed st → (gate : ℕ) → IsFirstLooped (described st) gate → (mention : Mention)
    → slice_get (gate_mentions st) gate ≡ Some mention → RefusesLoop st mention
refuses_loop st named gate looped mention place = record {
  named = named;
  looped = record { gate = gate; place = place; is = looped.looped; first = looped.first };
}

module _ (st : List Numbered) (levels : List ℕ) (are : levels ≡ line_levels (described st)) where
  abbrev c : Circuit
  c = described st

  -- there is a level for each line
  pub levels_counted : length levels ≡ line_count c
  levels_counted = by_line-length (level c) (line_count c) levels are

  -- which is the level of the line
  level_at : (line : ℕ) → line < line_count c → get_or levels line 0 ≡ level c line
  level_at line within = by_line-at (level c) (line_count c) levels are line 0 within

  module _ (deep : ℕ) (over : IsFirstOver levels deep) where
    -- a line over the limit is no source
    pub no_source : source_count c ≤ deep
    no_source =
        elim (cases_lt deep (source_count c)) [
          | inl source ↦
              let none : level c deep ≡ 0 = value_at_source c (λ _. 0) (λ gate found. 1 + greatest found) deep source in
              absurd (omega (arith, level_at deep (omega (arith, over.within, levels_counted)), over.over, none))
          | inr gate ↦ gate
        ]

    -- but that of a gate
    pub is_gate : (gate : ℕ) → gate + source_count c ≡ deep → gate < length (gate_mentions st)
    is_gate gate here = omega (arith, over.within, levels_counted, gates_mentioned st)

    -- which is the first
    pub refuses_depth : AreNamed st → IsLoopFree c → (gate : ℕ) → gate + source_count c ≡ deep → (mention : Mention)
        → slice_get (gate_mentions st) gate ≡ Some mention → RefusesDepth st mention
    refuses_depth named loop_free gate here mention place =
        let line : gate_line c gate ≡ deep = omega arith in
        let level_here = ap (level c) line in
        let counted = levels_counted in
        record {
          named = named;
          loop_free = loop_free;
          deep = record {
            gate = gate;
            place = place;
            is = omega (arith, level_here, level_at deep (omega (arith, over.within)), over.over);
            first = λ earlier before high.
                let other = gate_line c earlier in
                let below : other < deep = omega arith in
                omega (arith, high, level_at other (omega (arith, over.within)), over.first other below);
          };
        }
