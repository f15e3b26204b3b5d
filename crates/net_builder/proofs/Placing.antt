-- One gate gets its level: what that does to the waits of the others.
use Rattle.std.proofs.Common.{◌≡◌, ◌≢◌, ⊎_elim, ℕ, ◌+◌, ◌-◌, ◌<◌, ◌≤◌, eqb, ltb, cond, List, [], ◌∷◌, ◌++◌, length, replicate, set, get_or, slice_index, slice_index_or, sum_by, All, Contains, refl, sym, ap, ap₂, subst, ◌∙◌, arith}
use Rattle.std.proofs.lemmas.Bool.{cases_lt, cases_eq, cond-true, cond-false, eq-eqb, ne_eqb, le-ltb}
use Rattle.std.proofs.lemmas.List.{get_or-replicate, get_or-set_same, get_or-set_other, get_or_push, get_or_append_left, get_or_past, length_push, length-replicate, length-set}
use Rattle.std.proofs.lemmas.List.Elements.{Contains-push_cases}
use Rattle.std.proofs.lemmas.List.Sums.{sum_by-cons, sum_by-le, sum_by-set}
use Rattle.pd_base.specs.declared.ids.LineId.{LineId}
use Rattle.pd_base.specs.declared.ids.GateId.{GateId}
use Rattle.pd_base.specs.declared.ids.PinRef.{PinRef}
use Rattle.netlist.specs.Greatest.{greatest}
use Rattle.net_builder.specs.Progress.{AreReleased, WaitsForNone, IsPlaced, IsProgress, level_in, levels_at, one_given, one_of_gate, one_without, waiting}
use Rattle.net_builder.specs.Wiring.{NamesReaders, times_named, times_read}
use Rattle.net_builder.proofs.Counting.{greatest-le, sum_by-add}

-- 1 for a pin that reads the line, and else 0
abbrev pub one_read : ℕ → LineId → ℕ
one_read line read = cond (eqb read.0 line) 1 0

-- a pin reads the line that it reads, and no other
pub reads_one : (line : ℕ) (read : LineId) → read.0 ≡ line → one_read line read ≡ 1
reads_one line read same = cond-true (eqb read.0 line) 1 0 (eq-eqb read.0 line same)

reads_none : (line : ℕ) (read : LineId) → read.0 ≢ line → one_read line read ≡ 0
reads_none line read differs = cond-false (eqb read.0 line) 1 0 (ne_eqb read.0 line differs)

-- a level is given, and 0 is none
given_some : (level : ℕ) → level ≢ 0 → one_given level ≡ 1
given_some level some = cond-false (eqb level 0) 0 1 (ne_eqb level 0 some)

pub given_once : (level : ℕ) → one_given level ≤ 1
given_once level =
    ⊎_elim (λ none. omega (arith, ap one_given none)) (λ some. omega (arith, given_some level some)) (cases_eq level 0)

-- the line of a gate waits where it has no level
pub without_level : (sources : ℕ) (levels : List ℕ) (line : ℕ) → sources ≤ line → level_in levels line ≡ 0
    → one_without sources levels line ≡ 1
without_level sources levels line behind none =
    cond-true (eqb (level_in levels line) 0) (one_of_gate sources line) 0 (eq-eqb (level_in levels line) 0 none)
    ∙ cond-false (ltb line sources) 0 1 (le-ltb line sources behind)

-- a line that has a level waits no more
pub with_level : (sources : ℕ) (levels : List ℕ) (line : ℕ) → level_in levels line ≢ 0
    → one_without sources levels line ≡ 0
with_level sources levels line some =
    cond-false (eqb (level_in levels line) 0) (one_of_gate sources line) 0 (ne_eqb (level_in levels line) 0 some)

-- where no pin reads the line, its level does not matter
unread : (levels : List ℕ) (line level : ℕ) (reads : List LineId) → times_read line reads ≡ 0
    → levels_at (set levels line level) reads ≡ levels_at levels reads
unread levels line level [] none = refl
unread levels line level (read ∷ reads) none =
    let split = sum_by-cons (one_read line) read reads in
    let other : read.0 ≢ line = λ same. omega (arith, split, reads_one line read same) in
    ap₂ (λ x xs. x ∷ xs) (get_or-set_other levels line read.0 level 0 other)
    (unread levels line level reads (omega (arith, split)))

module _ (sources : ℕ) (levels : List ℕ) (line level : ℕ) (behind : sources ≤ line) (within : line < length levels)
    (none : level_in levels line ≡ 0) (some : level ≢ 0) where
  -- the level of the line, and of the others
  level_now : level_in (set levels line level) line ≡ level
  level_now = get_or-set_same levels line level 0 within

  level_kept : (other : ℕ) → other ≢ line → level_in (set levels line level) other ≡ level_in levels other
  level_kept other differs = get_or-set_other levels line other level 0 differs

  -- a line stops to wait exactly where it is this one
  one_less : (read : LineId)
      → one_without sources (set levels line level) read.0 + one_read line read ≡ one_without sources levels read.0
  one_less read = ⊎_elim here elsewhere (cases_eq read.0 line)
    where
      here : read.0 ≡ line
          → one_without sources (set levels line level) read.0 + one_read line read ≡ one_without sources levels read.0
      here same =
          let now : level_in (set levels line level) read.0 ≡ level = ap (level_in (set levels line level)) same ∙ level_now in
          let before = without_level sources levels read.0 (omega arith) (ap (level_in levels) same ∙ none) in
          let after = with_level sources (set levels line level) read.0 (λ e. some (sym now ∙ e)) in
          omega (arith, before, after, reads_one line read same)

      elsewhere : (read.0 ≡ line → ⊥)
          → one_without sources (set levels line level) read.0 + one_read line read ≡ one_without sources levels read.0
      elsewhere differs =
          let same = ap (λ l. cond (eqb l 0) (one_of_gate sources read.0) 0) (level_kept read.0 differs) in
          omega (arith, same, reads_none line read differs)

  -- so a gate's pins wait less by those that read the line
  pub less_waiting : (reads : List LineId)
      → waiting sources (set levels line level) reads + times_read line reads ≡ waiting sources levels reads
  less_waiting reads =
      sum_by-add (λ read. one_without sources (set levels line level) read.0) (one_read line)
      (λ read. one_without sources levels read.0) reads one_less

  -- one more level is given
  more_given : sum_by one_given (set levels line level) ≡ sum_by one_given levels + 1
  more_given =
      omega (arith, sum_by-set one_given levels line level 0 within, ap one_given none, given_some level some)

  -- what the pins of a gate read that waits for none has its levels still
  same_levels : (reads : List LineId) → waiting sources levels reads ≡ 0
      → levels_at (set levels line level) reads ≡ levels_at levels reads
  same_levels reads idle = unread levels line level reads (omega (arith, less_waiting reads))

  -- a gate's level stays right
  still_placed : (reads : List LineId) (own : ℕ) → IsPlaced sources levels reads own
      → IsPlaced sources (set levels line level) reads own
  still_placed reads own placed = record {
    none_waits = omega (arith, less_waiting reads, placed.none_waits);
    above = placed.above ∙ ap (λ l. 1 + greatest l) (sym (same_levels reads placed.none_waits));
    no_higher = omega (arith, more_given, placed.no_higher);
  }

  -- and the new one is right
  newly_placed : (reads : List LineId) → waiting sources levels reads ≡ 0 → level ≡ 1 + greatest (levels_at levels reads)
      → ((other : ℕ) → level_in levels other ≤ sum_by one_given levels)
      → IsPlaced sources (set levels line level) reads level
  newly_placed reads idle above low = record {
    none_waits = omega (arith, less_waiting reads);
    above = above ∙ ap (λ l. 1 + greatest l) (sym (same_levels reads idle));
    no_higher =
        omega (
          arith,
          more_given,
          above,
          greatest-le (λ (read : LineId). level_in levels read.0) reads (sum_by one_given levels) (λ read. low read.0),
        );
  }

-- no line has a level yet
none_given : (n line : ℕ) → level_in (replicate n 0) line ≡ 0
none_given n line =
    ⊎_elim (λ low. get_or-replicate n line 0 0 low)
    (λ past. get_or_past (replicate n 0) line 0 (omega (arith, length-replicate {A = ℕ} n 0))) (cases_lt line n)

-- at the start no gate has a level, and each pin that reads a gate waits
pub started : (sources : ℕ) (pins : List (List LineId)) (levels waits : List ℕ) (ready : List GateId)
    → levels ≡ replicate (sources + length pins) 0 → length waits ≡ length pins
    → ((gate : ℕ) → gate < length pins → slice_index waits gate
    ≡ sum_by (λ line. one_of_gate sources line.0) (slice_index_or pins gate []))
    → All (WaitsForNone waits) ready
    → ((gate : ℕ) → gate < length waits → slice_index waits gate ≡ 0 → Contains ready (record { 0 = gate }))
    → IsProgress sources pins levels waits ready
started sources pins levels waits ready zeros long counts idle whole = record {
  level_each = ap length zeros ∙ length-replicate (sources + length pins) 0;
  wait_each = long;
  source_levels = λ line low. none line;
  counted = λ gate known. counts gate known ∙ (λ i. sum_by (λ (read : LineId). all_wait read i) (slice_index_or pins gate []));
  idle = idle;
  awaited = λ gate known idle none. whole gate (omega arith) idle;
  placed = λ gate known some. absurd (some (none (sources + gate)));
}
  where
    none : (line : ℕ) → level_in levels line ≡ 0
    none line = ap (λ l. level_in l line) zeros ∙ none_given (sources + length pins) line

    all_wait : (read : LineId) → one_of_gate sources read.0 ≡ one_without sources levels read.0
    all_wait read =
        sym (cond-true (eqb (level_in levels read.0) 0) (one_of_gate sources read.0) 0
        (eq-eqb (level_in levels read.0) 0 (none read.0)))

module _ (sources : ℕ) (pins : List (List LineId)) (levels waits : List ℕ) (ready : List GateId)
    (progress : IsProgress sources pins levels waits ready) where
  -- no level is higher than levels are given
  pub no_level_above : (line : ℕ) → level_in levels line ≤ sum_by one_given levels
  no_level_above line = ⊎_elim source behind (cases_lt line sources)
    where
      source : line < sources → level_in levels line ≤ sum_by one_given levels
      source low = omega (arith, progress.source_levels line low)

      of_gate : (gate : ℕ) → gate < length pins → line ≡ sources + gate → level_in levels line ≤ sum_by one_given levels
      of_gate gate known same =
          let own = ap (level_in levels) same in
          ⊎_elim (λ none. omega (arith, own)) (λ some. omega (arith, own, (progress.placed gate known some).no_higher))
          (cases_eq (level_in levels (sources + gate)) 0)

      behind : sources ≤ line → level_in levels line ≤ sum_by one_given levels
      behind high =
          ⊎_elim (λ low. of_gate (line - sources) (omega (arith, progress.level_each)) (omega arith))
          (λ past. omega (arith, get_or_past levels line 0 past)) (cases_lt line (length levels))

module _ (sources : ℕ) (pins : List (List LineId)) (levels waits : List ℕ) (ready : List GateId) (gate : GateId)
    (progress : IsProgress sources pins levels waits (ready ++ gate ∷ [])) where
  -- the ready gate waits for none
  pub own_idle : WaitsForNone waits gate
  own_idle =
      subst (WaitsForNone waits) (get_or_push ready gate gate (length ready) refl)
      (progress.idle (length ready) gate (omega (arith, length_push ready gate)))

  -- nor do the others
  pub others_idle : All (WaitsForNone waits) ready
  others_idle k d within =
      subst (WaitsForNone waits) (get_or_append_left ready (gate ∷ []) d k within)
      (progress.idle k d (omega (arith, length_push ready gate)))

  -- another gate that is ready is one of the others
  other_ready : (other : ℕ) → other ≢ gate.0 → Contains (ready ++ gate ∷ []) (record { 0 = other })
      → Contains ready (record { 0 = other })
  other_ready other differs has =
      ⊎_elim (λ one. one) (λ same. absurd (differs (ap (λ (g : GateId). g.0) (sym same))))
      (Contains-push_cases ready gate (record { 0 = other }) has)

  -- a gate that has a level is passed over
  pub passed_over : level_in levels (sources + gate.0) ≢ 0 → IsProgress sources pins levels waits ready
  passed_over given = record {
    level_each = progress.level_each;
    wait_each = progress.wait_each;
    source_levels = progress.source_levels;
    counted = progress.counted;
    idle = others_idle;
    awaited =
        λ other known idle none.
        other_ready other (λ same. given (ap (λ n. level_in levels (sources + n)) (sym same) ∙ none))
        (progress.awaited other known idle none);
    placed = progress.placed;
  }

  -- the gate is one of them, and its line has a place
  pub own_known : gate.0 < length pins
  own_known = omega (arith, own_idle.0, progress.wait_each)

  pub own_within : sources + gate.0 < length levels
  own_within = omega (arith, own_known, progress.level_each)

  -- a level that is one higher than those below the gate is no greater than the number of lines
  pub next_fits : greatest (levels_at levels (slice_index_or pins gate.0 [])) ≤ sources + length pins
  next_fits =
      omega (
        arith,
        greatest-le (λ (read : LineId). level_in levels read.0) (slice_index_or pins gate.0 []) (sum_by one_given levels)
            (λ read. no_level_above sources pins levels waits (ready ++ gate ∷ []) progress read.0),
        sum_by-le one_given 1 levels (λ k d within. given_once (get_or levels k d)),
        progress.level_each,
      )

  module _ (lines : ℕ) (lines_are : lines ≡ sources + length pins) (fanouts : List (List PinRef))
      (named : NamesReaders lines pins fanouts) (none : level_in levels (sources + gate.0) ≡ 0) where
    -- each pin that the fan-out of the line names is one of a gate that waits for the line
    named_read : (other : ℕ) → other < length pins
        → times_named other (slice_index_or fanouts (sources + gate.0) [])
        ≡ times_read (sources + gate.0) (slice_index_or pins other [])
    named_read other known = named.as_often (sources + gate.0) other (omega (arith, own_known)) known

    -- a gate waits by at least as many pins as the fan-out names
    pub enough_wait : (other : ℕ) → other < length waits
        → times_named other (slice_index_or fanouts (sources + gate.0) []) ≤ slice_index waits other
    enough_wait other known =
        let here : other < length pins = omega (arith, progress.wait_each) in
        let less = less_waiting sources levels (sources + gate.0) 1 (omega arith) own_within none (λ e. omega arith)
        (slice_index_or pins other []) in
        omega (arith, progress.counted other here, less, named_read other here)

    module _ (level : ℕ) (is : level ≡ 1 + greatest (levels_at levels (slice_index_or pins gate.0 []))) (waits_left : List ℕ)
        (ready_now : List GateId)
        (released : AreReleased (slice_index_or fanouts (sources + gate.0) []) waits ready waits_left ready_now) where
      -- the levels now
      abbrev levels_now : List ℕ
      levels_now = set levels (sources + gate.0) level

      -- a gate's level is above 0
      above_none : level ≢ 0
      above_none same = omega (arith, is)

      -- the line of another gate is another line
      other_line : (other : ℕ) → other ≢ gate.0 → level_in levels_now (sources + other) ≡ level_in levels (sources + other)
      other_line other differs =
          level_kept sources levels (sources + gate.0) level (omega arith) own_within none above_none (sources + other)
          (λ same. differs (omega arith))

      -- the line of the gate has the level
      own_line : level_in levels_now (sources + gate.0) ≡ level
      own_line = level_now sources levels (sources + gate.0) level (omega arith) own_within none above_none

      now_counted : (other : ℕ) → other < length pins
          → slice_index waits_left other ≡ waiting sources levels_now (slice_index_or pins other [])
      now_counted other known =
          let less = less_waiting sources levels (sources + gate.0) level (omega arith) own_within none above_none
          (slice_index_or pins other []) in
          omega (
            arith,
            progress.counted other known,
            less,
            named_read other known,
            released.fewer other (omega (arith, progress.wait_each)),
          )

      now_awaited : (other : ℕ) → other < length pins → slice_index waits_left other ≡ 0
          → level_in levels_now (sources + other) ≡ 0 → Contains ready_now (record { 0 = other })
      now_awaited other known idle open_line =
          ⊎_elim waited_none (released.found other (omega (arith, progress.wait_each)) idle)
          (cases_eq (slice_index waits other) 0)
        where
          differs : other ≢ gate.0
          differs same =
              above_none (sym own_line ∙ ap (λ n. level_in levels_now (sources + n)) (sym same) ∙ open_line)

          waited_none : slice_index waits other ≡ 0 → Contains ready_now (record { 0 = other })
          waited_none before =
              released.kept (record { 0 = other })
              (other_ready other differs (progress.awaited other known before (sym (other_line other differs) ∙ open_line)))

      now_placed : (other : ℕ) → other < length pins → level_in levels_now (sources + other) ≢ 0
          → IsPlaced sources levels_now (slice_index_or pins other []) (level_in levels_now (sources + other))
      now_placed other known given = ⊎_elim itself another (cases_eq other gate.0)
        where
          itself : other ≡ gate.0
              → IsPlaced sources levels_now (slice_index_or pins other []) (level_in levels_now (sources + other))
          itself same =
              let idle : waiting sources levels (slice_index_or pins gate.0 []) ≡ 0 =
              omega (arith, progress.counted gate.0 own_known, own_idle.1) in
              let new = newly_placed sources levels (sources + gate.0) level (omega arith) own_within none above_none
              (slice_index_or pins gate.0 []) idle is (no_level_above sources pins levels waits (ready ++ gate ∷ []) progress) in
              let here = subst (IsPlaced sources levels_now (slice_index_or pins gate.0 [])) (sym own_line) new in
              subst (λ n. IsPlaced sources levels_now (slice_index_or pins n []) (level_in levels_now (sources + n))) (sym same)
              here

          another : (other ≡ gate.0 → ⊥)
              → IsPlaced sources levels_now (slice_index_or pins other []) (level_in levels_now (sources + other))
          another differs =
              let same = other_line other differs in
              let before = progress.placed other known (λ e. given (same ∙ e)) in
              let after = still_placed sources levels (sources + gate.0) level (omega arith) own_within none above_none
              (slice_index_or pins other []) (level_in levels (sources + other)) before in
              subst (IsPlaced sources levels_now (slice_index_or pins other [])) (sym same) after

      -- the gate has its level, and the pins on its line are released
      pub placed_one : IsProgress sources pins levels_now waits_left ready_now
      placed_one = record {
        level_each = length-set levels (sources + gate.0) level ∙ progress.level_each;
        wait_each = released.wait_each ∙ progress.wait_each;
        source_levels =
            λ line low.
            level_kept sources levels (sources + gate.0) level (omega arith) own_within none above_none line
            (λ same. omega arith)
            ∙ progress.source_levels line low;
        counted = now_counted;
        idle = released.idle others_idle;
        awaited = now_awaited;
        placed = now_placed;
      }
