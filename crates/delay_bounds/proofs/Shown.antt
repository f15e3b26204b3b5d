-- What the words and the earliest passes tell together is what the log shows; and a pass bounds the length of the path.
use Rattle.std.proofs.Common.{◌≡◌, ⊎_elim, ℕ, pos, ◌+◌, ◌*◌, ◌≤◌, ◌<◌, List, length, slice_get, Option, Some, None, All, arith}
use Rattle.std.specs.Prelude.{slice_index_or}
use Rattle.std.proofs.lemmas.Bool.{cases_lt}
use Rattle.std.proofs.lemmas.Int.{ints}
use Rattle.std.proofs.lemmas.Option.{slice_get_cases, slice_get_within}
use Rattle.pd_base.specs.declared.fault.Direction.{Direction}
use Rattle.pd_base.specs.declared.test.Test.{Test}
use Rattle.netlist.specs.Circuit.{Circuit}
use Rattle.netlist.specs.Lawful.{IsCircuit}
use Rattle.netlist.specs.Paths.{IsPath, end_of, length_of}
use Rattle.netlist.proofs.Evaluation.{all_at_place}
use Rattle.path_laws.proofs.RobustPath.{robust_detects}
use Rattle.runs.specs.declared.run.ListedPath.{ListedPath}
use Rattle.test_grade.specs.declared.kind_asked.KindAsked.TheVariants.{Covering}
use Rattle.test_grade.specs.Serving.{IsMatrix, fault_place}
use Rattle.test_grade.proofs.Blocks.{place_below}
use Rattle.delay_bounds.specs.Bounds.{AreBounds, BoundsLength, IsBound, IsShown}
use Rattle.delay_bounds.specs.Least.{IsLeast}
use Rattle.delay_bounds.specs.Inside.Earliest.{AreEarliest, AreLeast, IsTold, PassesEarly, time_of}
use Rattle.delay_bounds.specs.declared.log_row.LogRow.{LogRow}
use Rattle.delay_bounds.proofs.Leasts.{least_below, least_holds, least_through}

module _ (c : Circuit) (is : IsCircuit c) (tests : List Test) (log : List LogRow) where
  -- a test that covers a path and passes bounds its length: were it longer, what the test samples at its end would be wrong
  shown_bounds : (listed : ListedPath) (direction : Direction) (time : ℕ) → IsPath c listed.path → IsShown c tests log listed direction time
      → BoundsLength c tests log listed.path time
  shown_bounds listed direction time path shown delays agrees =
      ⊎_elim
      (λ (late : time < length_of delays listed.path).
      absurd (robust_detects c is listed.path direction shown.test.pair path.prefix shown.covers delays (pos time) (omega (arith, ints))
      (agrees.each shown.place shown.test time (record { 0 = end_of c listed.path }) shown.at shown.passes path.observed)))
      (λ within. within)
      (cases_lt time (length_of delays listed.path))

  module _ (paths : List ListedPath) (words : List ℕ) (matrix : IsMatrix Covering c paths tests (length tests) words)
      (times : List (Option ℕ)) (count : length times ≡ length tests) (are : AreEarliest log (length log) times) where
    module _ (place : ℕ) (listed : ListedPath) (direction : Direction) (stands : slice_get paths place ≡ Some listed) where
      -- what is told of a fault is shown
      told_shown : (time : ℕ) → IsTold words (2 * length paths) (fault_place place direction) times (length times) time
          → IsShown c tests log listed direction time
      told_shown time told =
          let early = told.early in
          ⊎_elim
          (λ found. by found.0 found.2)
          (λ past. let behind = past.0 in absurd (omega arith))
          (slice_get_cases tests told.place).1
        where
          by : (test : Test) → slice_get tests told.place ≡ Some test → IsShown c tests log listed direction time
          by test at =
              let early = told.early in
              let passes = least_holds (PassesEarly log (length log) (told.place + 1)) (time_of times told.place) time
              (are.each told.place early) told.is_its in
              record {
                place = told.place;
                test = test;
                at = at;
                covers = (matrix.each told.place test place listed direction (slice_get_within tests told.place test at) at stands).0 told.serves_it;
                passes = passes.passes;
              }

      -- and for what is shown a time is told that is no later
      shown_told : (time : ℕ) → IsShown c tests log listed direction time
          → (lesser : ℕ) × (IsTold words (2 * length paths) (fault_place place direction) times (length times) lesser × (lesser ≤ time))
      shown_told time shown =
          let inside = slice_get_within tests shown.place shown.test shown.at in
          let within : shown.place < length times = omega arith in
          let early : PassesEarly log (length log) (shown.place + 1) time = record {
            passes = shown.passes;
            early = slice_get_within log shown.passes.place shown.passes.row shown.passes.at;
          } in
          let found = least_below (PassesEarly log (length log) (shown.place + 1)) (time_of times shown.place) time
          (are.each shown.place within) early in (
            found.0,
            (
              record {
                place = shown.place;
                early = within;
                serves_it = (matrix.each shown.place shown.test place listed direction inside shown.at stands).1 shown.covers;
                is_its = found.1.0;
              },
              found.1.1,
            ),
          )

      -- so the least time that is told is the fault's bound
      bound_of : (bound : Option ℕ) → IsPath c listed.path
          → IsLeast (IsTold words (2 * length paths) (fault_place place direction) times (length times)) bound
          → IsBound c tests log listed direction bound
      bound_of bound path least =
          let shown = least_through (IsTold words (2 * length paths) (fault_place place direction) times (length times))
          (IsShown c tests log listed direction) bound least told_shown shown_told in
          record {
            least = shown;
            holds = λ time same. shown_bounds listed direction time path
                (least_holds (IsShown c tests log listed direction) bound time shown same);
          }

    -- and those of all faults are their bounds
    pub bounds_told : (bounds : List (Option ℕ)) → All (λ listed. IsPath c listed.path) paths
        → AreLeast words (2 * length paths) times (2 * length paths) bounds → AreBounds c tests log paths bounds
    bounds_told bounds all least = record {
      one_each = least.one_each;
      each = λ place listed direction stands.
          bound_of place listed direction stands (slice_index_or bounds (fault_place place direction) None)
          (all_at_place (λ (l : ListedPath). IsPath c l.path) paths place listed all stands)
          (least.each (fault_place place direction)
          (place_below place direction (length paths) (slice_get_within paths place listed stands)));
    }
