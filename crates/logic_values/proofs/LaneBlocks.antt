-- The vectors of a block of tests are put into their lanes one by one, and the values of all lines stand there behind the pass over the gates.
use Rattle.std.proofs.Common.{◌≡◌, ◌≢◌, ⊎_elim, ℕ, ◌+◌, ◌-◌, ◌<◌, ◌≤◌, Bool, List, length, sym, ap, subst, ◌∙◌, arith, All}
use Rattle.std.specs.Prelude.{slice_get, Some}
use Rattle.std.proofs.lemmas.Bool.{cases_eq}
use Rattle.std.proofs.lemmas.Option.{get_or_from_slice_get, same_Some, slice_get_within}
use Rattle.pd_base.specs.declared.test.Test.{Test}
use Rattle.netlist.specs.Circuit.{Circuit, line_count, source_count}
use Rattle.netlist.specs.Values.{value}
use Rattle.logic_values.specs.Blocks.{AreInLanes, AreValuesIn, vector_of}
use Rattle.logic_values.specs.Lanes.{IsInLane, lane_bit}
use Rattle.logic_values.specs.declared.blocks.PairVector.{PairVector}

-- the vectors so far stay in their lanes when one more is put into its own
pub one_more_lane : (which : PairVector) (begin place : ℕ) (tests : List Test) (old new : List ℕ) → begin ≤ place → place < begin + 64
    → (own : Test) → slice_get tests place ≡ Some own → AreInLanes which begin place tests old
    → IsInLane new (place - begin) (vector_of which own.pair)
    → ((other line : ℕ) → other < 64 → other ≢ place - begin → lane_bit new other line ≡ lane_bit old other line)
    → AreInLanes which begin (place + 1) tests new
one_more_lane which begin place tests old new from few own at are there others other test first last is =
    ⊎_elim
    (λ (same : other ≡ place).
    let its : own ≡ test = same_Some own test (sym at ∙ ap (slice_get tests) (sym same) ∙ is) in
    subst (λ (t : Test). IsInLane new (other - begin) (vector_of which t.pair)) its
    (subst (λ (p : ℕ). IsInLane new (p - begin) (vector_of which own.pair)) (sym same) there))
    (λ (differs : other ≢ place).
    let before : other < place = omega arith in
    let lane : other - begin ≢ place - begin = λ e. differs (omega arith) in
    record {
      each = λ source within.
          others (other - begin) source (omega arith) lane ∙ (are other test first before is).each source within;
    })
    (cases_eq other place)

-- where the lines have their values under each vector that stands in a lane, they have those under the vectors of the block
pub block_values : (c : Circuit) (which : PairVector) (begin end : ℕ) (tests : List Test) → end ≤ begin + 64
    → All (λ test. length (vector_of which test.pair) ≡ source_count c) tests → (put words : List ℕ) → AreInLanes which begin end tests put
    → ((lane : ℕ) (vector : List Bool) → lane < 64 → length vector ≡ source_count c → IsInLane put lane vector
    → (line : ℕ) → line < line_count c → lane_bit words lane line ≡ value c vector line)
    → AreValuesIn c which begin end tests words
block_values c which begin end tests few fit put words lanes values place test first last is =
    let fits : length (vector_of which test.pair) ≡ source_count c =
    subst (λ (t : Test). length (vector_of which t.pair) ≡ source_count c) (get_or_from_slice_get tests place test test is)
    (fit place test (slice_get_within tests place test is)) in
    values (place - begin) (vector_of which test.pair) (omega arith) fits (lanes place test first last is)
