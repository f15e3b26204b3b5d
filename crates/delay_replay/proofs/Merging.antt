-- The pass over the changes at a gate's pins, soonest first: how it begins, how one change is passed, and what stands at its end.
use Rattle.std.proofs.Common.{◌≡◌, ℕ, ◌+◌, ◌≤◌, ℤ, pos, ◌-ℤ◌, ◌<ℤ◌, ◌≤ℤ◌, Bool, false, not, List, [], length, get_or, sym, ◌∙◌, arith}
use Rattle.std.specs.BinaryHeap.{IsUpperBound}
use Rattle.std.specs.List.{All}
use Rattle.std.specs.Ordering.{is_lt, int_cmp}
use Rattle.std.proofs.lemmas.Int.{ints, by_lt_z}
use lib.Signed.{≤ℤ_refl, <ℤ-≤ℤ_trans, clash_ℤ}
use Rattle.std.proofs.lemmas.List.Elements.{All-weaker, All-from_recursion}
use Rattle.netlist.specs.declared.kind.GateKind.{GateKind}
use Rattle.netlist.specs.Values.{gate_value}
use Rattle.delay_replay.specs.declared.pin_changes.PinChange.{PinChange}
use Rattle.delay_replay.specs.declared.gate.WaveFault.{WaveFault}
use Rattle.delay_replay.specs.declared.gate.WaveFault.TheVariants.{TooMany, NoMemory}
use Rattle.delay_replay.specs.declared.gate.TheConstants.{MOST_CHANGES}
use Rattle.delay_replay.specs.Changes.{Changes, AreChangesOf, AreTimesRising, wave_at}
use Rattle.delay_replay.specs.GateWaves.{RefusesWave}
use Rattle.delay_replay.specs.PinChanges.{one, ones, sooner, IsPinChange, IsBeforeAll, AreCounted, AreAmong, PassesChange}
use Rattle.delay_replay.specs.AddedChanges.{IsTurned, RefusesChange}
use Rattle.delay_replay.proofs.ChangeTimes.{over_by_one}
use Rattle.delay_replay.proofs.Turning.{unturned}
use Rattle.delay_replay.proofs.NextChanges.{passed_each, passed_one, passed_counted, passed_among, next_each, next_later, still_counted}

-- The wave is the gate's up to the soonest change, and from that one on the pins' values are told by the store.
pub record IsMerged (waves : List Changes) (values : ℤ → List Bool) (kind : GateKind) (pins count : ℕ) (nexts : List PinChange)
    (wave : Changes) : Type 0 where
  pub among : AreAmong pins count nexts
  pub each : All (IsPinChange waves) nexts
  pub counted : (time : ℤ) → (IsBeforeAll time nexts → ⊥) → AreCounted waves (values time) count nexts time
  pub rising : AreTimesRising wave.times
  pub few : length wave.times ≤ MOST_CHANGES
  pub within : All (λ change. IsBeforeAll change nexts) wave.times
  pub shows : (time : ℤ) → IsBeforeAll time nexts → wave_at wave time ≡ gate_value kind (values time)

-- what is given first comes no later than the others
pub no_later : (soonest : PinChange) (nexts : List PinChange) → IsUpperBound sooner soonest nexts
    → All (λ next. soonest.time ≤ℤ next.time) nexts
no_later soonest nexts greatest =
    All-weaker _ (λ next. soonest.time ≤ℤ next.time) (λ next is. told next.time soonest.time is) nexts
    (All-from_recursion (λ next. is_lt (int_cmp next.time soonest.time) ≡ false) nexts greatest)
  where
    told : (a b : ℤ) → is_lt (int_cmp a b) ≡ false → b ≤ℤ a
    told a b is = grind (arith, ints)

module _ (waves : List Changes) (values : ℤ → List Bool) (kind : GateKind) (pins : ℕ) where
  -- before the soonest change the gate has the value that its pins begin with
  pub begun : (count : ℕ) (nexts : List PinChange) (value : Bool) → AreAmong pins count nexts → All (IsPinChange waves) nexts
      → ((time : ℤ) → AreCounted waves (values time) count nexts time)
      → ((time : ℤ) → ones (values time) ≡ count → value ≡ gate_value kind (values time))
      → IsMerged waves values kind pins count nexts (record { before = value; times = [] })
  begun count nexts value among each counted told = record {
    among = among;
    each = each;
    counted = λ time come. counted time;
    rising = λ i j d less within. absurd (omega arith);
    few = omega arith;
    within = λ k d inside. absurd (omega arith);
    shows = λ time before. unturned value ∙ told time (still_counted waves nexts (values time) count time each before (counted time));
  }

  -- where no change is left, the wave is the gate's at all times
  pub ended : (count : ℕ) (nexts : List PinChange) (wave : Changes) → IsMerged waves values kind pins count nexts wave
      → length nexts ≡ 0 → AreChangesOf (λ time. gate_value kind (values time)) wave
  ended count nexts wave merged none = record {
    rising = merged.rising;
    shows = λ time. merged.shows time (λ k d inside. absurd (omega arith));
  }

  module _ (count : ℕ) (old : List PinChange) (wave : Changes) (merged : IsMerged waves values kind pins count old wave)
      (soonest : PinChange) (first : All (λ next. soonest.time ≤ℤ next.time) old)
      (new : List PinChange) (passes : PassesChange waves soonest old new) where
    -- before the soonest change is before all
    before_old : (time : ℤ) → time <ℤ soonest.time → IsBeforeAll time old
    before_old time less = All-weaker _ (λ next. time <ℤ next.time) (λ next no_sooner. <ℤ-≤ℤ_trans less no_sooner) old first

    -- and the other way round
    pub before_soonest : (time : ℤ) → IsBeforeAll time old → time <ℤ soonest.time
    before_soonest time before = passed_one waves soonest old new passes (λ next. time <ℤ next.time) before

    -- those that are left come no sooner
    first_left : All (λ next. soonest.time ≤ℤ next.time) new
    first_left = passed_each waves soonest old new passes (λ next. soonest.time ≤ℤ next.time) first
        (next_later waves soonest (passed_one waves soonest old new passes (IsPinChange waves) merged.each) passes.next passes.is)

    -- before all that were is before all that are left
    still_before : (time : ℤ) → IsBeforeAll time old → IsBeforeAll time new
    still_before time before =
        All-weaker _ (λ next. time <ℤ next.time) (λ next no_sooner. <ℤ-≤ℤ_trans (before_soonest time before) no_sooner) new first_left

    module _ (counted : ℕ) (counts : counted + one (not soonest.rises) ≡ count + one soonest.rises) where
      -- from the soonest change on the store and the count tell the pins' values
      counted_from : (time : ℤ) → soonest.time ≤ℤ time → AreCounted waves (values time) counted new time
      counted_from time come =
          passed_counted waves soonest old new passes count counted counts (values time) time come
          (merged.counted time (λ before. clash_ℤ (before_soonest time before) come))

      counted_left : (time : ℤ) → (IsBeforeAll time new → ⊥) → AreCounted waves (values time) counted new time
      counted_left time come =
          by_lt_z time soonest.time (λ less. absurd (come (still_before time (before_old time less)))) (λ from. counted_from time from)

      -- those that are left are like those that were
      each_left : All (IsPinChange waves) new
      each_left =
          passed_each waves soonest old new passes (IsPinChange waves) merged.each
          (next_each waves soonest.pin soonest.behind soonest.rises
          (passed_one waves soonest old new passes (IsPinChange waves) merged.each).pin passes.next passes.is)

      -- a change that others of the same time follow
      pub passed : (IsBeforeAll soonest.time new → ⊥) → IsMerged waves values kind pins counted new wave
      passed followed = record {
        among = passed_among waves soonest old new passes count counted counts pins merged.among;
        each = each_left;
        counted = counted_left;
        rising = merged.rising;
        few = merged.few;
        within = λ k d inside. still_before (get_or wave.times k d) (merged.within k d inside);
        shows = λ time before. by_lt_z time soonest.time (λ less. merged.shows time (before_old time less))
            (λ come. absurd (followed (All-weaker (λ next. time <ℤ next.time) (λ next. soonest.time <ℤ next.time)
            (λ next less. sooner_still time next.time come less) new before)));
      }
        where
          sooner_still : (time a : ℤ) → soonest.time ≤ℤ time → time <ℤ a → soonest.time <ℤ a
          sooner_still time a e f = omega (arith, ints)

      module _ (last : IsBeforeAll soonest.time new) (value : Bool)
          (told : (time : ℤ) → ones (values time) ≡ counted → value ≡ gate_value kind (values time)) where
        -- the value behind the last change of its time
        value_now : (time : ℤ) → soonest.time ≤ℤ time → IsBeforeAll time new → value ≡ gate_value kind (values time)
        value_now time come before =
            told time (still_counted waves new (values time) counted time each_left before (counted_from time come))

        -- the last change of its time
        pub turned : (turn : Changes) → IsTurned wave turn soonest.time value → IsMerged waves values kind pins counted new turn
        turned turn turns = record {
          among = passed_among waves soonest old new passes count counted counts pins merged.among;
          each = each_left;
          counted = counted_left;
          rising = turns.rising;
          few = turns.few merged.few;
          within = λ k d inside. All-weaker (λ next. soonest.time <ℤ next.time) (λ next. get_or turn.times k d <ℤ next.time)
              (λ next less. through (get_or turn.times k d) next.time (turns.within k d inside) less) new last;
          shows = λ time before. by_lt_z time soonest.time
              (λ less. turns.until time less ∙ merged.shows time (before_old time less))
              (λ come. turns.from time come ∙ value_now time come before);
        }
          where
            through : (a b : ℤ) → a ≤ℤ soonest.time → soonest.time <ℤ b → a <ℤ b
            through a b e f = omega (arith, ints)

        -- at the last change of its time, one change too many
        pub refused : (fault : WaveFault) → RefusesChange wave value fault → RefusesWave (λ time. gate_value kind (values time)) fault
        refused (NoMemory _) refuses = tt
        refused TooMany refuses =
            over_by_one (λ time. gate_value kind (values time)) wave soonest.time MOST_CHANGES merged.rising
            (λ k d inside. before_soonest (get_or wave.times k d) (merged.within k d inside))
            (λ time less. merged.shows time (before_old time less)) refuses.0
            (λ same. refuses.1 (soonest.time -ℤ pos 1)
            (λ k d inside. right_before (get_or wave.times k d) (before_soonest (get_or wave.times k d) (merged.within k d inside)))
            (same ∙ sym (value_now soonest.time (≤ℤ_refl soonest.time) last)))
          where
            right_before : (a : ℤ) → a <ℤ soonest.time → a ≤ℤ (soonest.time -ℤ pos 1)
            right_before a less = omega (arith, ints)
