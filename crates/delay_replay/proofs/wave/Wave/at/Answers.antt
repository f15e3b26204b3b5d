-- The changes that have come by the time are the first ones, and they are as many as the search finds.
use Rattle.std.proofs.Common.{◌≡◌, not, subst, sym, List, ℤ, rules}
use Rattle.std.specs.Bool.{beq}
use Rattle.std.specs.Int.RustNames.{int_le}
use Rattle.std.proofs.lemmas.List.Sorted.{IsPartitionPoint-from_clause}
use Rattle.delay_replay.specs.Changes.{Changes, AreTimesRising, wave_at}
use Rattle.delay_replay.proofs.Turning.{is_odd, at_count, rising_parted}
use Rattle.delay_replay.proofs.wave.Wave.at.Goals as goal

pub returns : goal.returns
returns c =
    let inside = c.self.inside in
    let time = c.args.time in
    let rising = subst AreTimesRising (sym c.deref.ensures.value) c.self.invariant in
    let point = IsPartitionPoint-from_clause (λ change. int_le change time) _ _ c.partition_point.ensures.partitioned
    (rising_parted c.deref.result.now time rising) (λ a r q k. search rules) in
    subst (λ (w : Changes). not (beq inside.before (is_odd c.partition_point.result)) ≡ wave_at w time) c.self.view_is
    (subst (λ (times : List ℤ). not (beq inside.before (is_odd c.partition_point.result)) ≡ wave_at (record { before = inside.before; times = times }) time)
    c.deref.ensures.value
    (at_count inside.before c.deref.result.now time c.partition_point.result c.partition_point.ensures.bound point.0 point.1))
