-- The changes that have come by the earlier time are the first ones, and they are as many as the search finds.
use Rattle.std.proofs.Common.{◌≡◌, Bool, not, pos, ◌-ℤ◌, ap, ◌∙◌, List, ℤ, to_z, of_z, arith, rules}
use Rattle.std.specs.Bool.{beq}
use Rattle.std.specs.Int.{w128}
use Rattle.std.specs.Int.RustNames.{int_le}
use Rattle.std.proofs.lemmas.Int.{ints}
use Rattle.std.proofs.lemmas.List.Sorted.{IsPartitionPoint-from_clause}
use Rattle.delay_replay.specs.Changes.{wave_at}
use Rattle.delay_replay.proofs.Turning.{is_odd, at_count, rising_parted}
use Rattle.delay_replay.proofs.settling.at_earlier.Goals as goal

pub returns : goal.returns
returns c =
    let wave = c.args.wave.now in
    let times = c.changes.result.now in
    let count = c.partition_point-come.result in
    let earlier = to_z w128 (of_z w128 (to_z w128 (of_z w128 c.from.result) -ℤ to_z w128 (of_z w128 c.from-2.result))) in
    let point = IsPartitionPoint-from_clause (λ change. int_le change earlier) _ _ c.partition_point-come.ensures.partitioned
    (rising_parted times earlier c.changes.ensures.rising) (λ a r q k. search rules) in
    let same : earlier ≡ c.args.time -ℤ pos c.args.late = omega (arith, ints) in
    ap (λ (before : Bool). not (beq before (is_odd count))) c.earliest.ensures.before
    ∙ at_count wave.before times earlier count c.partition_point-come.ensures.bound point.0 point.1
    ∙ ap (λ (all : List ℤ). wave_at (record { before = wave.before; times = all }) earlier) c.changes.ensures.times
    ∙ ap (wave_at wave) same
