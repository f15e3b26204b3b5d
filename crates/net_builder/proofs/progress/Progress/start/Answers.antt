-- At the start no gate has a level.
use Rattle.std.proofs.Common.{◌≡◌, ◌+◌, ◌<◌, ℕ, length, replicate, slice_index, All, Contains, ap, subst, ◌∙◌}
use Rattle.net_builder.specs.Progress.{WaitsForNone}
use Rattle.net_builder.proofs.Placing.{started}
use Rattle.net_builder.proofs.progress.Progress.start.Goals as goal

pub returns : goal.returns
returns c =
    let gates = c.args.pins.now in
    let waits = c.as_slice.ensures.value in
    let ready = c.in_ok-idle_gates.field-0.items in
    let zeros = c.in_ok-vec.ensures.items_if_clones_equal (λ y same. same)
    ∙ ap (λ n. replicate (c.args.sources + n) 0) c.len.ensures in
    started c.args.sources gates _ _ _ zeros c.in_ok-waits.ensures.length
    c.in_ok-waits.ensures.counts
    (subst (λ w. All (WaitsForNone w) ready) waits c.in_ok-idle_gates.ensures.idle)
    (subst (λ w. (gate : ℕ) → gate < length w → slice_index w gate ≡ 0 → Contains ready (record { 0 = gate })) waits
    c.in_ok-idle_gates.ensures.whole)
