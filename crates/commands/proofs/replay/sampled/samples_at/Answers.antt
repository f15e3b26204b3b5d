-- All places were filled in with what the observed lines have.
use Rattle.std.proofs.Common.{◌≡◌, ◌++◌, take, length, ap, ◌∙◌, append-nil, arith, to_z, of_z, w64}
use Rattle.std.proofs.lemmas.Int.{to_z-of_z}
use Rattle.std.proofs.lemmas.List.{drop_all, take_all, length-map}
use Rattle.pd_base.specs.declared.ids.LineId.{LineId}
use Rattle.netlist.specs.Circuit.{observed_lines}
use Rattle.delay_replay.specs.Changes.{wave_at}
use Rattle.delay_replay.specs.LineWaves.{kept_wave}
use Rattle.delay_replay.specs.Settling.{observed_under}
use Rattle.commands.proofs.replay.sampled.samples_at.Goals as goal

pub returns : goal.returns
returns c wave are =
    let net = c.args.net.now in
    let bits = c.in_ok-bits.bits in
    let out = c.sample.new.out in
    let told = c.sample.ensures.of_waves wave are in
    let long : length out ≡ length (observed_lines net) =
    ap length c.sample.ensures.samples
    ∙ length-map (observed_lines net) (λ (line : LineId). wave_at (kept_wave c.args.waves.now line.0) (to_z w64 (of_z w64 c.args.time))) in
    let room : length bits.items ≡ length (observed_lines net) = c.in_ok-bits.ensures ∙ ap length c.observed.ensures.observed in
    ap (λ rest. take bits.len (out ++ rest)) (drop_all (length out) bits.items (omega arith))
    ∙ ap (take bits.len) (append-nil out) ∙ take_all bits.len out (omega (arith, bits.ok.0)) ∙ told
    ∙ ap (observed_under net wave) (to_z-of_z w64 c.args.time c.ranges.time)
