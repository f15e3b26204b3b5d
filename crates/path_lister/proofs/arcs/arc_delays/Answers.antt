-- Behind those of the sources, which are none, each pin has its delay.
use Rattle.std.proofs.Common.{◌≡◌, ℕ, ◌+◌, ◌++◌, length, map, replicate, take, ap, ◌∙◌, arith}
use Rattle.std.proofs.lemmas.List.{length-append, length-map, length-replicate, take-replicate, with_items_is}
use Rattle.delay_annotation.specs.Annotation.{delays_of}
use Rattle.path_lister.proofs.arcs.arc_delays.Goals as goal

pub write_delays-requires-clause-long : goal.write_delays-requires-clause-long
write_delays-requires-clause-long c =
    ap length (c.as_mut_slice.ensures.value ∙ c.in_ok-times.ensures.items_if_clones_equal (λ y same. same))
    ∙ length-replicate (c.sources-sources.result + length c.args.pins.now) 0

pub returns : goal.returns
returns c =
    let sources = c.sources-sources.result in
    let pins = c.args.pins.now in
    let delays = map (delays_of c.args.net.now c.args.delays.now) pins in
    let none = c.as_mut_slice.ensures.value ∙ c.in_ok-times.ensures.items_if_clones_equal (λ y same. same) in
    let front = ap (take sources) none ∙ take-replicate sources (sources + length pins) 0 (omega arith) in
    let written : c.write_delays.new.times ≡ replicate sources 0 ++ delays =
    c.write_delays.ensures ∙ ap (λ times. times ++ delays) front in
    let long : length c.write_delays.new.times ≡ length c.in_ok-times.times.items = omega (
      arith,
      ap length written,
      length-append (replicate {A = ℕ} sources 0) delays,
      length-replicate {A = ℕ} sources 0,
      length-map pins (delays_of c.args.net.now c.args.delays.now),
      ap length (c.in_ok-times.ensures.items_if_clones_equal (λ y same. same)),
      length-replicate {A = ℕ} (sources + length pins) 0,
    ) in
    with_items_is c.in_ok-times.times c.write_delays.new.times (omega (arith, long, c.in_ok-times.times.ok.0))
    ∙ written ∙ ap (λ n. replicate n 0 ++ delays) c.sources-sources.ensures.count
