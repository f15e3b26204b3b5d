-- The pairs stand in their lanes, and all lines are evaluated under them.
use Rattle.std.proofs.Common.{◌≡◌, ◌-◌, ◌<◌, length, arith}
use Rattle.std.proofs.lemmas.Option.{slice_get_within}
use Rattle.pd_base.specs.declared.test.Test.{Test}
use Rattle.netlist.specs.Circuit.{source_count}
use Rattle.netlist.proofs.Evaluation.{all_at_place}
use Rattle.test_grade.proofs.pair_lanes.evaluate_tests.Goals as goal

pub returns : goal.returns
returns c place test from few at =
    let net = c.args.net.now in
    let tests = c.args.tests.now in
    let inside : place < c.block_end-end.result = c.block_end-end.ensures.last place few (slice_get_within tests place test at) in
    c.evaluate_pairs.ensures (place - c.args.begin) test.pair (omega arith)
    (all_at_place (λ (t : Test). length t.pair.first ≡ source_count net) tests place test c.requires.firsts at)
    (all_at_place (λ (t : Test). length t.pair.second ≡ source_count net) tests place test c.requires.seconds at)
    (c.put_pairs.ensures.firsts place test from inside at) (c.put_pairs.ensures.seconds place test from inside at)
