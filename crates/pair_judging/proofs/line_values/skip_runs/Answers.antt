-- A run without a mark is passed.
use Rattle.std.proofs.Common.{◌+◌, ◌<◌, ◌≤◌, ⊎_elim, length, arith}
use Rattle.std.proofs.lemmas.Bool.{cases_lt}
use Rattle.pair_judging.proofs.StaleGates.{run_fresh}
use Rattle.pair_judging.proofs.line_values.skip_runs.Goals as goal

pub loop-place-preserved : goal.loop-place-preserved
loop-place-preserved c =
    let stale = c.args.stale.now in
    let at = c.loop-place.place in
    let before = c.loop-place.invariant in
    let within : at + 64 ≤ length stale = omega (arith, c.loop-place-test.true, before.within) in
    record {
      behind = omega (arith, before.behind);
      within = within;
      fresh = λ place behind below. ⊎_elim (λ (earlier : place < at). before.fresh place behind earlier)
          (λ (later : at ≤ place). run_fresh stale at 64 within c.if-not-contains.ensures.cases place later below) (cases_lt place at);
    }
