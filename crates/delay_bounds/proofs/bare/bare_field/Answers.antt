-- A byte above the comma joins those before it.
use Rattle.std.proofs.Common.{◌<◌, arith}
use Rattle.std.proofs.lemmas.List.Elements.{All-more}
use Rattle.delay_bounds.specs.Inside.Bare.{comma}
use Rattle.delay_bounds.proofs.bare.bare_field.Goals as goal

pub loop-end-preserved : goal.loop-end-preserved
loop-end-preserved c = (
  omega (arith, c.loop-end-test.true),
  All-more (λ own. comma < own) c.args.text.now c.loop-end.end 0 c.loop-end-test.true c.loop-end.invariant.1 c.if-text-end-gt44.true,
)
