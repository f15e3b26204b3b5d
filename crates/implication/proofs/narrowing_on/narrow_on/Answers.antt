-- An entry more is a pin entered, or a line cut.
use Rattle.std.proofs.Common.{arith}
use Rattle.std.proofs.lemmas.Grind.{common_steps}
use Rattle.implication.proofs.narrowing_on.narrow_on.Goals as goal

pub returns-in-Entered-clause-narrowed : goal.returns-in-Entered-clause-narrowed
returns-in-Entered-clause-narrowed g c = grind (arith, common_steps)

pub returns-in-Entered-clause-steps : goal.returns-in-Entered-clause-steps
returns-in-Entered-clause-steps g c = grind (arith, common_steps)

pub returns-in-Assumed-clause-steps : goal.returns-in-Assumed-clause-steps
returns-in-Assumed-clause-steps g c = grind (arith, common_steps)
