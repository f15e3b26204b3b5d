-- A pin on the last line is one assumption more.
use Rattle.std.proofs.Common.{rules, ◌≡◌, Some, None}
use Rattle.implication.specs.declared.assumption.Assumption.TheVariants.{Entered}
use Rattle.implication.proofs.Assuming.{entered_fits, extends_added}
use Rattle.implication.proofs.Restoring.{extends_itself}
use Rattle.implication.proofs.Wholes.{emptied_of}
use Rattle.implication.proofs.engine.Engine.enter.Goals as goal

pub add-requires-clause-fits : goal.add-requires-clause-fits
add-requires-clause-fits g c =
    entered_fits g.A.Algebra.algebra c.self.invariant.0 c.args.self.now c.self.view_is c.args.pin c.requires.pin c.requires.told

pub returns-in-Some-clause-emptied : goal.returns-in-Some-clause-emptied
returns-in-Some-clause-emptied g c =
    emptied_of g.A.Algebra.algebra g.met.A.Algebra.laws c.self.invariant.0 c.args.self.now c.self.view_is (Some c.in-Some.emptied) c.in-Some.is

pub returns-clause-extends : goal.returns-clause-extends
returns-clause-extends g c =
    let free : c.args.self.now.conflict ≡ None = search rules in
    extends_added c.add.result c.args.self.now c.add.new.self (Entered c.args.pin) free c.add.ensures.ok c.add.ensures.err c.add.ensures.later

pub returns-in-Some-clause-extends : goal.returns-in-Some-clause-extends
returns-in-Some-clause-extends g c = extends_itself c.args.self.now

pub returns-then-is_none-clause-extends : goal.returns-then-is_none-clause-extends
returns-then-is_none-clause-extends g c = extends_itself c.args.self.now
