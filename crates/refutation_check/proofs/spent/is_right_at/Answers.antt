-- What is asked of each kind of node.
use Rattle.std.proofs.Common.{Bool, List, sym, subst}
use Rattle.pd_base.specs.Target.{Target}
use Rattle.state_sets.specs.StateAlgebra.{StateAlgebra}
use Rattle.state_laws.specs.declared.split.Half.{Half}
use Rattle.trees.specs.declared.tree.Node.{Node}
use Rattle.netlist.specs.Paths.{end_of}
use Rattle.implication.specs.Scopes.{standing}
use Rattle.implication.specs.Standing.{Standing, IsSupportTold}
use Rattle.trees.specs.Faults.{IsRightInSpent}
use Rattle.pair_judging.specs.Targets.{seen_target}
use Rattle.refutation_check.specs.Trials.{IsScopeInSupport, Shows}
use Rattle.refutation_check.proofs.NodeLabels.{closes_told}
use Rattle.refutation_check.proofs.Spending.{closes_by_rules}
use Rattle.refutation_check.proofs.spent.is_right_at.Goals as goal

-- what is told of a node at which the scope stands
abbrev TellsOf : StateAlgebra → Target → Standing → Bool → Node → Type 0
TellsOf a target standing r node =
    (halves : List Half) → IsScopeInSupport a target halves standing
    → Shows (IsSupportTold standing (end_of standing.net target.path)) r (IsRightInSpent standing.net standing.rules target halves node)

pub is_open-requires-clause-prefix : goal.is_open-requires-clause-prefix
is_open-requires-clause-prefix g c = c.requires.prefix

pub is_open-requires-clause-room : goal.is_open-requires-clause-room
is_open-requires-clause-room g c = c.requires.room

pub is_due-requires-clause-prefix : goal.is_due-requires-clause-prefix
is_due-requires-clause-prefix g c = c.requires.prefix

pub is_due-requires-clause-room : goal.is_due-requires-clause-room
is_due-requires-clause-room g c = c.requires.room

pub returns-in-Closed-clause-room : goal.returns-in-Closed-clause-room
returns-in-Closed-clause-room g c = c.requires.room

pub returns-then-is_none-clause-room : goal.returns-then-is_none-clause-room
returns-then-is_none-clause-room g c = c.is_open.ensures.room

pub returns-else-is_none-clause-room : goal.returns-else-is_none-clause-room
returns-else-is_none-clause-room g c = c.requires.room

pub returns-in-Split-clause-room : goal.returns-in-Split-clause-room
returns-in-Split-clause-room g c = c.is_due.ensures.room

pub returns-in-Closed-clause-right : goal.returns-in-Closed-clause-right
returns-in-Closed-clause-right g c =
    let target = seen_target c.args.target.now in let now = standing c.args.scope.now in
    subst (TellsOf g.A.Algebra.algebra target now c.is_some.result) (sym c.in-Closed.is)
    (λ halves within.
    let tells = closes_by_rules now target halves g.A.Algebra.algebra c.requires.room.made.chosen c.is_some.result
    (closes_told g.A.Algebra.algebra target halves now within.at c.conflict.result c.conflict.ensures.none c.conflict.ensures.some c.is_some.result c.is_some.ensures) in
    (tells.0, λ told. tells.1))

pub returns-then-is_none-clause-right : goal.returns-then-is_none-clause-right
returns-then-is_none-clause-right g c =
    subst (TellsOf g.A.Algebra.algebra (seen_target c.args.target.now) (standing c.args.scope.now) c.is_open.result) (sym c.in-Waiting.is) c.is_open.ensures.open

pub returns-in-Split-clause-right : goal.returns-in-Split-clause-right
returns-in-Split-clause-right g c =
    subst (TellsOf g.A.Algebra.algebra (seen_target c.args.target.now) (standing c.args.scope.now) c.is_due.result) (sym c.in-Split.is) c.is_due.ensures.due
