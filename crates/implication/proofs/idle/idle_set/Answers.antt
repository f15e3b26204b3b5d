-- Where the rules leave no state, all states serve.
use Rattle.std.proofs.Common.{refl, sym, subst}
use Rattle.hulls.proofs.Narrowed.{is_none, is_some}
use Rattle.implication.specs.Idling.{IsIdleSet}
use Rattle.implication.proofs.Idling.{set_of_all, set_of_others}
use Rattle.implication.proofs.idle.idle_set.Goals as goal

pub returns-then-eq-clause-set : goal.returns-then-eq-clause-set
returns-then-eq-clause-set g c =
    let others = c.other_states-others.result in
    subst (IsIdleSet g.A.Algebra.algebra c.args.rules.now) (sym c.every_state.ensures.all)
    (set_of_all g.A.Algebra.algebra g.met.A.Algebra.laws c.args.rules.now others c.other_states-others.ensures.means
    (is_none c.eq.result others others c.eq.ensures c.if-eq.true refl))

pub returns-clause-set : goal.returns-clause-set
returns-clause-set g c =
    let others = c.other_states-others.result in
    set_of_others g.A.Algebra.algebra g.met.A.Algebra.laws c.args.rules.now others c.other_states-others.ensures.means
    (is_some c.eq.result others others c.eq.ensures c.if-eq.false refl)
