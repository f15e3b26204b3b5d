-- The unit before the first place, then one place more in each turn.
use Rattle.std.proofs.Common.{◌+◌, ◌^◌, ap, ◌∙◌, arith}
use Rattle.state_sets.specs.declared.state.State.{State}
use Rattle.hulls.proofs.Suffixes.{supporting_cut, supported_first, supported_next, supported_each, supported_all}
use Rattle.hulls.specs.Sets.{set_at}
use Rattle.hulls.proofs.joins.support_each.Goals as goal

pub loop-place-init : goal.loop-place-init
loop-place-init g c =
    supported_first g.A.Algebra.algebra g.met.A.Algebra.laws c.args.op c.args.sets.now c.args.target c.args.kept.now
    c.only-before.result (c.only-before.ensures ∙ ap (λ (s : State). 2 ^ s.0) c.unit.ensures)

pub loop-place-preserved : goal.loop-place-preserved
loop-place-preserved g c =
    supported_next g.A.Algebra.algebra g.met.A.Algebra.laws c.args.op c.args.sets.now c.args.target c.args.kept.now
    c.loop-place.kept c.loop-place.before c.loop-place.place (omega arith) (omega arith) c.loop-place.invariant
    (set_at c.args.suffixes.now (c.loop-place.place + 1)) c.join_sets-rest.result c.intersect-found.result
    c.unite.result c.join_sets-before.result
    (c.requires.folds (c.loop-place.place + 1) (omega arith)) c.join_sets-rest.ensures.joins
    (supporting_cut g.A.Algebra.algebra g.met.A.Algebra.laws c.args.op c.args.sets.now c.args.target c.args.kept.now
    (set_at c.args.sets.now c.loop-place.place) c.join_sets-rest.result c.supporting.result c.intersect-found.result
    c.supporting.ensures.supports c.intersect-found.ensures)
    c.unite.ensures c.join_sets-before.ensures.within c.join_sets-before.ensures.joins

pub returns-clause-each : goal.returns-clause-each
returns-clause-each g c =
    supported_each g.A.Algebra.algebra g.met.A.Algebra.laws c.args.op c.args.sets.now c.args.target c.args.kept.now
    c.loop-place.kept c.loop-place.before c.loop-place.place (omega arith) c.loop-place.invariant

pub returns-clause-all : goal.returns-clause-all
returns-clause-all g c =
    supported_all g.A.Algebra.algebra g.met.A.Algebra.laws c.args.op c.args.sets.now c.args.target c.args.kept.now
    c.loop-place.kept c.loop-place.before c.loop-place.place (omega arith) c.loop-place.invariant c.intersect.result c.intersect.ensures
