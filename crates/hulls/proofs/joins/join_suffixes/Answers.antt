-- The unit past the last set, then one suffix more in each turn.
use Rattle.std.proofs.Common.{◌-◌, ◌^◌, ap, ◌∙◌, arith}
use Rattle.std.proofs.lemmas.List.{length-set}
use Rattle.state_sets.specs.declared.state.State.{State}
use Rattle.state_sets.specs.declared.state.StateSet.{StateSet}
use Rattle.hulls.proofs.Suffixes.{suffix_first, suffix_next, suffixes_within}
use Rattle.hulls.proofs.joins.join_suffixes.Goals as goal

pub loop-from-init : goal.loop-from-init
loop-from-init g c =
    suffix_first g.A.Algebra.algebra g.met.A.Algebra.laws c.args.op c.args.sets.now c.args.suffixes.now c.requires.places
    c.only.result (c.only.ensures ∙ ap (λ (s : State). 2 ^ s.0) c.unit.ensures)

pub loop-from-preserved : goal.loop-from-preserved
loop-from-preserved g c =
    suffix_next g.A.Algebra.algebra g.met.A.Algebra.laws c.args.op c.args.sets.now c.loop-from.suffixes c.loop-from.from
    (c.loop-from.from - 1) (omega arith) (omega (arith, length-set {A = StateSet})) c.loop-from.invariant c.join_sets.result c.join_sets.ensures.within
    c.join_sets.ensures.joins

pub returns-clause-within : goal.returns-clause-within
returns-clause-within g c =
    suffixes_within g.A.Algebra.algebra g.met.A.Algebra.laws c.args.op c.args.sets.now c.loop-from.suffixes c.loop-from.from
    (omega arith) (omega (arith, length-set {A = StateSet})) c.loop-from.invariant

pub returns-clause-folds : goal.returns-clause-folds
returns-clause-folds g c = λ from below. c.loop-from.invariant.folds from (omega arith) below
