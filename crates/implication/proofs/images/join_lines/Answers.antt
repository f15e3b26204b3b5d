-- The unit where no line is read, else the first line's set with those of the others.
use Rattle.std.proofs.Common.{◌^◌, ◌<◌, length, ap, ◌∙◌, subst}
use Rattle.std.specs.List.{All}
use Rattle.std.proofs.lemmas.List.Elements.{All-tail}
use Rattle.pd_base.specs.declared.ids.LineId.{LineId}
use Rattle.state_sets.specs.declared.state.State.{State}
use Rattle.implication.proofs.Joining.{joined_none, joined_split}
use Rattle.implication.proofs.images.join_lines.Goals as goal

pub returns-in_default-clause-within : goal.returns-in_default-clause-within
returns-in_default-clause-within g c =
    (joined_none g.A.Algebra.algebra g.met.A.Algebra.laws c.args.op c.args.labels.now c.args.lines.now c.in_default.ensures.cases c.only.result
    (c.only.ensures ∙ ap (λ (s : State). 2 ^ s.0) c.unit.ensures)).0

pub join_others-requires-clause-lines : goal.join_others-requires-clause-lines
join_others-requires-clause-lines g c =
    let IsHere : LineId → Type 0 = λ line. line.0 < length c.args.labels.now in
    All-tail IsHere c.in-Some.first.now c.in-Some.others.now (subst (All IsHere) c.in-Some.ensures.cases.0 c.requires.lines)

pub returns-in_default-clause-folds : goal.returns-in_default-clause-folds
returns-in_default-clause-folds g c =
    (joined_none g.A.Algebra.algebra g.met.A.Algebra.laws c.args.op c.args.labels.now c.args.lines.now c.in_default.ensures.cases c.only.result
    (c.only.ensures ∙ ap (λ (s : State). 2 ^ s.0) c.unit.ensures)).1

pub returns-clause-folds : goal.returns-clause-folds
returns-clause-folds g c =
    joined_split g.A.Algebra.algebra g.met.A.Algebra.laws c.args.op c.args.labels.now c.args.lines.now c.in-Some.first.now c.in-Some.others.now
    c.in-Some.ensures.cases.0 c.join_others.result c.join_others.ensures.folds
