-- The desk is the path's before and after its justifier was told of the conflict.
use Rattle.std.proofs.Common.{◌<◌, sym, ap, ◌∙◌, subst, length}
use Rattle.std.specs.List.{All}
use Rattle.netlist.specs.Circuit.{Circuit, line_count}
use Rattle.netlist.specs.Paths.{IsPrefix, end_of}
use Rattle.implication.specs.Scopes.{standing}
use Rattle.cones.specs.KeptCones.{IsConeAt, IsConeFor}
use Rattle.search_hints.specs.Drafts.{IsJustifierOf}
use Rattle.justify.proofs.TriedSources.{desk_asked}
use Rattle.justify.proofs.entering.weigh.Goals as goal

pub invariant_of-sight : goal.invariant_of-sight
invariant_of-sight g c = record {
  one_each = c.labels.ensures.one_each ∙ sym (ap line_count c.net.ensures);
  liked_each = ap length c.as_slice.ensures.value ∙ c.requires.desk.made.liked ∙ sym (ap line_count c.net.ensures);
}

pub weigh-requires-clause-of : goal.weigh-requires-clause-of
weigh-requires-clause-of g c =
    let P : Circuit → Type 0 = λ n. IsJustifierOf n c.args.desk.now.justifier in subst P (sym c.net.ensures) c.requires.desk.made.justifier

pub weigh-requires-clause-changes : goal.weigh-requires-clause-changes
weigh-requires-clause-changes g c =
    let P : Circuit → Type 0 = λ n. All (λ note. note.index < line_count n) c.changes.result.now in subst P (sym c.net.ensures) c.changes.ensures

pub weigh-requires-clause-cone_for : goal.weigh-requires-clause-cone_for
weigh-requires-clause-cone_for g c =
    let P : Circuit → Type 0 = λ n. IsConeFor n c.args.desk.now.cone in subst P (sym c.net.ensures) c.requires.desk.made.cone

pub weigh-requires-clause-cone_at : goal.weigh-requires-clause-cone_at
weigh-requires-clause-cone_at g c =
    let P : Circuit → Type 0 = λ n. IsConeAt n (end_of n c.args.task.now.target.path.now) c.args.desk.now.cone in
    subst P (sym c.net.ensures) c.requires.desk.cone

pub weigh-requires-clause-prefix : goal.weigh-requires-clause-prefix
weigh-requires-clause-prefix g c =
    let P : Circuit → Type 0 = λ n. IsPrefix n c.args.task.now.target.path.now in subst P (sym c.net.ensures) c.requires.prefix

pub returns : goal.returns
returns g c =
    desk_asked g.A.Algebra.algebra c.net.result.now (standing c.args.scope.now).net c.net.ensures (standing c.args.scope.now).rules
    c.args.task.now.target.path.now c.args.desk.now c.requires.desk c.weigh.new.self c.weigh.ensures
