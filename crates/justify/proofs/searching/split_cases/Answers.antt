-- Where the tree ends, going back restores the scope.
use Rattle.std.proofs.Common.{ap}
use Rattle.netlist.specs.Circuit.{Circuit}
use Rattle.pd_base.specs.declared.rules.Rules.{Rules}
use Rattle.implication.specs.Scopes.{standing}
use Rattle.implication.specs.Standing.{Standing}
use Rattle.implication.proofs.ScopeLabels.{there_too}
use Rattle.justify.specs.Desks.{IsDesk}
use Rattle.pair_judging.specs.Targets.{seen_target}
use Rattle.justify.proofs.Ended.{counts_after}
use Rattle.justify.proofs.Starting.{ended_restored, ended_mark}
use Rattle.justify.proofs.searching.split_cases.Goals as goal

pub back_to-requires-clause-now : goal.back_to-requires-clause-now
back_to-requires-clause-now g c =
    ended_mark (seen_target c.args.task.now.target) (standing c.args.scope.now) (standing c.grow_tree-ended.new.scope) c.requires.root.start
    c.grow_tree-ended.ensures.goes_on.under_way c.mark-mark.result.at c.mark-mark.ensures

pub returns-clause-ends : goal.returns-clause-ends
returns-clause-ends g c =
    let first = standing c.args.scope.now in let middle = standing c.grow_tree-ended.new.scope in
    let goes = c.grow_tree-ended.ensures.goes_on in
    let P : Circuit → Rules → Type 0 = λ n r. IsDesk g.A.Algebra.algebra n r c.args.task.now.target.path.now c.grow_tree-ended.new.desk in
    record {
      left = record {
        restored =
            ended_restored (seen_target c.args.task.now.target) first middle (standing c.back_to.new.self) c.requires.root.start goes.under_way goes.setting
            goes.later c.mark-mark.result.at c.mark-mark.ensures c.back_to.ensures.back;
        serves = there_too P middle.net first.net middle.rules first.rules goes.setting.net goes.setting.rules goes.serves;
      };
      found = c.grow_tree-ended.ensures.found;
      counted =
          counts_after c.args.task.now.budget first middle (standing c.back_to.new.self)
          (ap (λ (s : Standing). s.closings) c.back_to.ensures.back) c.grow_tree-ended.result c.grow_tree-ended.ensures.counted;
      unfinished = c.grow_tree-ended.ensures.unfinished;
    }

pub grow_tree-ended-requires : goal.grow_tree-ended-requires
grow_tree-ended-requires g c = record { root = c.requires.root }
