-- Where the budget is spent, the scope is as it was, and another tree grows.
use Rattle.std.proofs.Common.{refl, sym, arith}
use Rattle.std.specs.Prelude.{IfOk}
use Rattle.netlist.specs.Circuit.{Circuit}
use Rattle.pd_base.specs.declared.rules.Rules.{Rules}
use Rattle.implication.specs.Scopes.{standing}
use Rattle.implication.proofs.ScopeLabels.{there_too}
use Rattle.justify.specs.Answers.{IsFound}
use Rattle.justify.specs.Desks.{IsDesk}
use Rattle.pair_judging.specs.Targets.{seen_target}
use Rattle.justify.proofs.Ended.{counts_before}
use Rattle.justify.proofs.SameNodes.{same_restored, restored_trans, start_restored, open_stays}
use Rattle.justify.proofs.Suiting.{suits_restored, setting_restored, ended_before}
use Rattle.justify.proofs.TriedSources.{kept_desk}
use Rattle.justify.proofs.searching.split_with_budget.Goals as goal

pub split_by_weight-requires : goal.split_by_weight-requires
split_by_weight-requires g c =
    let first = standing c.args.scope.now in let middle = standing c.split_cases.new.scope in
    let left = c.split_cases.ensures.ends.left in let target = seen_target c.args.task.now.target in
    let P : Circuit → Rules → Type 0 = λ n r. IsDesk g.A.Algebra.algebra n r c.args.task.now.target.path.now c.split_cases.new.desk in
    record {
      root = record {
        suits = suits_restored g.A.Algebra.algebra target first middle left.restored c.requires.root.suits;
        start = start_restored target first middle left.restored c.requires.root.start;
        left_open = open_stays g.A.Algebra.algebra first middle (same_restored first middle left.restored) c.requires.root.left_open;
        budget = c.requires.root.budget;
        serves =
            kept_desk g.A.Algebra.algebra middle.net middle.rules c.args.task.now.target.path.now c.split_cases.new.desk _
            (record { cone = refl; states = refl; blame = refl; liked = refl; justifier = c.learn_backtrace.ensures; judge = refl })
            (there_too P first.net middle.net first.rules middle.rules (sym left.restored.net) (sym left.restored.rules) left.serves);
      };
      splits = omega arith;
    }

pub returns-clause-ends : goal.returns-clause-ends
returns-clause-ends g c = record {
  left =
      let first = standing c.args.scope.now in let middle = standing c.split_cases.new.scope in
      let left = c.split_cases.ensures.ends.left in let later = c.split_by_weight.ensures.ends.left in
      let P : Circuit → Rules → Type 0 = λ n r. IsDesk g.A.Algebra.algebra n r c.args.task.now.target.path.now c.split_by_weight.new.desk in
      record {
        restored = restored_trans first middle (standing c.split_by_weight.new.scope) left.restored later.restored;
        serves = there_too P middle.net first.net middle.rules first.rules left.restored.net left.restored.rules later.serves;
      };
  found =
      let first = standing c.args.scope.now in let middle = standing c.split_cases.new.scope in
      let restored = c.split_cases.ensures.ends.left.restored in
      let P : Circuit → Rules → Type 0 = λ n r. IfOk c.split_by_weight.result (IsFound n r (seen_target c.args.task.now.target) c.args.task.now.budget) in
      there_too P middle.net first.net middle.rules first.rules restored.net restored.rules c.split_by_weight.ensures.ends.found;
  counted =
      counts_before c.args.task.now.budget (standing c.args.scope.now) (standing c.split_cases.new.scope) (standing c.split_by_weight.new.scope)
      c.split_cases.ensures.ends.left.restored.later c.split_by_weight.result c.split_by_weight.ensures.ends.counted;
  unfinished =
      let first = standing c.args.scope.now in let middle = standing c.split_cases.new.scope in
      ended_before (seen_target c.args.task.now.target) first middle (setting_restored first middle c.split_cases.ensures.ends.left.restored)
      c.split_by_weight.result c.split_by_weight.ensures.ends.unfinished;
}
