-- The first tree is the answer where it did not spend fewer splits than the budget; else the scope is as it was, and another tree grows.
use Rattle.std.proofs.Common.{refl, sym}
use Rattle.std.specs.Prelude.{IfOk}
use Rattle.netlist.specs.Circuit.{Circuit}
use Rattle.pd_base.specs.declared.rules.Rules.{Rules}
use Rattle.implication.specs.Scopes.{standing}
use Rattle.implication.proofs.ScopeLabels.{there_too}
use Rattle.justify.specs.Answers.{IsFound}
use Rattle.justify.specs.Desks.{IsDesk}
use Rattle.pair_judging.specs.Targets.{seen_target}
use Rattle.justify.proofs.Ended.{counts_before, turn_found, turn_counts}
use Rattle.justify.proofs.SameNodes.{same_restored, restored_trans, start_restored, open_stays}
use Rattle.justify.proofs.Suiting.{suits_restored, setting_restored, ended_before}
use Rattle.justify.proofs.TriedSources.{kept_desk}
use Rattle.justify.proofs.searching.split_in_turns.Goals as goal

pub split_with_budget-requires : goal.split_with_budget-requires
split_with_budget-requires g c =
    let first = standing c.args.scope.now in let middle = standing c.split_by_weight.new.scope in
    let left = c.split_by_weight.ensures.ends.left in let target = seen_target c.args.task.now.target in
    let P : Circuit → Rules → Type 0 = λ n r. IsDesk g.A.Algebra.algebra n r c.args.task.now.target.path.now c.split_by_weight.new.desk in
    record {
      root = record {
        suits = suits_restored g.A.Algebra.algebra target first middle left.restored c.requires.root.suits;
        start = start_restored target first middle left.restored c.requires.root.start;
        left_open = open_stays g.A.Algebra.algebra first middle (same_restored first middle left.restored) c.requires.root.left_open;
        budget = c.requires.root.budget;
        serves =
            kept_desk g.A.Algebra.algebra middle.net middle.rules c.args.task.now.target.path.now c.split_by_weight.new.desk _
            (record { cone = refl; states = refl; blame = refl; liked = refl; justifier = c.learn_first_tree.ensures; judge = refl })
            (there_too P first.net middle.net first.rules middle.rules (sym left.restored.net) (sym left.restored.rules) left.serves);
      };
    }

pub returns-then-is_dropped-clause-ends : goal.returns-then-is_dropped-clause-ends
returns-then-is_dropped-clause-ends g c = record {
  left =
      let first = standing c.args.scope.now in let middle = standing c.split_by_weight.new.scope in
      let left = c.split_by_weight.ensures.ends.left in let later = c.split_with_budget.ensures.ends.left in
      let P : Circuit → Rules → Type 0 = λ n r. IsDesk g.A.Algebra.algebra n r c.args.task.now.target.path.now c.split_with_budget.new.desk in
      record {
        restored = restored_trans first middle (standing c.split_with_budget.new.scope) left.restored later.restored;
        serves = there_too P middle.net first.net middle.rules first.rules left.restored.net left.restored.rules later.serves;
      };
  found =
      let first = standing c.args.scope.now in let middle = standing c.split_by_weight.new.scope in
      let restored = c.split_by_weight.ensures.ends.left.restored in
      let P : Circuit → Rules → Type 0 = λ n r. IfOk c.split_with_budget.result (IsFound n r (seen_target c.args.task.now.target) c.args.task.now.budget) in
      there_too P middle.net first.net middle.rules first.rules restored.net restored.rules c.split_with_budget.ensures.ends.found;
  counted =
      counts_before c.args.task.now.budget (standing c.args.scope.now) (standing c.split_by_weight.new.scope) (standing c.split_with_budget.new.scope)
      c.split_by_weight.ensures.ends.left.restored.later c.split_with_budget.result c.split_with_budget.ensures.ends.counted;
  unfinished =
      let first = standing c.args.scope.now in let middle = standing c.split_by_weight.new.scope in
      ended_before (seen_target c.args.task.now.target) first middle (setting_restored first middle c.split_by_weight.ensures.ends.left.restored)
      c.split_with_budget.result c.split_with_budget.ensures.ends.unfinished;
}

pub returns-clause-ends : goal.returns-clause-ends
returns-clause-ends g c = record {
  left =
      let left = c.split_by_weight.ensures.ends.left in
      record {
        restored = left.restored;
        serves =
            kept_desk g.A.Algebra.algebra (standing c.args.scope.now).net (standing c.args.scope.now).rules c.args.task.now.target.path.now
            c.split_by_weight.new.desk _
            (record { cone = refl; states = refl; blame = refl; liked = refl; justifier = c.learn_first_tree.ensures; judge = refl }) left.serves;
      };
  found =
      turn_found c.first_tree_splits-splits.result c.args.task.now.budget (standing c.args.scope.now).net (standing c.args.scope.now).rules
      (seen_target c.args.task.now.target) c.first_tree_splits-splits.ensures c.in_ok-found.found (c.is_dropped.ensures c.if-is_dropped.false)
      c.in_ok-found.ensures.ends.found;
  counted =
      turn_counts c.first_tree_splits-splits.result c.args.task.now.budget c.in_ok-found.found (c.is_dropped.ensures c.if-is_dropped.false)
      (standing c.args.scope.now) (standing c.split_by_weight.new.scope) c.in_ok-found.ensures.ends.counted;
  unfinished = tt;
}
