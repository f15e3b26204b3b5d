-- The desk's cone is that of the path's end.
use Rattle.std.proofs.Common.{◌<◌, refl, sym, ap, subst, arith}
use Rattle.std.specs.Prelude.{is_some}
use Rattle.std.proofs.lemmas.Grind.{common_steps}
use Rattle.netlist.specs.Circuit.{Circuit, line_count}
use Rattle.implication.specs.Scopes.{standing}
use Rattle.cones.specs.KeptCones.{IsConeFor}
use Rattle.pair_judging.specs.Targets.{seen_target}
use Rattle.justify.proofs.SameNodes.{restored_itself}
use Rattle.justify.proofs.Starting.{start_desk, start_suits}
use Rattle.justify.proofs.TriedSources.{kept_desk}
use Rattle.justify.proofs.searching.find.Goals as goal

pub set_end-requires-clause-made : goal.set_end-requires-clause-made
set_end-requires-clause-made g c =
    let P : Circuit → Type 0 = λ n. IsConeFor n c.args.desk.now.cone in subst P (sym c.net.ensures) c.requires.desk.cone

pub set_end-requires-clause-end : goal.set_end-requires-clause-end
set_end-requires-clause-end g c =
    let P : Circuit → Type 0 = λ n. c.last_line.result.0 < line_count n in
    subst P (sym c.net.ensures) (c.last_line.ensures.in_circuit (ap is_some c.requires.start.beginning))

pub propose-requires-clause-desk : goal.propose-requires-clause-desk
propose-requires-clause-desk g c =
    start_desk (seen_target c.args.task.now.target) (standing c.args.scope.now) c.requires.start c.requires.prefix g.A.Algebra.algebra
    c.args.desk.now c.set_end.new.self c.net.result.now c.last_line.result.0 c.net.ensures c.last_line.ensures.end c.requires.desk
    c.set_end.ensures.made c.set_end.ensures.links c.set_end.ensures.cone

pub split_in_turns-requires : goal.split_in_turns-requires
split_in_turns-requires g c = record {
  root = record {
    suits =
        start_suits (seen_target c.args.task.now.target) (standing c.args.scope.now) c.requires.start c.requires.prefix g.A.Algebra.algebra
        c.args.desk.now c.last_line.result.0 c.last_line.ensures.end (c.last_line.ensures.told (ap is_some c.requires.start.beginning))
        c.requires.desk;
    start = c.requires.start;
    left_open = c.requires.left_open;
    budget = c.requires.budget;
    serves = c.propose.ensures.desk;
  };
}

pub returns-in-Some-clause-ends : goal.returns-in-Some-clause-ends
returns-in-Some-clause-ends g c = record {
  left = record {
    restored = restored_itself (standing c.args.scope.now);
    serves =
        kept_desk g.A.Algebra.algebra (standing c.args.scope.now).net (standing c.args.scope.now).rules c.args.task.now.target.path.now c.propose.new.desk _
        (record { cone = refl; states = refl; blame = refl; liked = refl; justifier = c.learn_first_tree.ensures; judge = refl }) c.propose.ensures.desk;
  };
  found = grind (arith, common_steps);
  counted = tt;
  unfinished = tt;
}

pub returns-in_err-pair-clause-ends : goal.returns-in_err-pair-clause-ends
returns-in_err-pair-clause-ends g c = record {
  left = record { restored = restored_itself (standing c.args.scope.now); serves = c.propose.ensures.desk };
  found = grind (arith, common_steps);
  counted = grind (arith, common_steps);
  unfinished = grind (arith, common_steps);
}

pub returns-in-None-clause-ends : goal.returns-in-None-clause-ends
returns-in-None-clause-ends g c = c.split_in_turns.ensures.ends
