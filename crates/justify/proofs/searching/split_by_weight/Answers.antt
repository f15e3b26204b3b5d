-- A tree grows at the desk at which it has begun.
use Rattle.std.proofs.Common.{refl, arith}
use Rattle.implication.specs.Scopes.{standing}
use Rattle.justify.proofs.TriedSources.{kept_desk}
use Rattle.justify.proofs.searching.split_by_weight.Goals as goal

pub split_cases-requires : goal.split_cases-requires
split_cases-requires g c = record {
  root = record {
    suits = c.requires.root.suits;
    start = c.requires.root.start;
    left_open = c.requires.root.left_open;
    budget = (let few = c.requires.splits in let most = c.requires.root.budget in omega (arith, few, most));
    serves =
        kept_desk g.A.Algebra.algebra (standing c.args.scope.now).net (standing c.args.scope.now).rules c.args.task.now.target.path.now
        c.args.desk.now _ (record { cone = refl; states = refl; blame = refl; liked = refl; justifier = c.begin_tree.ensures; judge = refl })
        c.requires.root.serves;
  };
}

pub returns-clause-ends : goal.returns-clause-ends
returns-clause-ends g c =
    let ends = c.split_cases.ensures.ends in
    record {
      left = record { restored = ends.left.restored; serves = ends.left.serves };
      found = ends.found;
      counted = ends.counted;
      unfinished = ends.unfinished;
    }
