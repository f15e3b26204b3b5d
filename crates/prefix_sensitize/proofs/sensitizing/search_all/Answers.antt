-- What was found for the rising transition stays while the falling one is searched for.
use Rattle.std.proofs.Common.{List, refl, sym, subst₂}
use Rattle.pd_base.specs.declared.fault.Direction.TheVariants.{Rise, Fall}
use Rattle.pd_base.specs.declared.rules.Rules.{Rules}
use Rattle.netlist.specs.Circuit.{Circuit}
use Rattle.runs.specs.declared.run.Proof.{Proof}
use Rattle.prefix_sensitize.specs.Outcomes.{AreFoundProofs}
use Rattle.prefix_sensitize.specs.Searches.{AreBothOutcomesFrom}
use Rattle.prefix_sensitize.proofs.BothKinds.{fall_is_new, none_found, none_is_for, rises_stay}
use Rattle.prefix_sensitize.proofs.sensitizing.search_all.Goals as goal

pub search_direction-requires-clause-ready : goal.search_direction-requires-clause-ready
search_direction-requires-clause-ready g c = c.requires.ready

pub search_direction-requires-clause-before : goal.search_direction-requires-clause-before
search_direction-requires-clause-before g c = record {
  found =
      none_found c.args.engine.now.net c.args.engine.now.rules c.args.budget c.args.listed.now.paths.now c.new-none.result.items
      c.new-none.ensures.items;
  fresh = none_is_for Rise c.new-none.result.items c.new-none.ensures.items;
}

pub search_direction-requires-2-clause-ready : goal.search_direction-requires-2-clause-ready
search_direction-requires-2-clause-ready g c = c.in_ok-rises.ensures.ready

pub search_direction-requires-2-clause-before : goal.search_direction-requires-2-clause-before
search_direction-requires-2-clause-before g c =
    let rest = c.in_ok-rises.ensures.rest in
    let proofs = c.in_ok-rises.rises.proofs.items in
    let Found : Circuit → Rules → Type 0 = λ net rules. AreFoundProofs net rules c.args.budget c.args.listed.now.paths.now proofs in
    record {
      found = subst₂ Found (sym rest.net) (sym rest.rules) c.in_ok-rises.ensures.found.proofs;
      fresh = fall_is_new c.new-none.result.items proofs c.new-none.ensures.items c.in_ok-rises.ensures.found.adds;
    }

pub returns-clause-outcomes : goal.returns-clause-outcomes
returns-clause-outcomes g c =
    let rest = c.in_ok-rises.ensures.rest in
    let rises = c.in_ok-rises.rises in
    let falls = c.in_ok-falls.falls in
    let paths = c.args.listed.now.paths.now in
    let proofs = falls.proofs.items in
    let Found : Circuit → Rules → Type 0 = λ net rules. AreFoundProofs net rules c.args.budget paths proofs in
    let Falls : Circuit → Rules → Type 0 = λ net r. AreBothOutcomesFrom net r paths proofs Fall 0 falls.outcomes in
    record {
      are_searches = record {
        fit = c.requires.ready.desk.fit;
        are_paths = c.requires.ready.listed.are_paths;
        few = c.requires.ready.listed.few;
        found = subst₂ Found rest.net rest.rules c.in_ok-falls.ensures.found.proofs;
      };
      budget = refl;
      proofs = refl {A = List Proof};
      rises = rises_stay c.args.engine.now.net c.args.engine.now.rules paths rises.proofs.items proofs rises.outcomes
          c.in_ok-falls.ensures.found.adds c.in_ok-rises.ensures.found.outcomes;
      falls = subst₂ Falls rest.net rest.rules c.in_ok-falls.ensures.found.outcomes;
    }
