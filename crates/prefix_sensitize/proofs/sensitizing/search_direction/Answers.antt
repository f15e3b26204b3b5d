-- The two walks give the outcomes for the transition, and all that they add is for it.
use Rattle.std.proofs.Common.{length, map, not, true, refl, sym, ap, subst₂, ◌∙◌, arith}
use Rattle.std.proofs.lemmas.List.{length-replicate}
use Rattle.pd_base.specs.declared.fault.Kind.TheVariants.{Robust, Nonrobust}
use Rattle.pd_base.specs.declared.rules.Rules.{Rules}
use Rattle.netlist.specs.Circuit.{Circuit}
use Rattle.prefix_sensitize.specs.declared.outcome.RowOutcome.{RowOutcome}
use Rattle.prefix_sensitize.specs.Outcomes.{AreFoundProofs, AreOutcomes}
use Rattle.prefix_sensitize.specs.Searches.{is_test}
use Rattle.prefix_sensitize.specs.Walks.{AreExcused}
use Rattle.prefix_sensitize.proofs.BothKinds.{all_excused, both_add, both_are, none_about, nonrobust_is_new, some_each, untested_excused}
use Rattle.prefix_sensitize.proofs.Counting.{counted}
use Rattle.prefix_sensitize.proofs.sensitizing.search_direction.Goals as goal

pub walk-requires-clause-ready : goal.walk-requires-clause-ready
walk-requires-clause-ready g c = c.requires.ready

pub walk-requires-clause-asked : goal.walk-requires-clause-asked
walk-requires-clause-asked g c = record {
  one_each =
      ap length (c.in_ok-all.ensures.items_if_clones_equal (λ y same. same)) ∙ length-replicate (length c.args.listed.now.paths.now) true;
  excused =
      all_excused c.args.engine.now.net c.args.engine.now.rules c.args.listed.now.paths.now c.args.direction c.args.budget c.in_ok-all.all.items
      (c.in_ok-all.ensures.items_if_clones_equal (λ y same. same)) Robust;
}

pub walk-requires-clause-before : goal.walk-requires-clause-before
walk-requires-clause-before g c = record {
  found = c.requires.before.found;
  fresh =
      none_about c.args.engine.now.net c.args.engine.now.rules c.args.listed.now.paths.now c.args.direction c.args.budget Robust c.args.proofs.items
      c.requires.before.fresh;
}

pub walk-requires-clause-room : goal.walk-requires-clause-room
walk-requires-clause-room g c = let room = c.requires.room in omega (arith, room)

pub walk-requires-2-clause-ready : goal.walk-requires-2-clause-ready
walk-requires-2-clause-ready g c = c.in_ok-robust.ensures.ready

pub walk-requires-2-clause-asked : goal.walk-requires-2-clause-asked
walk-requires-2-clause-asked g c =
    let rest = c.in_ok-robust.ensures.rest in
    let P : Circuit → Rules → Type 0 = λ net r. AreExcused net r (record { kind = Nonrobust; direction = c.args.direction; budget = c.args.budget })
    c.args.listed.now.paths.now c.in_ok-untested.untested.items in
    record {
      one_each =
          some_each c.args.engine.now.net c.args.engine.now.rules c.args.listed.now.paths.now c.args.direction c.args.budget c.in_ok-all.all.items
          (c.in_ok-all.ensures.items_if_clones_equal (λ y same. same)) c.in_ok-robust.robust.proofs.items c.in_ok-robust.robust.outcomes.items
          c.in_ok-robust.ensures.found.outcomes c.in_ok-untested.untested.items
          (c.in_ok-untested.ensures ∙ ap (map (λ (outcome : RowOutcome). not (is_test outcome))) c.as_slice.ensures.value);
      excused =
          subst₂ P (sym rest.net) (sym rest.rules)
          (untested_excused c.args.engine.now.net c.args.engine.now.rules c.args.listed.now.paths.now c.args.direction c.args.budget c.in_ok-all.all.items
          (c.in_ok-all.ensures.items_if_clones_equal (λ y same. same)) c.in_ok-robust.robust.proofs.items c.in_ok-robust.robust.outcomes.items
          c.in_ok-robust.ensures.found.outcomes c.in_ok-untested.untested.items
          (c.in_ok-untested.ensures ∙ ap (map (λ (outcome : RowOutcome). not (is_test outcome))) c.as_slice.ensures.value));
    }

pub walk-requires-2-clause-before : goal.walk-requires-2-clause-before
walk-requires-2-clause-before g c =
    let rest = c.in_ok-robust.ensures.rest in
    let proofs = c.in_ok-robust.robust.proofs.items in
    let Found : Circuit → Rules → Type 0 = λ net rules. AreFoundProofs net rules c.args.budget c.args.listed.now.paths.now proofs in
    record {
      found = subst₂ Found (sym rest.net) (sym rest.rules) c.in_ok-robust.ensures.found.proofs;
      fresh =
          nonrobust_is_new c.args.engine.now.net c.args.engine.now.rules c.args.listed.now.paths.now c.args.direction c.args.budget c.args.proofs.items proofs
          c.requires.before.fresh c.in_ok-robust.ensures.found.adds;
    }

pub walk-requires-2-clause-room : goal.walk-requires-2-clause-room
walk-requires-2-clause-room g c =
    let few = c.requires.ready.tree.few in
    let grown = counted c.args.listed.now.paths.now c.args.listed.now.tree.now c.requires.ready.tree c.args.steps.now c.walk.new.steps c.walk.ensures.counted in
    let room = c.requires.room in
    omega (arith, few, grown, room)

pub returns-clause-ready : goal.returns-clause-ready
returns-clause-ready g c = c.in_ok-nonrobust.ensures.ready

pub returns-clause-rest : goal.returns-clause-rest
returns-clause-rest g c =
    let before = c.in_ok-robust.ensures.rest in
    let after = c.in_ok-nonrobust.ensures.rest in
    record {
      net = after.net ∙ before.net;
      rules = after.rules ∙ before.rules;
      ends = after.ends ∙ before.ends;
      idle = after.idle;
    }

pub returns-clause-found : goal.returns-clause-found
returns-clause-found g c =
    let rest = c.in_ok-robust.ensures.rest in
    let robust = c.in_ok-robust.robust in
    let nonrobust = c.in_ok-nonrobust.nonrobust in
    let Found : Circuit → Rules → Type 0 = λ net rules. AreFoundProofs net rules c.args.budget c.args.listed.now.paths.now nonrobust.proofs.items in
    let P : Circuit → Rules → Type 0 = λ net r. AreOutcomes net r c.args.listed.now.paths.now nonrobust.proofs.items c.in_ok-untested.untested.items
    (record { kind = Nonrobust; direction = c.args.direction; budget = c.args.budget }) nonrobust.outcomes.items in
    record {
      outcomes =
          both_are c.args.engine.now.net c.args.engine.now.rules c.args.listed.now.paths.now c.args.direction c.args.budget c.in_ok-all.all.items
          (c.in_ok-all.ensures.items_if_clones_equal (λ y same. same)) c.in_ok-robust.robust.proofs.items c.in_ok-robust.robust.outcomes.items
          c.in_ok-robust.ensures.found.outcomes c.in_ok-untested.untested.items
          (c.in_ok-untested.ensures ∙ ap (map (λ (outcome : RowOutcome). not (is_test outcome))) c.as_slice.ensures.value)
          nonrobust.proofs.items nonrobust.outcomes.items c.in_ok-nonrobust.ensures.found.adds
          (subst₂ P rest.net rest.rules c.in_ok-nonrobust.ensures.found.outcomes) _ refl refl;
      proofs = subst₂ Found rest.net rest.rules c.in_ok-nonrobust.ensures.found.proofs;
      adds =
          both_add c.args.engine.now.net c.args.engine.now.rules c.args.listed.now.paths.now c.args.direction c.args.budget c.args.proofs.items robust.proofs.items
          nonrobust.proofs.items c.in_ok-robust.ensures.found.adds c.in_ok-nonrobust.ensures.found.adds;
    }

pub returns-in_err-robust-clause-steps : goal.returns-in_err-robust-clause-steps
returns-in_err-robust-clause-steps g c =
    let first = counted c.args.listed.now.paths.now c.args.listed.now.tree.now c.requires.ready.tree c.args.steps.now c.walk.new.steps c.walk.ensures.counted in
    omega (arith, first)

pub returns-in_err-untested-clause-steps : goal.returns-in_err-untested-clause-steps
returns-in_err-untested-clause-steps g c =
    let first = counted c.args.listed.now.paths.now c.args.listed.now.tree.now c.requires.ready.tree c.args.steps.now c.walk.new.steps c.walk.ensures.counted in
    omega (arith, first)

pub returns-in_err-nonrobust-clause-steps : goal.returns-in_err-nonrobust-clause-steps
returns-in_err-nonrobust-clause-steps g c =
    let first = counted c.args.listed.now.paths.now c.args.listed.now.tree.now c.requires.ready.tree c.args.steps.now c.walk.new.steps c.walk.ensures.counted in
    let second = counted c.args.listed.now.paths.now c.args.listed.now.tree.now c.requires.ready.tree c.walk.new.steps c.walk-2.new.steps c.walk-2.ensures.counted in
    omega (arith, first, second)

pub returns-clause-steps : goal.returns-clause-steps
returns-clause-steps g c =
    let first = counted c.args.listed.now.paths.now c.args.listed.now.tree.now c.requires.ready.tree c.args.steps.now c.walk.new.steps c.walk.ensures.counted in
    let second = counted c.args.listed.now.paths.now c.args.listed.now.tree.now c.requires.ready.tree c.walk.new.steps c.walk-2.new.steps c.walk-2.ensures.counted in
    omega (arith, first, second)
