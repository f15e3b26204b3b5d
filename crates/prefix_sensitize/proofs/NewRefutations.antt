-- A refutation that comes up on a path names the least listed path that has the refuted prefix, and applies to all paths that have it.
use Rattle.std.proofs.Common.{◌≡◌, ⊎_elim, ℕ, ◌+◌, ◌-◌, ◌<◌, ◌≤◌, true, false, true≢false, List, length, Some, refl, sym, ap, subst, ◌∙◌, arith}
use Rattle.std.specs.Prelude.{slice_get}
use Rattle.std.proofs.lemmas.Bool.{cases_lt}
use Rattle.std.proofs.lemmas.List.{take-take}
use Rattle.pd_base.specs.declared.rules.Rules.{Rules}
use Rattle.pd_base.specs.Route.{Route}
use Rattle.pd_base.specs.Target.{Target}
use Rattle.netlist.specs.Circuit.{Circuit}
use Rattle.netlist.specs.Paths.{IsPrefixOf, prefix_of}
use Rattle.path_laws.proofs.Prefixes.{is_prefix_of}
use Rattle.runs.specs.declared.run.Proof.{Proof}
use Rattle.trees.specs.declared.tree.Node.{Node}
use Rattle.trees.specs.Refutations.{IsRefutation}
use Rattle.trees.specs.Spent.{IsSpent}
use Rattle.good_runs.specs.Faults.{Applies, IsNumber}
use Rattle.good_runs.specs.GoodRun.{IsGoodRefutation}
use Rattle.good_runs.specs.Shortest.{ClosesAtStart, IsShortest}
use Rattle.good_runs.proofs.Numbers.{number_of_place, number_same}
use Rattle.prefix_sensitize.specs.declared.outcome.Aim.{Aim}
use Rattle.prefix_sensitize.specs.Entering.{RefutesPrefix}
use Rattle.prefix_sensitize.specs.Outcomes.{IsFoundProof, target_for}
use Rattle.prefix_sensitize.specs.PathOrder.{IsOrder, IsStretch, StandsInOrder}
use Rattle.prefix_sensitize.specs.Settling.{found_proof}
use Rattle.prefix_sensitize.proofs.OrderPlaces.{same_item, some_path, some_place}
use Rattle.prefix_sensitize.proofs.RoutePrefixes.{fewer_steps, steps_of_prefix}

-- the first steps of the first steps
cut_again : (count more : ℕ) (route : Route) → count ≤ more → prefix_of count (prefix_of more route) ≡ prefix_of count route
cut_again count more route within = λ i. record { source = route.source; steps = take-take count more route.steps within i }

module _ (c : Circuit) (rules : Rules) (routes : List Route) (order : List ℕ) (is_order : IsOrder routes order) (aim : Aim) (place : ℕ)
    (route : Route) (steps : ℕ) (tree : List Node) (refutes : RefutesPrefix c rules aim route steps tree)
    (none_earlier : (at row : ℕ) (other : Route) → StandsInOrder routes order at row other → IsPrefixOf (prefix_of steps route) other
    → place ≤ at)
    (end least : ℕ) (stretch : IsStretch routes order (prefix_of steps route) place end least) where
  -- the refuted prefix, and the new proof
  abbrev prefix : Route
  prefix = prefix_of steps route

  abbrev added : Proof
  added = found_proof aim false least steps tree

  its_steps : length prefix.steps ≡ steps
  its_steps = steps_of_prefix steps route refutes.has_steps

  -- the path of the least row
  least_path : (named : Route) × StandsInOrder routes order stretch.at_least least named
  least_path =
      let inside = stretch.least_inside in
      let in_order = stretch.in_order in
      let some = some_path routes order is_order stretch.at_least (omega (arith, inside, in_order)) in
      let P : ℕ → Type 0 = λ row. slice_get routes row ≡ Some some.1 in (
        some.1,
        record {
          is_placed = stretch.is_placed;
          is_listed = subst P (same_item order stretch.at_least some.0 least some.2.is_placed stretch.is_placed) some.2.is_listed;
        },
      )

  abbrev named : Route
  named = least_path.0

  names : IsNumber routes (least + 1) named
  names = number_of_place routes least named least_path.1.is_listed

  named_has : IsPrefixOf prefix named
  named_has = stretch.inside stretch.at_least least named least_path.1 stretch.least_behind stretch.least_inside

  cut : prefix_of steps named ≡ prefix
  cut = ap (λ (count : ℕ). prefix_of count named) (sym its_steps) ∙ sym (is_prefix_of prefix named named_has)

  -- it applies to each path that has the prefix, and to no other
  pub applies_to : (other : Route) → IsPrefixOf prefix other → Applies routes (target_for aim other) added
  applies_to other begins = record {
    refutes = refl;
    is_about = record { of_kind = refl; of_direction = refl };
    listed = named;
    is_listed = names;
    has_prefix = let P : Route → Type 0 = λ r. IsPrefixOf r other in subst P (sym cut) begins;
  }

  pub applies_only : (target : Target) → Applies routes target added → IsPrefixOf prefix target.path
  applies_only target applies =
      let P : Route → Type 0 = λ r. IsPrefixOf (prefix_of steps r) target.path in
      let Q : Route → Type 0 = λ r. IsPrefixOf r target.path in
      let same : applies.listed ≡ named = number_same routes (least + 1) applies.listed named applies.is_listed names in
      subst Q cut (subst P same applies.has_prefix)

  is_first : (other : ℕ) (listed : Route) → IsNumber routes other listed → IsPrefixOf (prefix_of steps named) listed → least + 1 ≤ other
  is_first other listed is begins =
      let P : Route → Type 0 = λ r. IsPrefixOf r listed in
      let has : IsPrefixOf prefix listed = subst P cut begins in
      let some = is.positive in
      let stands = some_place routes order is_order (other - 1) listed is.found in
      let behind : place ≤ stands.0 = none_earlier stands.0 (other - 1) listed stands.1 has in
      ⊎_elim
      (λ (inside : stands.0 < end).
      let low : least ≤ other - 1 = stretch.is_least stands.0 (other - 1) behind inside stands.1.is_placed in
      omega (arith, low, some))
      (λ (past : end ≤ stands.0). absurd (stretch.behind stands.0 (other - 1) listed stands.1 past has)) (cases_lt stands.0 end)

  is_good : IsGoodRefutation c rules aim.budget routes added
  is_good = record {
    listed = named;
    is_listed = names;
    has_steps = let many = fewer_steps prefix named named_has in omega (arith, many, its_steps);
    is_first = is_first;
    within_budget = refutes.within_budget;
    refutation =
        let P : Route → Type 0 = λ r. IsRefutation c rules (target_for aim r) tree in
        subst P (sym cut) refutes.refutes;
  }

  same_start : (fewer : ℕ) → fewer ≤ steps → prefix_of fewer named ≡ prefix_of fewer route
  same_start fewer less = sym (cut_again fewer steps named less) ∙ ap (prefix_of fewer) cut ∙ cut_again fewer steps route less

  is_shortest : IsShortest c rules routes added
  is_shortest listed is closes =
      let same : listed ≡ named = number_same routes (least + 1) listed named is names in
      let Closes : Route → Type 0 = λ r. ClosesAtStart c rules (target_for aim r) in
      let P : Route → Type 0 = λ r. Closes (prefix_of steps r) in
      let short = refutes.shortest (subst Closes cut (subst P same closes)) in (
        short.0,
        λ fewer less not.
            (let Q : Route → Type 0 = λ r. Closes (prefix_of fewer r) in
            short.1 fewer less (subst Closes (same_start fewer (omega (arith, less))) (subst Q same not))),
      )

  pub refutation_found : IsFoundProof c rules aim.budget routes added
  refutation_found = record {
    refutes = λ is. (is_good, is_shortest);
    spent = λ is. absurd (true≢false (sym is));
  }

module _ (c : Circuit) (rules : Rules) (routes : List Route) (aim : Aim) (row : ℕ) (route : Route) (here : slice_get routes row ≡ Some route)
    (tree : List Node) (is_spent : IsSpent c rules (target_for aim route) aim.budget tree) where
  -- a spent tree is a proof that applies to no path
  pub spent_found : IsFoundProof c rules aim.budget routes (found_proof aim true row (length route.steps) tree)
  spent_found = record {
    refutes = λ is. absurd (true≢false is);
    spent = λ is. record { listed = route; is_listed = number_of_place routes row route here; whole = refl; is_spent = is_spent };
  }

-- a spent tree refutes nothing
pub spent_applies_not : (routes : List Route) (aim : Aim) (row steps : ℕ) (tree : List Node) (target : Target)
    → ¬ Applies routes target (found_proof aim true row steps tree)
spent_applies_not routes aim row steps tree target applies = true≢false applies.refutes
