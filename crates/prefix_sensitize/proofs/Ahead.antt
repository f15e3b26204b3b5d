-- A refuted prefix is one of no path that the walk has passed: what those share with the path in hand has been entered, or has no
-- refutation, or they have a test.
use Rattle.std.proofs.Common.{◌≡◌, ◌⊎◌, ⊎_elim, ℕ, ◌<◌, ◌≤◌, true, false, true≢false, List, length, Option, sym, subst, ◌∙◌, arith}
use Rattle.std.specs.Prelude.{Contains, slice_index_or}
use Rattle.std.proofs.lemmas.Bool.{cases_Bool, cases_lt}
use Rattle.pd_base.specs.declared.ids.LineId.{LineId}
use Rattle.pd_base.specs.declared.ids.PinRef.{PinRef}
use Rattle.pd_base.specs.declared.rules.Rules.{Rules}
use Rattle.pd_base.specs.Route.{Route}
use Rattle.netlist.specs.Circuit.{Circuit}
use Rattle.netlist.specs.Paths.{IsPath, IsPrefixOf, prefix_of}
use Rattle.path_laws.proofs.Prefixes.{prefix_of-is_prefix}
use Rattle.runs.specs.declared.run.Proof.{Proof}
use Rattle.trees.specs.declared.tree.Node.{Node}
use Rattle.trees.proofs.Refuting.{refutation_excludes_path}
use Rattle.good_runs.specs.Faults.{NoneApplies}
use Rattle.good_runs.specs.Truth.{HasSomeTest}
use Rattle.implication.specs.Standing.{ToldEnds}
use Rattle.prefix_sensitize.specs.declared.course.Course.{Course}
use Rattle.prefix_sensitize.specs.declared.outcome.RowOutcome.{RowOutcome}
use Rattle.prefix_sensitize.specs.Coming.{HasCome, StandsOn}
use Rattle.prefix_sensitize.specs.Courses.{IsCourse}
use Rattle.prefix_sensitize.specs.Entering.{RefutesPrefix}
use Rattle.prefix_sensitize.specs.Outcomes.{target_for}
use Rattle.prefix_sensitize.specs.PathOrder.{ShareSteps, StandsInOrder}
use Rattle.prefix_sensitize.proofs.EnteredPrefixes.{no_more_than_shared}
use Rattle.prefix_sensitize.proofs.OrderPlaces.{all_at, other_route}
use Rattle.prefix_sensitize.proofs.RoutePrefixes.{prefix_through, steps_of_prefix, whole_prefix}

-- what refutes nothing on a path refutes nothing on its prefixes
pub none_above : (course : Course) (proofs : List Proof) (prefix route : Route) → IsPrefixOf prefix route
    → NoneApplies course.paths.now proofs (target_for course.aim route)
    → NoneApplies course.paths.now proofs (target_for course.aim prefix)
none_above course proofs prefix route of none number proof is applies =
    none number proof is
    (record {
      refutes = applies.refutes;
      is_about = record { of_kind = applies.is_about.of_kind; of_direction = applies.is_about.of_direction };
      listed = applies.listed;
      is_listed = applies.is_listed;
      has_prefix = prefix_through (prefix_of proof.steps applies.listed) prefix route applies.has_prefix of;
    })

module _ (c : Circuit) (rules : Rules) (ends : Option ToldEnds) (course : Course) (is_course : IsCourse c rules ends course) (begin place row : ℕ) (route : Route)
    (here : StandsInOrder course.paths.now course.order.now place row route) (outcomes : List RowOutcome) (proofs : List Proof) (steps : ℕ)
    (come : HasCome c rules course begin place outcomes proofs steps) (source : LineId) (pins : List PinRef)
    (on : StandsOn course place come.entered (record { source = source; steps = pins })) (shared : ℕ)
    (is_shared : ShareSteps pins route.steps shared) where
  -- what was entered has no more steps of the path than are shared
  pub low : (prefix : Route) → Contains come.entered prefix → IsPrefixOf prefix route → length prefix.steps ≤ shared
  low prefix inside of =
      no_more_than_shared source pins route prefix shared is_shared
      (on.only prefix inside place row route here (let e : place ≤ place = omega arith in e) of) of

  module _ (count : ℕ) (tree : List Node) (refutes : RefutesPrefix c rules course.aim route count tree) where
    -- the whole path is a prefix of no path before it
    not_whole : (at other : ℕ) (another : Route) → StandsInOrder course.paths.now course.order.now at other another → at < place
        → IsPrefixOf (prefix_of count route) another → ¬ (count ≡ length route.steps)
    not_whole at other another there less begins whole =
        let P : Route → Type 0 = λ r. IsPrefixOf r another in
        let own : IsPrefixOf route another =
        subst P (whole_prefix count route (let e : length route.steps ≤ count = omega arith in e)) begins in
        let same : another ≡ route = is_course.order.prefixes_first at place other row another route there here less own in
        let equal : at ≡ place =
        other_route course.paths.now course.order.now is_course.order is_course.searchable.once at place other row another route there
        here same in
        omega (arith, equal, less)

    -- a longer prefix than is shared is one of none that was searched
    not_searched : (at other : ℕ) (another : Route) → StandsInOrder course.paths.now course.order.now at other another → at < place
        → slice_index_or course.needed.now other false ≡ true → IsPrefixOf (prefix_of count route) another → ¬ (shared < count)
    not_searched at other another there less need begins longer =
        let has : length (prefix_of count route).steps ≡ count = steps_of_prefix count route refutes.has_steps in
        let of = prefix_of-is_prefix count route in
        ⊎_elim
        (λ (inside : Contains come.entered (prefix_of count route)).
        let few = low (prefix_of count route) inside of in
        absurd (omega (arith, few, has, longer)))
        (λ (not : ¬ NoneApplies course.paths.now proofs (target_for course.aim (prefix_of count route))).
        absurd (not
        (none_above course proofs (prefix_of count route) route of
        (come.none_ahead place row route here (let e : place ≤ place = omega arith in e)))))
        (come.whole at other another (prefix_of count route) there less need begins (omega (arith, has, longer)))

    -- nor of one that has a test
    not_tested : (at other : ℕ) (another : Route) → StandsInOrder course.paths.now course.order.now at other another
        → HasSomeTest c rules (target_for course.aim another) → ¬ IsPrefixOf (prefix_of count route) another
    not_tested at other another there test begins =
        let path : IsPath c another = all_at (IsPath c) course.paths.now other another is_course.searchable.are_paths there.is_listed in
        refutation_excludes_path c is_course.circuit rules is_course.fit course.aim.kind (prefix_of count route) another path.prefix begins course.aim.direction
        tree refutes.refutes test.pair test.of_rules test.meets

    -- so the paths that have it stand from here on
    pub none_earlier : (shared < count) ⊎ (count ≡ length route.steps) → (at other : ℕ) (another : Route)
        → StandsInOrder course.paths.now course.order.now at other another → IsPrefixOf (prefix_of count route) another → place ≤ at
    none_earlier which at other another there begins =
        ⊎_elim
        (λ (less : at < place).
        ⊎_elim
        (λ (longer : shared < count).
        ⊎_elim
        (λ (need : slice_index_or course.needed.now other false ≡ true).
        absurd (not_searched at other another there less need begins longer))
        (λ (not : slice_index_or course.needed.now other false ≡ false).
        absurd (not_tested at other another there
        (is_course.excused other another there.is_listed (λ need. true≢false (sym need ∙ not))) begins))
        (cases_Bool (slice_index_or course.needed.now other false)))
        (λ (whole : count ≡ length route.steps). absurd (not_whole at other another there less begins whole)) which)
        (λ (behind : place ≤ at). behind) (cases_lt at place)
