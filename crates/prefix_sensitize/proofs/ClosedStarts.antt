-- A start that closes at a source, before a pin is entered: one closed leaf refutes all paths from there. The walk has passed none of
-- them, since no test, no spent tree and no refutation of a longer prefix can stand on such a path.
use Rattle.std.proofs.Common.{◌≡◌, ⊎_elim, ℕ, ◌+◌, ◌<◌, ◌≤◌, true, false, true≢false, List, [], ◌∷◌, map, take, Option, Some, None, refl, sym, ap, subst, subst₂, ◌∙◌, arith}
use Rattle.std.specs.Prelude.{is_some, IfNone, IfSome, slice_index_or}
use Rattle.std.proofs.lemmas.Bool.{cases_Bool, cases_lt}
use Rattle.pd_base.specs.declared.fault.Direction.{Direction}
use Rattle.pd_base.specs.declared.fault.Kind.{Kind}
use Rattle.pd_base.specs.declared.rules.Rules.{Rules}
use Rattle.pd_base.specs.Pair.{Vectors}
use Rattle.pd_base.specs.Route.{Route}
use Rattle.pd_base.specs.Target.{target_of}
use Rattle.netlist.specs.Circuit.{Circuit}
use Rattle.netlist.specs.Conditions.{Meets}
use Rattle.netlist.specs.LinkedPairs.{IsOfRules}
use Rattle.netlist.specs.Paths.{IsPath, IsPrefixOf, prefix_of}
use Rattle.pd_base.specs.Links.{links_of}
use Rattle.state_sets.specs.StateAlgebra.{StateAlgebra}
use Rattle.state_sets.specs.Hulls.{IsNarrowingOf}
use Rattle.state_laws.specs.Nodes.{MayBe}
use Rattle.state_laws.proofs.Hulls.{not_closing, prefix_closes}
use Rattle.runs.specs.declared.run.Proof.{Proof}
use Rattle.trees.specs.declared.tree.Node.{Node}
use Rattle.trees.specs.declared.tree.Node.TheVariants.{Closed}
use Rattle.trees.specs.Algebras.{algebra_of}
use Rattle.trees.specs.Trees.{split_count}
use Rattle.trees.specs.Trees.Cases.{closed}
use Rattle.trees.proofs.Refuting.{refutation_excludes_path}
use Rattle.implication.specs.declared.assumption.Assumption.{Assumption}
use Rattle.implication.specs.declared.assumption.Assumption.TheVariants.{Entered}
use Rattle.implication.specs.declared.assumption.Beginning.{Beginning}
use Rattle.implication.specs.declared.assumption.Conflict.{Conflict}
use Rattle.implication.specs.Standing.{ToldEnds, Standing, IsEmptiedFrom, IsEmptiedIn}
use Rattle.good_runs.specs.Faults.{CitesRefutation, CitesSpent, IsNumber}
use Rattle.good_runs.specs.Faults.HasProof.{refuted, spent}
use Rattle.good_runs.specs.GoodRun.{IsGoodSpent}
use Rattle.good_runs.specs.Shortest.{ClosesAtStart, IsShortest, target_within}
use Rattle.good_runs.proofs.Completeness.{root_is_open}
use Rattle.good_runs.proofs.Numbers.{all_at_number, number_of_place, number_same}
use Rattle.prefix_sensitize.specs.declared.course.Course.{Course}
use Rattle.justify.specs.declared.answer.Found.TheVariants.{Refuted}
use Rattle.prefix_sensitize.specs.declared.descent.FoundAlong.{FoundAlong}
use Rattle.prefix_sensitize.specs.declared.outcome.Aim.{Aim}
use Rattle.prefix_sensitize.specs.declared.outcome.Findings.{Findings}
use Rattle.prefix_sensitize.specs.declared.outcome.RowOutcome.{RowOutcome}
use Rattle.prefix_sensitize.specs.declared.outcome.RowOutcome.TheVariants.{Unsearched, Tested, Proved}
use Rattle.prefix_sensitize.specs.Coming.{HasCome, HasComeApart, HasComeOn}
use Rattle.prefix_sensitize.specs.Courses.{IsCourse}
use Rattle.prefix_sensitize.specs.Entering.{RefutesPrefix, refuted_at}
use Rattle.prefix_sensitize.specs.Outcomes.{IsFoundProof, IsOutcome, outcome_at, target_for}
use Rattle.prefix_sensitize.specs.PathOrder.{StandsInOrder}
use Rattle.prefix_sensitize.specs.Settling.{Settles}
use Rattle.prefix_sensitize.specs.Walking.{ComesOn}
use Rattle.prefix_sensitize.proofs.AlongPaths.{closes_at}
use Rattle.prefix_sensitize.proofs.Ended.{HasVisited, StandsNoEarlier, by_end}
use Rattle.prefix_sensitize.proofs.OrderPlaces.{all_at}
use Rattle.prefix_sensitize.proofs.Passing.{come_alone, come_from, keeps_added}
use Rattle.prefix_sensitize.proofs.Reached.{HasReached}

-- where a scope leaves some line no state that has begun for the aim and entered the first pins of a path, the start of the prefix closes
module _ (a : StateAlgebra) (standing : Standing) (of_rules : a ≡ algebra_of standing.rules) (path : Route) (aim : Aim) (count : ℕ)
    (began : standing.beginning ≡ Some (record { source = path.source; direction = aim.direction; kind = aim.kind }))
    (entered : standing.assumptions ≡ map Entered (take count path.steps)) where
  begun_closes : (line : ℕ) → IsEmptiedIn a standing line → ClosesAtStart standing.net standing.rules (target_for aim (prefix_of count path))
  begun_closes line emptied =
      let begun : Beginning = record { source = path.source; direction = aim.direction; kind = aim.kind } in
      let P : Option Beginning → List Assumption → Type 0 = λ b list. IsEmptiedFrom a standing.net standing.rules b list line in
      let here : IsEmptiedFrom a standing.net standing.rules (Some begun) (map Entered (take count path.steps)) line =
      subst₂ P began entered emptied in
      closes_at a standing.net standing.rules of_rules begun path refl count line here.0 here.1

  pub conflict_closes : (found : Option Conflict) → is_some found ≡ true → IfSome found (λ conflict. IsEmptiedIn a standing conflict.0.0)
      → ClosesAtStart standing.net standing.rules (target_for aim (prefix_of count path))
  conflict_closes None some emptied = absurd (true≢false (sym some))
  conflict_closes (Some conflict) some emptied = begun_closes conflict.0.0 emptied

pub no_conflict : {X : Type 0} {P : Type 0} → (found : Option X) → is_some found ≡ false → IfNone found P → P
no_conflict None none free = free
no_conflict (Some conflict) none free = absurd (true≢false none)

module _ (c : Circuit) (rules : Rules) (ends : Option ToldEnds) (course : Course) (is_course : IsCourse c rules ends course)
    (begin place row : ℕ) (route : Route) (here : StandsInOrder course.paths.now course.order.now place row route)
    (closes : ClosesAtStart c rules (target_for course.aim (prefix_of 0 route))) where
  -- one closed leaf refutes the source
  start_refutes : RefutesPrefix c rules course.aim route 0 (Closed ∷ [])
  start_refutes = record {
    has_steps = omega arith;
    refutes = record { cases = closed; tree = refl; refutes = closes };
    within_budget = (let none : split_count (Closed ∷ []) ≡ 0 = refl in omega (arith, none));
    shortest = λ _. (refl, λ fewer less. absurd (omega (arith, less)));
  }

  -- the start of each path from there closes
  closes_on : (other : Route) → IsPrefixOf (prefix_of 0 route) other → ClosesAtStart c rules (target_for course.aim other)
  closes_on other begins =
      prefix_closes (algebra_of rules) c rules (prefix_of 0 route) other begins course.aim.direction course.aim.kind [] closes

  closes_on_prefix : (other : Route) → route.source ≡ other.source → (count : ℕ)
      → ClosesAtStart c rules (target_for course.aim (prefix_of count other))
  closes_on_prefix other same count =
      closes_on (prefix_of count other) (record { source = same; rest = take count other.steps; steps = refl })

  module _ (outcomes : List RowOutcome) (proofs : List Proof) (steps : ℕ) (come : HasCome c rules course begin place outcomes proofs steps)
      (at other : ℕ) (another : Route) (there : StandsInOrder course.paths.now course.order.now at other another)
      (begins : IsPrefixOf (prefix_of 0 route) another) where
    no_test : (pair : Vectors) → IsOfRules c rules pair → ¬ Meets c (target_for course.aim another) pair
    no_test pair of_rules =
        let path : IsPath c another = all_at (IsPath c) course.paths.now other another is_course.searchable.are_paths there.is_listed in
        refutation_excludes_path c is_course.circuit rules is_course.fit course.aim.kind (prefix_of 0 route) another path.prefix begins
        course.aim.direction (Closed ∷ []) start_refutes.refutes pair of_rules

    -- a refutation that applies to such a path would be one of the source, and apply to the path in hand
    not_refuted : (number : ℕ) → ¬ CitesRefutation course.paths.now proofs (target_for course.aim another) number
    not_refuted number cites =
        let proof = cites.proof in
        let applies = cites.applies in
        let listed = applies.listed in
        let about = applies.is_about in
        let found : IsFoundProof c rules course.aim.budget course.paths.now proof =
        all_at_number (IsFoundProof c rules course.aim.budget course.paths.now) proofs number proof come.found.each cites.is_proof in
        let shortest : IsShortest c rules course.paths.now proof = (found.refutes applies.refutes).1 in
        let same : route.source ≡ listed.source = begins.source ∙ sym applies.has_prefix.source in
        let Closing : ℕ → Direction → Kind → Type 0 = λ count d k. ClosesAtStart c rules (target_of (prefix_of count listed) d k) in
        let within : (count : ℕ) → ClosesAtStart c rules (target_within proof listed count) =
        λ count. subst₂ (Closing count) (sym about.of_direction) (sym about.of_kind) (closes_on_prefix listed same count) in
        ⊎_elim
        (λ (longer : 0 < proof.steps).
        absurd ((shortest listed applies.is_listed (within proof.steps)).1 0 longer (within 0)))
        (λ (none : proof.steps ≤ 0).
        let zero : 0 ≡ proof.steps = omega (arith, none) in
        let P : ℕ → Type 0 = λ count. IsPrefixOf (prefix_of count listed) route in
        absurd (come.none_ahead place row route here (let e : place ≤ place = omega arith in e) number proof cites.is_proof
        (record {
          refutes = applies.refutes;
          is_about = about;
          listed = listed;
          is_listed = applies.is_listed;
          has_prefix = subst P zero (record { source = sym same; rest = route.steps; steps = refl });
        })))
        (cases_lt 0 proof.steps)

    -- the root of a spent tree is open
    not_spent : (number : ℕ) → ¬ CitesSpent proofs course.aim.kind course.aim.direction (other + 1) number
    not_spent number cites =
        let proof = cites.proof in
        let about = cites.is_about in
        let found : IsFoundProof c rules course.aim.budget course.paths.now proof =
        all_at_number (IsFoundProof c rules course.aim.budget course.paths.now) proofs number proof come.found.each cites.is_proof in
        let good : IsGoodSpent c rules course.aim.budget course.paths.now proof = found.spent cites.spent in
        let N : ℕ → Type 0 = λ n. IsNumber course.paths.now n good.listed in
        let same : another ≡ good.listed =
        number_same course.paths.now (other + 1) another good.listed (number_of_place course.paths.now other another there.is_listed)
        (subst N cites.of_path good.is_listed) in
        let target = target_of good.listed proof.dir proof.kind in
        let Of : Route → Type 0 = λ r. ClosesAtStart c rules (target_for course.aim r) in
        let Closing : Direction → Kind → Type 0 = λ d k. ClosesAtStart c rules (target_of good.listed d k) in
        let closing : ClosesAtStart c rules target =
        subst₂ Closing (sym about.of_direction) (sym about.of_kind) (subst Of same (closes_on another begins)) in
        let root = root_is_open c rules target course.aim.budget proof.tree good.is_spent in
        not_closing (algebra_of rules) c (IsNarrowingOf c (links_of rules) target.kind target.path.steps)
        (MayBe (algebra_of rules) c rules target []) root.0 root.1.is_hull root.1.none_empty closing

    not_settled : (outcome : RowOutcome) → ¬ IsOutcome c rules course.paths.now proofs other (target_for course.aim another) outcome
    not_settled Unsearched is = is
    not_settled (Tested pair) is = no_test pair is.of_rules is.meets
    not_settled (Proved index) (refuted cites) = not_refuted (index + 1) cites
    not_settled (Proved index) (spent none cites) = not_spent (index + 1) cites

    -- so the path stands from here on
    stands_behind : place ≤ at
    stands_behind =
        ⊎_elim
        (λ (less : at < place).
        ⊎_elim
        (λ (need : slice_index_or course.needed.now other false ≡ true).
        absurd (not_settled (outcome_at outcomes other) (come.settled at other another there less need)))
        (λ (not : slice_index_or course.needed.now other false ≡ false).
        let test = is_course.excused other another there.is_listed (λ need. true≢false (sym need ∙ not)) in
        absurd (no_test test.pair test.of_rules test.meets))
        (cases_Bool (slice_index_or course.needed.now other false)))
        (λ (behind : place ≤ at). behind) (cases_lt at place)

  module _ (before after : Findings) (steps : ℕ) (come : HasComeApart c rules course begin place before steps) (end : ℕ)
      (settles : Settles course place row route 0 (Refuted (Closed ∷ [])) end before.outcomes.items after.outcomes.items
      before.proofs.items after.proofs.items) where
    -- no pin is shared, tried or kept
    nothing_reached : HasReached route (refuted_at 0 (Closed ∷ [])) 0 0 (0 + 0)
    nothing_reached = record {
      few = omega arith;
      within = omega arith;
      at_refuted = λ count tree is. (let its : count ≡ 0 = sym (ap (λ (e : FoundAlong). e.steps) is) in omega (arith, its));
      left = λ fewer. absurd (omega (arith, fewer));
      last = omega arith;
      whole = λ none. absurd (none 0 (Closed ∷ []) refl);
    }

    no_earlier : (count : ℕ) (tree : List Node) → refuted_at 0 (Closed ∷ []) ≡ refuted_at count tree → StandsNoEarlier course place (prefix_of count route)
    no_earlier count tree is =
        let zero : 0 ≡ count = ap (λ (e : FoundAlong). e.steps) is in
        let P : ℕ → Type 0 = λ n. StandsNoEarlier course place (prefix_of n route) in
        subst P zero
        (λ at other another there begins.
        stands_behind before.outcomes.items before.proofs.items steps come.come at other another there begins)

    visited_source : HasVisited c rules course begin place end (record { source = route.source; steps = [] }) after.outcomes.items
        before.proofs.items after.proofs.items (steps + 0)
    visited_source =
        by_end c rules ends course is_course begin place row route here before.outcomes.items before.proofs.items steps route.source refl []
        (come_from c rules course is_course.order begin place before steps route.source come) 0 0 end after.outcomes.items
        after.proofs.items 0 (Refuted (Closed ∷ [])) start_refutes 0 (let e : 0 ≤ 0 = omega arith in e)
        (record { in_first = omega arith; in_second = omega arith; same = refl; most = λ more first second same. first })
        nothing_reached no_earlier settles

    -- the walk has come behind all paths from the source
    pub start_settled : HasComeApart c rules course begin end after steps × ComesOn course place end before after
    start_settled =
        let visited = visited_source in
        let same : steps + 0 ≡ steps = omega arith in
        let P : ℕ → Type 0 =
        λ n. HasComeOn c rules course begin end (record { source = route.source; steps = [] }) after.outcomes.items after.proofs.items n in (
          come_alone c rules course is_course.order begin end after steps route.source (subst P same visited.come),
          record {
            on = visited.further;
            within = visited.within;
            others = keeps_added course.aim before.proofs.items after.proofs.items visited.adds;
          },
        )
