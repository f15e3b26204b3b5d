-- A visit to a path: what was entered for it, and how far the walk has come then.
use Rattle.std.proofs.Common.{◌≡◌, ◌⊎◌, ⊎_elim, inl, inr, ℕ, ◌+◌, ◌<◌, ◌≤◌, List, ◌++◌, length, take, drop, sym, ap, subst, ◌∙◌, arith}
use Rattle.std.specs.Prelude.{Contains}
use Rattle.std.proofs.lemmas.Bool.{cases_lt}
use Rattle.std.proofs.lemmas.List.{take-append-drop, take-take}
use Rattle.pd_base.specs.declared.ids.LineId.{LineId}
use Rattle.pd_base.specs.declared.ids.PinRef.{PinRef}
use Rattle.pd_base.specs.declared.rules.Rules.{Rules}
use Rattle.pd_base.specs.Route.{Route}
use Rattle.netlist.specs.declared.limits.TheConstants.{MOST_LEVELS}
use Rattle.netlist.specs.Circuit.{Circuit}
use Rattle.netlist.specs.Paths.{IsPrefixOf, prefix_of}
use Rattle.path_laws.proofs.Prefixes.{is_prefix_of, prefix_of-is_prefix}
use Rattle.runs.specs.declared.run.Proof.{Proof}
use Rattle.good_runs.specs.Faults.{NoneApplies}
use Rattle.prefix_sensitize.specs.declared.course.Course.{Course}
use Rattle.prefix_sensitize.specs.declared.outcome.RowOutcome.{RowOutcome}
use Rattle.prefix_sensitize.specs.Coming.{HasCome, HasComeOn, HasEarlier, StandsOn}
use Rattle.prefix_sensitize.specs.Outcomes.{AreFoundProofs, IsNeeded, IsOutcome, outcome_at, target_for}
use Rattle.prefix_sensitize.specs.PathOrder.{IsOrder, ShareSteps, StandsInOrder}
use Rattle.prefix_sensitize.proofs.EnteredPrefixes.{Enters, IsBehind}
use Rattle.prefix_sensitize.proofs.RoutePrefixes.{fewer_steps, prefix_through, shorter_of_two, shorter_prefix, steps_of_prefix}

-- a prefix of a path with no more steps than are shared is one of the pins that were entered
pub shared_prefix : (source : LineId) (pins : List PinRef) (path prefix : Route) (shared : ℕ) → path.source ≡ source
    → ShareSteps pins path.steps shared → IsPrefixOf prefix path → length prefix.steps ≤ shared
    → IsPrefixOf prefix (record { source = source; steps = pins })
shared_prefix source pins path prefix shared same is of few =
    let count = length prefix.steps in
    let own : prefix.steps ≡ take count path.steps = ap (λ (r : Route). r.steps) (is_prefix_of prefix path of) in
    let alike : take count path.steps ≡ take count pins =
    sym (take-take count shared path.steps few) ∙ ap (take count) (sym is.same) ∙ take-take count shared pins few in
    record {
      source = of.source ∙ same;
      rest = drop count pins;
      steps = ap (λ (front : List PinRef). front ++ drop count pins) (own ∙ alike) ∙ take-append-drop count pins;
    }

-- the path in hand was visited: so many of its prefixes were entered behind those that were shared
module _ (c : Circuit) (rules : Rules) (course : Course) (is_order : IsOrder course.paths.now course.order.now) (begin place row : ℕ) (route : Route)
    (here : StandsInOrder course.paths.now course.order.now place row route) (before : List RowOutcome) (old : List Proof) (steps : ℕ)
    (come : HasCome c rules course begin place before old steps) (shared more : ℕ) (entered : List Route)
    (enters : Enters course.paths.now route shared more come.entered entered) (end : ℕ) (further : place < end) where
  of_earlier_then : (prefix : Route) → Contains entered prefix → HasEarlier course end prefix
  of_earlier_then prefix inside =
      ⊎_elim
      (λ (first : Contains come.entered prefix).
      let one = come.of_earlier prefix first in
      let less = one.earlier in
      record {
        at = one.at;
        row = one.row;
        route = one.route;
        stands = one.stands;
        earlier = omega (arith, less, further);
        is_prefix = one.is_prefix;
      })
      (λ (behind : IsBehind route shared more prefix).
      let P : Route → Type 0 = λ r. IsPrefixOf r route in
      record {
        at = place;
        row = row;
        route = route;
        stands = here;
        earlier = further;
        is_prefix = subst P (sym behind.same) (prefix_of-is_prefix behind.steps route);
      })
      (enters.only prefix inside)

  -- the walk has come to the end of what was settled
  pub come_on : (after : List RowOutcome) (new : List Proof) → more ≤ MOST_LEVELS → length after ≡ length before
      → AreFoundProofs c rules course.aim.budget course.paths.now new
      → ((at other : ℕ) (another : Route) → StandsInOrder course.paths.now course.order.now at other another → at < end
      → IsNeeded course.needed.now other
      → IsOutcome c rules course.paths.now new other (target_for course.aim another) (outcome_at after other))
      → ((at other : ℕ) (another : Route) → StandsInOrder course.paths.now course.order.now at other another → end ≤ at
      → NoneApplies course.paths.now new (target_for course.aim another))
      → ((at other : ℕ) (another prefix : Route) → StandsInOrder course.paths.now course.order.now at other another → place ≤ at → at < end
      → IsPrefixOf prefix another → 1 ≤ length prefix.steps
      → Contains entered prefix ⊎ ¬ NoneApplies course.paths.now new (target_for course.aim prefix))
      → ((prefix : Route) → NoneApplies course.paths.now new (target_for course.aim prefix)
      → NoneApplies course.paths.now old (target_for course.aim prefix))
      → (along : Route) → StandsOn course end entered along → HasComeOn c rules course begin end along after new (steps + more)
  come_on after new few one_each found settled none_ahead whole fewer along on = record {
    come = record {
      one_each = one_each ∙ come.one_each;
      found = found;
      settled = settled;
      none_ahead = none_ahead;
      entered = entered;
      are_prefixes = enters.are_prefixes;
      counts = let counts = come.counts in let longer = enters.counts in omega (arith, counts, longer);
      few = let low = come.few in omega (arith, low, few, further);
      of_earlier = of_earlier_then;
      whole =
          λ at other another prefix there less need of some.
          ⊎_elim
          (λ (first : at < place).
          ⊎_elim (λ (inside : Contains come.entered prefix). inl (enters.kept prefix inside))
          (λ (not : ¬ NoneApplies course.paths.now old (target_for course.aim prefix)). inr (λ none. not (fewer prefix none)))
          (come.whole at other another prefix there first need of some))
          (λ (behind : place ≤ at). whole at other another prefix there behind less of some) (cases_lt at place);
    };
    on = on;
  }

  module _ (source : LineId) (same : route.source ≡ source) (pins : List PinRef)
      (on : StandsOn course place come.entered (record { source = source; steps = pins })) (is_shared : ShareSteps pins route.steps shared)
      (low : (prefix : Route) → Contains come.entered prefix → IsPrefixOf prefix route → length prefix.steps ≤ shared)
      (tried : shared + more ≤ length route.steps) where
    -- each prefix of the path up to the last one that was tried was entered
    pub entered_of : (prefix : Route) → IsPrefixOf prefix route → 1 ≤ length prefix.steps → length prefix.steps ≤ shared + more
        → Contains entered prefix
    entered_of prefix of some few =
        ⊎_elim
        (λ (above : shared < length prefix.steps).
        let P : Route → Type 0 = λ r. Contains entered r in
        subst P (sym (is_prefix_of prefix route of)) (enters.added (length prefix.steps) above few))
        (λ (within : length prefix.steps ≤ shared).
        enters.kept prefix (on.all prefix (shared_prefix source pins route prefix shared same is_shared of within) some))
        (cases_lt shared (length prefix.steps))

    -- what was entered stands on the pins that were kept, where no path behind goes on with one that was left again
    pub stands_on : (kept : ℕ) → shared ≤ kept → kept ≤ shared + more
        → ((count at other : ℕ) (another : Route) → kept < count → count ≤ shared + more
        → StandsInOrder course.paths.now course.order.now at other another → end ≤ at → ¬ IsPrefixOf (prefix_of count route) another)
        → StandsOn course end entered (record { source = source; steps = take kept route.steps })
    stands_on kept stays few left =
        let long = steps_of_prefix kept route (omega (arith, few, tried)) in
        let of_kept : IsPrefixOf (prefix_of kept route) route = prefix_of-is_prefix kept route in
        let named : prefix_of kept route ≡ record { source = source; steps = take kept route.steps } =
        λ i. record { source = same i; steps = take kept route.steps } in
        let S : Route → Type 0 = λ r. StandsOn course end entered r in
        subst S named
        (record {
          all =
              λ prefix of some.
              (let less = fewer_steps prefix (prefix_of kept route) of in
              entered_of prefix (prefix_through prefix (prefix_of kept route) route of of_kept) some (omega (arith, less, long, few)));
          only =
              λ prefix inside at other another there behind begins.
              ⊎_elim
              (λ (first : Contains come.entered prefix).
              let one = come.of_earlier prefix first in
              let less = one.earlier in
              let of : IsPrefixOf prefix route =
              is_order.together one.at place at one.row row other one.route route another prefix one.stands here there
              (omega (arith, less)) (omega (arith, behind, further)) one.is_prefix begins in
              let short = low prefix first of in
              shorter_of_two prefix (prefix_of kept route) route of of_kept (omega (arith, short, stays, long)))
              (λ (next : IsBehind route shared more prefix).
              let P : Route → Type 0 = λ r. IsPrefixOf r another in
              let Q : Route → Type 0 = λ r. IsPrefixOf r (prefix_of kept route) in
              ⊎_elim
              (λ (past : kept < next.steps).
              absurd (left next.steps at other another past next.within there behind (subst P next.same begins)))
              (λ (within : next.steps ≤ kept).
              subst Q (sym next.same) (shorter_prefix next.steps kept route within)) (cases_lt kept next.steps))
              (enters.only prefix inside);
        })
