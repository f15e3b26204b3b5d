-- What a refutation at a shorter prefix does to the walk where it replaces the proofs under the prefix: the walk has come behind all paths
-- that have it. And what going back to a prefix does alone.
use Rattle.std.proofs.Common.{◌≡◌, ◌⊎◌, ⊎_elim, inl, inr, ℕ, ◌+◌, ◌<◌, ◌≤◌, false, List, [], ◌∷◌, ◌++◌, length, Some, refl, sym, subst, subst₂, ◌∙◌, arith}
use Rattle.std.specs.Prelude.{All, Contains, slice_get}
use Rattle.std.proofs.lemmas.Bool.{cases_lt}
use Rattle.std.proofs.Math.Seq.{take-append_seam}
use Rattle.std.proofs.lemmas.List.Elements.{All-take}
use Rattle.pd_base.specs.declared.fault.Direction.{Direction}
use Rattle.pd_base.specs.declared.fault.Kind.{Kind}
use Rattle.pd_base.specs.declared.rules.Rules.{Rules}
use Rattle.pd_base.specs.Route.{Route}
use Rattle.pd_base.specs.Target.{Target, target_of}
use Rattle.netlist.specs.Circuit.{Circuit}
use Rattle.netlist.specs.Paths.{IsPrefixOf, prefix_of}
use Rattle.path_laws.proofs.Prefixes.{prefix_of-is_prefix}
use Rattle.runs.specs.declared.run.Proof.{Proof}
use Rattle.trees.specs.declared.tree.Node.{Node}
use Rattle.good_runs.specs.Faults.{Applies, HasProof, IsAbout, IsNumber, NoneApplies}
use Rattle.good_runs.specs.Faults.HasProof.{refuted, spent}
use Rattle.good_runs.proofs.Numbers.{all_at_number, number_kept, number_new, number_of_append, number_of_place, number_of_push, number_same}
use Rattle.prefix_sensitize.specs.declared.course.Course.{Course}
use Rattle.prefix_sensitize.specs.declared.outcome.RowOutcome.{RowOutcome}
use Rattle.prefix_sensitize.specs.declared.outcome.RowOutcome.TheVariants.{Unsearched, Tested, Proved}
use Rattle.prefix_sensitize.specs.Coming.{HasComeOn, HasEarlier}
use Rattle.prefix_sensitize.specs.Entering.{RefutesPrefix}
use Rattle.prefix_sensitize.specs.Lifting.{IsUnderPrefix}
use Rattle.prefix_sensitize.specs.Outcomes.{AreFoundProofs, IsFoundProof, IsNeeded, IsOutcome, outcome_at, target_for}
use Rattle.prefix_sensitize.specs.PathOrder.{IsOrder, IsStretch, StandsInOrder}
use Rattle.prefix_sensitize.specs.Settling.{HaveOutcome, found_proof}
use Rattle.prefix_sensitize.proofs.FoundProofs.{found_still, none_still, outcome_still}
use Rattle.prefix_sensitize.proofs.NewRefutations.{applies_only, applies_to, refutation_found}
use Rattle.prefix_sensitize.proofs.OrderPlaces.{one_place}
use Rattle.prefix_sensitize.proofs.RoutePrefixes.{prefix_through, shorter_of_two, steps_of_prefix}

-- two prefixes of one route: one of them is a prefix of the other
either_prefix : (p q route : Route) → IsPrefixOf p route → IsPrefixOf q route → IsPrefixOf p q ⊎ IsPrefixOf q p
either_prefix p q route p_of q_of =
    ⊎_elim (λ (shorter : length q.steps < length p.steps). inr (shorter_of_two q p route q_of p_of (omega (arith, shorter))))
    (λ (within : length p.steps ≤ length q.steps). inl (shorter_of_two p q route p_of q_of within))
    (cases_lt (length q.steps) (length p.steps))

-- The walk has come to a place, and a prefix of the path there has so many steps. The proofs so far are parted in two, those in front and
-- the rest; below, the ones in front are not under the prefix, and the rest are.
module _ (c : Circuit) (rules : Rules) (course : Course) (is_order : IsOrder course.paths.now course.order.now) (begin place row : ℕ)
    (route : Route) (here : StandsInOrder course.paths.now course.order.now place row route) (along : Route) (before : List RowOutcome)
    (front rest : List Proof) (counted : ℕ) (come : HasComeOn c rules course begin place along before (front ++ rest) counted)
    (steps : ℕ) (has_steps : steps ≤ length route.steps) where
  abbrev prefix : Route
  prefix = prefix_of steps route

  abbrev IsUnder : Proof → Type 0
  IsUnder proof = IsUnderPrefix course prefix proof

  of_route : IsPrefixOf prefix route
  of_route = prefix_of-is_prefix steps route

  -- no refutation applies to the path
  none_here : NoneApplies course.paths.now (front ++ rest) (target_for course.aim route)
  none_here = come.come.none_ahead place row route here (let e : place ≤ place = omega arith in e)

  -- nor does one apply to some path at a prefix of this prefix, since it would apply to the path here
  none_shorter : (number : ℕ) (proof : Proof) (other : Route) → IsNumber (front ++ rest) number proof
      → (applies : Applies course.paths.now (target_for course.aim other) proof)
      → ¬ IsPrefixOf (prefix_of proof.steps applies.listed) prefix
  none_shorter number proof other is applies shorter =
      none_here number proof is
      (record {
        refutes = applies.refutes;
        is_about = record { of_kind = applies.is_about.of_kind; of_direction = applies.is_about.of_direction };
        listed = applies.listed;
        is_listed = applies.is_listed;
        has_prefix = prefix_through (prefix_of proof.steps applies.listed) prefix route shorter of_route;
      })

  -- one that applies to a path with the prefix is under it
  under_if_applies : (number : ℕ) (proof : Proof) (other : Route) → IsNumber (front ++ rest) number proof → IsPrefixOf prefix other
      → Applies course.paths.now (target_for course.aim other) proof → IsUnder proof
  under_if_applies number proof other is has applies =
      ⊎_elim
      (λ (longer : IsPrefixOf prefix (prefix_of proof.steps applies.listed)).
      record {
        about = record { of_kind = applies.is_about.of_kind; of_direction = applies.is_about.of_direction };
        listed = applies.listed;
        is_listed = applies.is_listed;
        has_prefix =
            prefix_through prefix (prefix_of proof.steps applies.listed) applies.listed longer
            (prefix_of-is_prefix proof.steps applies.listed);
      })
      (λ (shorter : IsPrefixOf (prefix_of proof.steps applies.listed) prefix).
      absurd (none_shorter number proof other is applies shorter))
      (either_prefix prefix (prefix_of proof.steps applies.listed) other has applies.has_prefix)

  -- one that is under it applies to paths with the prefix alone
  has_if_under : (number : ℕ) (proof : Proof) (other : Route) → IsNumber (front ++ rest) number proof → IsUnder proof
      → Applies course.paths.now (target_for course.aim other) proof → IsPrefixOf prefix other
  has_if_under number proof other is under applies =
      let same : under.listed ≡ applies.listed =
      number_same course.paths.now proof.path under.listed applies.listed under.is_listed applies.is_listed in
      let P : Route → Type 0 = λ r. IsPrefixOf prefix r in
      ⊎_elim
      (λ (longer : IsPrefixOf prefix (prefix_of proof.steps applies.listed)).
      prefix_through prefix (prefix_of proof.steps applies.listed) other longer applies.has_prefix)
      (λ (shorter : IsPrefixOf (prefix_of proof.steps applies.listed) prefix).
      absurd (none_shorter number proof other is applies shorter))
      (either_prefix prefix (prefix_of proof.steps applies.listed) applies.listed (subst P same under.has_prefix)
      (prefix_of-is_prefix proof.steps applies.listed))

  module _ (none_under : (number : ℕ) (proof : Proof) → IsNumber front number proof → ¬ IsUnder proof) (all_under : All IsUnder rest)
      (start end least : ℕ)
      (no_earlier : (at other : ℕ) (another : Route) → StandsInOrder course.paths.now course.order.now at other another
      → IsPrefixOf prefix another → start ≤ at)
      (stretch : IsStretch course.paths.now course.order.now prefix start end least) (tree : List Node)
      (refutes : RefutesPrefix c rules course.aim route steps tree) (after : List RowOutcome)
      (rows : HaveOutcome course.order.now start end (Proved (length front)) before after) (of_along : IsPrefixOf prefix along) where
    abbrev added : Proof
    added = found_proof course.aim false least steps tree

    abbrev new : List Proof
    new = front ++ added ∷ []

    its_steps : length prefix.steps ≡ steps
    its_steps = steps_of_prefix steps route has_steps

    only_to : (target : Target) → Applies course.paths.now target added → IsPrefixOf prefix target.path
    only_to =
        applies_only c rules course.paths.now course.order.now is_order course.aim start route steps tree refutes no_earlier end least
        stretch

    to_each : (other : Route) → IsPrefixOf prefix other → Applies course.paths.now (target_for course.aim other) added
    to_each =
        applies_to c rules course.paths.now course.order.now is_order course.aim start route steps tree refutes no_earlier end least
        stretch

    -- the path at the place has the prefix, so the place is passed
    started : start ≤ place
    started = no_earlier place row route here of_route

    passed : place < end
    passed =
        ⊎_elim (λ (less : place < end). less)
        (λ (past : end ≤ place). absurd (stretch.behind place row route here past of_route)) (cases_lt place end)

    -- no proof in front applies to a path with the prefix
    none_first : (other : Route) → IsPrefixOf prefix other → NoneApplies course.paths.now front (target_for course.aim other)
    none_first other has number proof is applies =
        none_under number proof is
        (under_if_applies number proof other (number_kept front rest number proof is) has applies)

    -- each proof is one of those in front, or is under the prefix
    first_or_under : (number : ℕ) (proof : Proof) → IsNumber (front ++ rest) number proof → IsNumber front number proof ⊎ IsUnder proof
    first_or_under number proof is =
        ⊎_elim (λ (first : IsNumber front number proof). inl first)
        (λ behind. inr (all_at_number IsUnder rest behind.0 proof all_under behind.2)) (number_of_append front rest number proof is)

    -- a proof that a path without the prefix cites is still there
    still : (other : ℕ) (another : Route) (was : RowOutcome) → slice_get course.paths.now other ≡ Some another → ¬ IsPrefixOf prefix another
        → IsOutcome c rules course.paths.now (front ++ rest) other (target_for course.aim another) was
        → IsOutcome c rules course.paths.now front other (target_for course.aim another) was
    still other another Unsearched listed not is = is
    still other another (Tested pair) listed not is = is
    still other another (Proved index) listed not (refuted cites) =
        ⊎_elim
        (λ (first : IsNumber front (index + 1) cites.proof).
        refuted
        (record {
          proof = cites.proof;
          is_proof = first;
          applies = cites.applies;
          least = λ number proof its applies. cites.least number proof (number_kept front rest number proof its) applies;
        }))
        (λ (under : IsUnder cites.proof).
        absurd (not (has_if_under (index + 1) cites.proof another cites.is_proof under cites.applies)))
        (first_or_under (index + 1) cites.proof cites.is_proof)
    still other another (Proved index) listed not (spent none cites) =
        ⊎_elim
        (λ (first : IsNumber front (index + 1) cites.proof).
        spent (λ number proof its. none number proof (number_kept front rest number proof its))
        (record {
          proof = cites.proof;
          is_proof = first;
          spent = cites.spent;
          is_about = cites.is_about;
          of_path = cites.of_path;
        }))
        (λ (under : IsUnder cites.proof).
        let P : ℕ → Type 0 = λ n. IsNumber course.paths.now n under.listed in
        let same : under.listed ≡ another =
        number_same course.paths.now (other + 1) under.listed another (subst P cites.of_path under.is_listed)
        (number_of_place course.paths.now other another listed) in
        let Q : Route → Type 0 = λ r. IsPrefixOf prefix r in
        absurd (not (subst Q same under.has_prefix)))
        (first_or_under (index + 1) cites.proof cites.is_proof)

    -- those in front are found ones
    first_found : AreFoundProofs c rules course.aim.budget course.paths.now front
    first_found = record {
      each =
          let P : Proof → Type 0 = λ p. IsFoundProof c rules course.aim.budget course.paths.now p in
          let Q : List Proof → Type 0 = λ list. All P list in
          subst Q (take-append_seam front rest) (All-take P (length front) (front ++ rest) come.come.found.each);
      apart =
          λ number other proof other_proof target is is_other.
          come.come.found.apart number other proof other_proof target (number_kept front rest number proof is)
          (number_kept front rest other other_proof is_other);
    }

    alone : (target : Target) → Contains course.paths.now target.path → Applies course.paths.now target added
        → NoneApplies course.paths.now front target
    alone target listed applies =
        let none : NoneApplies course.paths.now front (target_for course.aim target.path) =
        none_first target.path (only_to target applies) in
        let P : Direction → Kind → Type 0 = λ d k. NoneApplies course.paths.now front (target_of target.path d k) in
        let about : IsAbout target.kind target.direction added = applies.is_about in
        subst₂ P about.of_direction about.of_kind none

    found : AreFoundProofs c rules course.aim.budget course.paths.now new
    found =
        found_still course.paths.now front added alone c rules course.aim.budget
        (refutation_found c rules course.paths.now course.order.now is_order course.aim start route steps tree refutes no_earlier end
        least stretch)
        first_found

    -- the new one is the proof of each path that has the prefix
    cited : (other : ℕ) (another : Route) → IsPrefixOf prefix another
        → HasProof course.paths.now new (other + 1) (target_for course.aim another) (length front + 1)
    cited other another has =
        refuted
        (record {
          proof = added;
          is_proof = number_new front (length front + 1) added refl;
          applies = to_each another has;
          least =
              λ number proof its applies.
              ⊎_elim (λ (first : IsNumber front number proof). absurd (none_first another has number proof first applies))
              (λ (last : (number ≡ length front + 1) × (added ≡ proof)). (let e = last.0 in omega (arith, e)))
              (number_of_push front added proof number its);
        })

    -- a path up to the end has the prefix, or stands before all that have it
    before_or_has : (at other : ℕ) (another : Route) → StandsInOrder course.paths.now course.order.now at other another → at < end
        → (at < start) ⊎ ((start ≤ at) × IsPrefixOf prefix another)
    before_or_has at other another there less =
        ⊎_elim (λ (first : at < start). inl first)
        (λ (behind : start ≤ at). inr (behind, stretch.inside at other another there behind less)) (cases_lt at start)

    settled_then : (at other : ℕ) (another : Route) → StandsInOrder course.paths.now course.order.now at other another → at < end
        → IsNeeded course.needed.now other
        → IsOutcome c rules course.paths.now new other (target_for course.aim another) (outcome_at after other)
    settled_then at other another there less need =
        let P : RowOutcome → Type 0 = λ o. IsOutcome c rules course.paths.now new other (target_for course.aim another) o in
        ⊎_elim
        (λ (first : at < start).
        let not : ¬ IsPrefixOf prefix another =
        λ has. (let low = no_earlier at other another there has in omega (arith, low, first)) in
        let same : outcome_at after other ≡ outcome_at before other =
        rows.outside other
        (λ at' placed behind inside.
        let equal : at ≡ at' = one_place course.order.now at at' other other is_order.once there.is_placed placed refl in
        omega (arith, equal, first, behind)) in
        subst P (sym same)
        (outcome_still course.paths.now front added c rules other (target_for course.aim another) (outcome_at before other)
        (λ applies. not (only_to (target_for course.aim another) applies))
        (still other another (outcome_at before other) there.is_listed not
        (come.come.settled at other another there (omega (arith, first, started)) need))))
        (λ has. subst P (sym (rows.inside at other there.is_placed has.0 less)) (cited other another has.1))
        (before_or_has at other another there less)

    -- where none of the new ones applies, none did before
    none_before_then : (other : Route) → NoneApplies course.paths.now new (target_for course.aim other)
        → NoneApplies course.paths.now (front ++ rest) (target_for course.aim other)
    none_before_then other none number proof is applies =
        ⊎_elim
        (λ (first : IsNumber front number proof). none number proof (number_kept front (added ∷ []) number proof first) applies)
        (λ (under : IsUnder proof).
        none (length front + 1) added (number_new front (length front + 1) added refl)
        (to_each other (has_if_under number proof other is under applies)))
        (first_or_under number proof is)

    whole_then : (at other : ℕ) (another shorter : Route) → StandsInOrder course.paths.now course.order.now at other another → at < end
        → IsNeeded course.needed.now other → IsPrefixOf shorter another → 1 ≤ length shorter.steps
        → Contains come.come.entered shorter ⊎ ¬ NoneApplies course.paths.now new (target_for course.aim shorter)
    whole_then at other another shorter there less need of some =
        ⊎_elim
        (λ (first : at < place).
        ⊎_elim (λ (entered : Contains come.come.entered shorter). inl entered)
        (λ (not : ¬ NoneApplies course.paths.now (front ++ rest) (target_for course.aim shorter)).
        inr (λ none. not (none_before_then shorter none)))
        (come.come.whole at other another shorter there first need of some))
        (λ (behind : place ≤ at).
        let has : IsPrefixOf prefix another =
        stretch.inside at other another there (omega (arith, behind, started)) less in
        ⊎_elim
        (λ (longer : IsPrefixOf prefix shorter).
        inr
        (λ none.
        none (length front + 1) added (number_new front (length front + 1) added refl) (to_each shorter longer)))
        (λ (above : IsPrefixOf shorter prefix). inl (come.on.all shorter (prefix_through shorter prefix along above of_along) some))
        (either_prefix prefix shorter another has of))
        (cases_lt at place)

    of_earlier_then : (shorter : Route) → Contains come.come.entered shorter → HasEarlier course end shorter
    of_earlier_then shorter inside =
        let one = come.come.of_earlier shorter inside in
        let less = one.earlier in
        record {
          at = one.at;
          row = one.row;
          route = one.route;
          stands = one.stands;
          earlier = omega (arith, less, passed);
          is_prefix = one.is_prefix;
        }

    pub lifted : HasComeOn c rules course begin end prefix after new counted
    lifted = record {
      come = record {
        one_each = rows.one_each ∙ come.come.one_each;
        found = found;
        settled = settled_then;
        none_ahead =
            λ at other another there behind.
            none_still course.paths.now front added (target_for course.aim another)
            (λ applies. stretch.behind at other another there behind (only_to (target_for course.aim another) applies))
            (λ number proof is.
            come.come.none_ahead at other another there (omega (arith, behind, passed)) number proof
            (number_kept front rest number proof is));
        entered = come.come.entered;
        are_prefixes = come.come.are_prefixes;
        counts = come.come.counts;
        few = let few = come.come.few in omega (arith, few, passed);
        of_earlier = of_earlier_then;
        whole = whole_then;
      };
      on = record {
        all = λ shorter of some. come.on.all shorter (prefix_through shorter prefix along of of_along) some;
        only =
            λ shorter inside at other another there behind begins.
            (let of : IsPrefixOf shorter along =
            come.on.only shorter inside at other another there (omega (arith, behind, passed)) begins in
            ⊎_elim (λ (above : IsPrefixOf shorter prefix). above)
            (λ (longer : IsPrefixOf prefix shorter).
            absurd (stretch.behind at other another there behind (prefix_through prefix shorter another longer begins)))
            (either_prefix shorter prefix along of of_along));
      };
    }

  -- Going back to the prefix changes nothing else, where no longer one is shared with the path.
  pub went_back : IsPrefixOf prefix along
      → ((shorter : Route) → IsPrefixOf shorter along → IsPrefixOf shorter route → length shorter.steps ≤ steps)
      → HasComeOn c rules course begin place prefix before (front ++ rest) counted
  went_back of_along most = record {
    come = come.come;
    on = record {
      all = λ shorter of some. come.on.all shorter (prefix_through shorter prefix along of of_along) some;
      only =
          λ shorter inside at other another there behind begins.
          (let of : IsPrefixOf shorter along = come.on.only shorter inside at other another there behind begins in
          let one = come.come.of_earlier shorter inside in
          let less = one.earlier in
          let between : IsPrefixOf shorter route =
          is_order.together one.at place at one.row row other one.route route another shorter one.stands here there (omega (arith, less))
          behind one.is_prefix begins in
          let few = most shorter of between in
          let its = steps_of_prefix steps route has_steps in
          shorter_of_two shorter prefix along of of_along (omega (arith, few, its)));
    };
  }
