-- What the end of a search for the path in hand does to the walk: it has come to the place up to which paths are settled.
use Rattle.std.proofs.Common.{◌≡◌, ◌⊎◌, ⊎_elim, inl, inr, ℕ, ◌+◌, ◌<◌, ◌≤◌, true, false, List, [], ◌∷◌, ◌++◌, length, take, Option, Some, refl, sym, ap, subst, subst₂, append-nil, arith}
use Rattle.std.specs.Prelude.{Contains, slice_get}
use Rattle.std.proofs.lemmas.Bool.{cases_lt}
use Rattle.std.proofs.lemmas.List.Elements.{All-cons, All-nil}
use Rattle.std.proofs.lemmas.Option.{slice_get_read, slice_get_within}
use Rattle.pd_base.specs.declared.fault.Direction.{Direction}
use Rattle.pd_base.specs.declared.fault.Kind.{Kind}
use Rattle.pd_base.specs.declared.ids.LineId.{LineId}
use Rattle.pd_base.specs.declared.ids.PinRef.{PinRef}
use Rattle.pd_base.specs.declared.rules.Rules.{Rules}
use Rattle.pd_base.specs.Route.{Route}
use Rattle.pd_base.specs.Target.{Target, target_of}
use Rattle.netlist.specs.declared.limits.TheConstants.{MOST_LEVELS}
use Rattle.netlist.specs.Circuit.{Circuit}
use Rattle.netlist.specs.Paths.{IsPrefixOf, prefix_of}
use Rattle.path_laws.proofs.Prefixes.{prefix_of-is_prefix}
use Rattle.runs.specs.declared.run.Proof.{Proof}
use Rattle.trees.specs.declared.tree.Node.{Node}
use Rattle.good_runs.specs.Faults.{Applies, HasProof, IsAbout, IsNumber, NoneApplies}
use Rattle.good_runs.specs.Faults.HasProof.{refuted, spent}
use Rattle.good_runs.proofs.Numbers.{number_new, number_of_push}
use Rattle.implication.specs.Standing.{ToldEnds}
use Rattle.prefix_sensitize.specs.declared.course.Course.{Course}
use Rattle.justify.specs.declared.answer.Found.{Found}
use Rattle.justify.specs.declared.answer.Found.TheVariants.{Test, Spent, Refuted}
use Rattle.prefix_sensitize.specs.declared.descent.FoundAlong.{FoundAlong}
use Rattle.prefix_sensitize.specs.declared.outcome.RowOutcome.{RowOutcome}
use Rattle.prefix_sensitize.specs.declared.outcome.RowOutcome.TheVariants.{Tested, Proved}
use Rattle.prefix_sensitize.specs.Coming.{HasCome, HasComeOn, StandsOn}
use Rattle.prefix_sensitize.specs.Courses.{IsCourse}
use Rattle.prefix_sensitize.specs.Entering.{HasMovedOn, IsFoundAlong, IsFoundUpTo, RefutesPrefix, refuted_at}
use Rattle.prefix_sensitize.specs.Outcomes.{AddsProofs, AreFoundProofs, IsNeeded, IsOutcome, outcome_at, target_for}
use Rattle.prefix_sensitize.specs.PathOrder.{IsStretch, ShareSteps, StandsInOrder}
use Rattle.prefix_sensitize.specs.Settling.{HaveOutcome, Settles, found_proof}
use Rattle.prefix_sensitize.proofs.Ahead.{low, none_earlier}
use Rattle.prefix_sensitize.proofs.EnteredPrefixes.{Enters, enters_all}
use Rattle.prefix_sensitize.proofs.FoundProofs.{found_still, none_before, none_still, outcome_still}
use Rattle.prefix_sensitize.proofs.NewRefutations.{applies_only, applies_to, refutation_found, spent_applies_not, spent_found}
use Rattle.prefix_sensitize.proofs.OrderPlaces.{all_at, among, one_place, some_place}
use Rattle.prefix_sensitize.proofs.PathOrder.{stands_once}
use Rattle.prefix_sensitize.proofs.Reached.{HasReached, reached, tried_on}
use Rattle.prefix_sensitize.proofs.RoutePrefixes.{fewer_steps, prefix_through, shorter_of_two, steps_of_prefix}
use Rattle.prefix_sensitize.proofs.Visits.{come_on, entered_of, stands_on}

-- no path with this prefix stands before a place
abbrev pub StandsNoEarlier : Course → ℕ → Route → Type 0
StandsNoEarlier course place prefix =
    (at other : ℕ) (another : Route) → StandsInOrder course.paths.now course.order.now at other another → IsPrefixOf prefix another
    → place ≤ at

module _ (c : Circuit) (rules : Rules) (ends : Option ToldEnds) (course : Course) (is_course : IsCourse c rules ends course) (begin place row : ℕ)
    (route : Route) (here : StandsInOrder course.paths.now course.order.now place row route) (before : List RowOutcome) (old : List Proof)
    (steps : ℕ) (come : HasCome c rules course begin place before old steps) (source : LineId) (same : route.source ≡ source)
    (pins : List PinRef) (on : StandsOn course place come.entered (record { source = source; steps = pins })) (ended : FoundAlong)
    (shared kept more : ℕ) (stays : shared ≤ kept) (is_shared : ShareSteps pins route.steps shared)
    (reach : HasReached route ended shared kept (shared + more)) where
  -- what was entered has no more steps of the path than are shared
  its_low : (prefix : Route) → Contains come.entered prefix → IsPrefixOf prefix route → length prefix.steps ≤ shared
  its_low = low c rules ends course is_course begin place row route here before old steps come source pins on shared is_shared

  -- what is entered then
  entering : (new : List Route) × Enters course.paths.now route shared more come.entered new
  entering =
      enters_all course.paths.now route (among course.paths.now row route here.is_listed) shared come.entered come.are_prefixes its_low
      more reach.within

  few : more ≤ MOST_LEVELS
  few =
      let short : length route.steps ≤ MOST_LEVELS =
      all_at (λ (r : Route). length r.steps ≤ MOST_LEVELS) course.paths.now row route is_course.searchable.short here.is_listed in
      let within = reach.within in
      omega (arith, short, within)

  has_entered : (prefix : Route) → IsPrefixOf prefix route → 1 ≤ length prefix.steps → length prefix.steps ≤ shared + more
      → Contains entering.0 prefix
  has_entered =
      entered_of c rules course is_course.order begin place row route here before old steps come shared more entering.0 entering.1
      (place + 1) (omega arith) source same pins on is_shared its_low reach.within

  -- a row before this place has what it had
  row_before : (end : ℕ) (outcome : RowOutcome) (after : List RowOutcome) → HaveOutcome course.order.now place end outcome before after
      → (at other : ℕ) (another : Route) → StandsInOrder course.paths.now course.order.now at other another → at < place
      → outcome_at after other ≡ outcome_at before other
  row_before end outcome after rows at other another there less =
      rows.outside other
      (λ at' placed behind inside.
      let equal : at ≡ at' =
      one_place course.order.now at at' other other is_course.order.once there.is_placed placed refl in
      omega (arith, equal, less, behind))

  module _ (end : ℕ) (outcome : RowOutcome) (after : List RowOutcome) (new : List Proof) (rows : HaveOutcome course.order.now place end outcome before after)
      (still : (at other : ℕ) (another : Route) (was : RowOutcome) → StandsInOrder course.paths.now course.order.now at other another → at < place
      → IsOutcome c rules course.paths.now old other (target_for course.aim another) was
      → IsOutcome c rules course.paths.now new other (target_for course.aim another) was)
      (now : (at other : ℕ) (another : Route) → StandsInOrder course.paths.now course.order.now at other another → place ≤ at → at < end
      → IsOutcome c rules course.paths.now new other (target_for course.aim another) outcome) where
    settled_then : (at other : ℕ) (another : Route) → StandsInOrder course.paths.now course.order.now at other another → at < end
        → IsNeeded course.needed.now other
        → IsOutcome c rules course.paths.now new other (target_for course.aim another) (outcome_at after other)
    settled_then at other another there less need =
        let P : RowOutcome → Type 0 = λ o. IsOutcome c rules course.paths.now new other (target_for course.aim another) o in
        ⊎_elim
        (λ (first : at < place).
        subst P (sym (row_before end outcome after rows at other another there first))
        (still at other another (outcome_at before other) there first (come.settled at other another there first need)))
        (λ (behind : place ≤ at).
        subst P (sym (rows.inside at other there.is_placed behind less)) (now at other another there behind less))
        (cases_lt at place)

  -- a test or a spent budget settles this path
  module _ (none_refuted : (count : ℕ) (tree : List Node) → ¬ (ended ≡ refuted_at count tree)) (outcome : RowOutcome) (after : List RowOutcome)
      (new : List Proof) (rows : HaveOutcome course.order.now place (place + 1) outcome before after)
      (found : AreFoundProofs c rules course.aim.budget course.paths.now new)
      (still : (other : ℕ) (target : Target) (was : RowOutcome) → IsOutcome c rules course.paths.now old other target was
      → IsOutcome c rules course.paths.now new other target was)
      (none : (target : Target) → NoneApplies course.paths.now old target → NoneApplies course.paths.now new target)
      (fewer : (target : Target) → NoneApplies course.paths.now new target → NoneApplies course.paths.now old target)
      (is_outcome : IsOutcome c rules course.paths.now new row (target_for course.aim route) outcome) where
    on_one : HasComeOn c rules course begin (place + 1) (record { source = source; steps = take kept route.steps }) after new (steps + more)
    on_one =
        let further : place < place + 1 = omega arith in
        let all = reach.whole none_refuted in
        let equal_to : (at : ℕ) → place ≤ at → at < place + 1 → at ≡ place = λ at behind less. omega arith in
        come_on c rules course is_course.order begin place row route here before old steps come shared more entering.0 entering.1
        (place + 1) further after new few rows.one_each found
        (settled_then (place + 1) outcome after new rows
        (λ at other another was there less is. still other (target_for course.aim another) was is)
        (λ at other another there behind less.
        let P : ℕ → Type 0 = λ n. StandsInOrder course.paths.now course.order.now n other another in
        let its = subst P (equal_to at behind less) there in
        let Q : ℕ → Route → Type 0 = λ n r. IsOutcome c rules course.paths.now new n (target_for course.aim r) outcome in
        subst₂ Q (stands_once course.paths.now course.order.now place row other route another here its).0
        (stands_once course.paths.now course.order.now place row other route another here its).1 is_outcome))
        (λ at other another there behind.
        none (target_for course.aim another) (come.none_ahead at other another there (omega (arith, behind))))
        (λ at other another prefix there behind less of some.
        let P : ℕ → Type 0 = λ n. StandsInOrder course.paths.now course.order.now n other another in
        let its = subst P (equal_to at behind less) there in
        let Q : Route → Type 0 = λ r. IsPrefixOf prefix r in
        let own = subst Q (sym (stands_once course.paths.now course.order.now place row other route another here its).1) of in
        let short = fewer_steps prefix route own in
        inl (has_entered prefix own some (omega (arith, short, all))))
        (λ prefix. fewer (target_for course.aim prefix))
        (record { source = source; steps = take kept route.steps })
        (stands_on c rules course is_course.order begin place row route here before old steps come shared more entering.0 entering.1
        (place + 1) further source same pins on is_shared its_low reach.within kept stays reach.few
        (λ count at other another past within there behind begins.
        let left = reach.left (omega (arith, past, within)) in
        none_refuted (shared + more) left.0 left.1))

  -- a refutation settles all paths that have its prefix
  module _ (count : ℕ) (tree : List Node) (is : ended ≡ refuted_at count tree) (refutes : RefutesPrefix c rules course.aim route count tree)
      (earlier_none : StandsNoEarlier course place (prefix_of count route)) (end least : ℕ)
      (stretch : IsStretch course.paths.now course.order.now (prefix_of count route) place end least)
      (after : List RowOutcome)
      (rows : HaveOutcome course.order.now place end (Proved (length old)) before after) where
    abbrev prefix : Route
    prefix = prefix_of count route

    abbrev added : Proof
    added = found_proof course.aim false least count tree

    abbrev all : List Proof
    all = old ++ added ∷ []

    its_count : count ≡ shared + more
    its_count = reach.at_refuted count tree is

    only_to : (target : Target) → Applies course.paths.now target added → IsPrefixOf prefix target.path
    only_to =
        applies_only c rules course.paths.now course.order.now is_course.order course.aim place route count tree refutes earlier_none end
        least stretch

    to_each : (other : Route) → IsPrefixOf prefix other → Applies course.paths.now (target_for course.aim other) added
    to_each =
        applies_to c rules course.paths.now course.order.now is_course.order course.aim place route count tree refutes earlier_none end
        least stretch

    -- to a listed target to which it applies none before did
    alone : (target : Target) → Contains course.paths.now target.path → Applies course.paths.now target added
        → NoneApplies course.paths.now old target
    alone target listed applies =
        let is_listed : slice_get course.paths.now listed.0 ≡ Some target.path =
        slice_get_read course.paths.now (length course.paths.now) listed.0 target.path refl listed.1 (sym listed.2) in
        let stands = some_place course.paths.now course.order.now is_course.order listed.0 target.path is_listed in
        let behind = earlier_none stands.0 listed.0 target.path stands.1 (only_to target applies) in
        let none : NoneApplies course.paths.now old (target_for course.aim target.path) =
        come.none_ahead stands.0 listed.0 target.path stands.1 behind in
        let P : Direction → Kind → Type 0 = λ d k. NoneApplies course.paths.now old (target_of target.path d k) in
        let about : IsAbout target.kind target.direction added = applies.is_about in
        subst₂ P about.of_direction about.of_kind none

    found : AreFoundProofs c rules course.aim.budget course.paths.now all
    found =
        found_still course.paths.now old added alone c rules course.aim.budget
        (refutation_found c rules course.paths.now course.order.now is_course.order course.aim place route count tree refutes
        earlier_none end least stretch)
        come.found

    -- of a path that has the prefix it is the proof
    cited : (at other : ℕ) (another : Route) → StandsInOrder course.paths.now course.order.now at other another → place ≤ at → at < end
        → HasProof course.paths.now all (other + 1) (target_for course.aim another) (length old + 1)
    cited at other another there behind less =
        refuted
        (record {
          proof = added;
          is_proof = number_new old (length old + 1) added refl;
          applies = to_each another (stretch.inside at other another there behind less);
          least =
              λ number proof its applies.
              ⊎_elim
              (λ (first : IsNumber old number proof). absurd (come.none_ahead at other another there behind number proof first applies))
              (λ (last : (number ≡ length old + 1) × (added ≡ proof)). (let e = last.0 in omega (arith, e)))
              (number_of_push old added proof number its);
        })

    -- each prefix of such a path was entered up to the refuted one, or is refuted
    whole_then : (at other : ℕ) (another shorter : Route) → StandsInOrder course.paths.now course.order.now at other another → place ≤ at
        → at < end → IsPrefixOf shorter another → 1 ≤ length shorter.steps
        → Contains entering.0 shorter ⊎ ¬ NoneApplies course.paths.now all (target_for course.aim shorter)
    whole_then at other another shorter there behind less of some =
        let has : IsPrefixOf prefix another = stretch.inside at other another there behind less in
        let long = steps_of_prefix count route refutes.has_steps in
        ⊎_elim
        (λ (past : count < length shorter.steps).
        inr
        (λ none.
        none (length old + 1) added (number_new old (length old + 1) added refl)
        (to_each shorter (shorter_of_two prefix shorter another has of (omega (arith, past, long))))))
        (λ (within : length shorter.steps ≤ count).
        let first : IsPrefixOf shorter prefix = shorter_of_two shorter prefix another of has (omega (arith, within, long)) in
        inl
        (has_entered shorter (prefix_through shorter prefix route first (prefix_of-is_prefix count route)) some
        (omega (arith, within, its_count))))
        (cases_lt count (length shorter.steps))

    on_all : HasComeOn c rules course begin end (record { source = source; steps = take kept route.steps }) after all (steps + more)
    on_all =
        come_on c rules course is_course.order begin place row route here before old steps come shared more entering.0 entering.1 end
        stretch.some after all few rows.one_each found
        (settled_then end (Proved (length old)) after all rows
        (λ at other another was there less is_was.
        outcome_still course.paths.now old added c rules other (target_for course.aim another) was
        (λ applies.
        let behind = earlier_none at other another there (only_to (target_for course.aim another) applies) in
        omega (arith, behind, less))
        is_was)
        cited)
        (λ at other another there behind.
        none_still course.paths.now old added (target_for course.aim another)
        (λ applies. stretch.behind at other another there behind (only_to (target_for course.aim another) applies))
        (come.none_ahead at other another there (let some = stretch.some in omega (arith, behind, some))))
        whole_then
        (λ shorter. none_before course.paths.now old added (target_for course.aim shorter))
        (record { source = source; steps = take kept route.steps })
        (stands_on c rules course is_course.order begin place row route here before old steps come shared more entering.0 entering.1 end
        stretch.some source same pins on is_shared its_low reach.within kept stays reach.few
        (λ number at other another past within there behind begins.
        let left = reach.left (omega (arith, past, within)) in
        let last = reach.last in
        let equal : number ≡ count = omega (arith, past, within, last, its_count) in
        let P : ℕ → Type 0 = λ n. IsPrefixOf (prefix_of n route) another in
        stretch.behind at other another there behind (subst P equal begins)))

-- what a visit does: the walk has come further, and what it found is about its aim
pub record HasVisited (c : Circuit) (rules : Rules) (course : Course) (begin place end : ℕ) (along : Route) (after : List RowOutcome)
    (old new : List Proof) (steps : ℕ) : Type 0 where
  pub come : HasComeOn c rules course begin end along after new steps
  pub further : place < end
  pub within : end ≤ length course.order.now
  pub adds : AddsProofs course.aim old new

module _ (c : Circuit) (rules : Rules) (ends : Option ToldEnds) (course : Course) (is_course : IsCourse c rules ends course) (begin place row : ℕ)
    (route : Route) (here : StandsInOrder course.paths.now course.order.now place row route) (before : List RowOutcome) (old : List Proof)
    (steps : ℕ) (source : LineId) (same : route.source ≡ source) (pins : List PinRef)
    (come : HasComeOn c rules course begin place (record { source = source; steps = pins }) before old steps) where
  inside : place + 1 ≤ length course.order.now
  inside = let within = slice_get_within course.order.now place row here.is_placed in omega (arith, within)

  adds_one : (proof : Proof) → IsAbout course.aim.kind course.aim.direction proof → AddsProofs course.aim old (old ++ proof ∷ [])
  adds_one proof about = record {
    more = proof ∷ [];
    adds = refl;
    aimed = All-cons (IsAbout course.aim.kind course.aim.direction) proof [] about (All-nil (IsAbout course.aim.kind course.aim.direction));
  }

  module _ (kept more : ℕ) (end : ℕ) (after : List RowOutcome) (new : List Proof) where
    -- where the walk stands then
    abbrev Then : Type 0
    Then = HasVisited c rules course begin place end (record { source = source; steps = take kept route.steps }) after old new (steps + more)

    pub by_end : (tried : ℕ) (answer : Found) → IsFoundUpTo c rules course.aim route tried answer → (shared : ℕ) → shared ≤ kept → ShareSteps pins route.steps shared
        → HasReached route (record { found = answer; steps = tried }) shared kept (shared + more)
        → ((count : ℕ) (tree : List Node) → record { found = answer; steps = tried } ≡ refuted_at count tree
        → StandsNoEarlier course place (prefix_of count route))
        → Settles course place row route tried answer end before after old new → Then
    by_end tried (Test pair) is_found shared stays is_shared reach earlier settles =
        let C : ℕ → List Proof → Type 0 =
        λ n proofs. HasVisited c rules course begin place n (record { source = source; steps = take kept route.steps }) after old proofs
        (steps + more) in
        let R : ℕ → Type 0 = λ n. HaveOutcome course.order.now place n (Tested pair) before after in
        subst₂ C (sym settles.0) (sym settles.1)
        (record {
          come =
              on_one c rules ends course is_course begin place row route here before old steps come.come source same pins come.on
              (record { found = Test pair; steps = tried })
              shared kept more stays is_shared reach (λ count tree is. (let apart : Test pair ≡ Refuted tree = ap (λ (e : FoundAlong). e.found) is in cc)) (Tested pair) after old (subst R settles.0 settles.2)
              come.come.found (λ other target was is. is) (λ target none. none) (λ target none. none) is_found;
          further = omega arith;
          within = inside;
          adds = record { more = []; adds = sym (append-nil old); aimed = All-nil (IsAbout course.aim.kind course.aim.direction) };
        })
    by_end tried (Spent tree) is_found shared stays is_shared reach earlier settles =
        let added = found_proof course.aim true row (length route.steps) tree in
        let C : ℕ → List Proof → Type 0 =
        λ n proofs. HasVisited c rules course begin place n (record { source = source; steps = take kept route.steps }) after old proofs
        (steps + more) in
        let R : ℕ → Type 0 = λ n. HaveOutcome course.order.now place n (Proved (length old)) before after in
        let not : (target : Target) → ¬ Applies course.paths.now target added =
        spent_applies_not course.paths.now course.aim row (length route.steps) tree in
        subst₂ C (sym settles.0) (sym settles.1.added)
        (record {
          come =
              on_one c rules ends course is_course begin place row route here before old steps come.come source same pins come.on
              (record { found = Spent tree; steps = tried })
              shared kept more stays is_shared reach (λ count other is. (let apart : Spent tree ≡ Refuted other = ap (λ (e : FoundAlong). e.found) is in cc)) (Proved (length old)) after (old ++ added ∷ [])
              (subst R settles.0 settles.1.rows)
              (found_still course.paths.now old added (λ target listed applies. absurd (not target applies)) c rules course.aim.budget
              (spent_found c rules course.paths.now course.aim row route here.is_listed tree is_found) come.come.found)
              (λ other target was is. outcome_still course.paths.now old added c rules other target was (not target) is)
              (λ target none. none_still course.paths.now old added target (not target) none)
              (λ target none. none_before course.paths.now old added target none)
              (spent
              (none_still course.paths.now old added (target_for course.aim route) (not (target_for course.aim route))
              (come.come.none_ahead place row route here (let e : place ≤ place = omega arith in e)))
              (record {
                proof = added;
                is_proof = number_new old (length old + 1) added refl;
                spent = refl;
                is_about = record { of_kind = refl; of_direction = refl };
                of_path = refl;
              }));
          further = omega arith;
          within = inside;
          adds = adds_one added (record { of_kind = refl; of_direction = refl });
        })
    by_end count (Refuted tree) is_found shared stays is_shared reach earlier settles =
        let added = found_proof course.aim false settles.0 count tree in
        let C : List Proof → Type 0 =
        λ proofs. HasVisited c rules course begin place end (record { source = source; steps = take kept route.steps }) after old proofs
        (steps + more) in
        subst C (sym settles.2.added)
        (record {
          come =
              on_all c rules ends course is_course begin place row route here before old steps come.come source same pins come.on
              (refuted_at count tree) shared kept more stays is_shared reach count tree refl is_found (earlier count tree refl) end settles.0
              settles.1 after settles.2.rows;
          further = settles.1.some;
          within = settles.1.in_order;
          adds = adds_one added (record { of_kind = refl; of_direction = refl });
        })

  -- a search that moved on, and what its end settles
  pub visited : (pins' : List PinRef) (ended : FoundAlong) (more : ℕ) → IsFoundAlong c rules course.aim route ended
      → HasMovedOn pins pins' route ended more → (end : ℕ) (after : List RowOutcome) (new : List Proof)
      → Settles course place row route ended.steps ended.found end before after old new → (steps' : ℕ) → steps' ≡ steps + more
      → HasVisited c rules course begin place end (record { source = source; steps = pins' }) after old new steps'
  visited pins' ended more is_found moved end after new settles steps' counted =
      let P : List PinRef → ℕ → Type 0 =
      λ list n. HasVisited c rules course begin place end (record { source = source; steps = list }) after old new n in
      let reach = reached c rules course.aim route ended moved.shared moved.kept (moved.shared + more) moved.stays is_found moved.reaches in
      let E : FoundAlong → Type 0 = λ e. IsFoundAlong c rules course.aim route e in
      let W : ℕ → Type 0 = λ n. (moved.shared < n) ⊎ (n ≡ length route.steps) in
      subst₂ P (sym moved.stand) (sym counted)
      (by_end moved.kept more end after new ended.steps ended.found is_found moved.shared moved.stays moved.is_shared reach
      (λ count tree is.
      none_earlier c rules ends course is_course begin place row route here before old steps come.come source pins come.on moved.shared
      moved.is_shared count tree (subst E is is_found)
      (subst W (sym (reach.at_refuted count tree is))
      (tried_on route ended moved.shared moved.kept (moved.shared + more) moved.stays moved.reaches)))
      settles)
