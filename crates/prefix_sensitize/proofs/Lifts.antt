-- How the walk stands where a refutation was lifted, or was not, at the prefix that the path ahead shares with what was entered.
use Rattle.std.proofs.Common.{◌≡◌, ⊎_elim, ℕ, zero, suc, ◌+◌, ◌-◌, ◌<◌, ◌≤◌, true, false, List, [], ◌∷◌, ◌++◌, length, map, take, drop, get_or, Some, refl, sym, ap, subst, subst₂, ◌∙◌, append_assoc, arith}
use Rattle.std.specs.Prelude.{slice_get}
use Rattle.std.proofs.lemmas.Bool.{cases_Bool, cases_lt}
use Rattle.std.proofs.lemmas.List.{length-take-le, length_push, take-append-drop, take_all, take_more}
use Rattle.std.proofs.lemmas.List.Elements.{All-push, All-take}
use Rattle.std.proofs.lemmas.Option.{get_or_from_slice_get, slice_get-get_or, slice_get_within}
use Rattle.pd_base.specs.declared.ids.LineId.{LineId}
use Rattle.pd_base.specs.declared.ids.PinRef.{PinRef}
use Rattle.pd_base.specs.declared.rules.Rules.{Rules}
use Rattle.pd_base.specs.Route.{Route}
use Rattle.netlist.specs.Circuit.{Circuit}
use Rattle.netlist.specs.Paths.{IsPrefixOf, prefix_of}
use Rattle.path_laws.proofs.Prefixes.{prefix_of-is_prefix}
use Rattle.runs.specs.declared.run.Proof.{Proof}
use Rattle.state_sets.specs.StateAlgebra.{StateAlgebra}
use Rattle.trees.specs.Algebras.{algebra_of}
use Rattle.trees.specs.Refutations.{IsRefutation}
use Rattle.implication.specs.Clients.{IsRestored}
use Rattle.implication.specs.Standing.{Standing}
use Rattle.implication.specs.declared.assumption.Assumption.TheVariants.{Entered}
use Rattle.good_runs.specs.Faults.{IsAbout, IsNumber}
use Rattle.good_runs.specs.Shortest.{ClosesAtStart}
use Rattle.good_runs.proofs.Numbers.{all_at_number, number_kept, number_new, number_of_append, number_of_place, number_same, number_within}
use Rattle.refutation_check.specs.Entered.{HasEnteredFor}
use Rattle.prefix_sensitize.specs.declared.course.Course.{Course}
use Rattle.prefix_sensitize.specs.declared.outcome.Findings.{Findings}
use Rattle.prefix_sensitize.specs.AlongPaths.{IsAtPin}
use Rattle.prefix_sensitize.specs.Coming.{HasComeAlong, HasComeOn}
use Rattle.prefix_sensitize.specs.Courses.{IsCourse}
use Rattle.prefix_sensitize.specs.Entering.{HasGone, IsSameBeginning, RefutesPrefix}
use Rattle.prefix_sensitize.specs.Lifting.{ArePartedAt, HasLiftedTo, IsUnderPrefix, NamesPath, Replaces, ReplacesOrStays}
use Rattle.prefix_sensitize.specs.Lifting.ReplacesOrStays.{stays, replaces}
use Rattle.prefix_sensitize.specs.Outcomes.{IsFoundProof, KeepsOthers, target_for}
use Rattle.prefix_sensitize.specs.PathOrder.{ShareSteps, StandsInOrder}
use Rattle.prefix_sensitize.specs.Settling.{found_proof}
use Rattle.prefix_sensitize.proofs.Along.{same_source}
use Rattle.prefix_sensitize.proofs.AlongPaths.{open_at, still_open}
use Rattle.prefix_sensitize.proofs.EnteredPrefixes.{no_more_than_shared}
use Rattle.prefix_sensitize.proofs.LiftedRefutations.{lifted, went_back}
use Rattle.prefix_sensitize.proofs.Passing.{keeps_none}

-- the first items of two lists that stand one behind the other, where these are at least those of the first one
take_behind : {T : Type 0} (first second : List T) (count : ℕ) → length first ≤ count
    → (more : ℕ) × (take count (first ++ second) ≡ first ++ take more second)
take_behind [] second count few = (count, refl)
take_behind (item ∷ first) second zero few = absurd (omega (arith, few))
take_behind (item ∷ first) second (suc count) few =
    let behind = take_behind first second count (omega (arith, few)) in (behind.0, ap (λ list. item ∷ list) behind.1)

-- a list ends with what stands at its last place
pub ends_with : {T : Type 0} (items : List T) (item : T) → slice_get items (length items - 1) ≡ Some item
    → items ≡ take (length items - 1) items ++ item ∷ []
ends_with items item is =
    let last = length items - 1 in
    let within = slice_get_within items last item is in
    sym (take_all (last + 1) items (omega (arith, within)))
    ∙ take_more items last item within
    ∙ ap (λ x. take last items ++ x ∷ []) (get_or_from_slice_get items last item item is)

-- what a proof names is listed
pub found_names : (c : Circuit) (rules : Rules) (budget : ℕ) (routes : List Route) (proof : Proof) → IsFoundProof c rules budget routes proof
    → NamesPath routes proof
found_names c rules budget routes proof is =
    ⊎_elim
    (λ (spent : proof.spent ≡ true). let good = is.spent spent in record { listed = good.listed; is_listed = good.is_listed })
    (λ (refutes : proof.spent ≡ false).
    let good = (is.refutes refutes).0 in record { listed = good.listed; is_listed = good.is_listed }) (cases_Bool proof.spent)

-- where a proof about the aim replaces those under the prefix, the proofs about other aims stand as before
module _ (course : Course) (prefix : Route) (old : List Proof) (kept : ℕ) (parted : ArePartedAt course prefix old kept) (added : Proof)
    (about : IsAbout course.aim.kind course.aim.direction added) where
  abbrev About : Proof → Type 0
  About proof = IsAbout course.aim.kind course.aim.direction proof

  -- a proof behind those kept is under the prefix
  behind_under : (number : ℕ) (proof : Proof) → IsNumber old number proof → kept < number → IsUnderPrefix course prefix proof
  behind_under number proof is behind =
      let P : List Proof → Type 0 = λ list. IsNumber list number proof in
      let short = length-take-le kept old (let some = parted.some in omega (arith, some)) in
      ⊎_elim
      (λ (first : IsNumber (take kept old) number proof).
      let low = number_within (take kept old) number proof first in absurd (omega (arith, low, short, behind)))
      (λ last. all_at_number (IsUnderPrefix course prefix) (drop kept old) last.0 proof parted.all_under last.2)
      (number_of_append (take kept old) (drop kept old) number proof (subst P (sym (take-append-drop kept old)) is))

  pub others_kept : (new : List Proof) → new ≡ take kept old ++ added ∷ [] → KeepsOthers course.aim old new
  others_kept new adds others none before =
      let few : length others ≤ kept =
      ⊎_elim
      (λ (less : kept < length others).
      let item = get_or others kept added in
      let number = number_of_place others kept item (slice_get-get_or others kept added less) in
      let P : List Proof → Type 0 = λ list. IsNumber list (kept + 1) item in
      let under =
      behind_under (kept + 1) item (subst P (sym before.adds) (number_kept others before.more (kept + 1) item number)) (omega arith) in
      absurd (all_at_number (λ (p : Proof). ¬ About p) others (kept + 1) item none number under.about))
      (λ (not : length others ≤ kept). not) (cases_lt kept (length others)) in
      let behind = take_behind others before.more kept few in
      record {
        more = take behind.0 before.more ++ added ∷ [];
        adds =
            adds
            ∙ ap (λ (list : List Proof). take kept list ++ added ∷ []) before.adds
            ∙ ap (λ (list : List Proof). list ++ added ∷ []) behind.1
            ∙ append_assoc others (take behind.0 before.more) (added ∷ []);
        aimed = All-push About (take behind.0 before.more) added (All-take About behind.0 before.more before.aimed) about;
      }

module _ (a : StateAlgebra) (old : Standing) (course : Course) (is_course : IsCourse old.net old.rules old.ends course) (begin place : ℕ)
    (source : LineId)
    (began : old.beginning ≡ Some (record { source = source; direction = course.aim.direction; kind = course.aim.kind }))
    (of_rules : a ≡ algebra_of old.rules) (inside : place ≤ length course.order.now) (pins : List PinRef) (before : Findings) (counted : ℕ)
    (come : HasComeAlong old course begin place pins before counted) (row : ℕ) (route : Route)
    (here : StandsInOrder course.paths.now course.order.now place row route) (begins : route.source ≡ source) (back : Standing)
    (same : IsSameBeginning old back) (left : List PinRef) (shared : ℕ) (is_shared : ShareSteps pins route.steps shared)
    (at : IsAtPin a back left route shared) where
  abbrev prefix : Route
  prefix = prefix_of shared route

  abbrev along : Route
  along = record { source = come.source; steps = pins }

  -- the source at which the walk began
  its_source : come.source ≡ route.source
  its_source =
      same_source old.beginning come.source source course.aim.direction course.aim.kind come.gone.beginning began ∙ sym begins

  -- the prefix is that of what was entered
  pub of_along : IsPrefixOf prefix along
  of_along =
      let P : Route → Type 0 = λ r. IsPrefixOf r along in
      let named : prefix_of shared along ≡ prefix =
      λ i. record { source = its_source i; steps = is_shared.same i } in
      subst P named (prefix_of-is_prefix shared along)

  named_again : prefix ≡ record { source = come.source; steps = left }
  named_again = λ i. record { source = sym its_source i; steps = sym at.first i }

  began_back : back.beginning ≡ Some (record { source = come.source; direction = course.aim.direction; kind = course.aim.kind })
  began_back = same.beginning ∙ come.gone.beginning

  gone_back : HasGone back (record { source = come.source; steps = left }) course.aim left
  gone_back = record { beginning = began_back; entered = at.entered; free = at.free }

  -- going back alone
  pub stayed_along : HasComeAlong back course begin place left before counted
  stayed_along =
      let P : Route → Type 0 = λ r. HasComeOn old.net old.rules course begin place r before.outcomes.items before.proofs.items counted in
      let Q : Circuit → Rules → Type 0 =
      λ c rules. HasComeOn c rules course begin place (record { source = come.source; steps = left }) before.outcomes.items
      before.proofs.items counted in
      record {
        source = come.source;
        gone = gone_back;
        come =
            subst₂ Q (sym same.net) (sym same.rules)
            (subst P named_again
            (went_back old.net old.rules course is_course.order begin place row route here along before.outcomes.items [] before.proofs.items
            counted come.come shared at.within of_along
            (λ shorter of_pins of_path. no_more_than_shared come.source pins route shorter shared is_shared of_pins of_path)));
      }

  -- the scope has entered what the prefix has
  pub entered_for : HasEnteredFor a (target_for course.aim prefix) back
  entered_for = record {
    of_rules = of_rules ∙ ap algebra_of (sym same.rules);
    beginning =
        began_back
        ∙ (λ i. Some (record { source = its_source i; direction = course.aim.direction; kind = course.aim.kind }));
    entered = at.entered ∙ ap (map Entered) at.first;
  }

  module _ (last : Proof) (front : List Proof) (is_last : before.proofs.items ≡ front ++ last ∷ []) (not_spent : last.spent ≡ false)
      (refutes : IsRefutation back.net back.rules (target_for course.aim prefix) last.tree) where
    is_found : IsFoundProof old.net old.rules course.aim.budget course.paths.now last
    is_found =
        let P : List Proof → Type 0 = λ list. IsNumber list (length front + 1) last in
        all_at_number (IsFoundProof old.net old.rules course.aim.budget course.paths.now) before.proofs.items (length front + 1) last
        come.come.come.found.each (subst P (sym is_last) (number_new front (length front + 1) last refl))

    refutes_prefix : RefutesPrefix old.net old.rules course.aim route shared last.tree
    refutes_prefix =
        let P : Circuit → Rules → Type 0 = λ c rules. IsRefutation c rules (target_for course.aim prefix) last.tree in
        let Q : Circuit → Rules → Type 0 = λ c rules. ¬ ClosesAtStart c rules (target_for course.aim prefix) in
        record {
          has_steps = at.within;
          refutes = subst₂ P same.net same.rules refutes;
          within_budget = (is_found.refutes not_spent).0.within_budget;
          shortest =
              λ closes.
              absurd (subst₂ Q same.net same.rules
              (open_at a back left route shared shared
              (record { source = come.source; direction = course.aim.direction; kind = course.aim.kind }) began_back its_source
              (of_rules ∙ ap algebra_of (sym same.rules)) at (let e : shared ≤ shared = omega arith in e))
              closes);
        }

    pub replaced_along : (end : ℕ) (after : Findings) → Replaces course prefix shared end last.tree before after
        → HasComeAlong back course begin end left after counted
    replaced_along end after is =
        let list = before.proofs.items in
        let kept = is.kept in
        let added = found_proof course.aim false is.least shared last.tree in
        let both = take-append-drop kept list in
        let C : List Proof → Type 0 = λ proofs. HasComeOn old.net old.rules course begin place along before.outcomes.items proofs counted in
        let then : HasComeOn old.net old.rules course begin end prefix after.outcomes.items (take kept list ++ added ∷ []) counted =
        lifted old.net old.rules course is_course.order begin place row route here along before.outcomes.items (take kept list)
        (drop kept list) counted (subst C (sym both) come.come) shared at.within
        (λ number proof its.
        all_at_number (λ (p : Proof). ¬ IsUnderPrefix course prefix p) (take kept list) number proof is.parted.none_under its)
        is.parted.all_under is.start end is.least is.no_earlier is.stretch last.tree refutes_prefix after.outcomes.items
        is.adds.rows of_along in
        let P : List Proof → Type 0 = λ proofs. HasComeOn old.net old.rules course begin end prefix after.outcomes.items proofs counted in
        let R : Route → Type 0 = λ r. HasComeOn old.net old.rules course begin end r after.outcomes.items after.proofs.items counted in
        let Q : Circuit → Rules → Type 0 =
        λ c rules. HasComeOn c rules course begin end (record { source = come.source; steps = left }) after.outcomes.items
        after.proofs.items counted in
        record {
          source = come.source;
          gone = gone_back;
          come = subst₂ Q (sym same.net) (sym same.rules) (subst R named_again (subst P (sym is.adds.added) then));
        }

-- the proof that stands last is one
same_last : (list first second : List Proof) (one other : Proof) → list ≡ first ++ one ∷ [] → list ≡ second ++ other ∷ [] → one ≡ other
same_last list first second one other is is_other =
    let N : (front : List Proof) (proof : Proof) → list ≡ front ++ proof ∷ [] → IsNumber list (length list) proof =
    λ front proof same.
    (let long = ap (length {A = Proof}) same ∙ length_push front proof in
    let Q : List Proof → Type 0 = λ items. IsNumber items (length list) proof in
    subst Q (sym same) (number_new front (length list) proof long)) in
    number_same list (length list) one other (N first one is) (N second other is_other)

-- the same, wherever counts stand
module _ (a : StateAlgebra) (old : Standing) (course : Course) (is_course : IsCourse old.net old.rules old.ends course) (place : ℕ)
    (source : LineId)
    (began : old.beginning ≡ Some (record { source = source; direction = course.aim.direction; kind = course.aim.kind }))
    (of_rules : a ≡ algebra_of old.rules) (inside : place ≤ length course.order.now) (pins : List PinRef) (before : Findings)
    (row : ℕ) (route : Route) (here : StandsInOrder course.paths.now course.order.now place row route) (begins : route.source ≡ source)
    (back : Standing) (same : IsSameBeginning old back) (left : List PinRef) (shared : ℕ) (is_shared : ShareSteps pins route.steps shared)
    (at : IsAtPin a back left route shared) where
  pub stayed : HasLiftedTo old back course place place pins left before before
  stayed = record {
    come =
        λ begin counted come.
        stayed_along a old course is_course begin place source began of_rules inside pins before counted come row route here begins back same
        left shared is_shared at;
    farther = omega arith;
    within = inside;
    others = keeps_none course.aim before.proofs.items;
  }

  module _ (last : Proof) (front : List Proof) (is_last : before.proofs.items ≡ front ++ last ∷ []) (not_spent : last.spent ≡ false)
      (refutes : IsRefutation back.net back.rules (target_for course.aim (prefix_of shared route)) last.tree) where
    replaced : (end : ℕ) (after : Findings) → Replaces course (prefix_of shared route) shared end last.tree before after
        → HasLiftedTo old back course place end pins left before after
    replaced end after is = record {
      come =
          λ begin counted come.
          replaced_along a old course is_course begin place source began of_rules inside pins before counted come row route here begins back
          same left shared is_shared at last front is_last not_spent refutes end after is;
      farther =
          ⊎_elim
          (λ (less : end < place).
          absurd (is.stretch.behind place row route here (omega (arith, less)) (prefix_of-is_prefix shared route)))
          (λ (not : place ≤ end). not) (cases_lt end place);
      within = is.stretch.in_order;
      others =
          others_kept course (prefix_of shared route) before.proofs.items is.kept is.parted
          (found_proof course.aim false is.least shared last.tree) (record { of_kind = refl; of_direction = refl }) after.proofs.items
          is.adds.added;
    }

    pub replaced_or_stayed : (end : ℕ) (after : Findings) → ReplacesOrStays course place (prefix_of shared route) shared end before after
        → HasLiftedTo old back course place end pins left before after
    replaced_or_stayed end after (stays at_place unchanged) =
        let P : ℕ → Findings → Type 0 = λ n found. HasLiftedTo old back course place n pins left before found in
        subst₂ P (sym at_place) (sym unchanged) stayed
    replaced_or_stayed end after (replaces others its is so) =
        let P : Proof → Type 0 = λ proof. Replaces course (prefix_of shared route) shared end proof.tree before after in
        replaced end after (subst P (same_last before.proofs.items others front its last is is_last) so)

-- a scope that is restored stands where it stood
pub restored_at : (a : StateAlgebra) (back now : Standing) (pins : List PinRef) (route : Route) (count : ℕ) → IsAtPin a back pins route count
    → IsRestored back now → IsAtPin a now pins route count
restored_at a back now pins route count at again = record {
  within = at.within;
  first = at.first;
  entered = again.assumptions ∙ at.entered;
  free = again.conflict ∙ at.free;
  left_open =
      still_open a back now
      (record { net = again.net; rules = again.rules; ends = again.ends; beginning = again.beginning }) again.assumptions at.left_open;
}

pub restored_same : (old back now : Standing) → IsSameBeginning old back → IsRestored back now → IsSameBeginning old now
restored_same old back now same again = record {
  net = again.net ∙ same.net;
  rules = again.rules ∙ same.rules;
  ends = again.ends ∙ same.ends;
  beginning = again.beginning ∙ same.beginning;
}
