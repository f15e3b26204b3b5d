-- A refutation by the tree of the proof found last replaces those under the prefix, and names the first listed path that has it.
use Rattle.std.proofs.Common.{◌≡◌, false, ℕ, ◌-◌, ◌<◌, ◌≤◌, List, [], ◌∷◌, ◌++◌, length, take, drop, get_or, All, sym, ap, subst, subst₂, ◌∙◌, arith}
use Rattle.std.proofs.lemmas.List.{length-drop, length_push, take-append-le, take_all}
use Rattle.std.proofs.lemmas.Result.{IfOk-weaker}
use Rattle.netlist.specs.declared.limits.TheConstants.{MOST_LEVELS}
use Rattle.netlist.specs.Paths.{prefix_of}
use Rattle.path_laws.proofs.Prefixes.{is_prefix_of}
use Rattle.pd_base.specs.Route.{Route}
use Rattle.runs.specs.declared.run.Proof.{Proof}
use Rattle.prefix_sensitize.specs.declared.course.Course.{Course}
use Rattle.prefix_sensitize.specs.declared.outcome.Findings.{Findings}
use Rattle.prefix_sensitize.specs.Lifting.{IsUnderPrefix, ReplacesOrStays}
use Rattle.prefix_sensitize.specs.Lifting.ReplacesOrStays.{replaces}
use Rattle.prefix_sensitize.specs.PathOrder.{IsFirstPlace, IsOrder, IsStretch, StandsInOrder}
use Rattle.prefix_sensitize.specs.Settling.{AddsProof, found_proof}
use Rattle.prefix_sensitize.proofs.OrderPlaces.{all_at, some_path}
use Rattle.prefix_sensitize.proofs.PathOrder.{stands_once, stands_read}
use Rattle.prefix_sensitize.proofs.RoutePrefixes.{fewer_steps, steps_of_prefix}
use Rattle.prefix_sensitize.proofs.lifting.replace_proofs.Goals as goal

module _ (course : Course) (is_order : IsOrder course.paths.now course.order.now) (place steps : ℕ) (within : place < length course.order.now)
    (path : Route) (is : path ≡ get_or course.paths.now (get_or course.order.now place 0) path)
    (are_steps : (row : ℕ) (route : Route) → StandsInOrder course.paths.now course.order.now place row route → steps ≤ length route.steps)
    (start : ℕ)
    (first : (row : ℕ) (route : Route) → StandsInOrder course.paths.now course.order.now place row route
    → IsFirstPlace course.paths.now course.order.now (prefix_of steps route) place start) where
  -- the path that is read stands at the place
  here : StandsInOrder course.paths.now course.order.now place (get_or course.order.now place 0) path
  here = stands_read course.paths.now course.order.now is_order.inside place path within is

  has_steps : steps ≤ length path.steps
  has_steps = are_steps (get_or course.order.now place 0) path here

  is_first : IsFirstPlace course.paths.now course.order.now (prefix_of steps path) place start
  is_first = first (get_or course.order.now place 0) path here

  same_path : (row : ℕ) (route : Route) → StandsInOrder course.paths.now course.order.now place row route → path ≡ route
  same_path row route stands =
      (stands_once course.paths.now course.order.now place (get_or course.order.now place 0) row path route here stands).1

  -- the path at the first place has the prefix, as its own
  at_start : (row : ℕ) × (route : Route) × StandsInOrder course.paths.now course.order.now start row route
  at_start = let low = is_first.no_later in some_path course.paths.now course.order.now is_order start (omega (arith, low, within))

  its_prefix : (row : ℕ) (route : Route) → StandsInOrder course.paths.now course.order.now start row route
      → prefix_of steps route ≡ prefix_of steps path
  its_prefix row route stands =
      let its = steps_of_prefix steps path has_steps in
      ap (λ (count : ℕ). prefix_of count route) (sym its) ∙ sym (is_prefix_of (prefix_of steps path) route (is_first.has row route stands))

  start_steps : (row : ℕ) (route : Route) → StandsInOrder course.paths.now course.order.now start row route → steps ≤ length route.steps
  start_steps row route stands =
      let few = fewer_steps (prefix_of steps path) route (is_first.has row route stands) in
      let its = steps_of_prefix steps path has_steps in
      omega (arith, few, its)

  module _ (end least : ℕ)
      (found : (row : ℕ) (route : Route) → StandsInOrder course.paths.now course.order.now start row route
      → IsStretch course.paths.now course.order.now (prefix_of steps route) start end least) where
    stretch : IsStretch course.paths.now course.order.now (prefix_of steps path) start end least
    stretch =
        let P : Route → Type 0 = λ prefix. IsStretch course.paths.now course.order.now prefix start end least in
        subst P (its_prefix at_start.0 at_start.1 at_start.2) (found at_start.0 at_start.1 at_start.2)

    least_within : least < length course.paths.now
    least_within =
        all_at (λ (row : ℕ). row < length course.paths.now) course.order.now stretch.at_least least is_order.inside stretch.is_placed

    few_steps : All (λ (route : Route). length route.steps ≤ MOST_LEVELS) course.paths.now → steps ≤ MOST_LEVELS
    few_steps short =
        let few : length path.steps ≤ MOST_LEVELS =
        all_at (λ (route : Route). length route.steps ≤ MOST_LEVELS) course.paths.now (get_or course.order.now place 0) path short
        here.is_listed in
        let its = has_steps in
        omega (arith, its, few)

    -- the proofs under the prefix are replaced
    module _ (old new : Findings) (front : List Proof) (last proof : Proof) (is_last : old.proofs.items ≡ front ++ last ∷ []) (kept : ℕ)
        (none_under : All (λ p. ¬ IsUnderPrefix course (prefix_of steps path) p) (take kept old.proofs.items))
        (some : 0 < length (drop kept old.proofs.items))
        (all_under : All (IsUnderPrefix course (prefix_of steps path)) (drop kept old.proofs.items))
        (made : proof ≡ found_proof course.aim false least steps last.tree)
        (adds : AddsProof course.order.now start end proof old.outcomes.items new.outcomes.items (take kept front) new.proofs.items) where
      many : kept < length old.proofs.items
      many = let long = length-drop kept old.proofs.items in omega (arith, long, some)

      pub replaced : (row : ℕ) (route : Route) → StandsInOrder course.paths.now course.order.now place row route
          → ReplacesOrStays course place (prefix_of steps route) steps end old new
      replaced row route stands =
          let P : Route → Type 0 = λ r. ReplacesOrStays course place (prefix_of steps r) steps end old new in
          let less : kept ≤ length front =
          let long = ap (length {A = Proof}) is_last in let one = length_push front last in let low = many in omega (arith, long, one, low) in
          let same : take kept front ≡ take kept old.proofs.items =
          sym (take-append-le kept front (last ∷ []) less) ∙ ap (take kept) (sym is_last) in
          let Q : Proof → Type 0 =
          λ p. AddsProof course.order.now start end p old.outcomes.items new.outcomes.items (take kept front) new.proofs.items in
          let R : List Proof → Type 0 =
          λ list. AddsProof course.order.now start end (found_proof course.aim false least steps last.tree) old.outcomes.items
          new.outcomes.items list new.proofs.items in
          subst P (same_path row route stands)
          (replaces front last is_last
          (record {
            kept = kept;
            parted = record { some = many; none_under = none_under; all_under = all_under };
            start = start;
            no_earlier = is_first.no_earlier;
            least = least;
            stretch = stretch;
            adds = subst R same (subst Q made adds);
          }))

pub stretch_from-stretch-requires-clause-steps : goal.stretch_from-stretch-requires-clause-steps
stretch_from-stretch-requires-clause-steps c =
    start_steps c.args.course.now c.requires.order c.args.place c.args.steps c.requires.place c.index-course-course.result
    c.index-course-course.is c.requires.steps c.first_place-start.result c.first_place-start.ensures

pub found_proof-proof-requires-clause-row : goal.found_proof-proof-requires-clause-row
found_proof-proof-requires-clause-row c =
    let low =
    least_within c.args.course.now c.requires.order c.args.place c.args.steps c.requires.place c.index-course-course.result
    c.index-course-course.is c.requires.steps c.first_place-start.result c.first_place-start.ensures c.stretch_from-stretch.result.end
    c.stretch_from-stretch.result.least c.stretch_from-stretch.ensures in
    let few = c.requires.few in
    omega (arith, low, few)

pub found_proof-proof-requires-clause-steps : goal.found_proof-proof-requires-clause-steps
found_proof-proof-requires-clause-steps c =
    let few =
    few_steps c.args.course.now c.requires.order c.args.place c.args.steps c.requires.place c.index-course-course.result
    c.index-course-course.is c.requires.steps c.first_place-start.result c.first_place-start.ensures c.stretch_from-stretch.result.end
    c.stretch_from-stretch.result.least c.stretch_from-stretch.ensures c.requires.short in
    omega (arith, few)

pub add_proof-requires-clause-places : goal.add_proof-requires-clause-places
add_proof-requires-clause-places c =
    let its =
    stretch c.args.course.now c.requires.order c.args.place c.args.steps c.requires.place c.index-course-course.result
    c.index-course-course.is c.requires.steps c.first_place-start.result c.first_place-start.ensures c.stretch_from-stretch.result.end
    c.stretch_from-stretch.result.least c.stretch_from-stretch.ensures in
    let some = its.some in
    omega (arith, some)

pub add_proof-requires-clause-end : goal.add_proof-requires-clause-end
add_proof-requires-clause-end c =
    (stretch c.args.course.now c.requires.order c.args.place c.args.steps c.requires.place c.index-course-course.result
    c.index-course-course.is c.requires.steps c.first_place-start.result c.first_place-start.ensures c.stretch_from-stretch.result.end
    c.stretch_from-stretch.result.least c.stretch_from-stretch.ensures).in_order

pub returns : goal.returns
returns c =
    let course = c.args.course.now in
    let old = c.args.found.now in
    let start = c.first_place-start.result in
    let to = c.stretch_from-stretch.result.end in
    let new = c.add_proof.new.found in
    IfOk-weaker c.add_proof.result
    (λ (end : ℕ).
    (end ≡ to)
    × AddsProof course.order.now start to c.found_proof-proof.result old.outcomes.items new.outcomes.items c.truncate.new.self.items
    new.proofs.items)
    (λ (end : ℕ).
    (row : ℕ) (route : Route) → StandsInOrder course.paths.now course.order.now c.args.place row route
    → ReplacesOrStays course c.args.place (prefix_of c.args.steps route) c.args.steps end old new)
    (λ end is row route stands.
    let P : ℕ → Type 0 = λ n. ReplacesOrStays course c.args.place (prefix_of c.args.steps route) c.args.steps n old new in
    let kept = c.first_under_prefix-kept.result in
    let O : Route → List Proof → Type 0 =
    λ r list. All (λ p. ¬ IsUnderPrefix course (prefix_of c.args.steps r) p) (take kept list) in
    let list = c.deref.result.now in
    let tail : take (length list - kept) (drop kept list) ≡ drop kept list =
    take_all (length list - kept) (drop kept list) (let long = length-drop kept list in omega (arith, long)) in
    let F : List Proof → Type 0 = λ items. 0 < length items in
    let T : List Proof → Type 0 =
    λ items.
    All (IsUnderPrefix course (prefix_of c.args.steps
    (get_or course.paths.now (get_or course.order.now c.args.place 0) c.index-course-course.result))) items in
    let S : List Proof → Type 0 = λ list. 0 < length (drop kept list) in
    let I : Route → List Proof → Type 0 = λ r list. All (IsUnderPrefix course (prefix_of c.args.steps r)) (drop kept list) in
    let Q : List Proof → Type 0 =
    λ list. AddsProof course.order.now start to c.found_proof-proof.result old.outcomes.items new.outcomes.items list new.proofs.items in
    subst P (sym is.0)
    (replaced course c.requires.order c.args.place c.args.steps c.requires.place c.index-course-course.result c.index-course-course.is
    c.requires.steps start c.first_place-start.ensures to c.stretch_from-stretch.result.least c.stretch_from-stretch.ensures old new
    c.pop.new.self.items c.in-Some.last c.found_proof-proof.result c.in-Some.ensures.items kept
    (subst₂ O (sym c.index-course-course.is) c.as_slice.ensures.value c.first_under_prefix-kept.ensures.none_under)
    (subst S c.deref.ensures.value (subst F tail (c.are_under_prefix.ensures.some c.if-not-are_under_prefix.false)))
    (subst₂ I (sym c.index-course-course.is) c.deref.ensures.value (subst T tail (c.are_under_prefix.ensures.all c.if-not-are_under_prefix.false)))
    c.found_proof-proof.ensures (subst Q c.truncate.ensures.items is.1) row route stands))
    c.add_proof.ensures
