-- A test or a spent tree settles the row at this place; a refutation the rows of the stretch.
use Rattle.std.proofs.Common.{◌≡◌, All, true, ℕ, ◌+◌, ◌<◌, ◌≤◌, List, length, get_or, set, Some, refl, sym, ap, subst, subst₂, ◌∙◌, arith}
use Rattle.std.specs.Prelude.{slice_get}
use Rattle.std.proofs.lemmas.Option.{get_or_from_slice_get, slice_get-get_or}
use Rattle.std.proofs.lemmas.Result.{IfOk-weaker}
use Rattle.netlist.specs.declared.limits.TheConstants.{MOST_LEVELS}
use Rattle.netlist.specs.Paths.{prefix_of}
use Rattle.pd_base.specs.Route.{Route}
use Rattle.runs.specs.declared.run.Proof.{Proof}
use Rattle.trees.specs.declared.tree.Node.{Node}
use Rattle.prefix_sensitize.specs.declared.course.Course.{Course}
use Rattle.justify.specs.declared.answer.Found.{Found}
use Rattle.justify.specs.declared.answer.Found.TheVariants.{Refuted}
use Rattle.prefix_sensitize.specs.declared.outcome.RowOutcome.{RowOutcome}
use Rattle.prefix_sensitize.specs.declared.outcome.RowOutcome.TheVariants.{Tested}
use Rattle.prefix_sensitize.specs.PathOrder.{IsOrder, IsStretch, StandsInOrder}
use Rattle.prefix_sensitize.specs.Settling.{AddsProof, HaveOutcome, HasItsSteps, Settles, found_proof}
use Rattle.prefix_sensitize.proofs.OrderPlaces.{all_at, at_index, same_item, some_path}
use Rattle.prefix_sensitize.proofs.SettledRows.{settled_more, settled_none}
use Rattle.prefix_sensitize.proofs.settling.settle.Goals as goal

module _ (course : Course) (place : ℕ) (is_order : IsOrder course.paths.now course.order.now) (within : place < length course.order.now) where
  -- the path at this place, which is read by its row
  here : (row : ℕ) (route read : Route) → StandsInOrder course.paths.now course.order.now place row route
      → read ≡ get_or course.paths.now (get_or course.order.now place 0) read → (get_or course.order.now place 0 ≡ row) × (read ≡ route)
  here row route read stands is =
      let row_of : get_or course.order.now place 0 ≡ row = get_or_from_slice_get course.order.now place row 0 stands.is_placed in
      let inside : get_or course.order.now place 0 < length course.paths.now = is_order.inside place 0 within in
      let P : ℕ → Type 0 = λ n. slice_get course.paths.now n ≡ Some read in (
        row_of,
        same_item course.paths.now row read route (subst P row_of (at_index course.paths.now (get_or course.order.now place 0) read inside is))
            stands.is_listed,
      )

  -- the row at this place is written
  one_written : (outcome : RowOutcome) (old : List RowOutcome) → length old ≡ length course.paths.now
      → HaveOutcome course.order.now place (place + 1) outcome old (set old (get_or course.order.now place 0) outcome)
  one_written outcome old one_each =
      let inside : get_or course.order.now place 0 < length course.paths.now = is_order.inside place 0 within in
      settled_more course.order.now place place (get_or course.order.now place 0) outcome old old
      (settled_none course.order.now place outcome old) (omega arith) (slice_get-get_or course.order.now place 0 within)
      (omega (arith, inside, one_each))

  -- what stands of a stretch from here on
  module _ (steps end least : ℕ)
      (is : (row : ℕ) (route : Route) → StandsInOrder course.paths.now course.order.now place row route
      → IsStretch course.paths.now course.order.now (prefix_of steps route) place end least) where
    stretch : (route : Route) × IsStretch course.paths.now course.order.now (prefix_of steps route) place end least
    stretch =
        let some = some_path course.paths.now course.order.now is_order place within in
        (some.1, is some.0 some.1 some.2)

    end_within : end ≤ length course.order.now
    end_within = stretch.1.in_order

    end_behind : place ≤ end
    end_behind = let some = stretch.1.some in omega (arith, some)

    least_within : least < length course.paths.now
    least_within =
        all_at (λ (row : ℕ). row < length course.paths.now) course.order.now stretch.1.at_least least is_order.inside stretch.1.is_placed

  -- a refutation is of few steps
  few_steps : (answer : Found) (steps : ℕ) (tree : List Node) → answer ≡ Refuted tree
      → All (λ (route : Route). length route.steps ≤ MOST_LEVELS) course.paths.now
      → ((row : ℕ) (route : Route) → StandsInOrder course.paths.now course.order.now place row route → HasItsSteps route steps answer)
      → steps ≤ MOST_LEVELS
  few_steps answer steps tree is short has =
      let some = some_path course.paths.now course.order.now is_order place within in
      let P : Found → Type 0 = λ e. HasItsSteps some.1 steps e in
      let its : steps ≤ length some.1.steps = subst P is (has some.0 some.1 some.2) in
      let few : length some.1.steps ≤ MOST_LEVELS =
      all_at (λ (route : Route). length route.steps ≤ MOST_LEVELS) course.paths.now some.0 some.1 short some.2.is_listed in
      omega (arith, its, few)

pub stretch_from-stretch-requires-clause-steps : goal.stretch_from-stretch-requires-clause-steps
stretch_from-stretch-requires-clause-steps c row route stands =
    let P : Found → Type 0 = λ e. HasItsSteps route c.args.ended.steps e in
    subst P c.in-Refuted.is (c.requires.steps row route stands)

pub found_proof-proof-requires-in-Refuted-clause-row : goal.found_proof-proof-requires-in-Refuted-clause-row
found_proof-proof-requires-in-Refuted-clause-row c =
    let least = least_within c.args.course.now c.args.place c.requires.order c.requires.place c.args.ended.steps
    c.stretch_from-stretch.result.end c.stretch_from-stretch.result.least c.stretch_from-stretch.ensures in
    let few = c.requires.few in
    omega (arith, least, few)

pub found_proof-proof-requires-in-Refuted-clause-steps : goal.found_proof-proof-requires-in-Refuted-clause-steps
found_proof-proof-requires-in-Refuted-clause-steps c =
    let few = few_steps c.args.course.now c.args.place c.requires.order c.requires.place c.args.ended.found c.args.ended.steps c.in-Refuted.tree
    c.in-Refuted.is c.requires.short c.requires.steps in
    omega (arith, few)

pub add_proof-requires-in-Refuted-clause-end : goal.add_proof-requires-in-Refuted-clause-end
add_proof-requires-in-Refuted-clause-end c =
    end_within c.args.course.now c.args.place c.requires.order c.requires.place c.args.ended.steps c.stretch_from-stretch.result.end
    c.stretch_from-stretch.result.least c.stretch_from-stretch.ensures

pub add_proof-requires-in-Refuted-clause-places : goal.add_proof-requires-in-Refuted-clause-places
add_proof-requires-in-Refuted-clause-places c =
    end_behind c.args.course.now c.args.place c.requires.order c.requires.place c.args.ended.steps c.stretch_from-stretch.result.end
    c.stretch_from-stretch.result.least c.stretch_from-stretch.ensures

pub returns-in-Test : goal.returns-in-Test
returns-in-Test c row route stands =
    let course = c.args.course.now in
    let place = c.args.place in
    let old = c.args.found.now.outcomes.items in
    let new = set old (get_or course.order.now place 0) (Tested c.in-Test.pair) in
    let P : Found → Type 0 =
    λ e. Settles course place row route c.args.ended.steps e (place + 1) old new c.args.found.now.proofs.items c.args.found.now.proofs.items in
    subst P (sym c.in-Test.is)
    (refl, refl, one_written course place c.requires.order c.requires.place (Tested c.in-Test.pair) old c.requires.one_each)

pub returns-in-Spent : goal.returns-in-Spent
returns-in-Spent c =
    let course = c.args.course.now in
    let place = c.args.place in
    let old = c.args.found.now.outcomes.items in
    let new = c.add_proof.new.found.outcomes.items in
    let before = c.args.found.now.proofs.items in
    let after = c.add_proof.new.found.proofs.items in
    IfOk-weaker c.add_proof.result
    (λ (end : ℕ). (end ≡ place + 1) × AddsProof course.order.now place (place + 1) c.found_proof-proof.result old new before after)
    (λ (end : ℕ).
    (row : ℕ) (route : Route) → StandsInOrder course.paths.now course.order.now place row route
    → Settles course place row route c.args.ended.steps c.args.ended.found end old new before after)
    (λ end is row route stands.
    let its = here course place c.requires.order c.requires.place row route c.index-course-row.result stands c.index-course-row.is in
    let steps : length c.steps-steps.result.now ≡ length route.steps =
    ap length c.steps-steps.ensures
    ∙ ap (λ (r : Route). length r.steps) (sym c.index-course-row.is)
    ∙ ap (λ (r : Route). length r.steps) its.1 in
    let P : Found → Type 0 = λ e. Settles course place row route c.args.ended.steps e end old new before after in
    let Q : ℕ → Proof → Type 0 = λ n p. AddsProof course.order.now place n p old new before after in
    let proof : c.found_proof-proof.result ≡ found_proof course.aim true row (length route.steps) c.in-Spent.tree =
    c.found_proof-proof.ensures ∙ (λ i. found_proof course.aim true (its.0 i) (steps i) c.in-Spent.tree) in
    subst P (sym c.in-Spent.is) (is.0, subst₂ Q (sym is.0) proof is.1))
    c.add_proof.ensures

pub returns-in-Refuted : goal.returns-in-Refuted
returns-in-Refuted c =
    let course = c.args.course.now in
    let place = c.args.place in
    let to = c.stretch_from-stretch.result.end in
    let least = c.stretch_from-stretch.result.least in
    let old = c.args.found.now.outcomes.items in
    let new = c.add_proof-in-Refuted.new.found.outcomes.items in
    let before = c.args.found.now.proofs.items in
    let after = c.add_proof-in-Refuted.new.found.proofs.items in
    IfOk-weaker c.add_proof-in-Refuted.result
    (λ (end : ℕ). (end ≡ to) × AddsProof course.order.now place to c.found_proof-proof-in-Refuted.result old new before after)
    (λ (end : ℕ).
    (row : ℕ) (route : Route) → StandsInOrder course.paths.now course.order.now place row route
    → Settles course place row route c.args.ended.steps c.args.ended.found end old new before after)
    (λ end is row route stands.
    let P : Found → Type 0 = λ e. Settles course place row route c.args.ended.steps e end old new before after in
    let Q : ℕ → Proof → Type 0 = λ n p. AddsProof course.order.now place n p old new before after in
    let S : ℕ → Type 0 =
    λ n. IsStretch course.paths.now course.order.now (prefix_of c.args.ended.steps route) place n least in
    subst P (sym c.in-Refuted.is) (
      least,
      subst S (sym is.0) (c.stretch_from-stretch.ensures row route stands),
      subst₂ Q (sym is.0) c.found_proof-proof-in-Refuted.ensures is.1,
    ))
    c.add_proof-in-Refuted.ensures
