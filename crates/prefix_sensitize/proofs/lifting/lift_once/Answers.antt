-- Going back keeps what the walk has come to; and so it does where the refutation found last replaces the proofs under the prefix.
use Rattle.std.proofs.Common.{◌≡◌, ℕ, ◌-◌, ◌≤◌, List, length, take, get_or, Some, sym, ap, subst, subst₂, ◌∙◌}
use Rattle.std.specs.Prelude.{slice_get}
use Rattle.std.proofs.lemmas.Option.{slice_get_within}
use Rattle.std.proofs.lemmas.Result.{IfOk-weaker}
use Rattle.pd_base.specs.Route.{Route}
use Rattle.pd_base.specs.declared.rules.Rules.{Rules}
use Rattle.netlist.specs.Circuit.{Circuit}
use Rattle.netlist.specs.Paths.{prefix_of}
use Rattle.runs.specs.declared.run.Proof.{Proof}
use Rattle.trees.specs.Refutations.{IsRefutation}
use Rattle.implication.specs.Scopes.{standing}
use Rattle.prefix_sensitize.specs.Lifting.{HasLiftedTo, ReplacesOrStays}
use Rattle.prefix_sensitize.specs.Outcomes.{target_for}
use Rattle.prefix_sensitize.specs.PathOrder.{StandsInOrder}
use Rattle.prefix_sensitize.proofs.Lifts.{ends_with, entered_for, replaced_or_stayed, restored_at, restored_same, stayed}
use Rattle.prefix_sensitize.proofs.PathOrder.{stands_once, stands_there}
use Rattle.prefix_sensitize.proofs.lifting.lift_once.Given.{Over}
use Rattle.prefix_sensitize.proofs.lifting.lift_once.Goals.{After-go_back-shared}
use Rattle.prefix_sensitize.proofs.lifting.lift_once.Goals as goal

pub replace_proofs-requires-clause-place : goal.replace_proofs-requires-clause-place
replace_proofs-requires-clause-place g c =
    let at = c.begins_at.ensures.0 c.if-not-begins_at.false in
    slice_get_within c.args.course.now.order.now c.args.place at.row at.stands.is_placed

-- the path at the place, and what goes from there to the paths behind
module _ (g : Over) (c : After-go_back-shared g) where
  abbrev row : ℕ
  row = get_or c.args.course.now.order.now c.args.place 0

  abbrev path : Route
  path = get_or c.args.course.now.paths.now row c.index-course-course.result

  here : StandsInOrder c.args.course.now.paths.now c.args.course.now.order.now c.args.place row path
  here =
      let at = c.begins_at.ensures.0 c.if-not-begins_at.false in
      stands_there c.args.course.now.paths.now c.args.course.now.order.now c.requires.is_course.order.inside c.args.place 0
      c.index-course-course.result (slice_get_within c.args.course.now.order.now c.args.place at.row at.stands.is_placed)

  begins : path.source ≡ c.args.source
  begins =
      let at = c.begins_at.ensures.0 c.if-not-begins_at.false in
      ap (λ (r : Route). r.source)
      (stands_once c.args.course.now.paths.now c.args.course.now.order.now c.args.place row at.row path at.route here at.stands).1
      ∙ at.source

pub returns-then-shared-eq0-clause-on : goal.returns-then-shared-eq0-clause-on
returns-then-shared-eq0-clause-on g c =
    let at = (goal.at.returns-then-shared-eq0-clause-on g c).After-go_back-shared in
    stayed g.A.Algebra.algebra (standing c.args.scope.now) c.args.course.now c.requires.is_course c.args.place c.args.source
    c.requires.beginning c.requires.rules c.requires.within c.args.descent.now c.args.found.now
    (row g at) (path g at) (here g at) (begins g at) (standing c.go_back-shared.new.scope)
    c.go_back-shared.ensures.same c.go_back-shared.new.self c.go_back-shared.result c.go_back-shared.ensures.shared
    c.go_back-shared.ensures.at

pub returns-then-not-branch-clause-on : goal.returns-then-not-branch-clause-on
returns-then-not-branch-clause-on g c =
    let at = (goal.at.returns-then-not-branch-clause-on g c).After-go_back-shared in
    let old = standing c.args.scope.now in
    let back = standing c.go_back-shared.new.scope in
    let now = standing c.refutes_entered.new.scope in
    stayed g.A.Algebra.algebra old c.args.course.now c.requires.is_course c.args.place c.args.source c.requires.beginning
    c.requires.rules c.requires.within c.args.descent.now c.args.found.now (row g at)
    (path g at) (here g at) (begins g at) now
    (restored_same old back now c.go_back-shared.ensures.same c.refutes_entered.ensures.restored) c.go_back-shared.new.self
    c.go_back-shared.result c.go_back-shared.ensures.shared
    (restored_at g.A.Algebra.algebra back now c.go_back-shared.new.self (path g at) c.go_back-shared.result c.go_back-shared.ensures.at
    c.refutes_entered.ensures.restored)

pub replace_proofs-requires-clause-steps : goal.replace_proofs-requires-clause-steps
replace_proofs-requires-clause-steps g c other route stands =
    let at = (goal.at.replace_proofs-requires-clause-steps g c).After-go_back-shared in
    let P : Route → Type 0 = λ r. c.go_back-shared.result ≤ length r.steps in
    subst P
    (stands_once c.args.course.now.paths.now c.args.course.now.order.now c.args.place (row g at) other (path g at) route (here g at) stands).1
    c.go_back-shared.ensures.at.within

pub returns-clause-on : goal.returns-clause-on
returns-clause-on g c =
    let at = (goal.at.returns-clause-on g c).After-go_back-shared in
    let a = g.A.Algebra.algebra in
    let old = standing c.args.scope.now in
    let back = standing c.go_back-shared.new.scope in
    let now = standing c.refutes_entered.new.scope in
    let course = c.args.course.now in
    let place = c.args.place in
    let shared = c.go_back-shared.result in
    let before = c.args.found.now in
    let after = c.replace_proofs.new.found in
    let again = c.refutes_entered.ensures.restored in
    let same = restored_same old back now c.go_back-shared.ensures.same again in
    let there = restored_at a back now c.go_back-shared.new.self (path g at) shared c.go_back-shared.ensures.at again in
    let target = target_for course.aim (prefix_of shared (path g at)) in
    let so = c.requires.come in
    let has =
    entered_for a old course c.requires.is_course so.begin place c.args.source c.requires.beginning c.requires.rules
    c.requires.within c.args.descent.now before so.steps so.come (row g at) (path g at) (here g at) (begins g at)
    back c.go_back-shared.ensures.same c.go_back-shared.new.self shared c.go_back-shared.ensures.shared c.go_back-shared.ensures.at in
    let R : Circuit → Rules → Type 0 = λ n rules. IsRefutation n rules target c.in-Some.last.now.tree in
    let refutes = c.in_ok-refutes_entered.ensures.refutes c.if-not-branch.false target has in
    let V : List Proof → Type 0 = λ list. slice_get list (length list - 1) ≡ Some c.in-Some.last.now in
    let ends =
    ends_with before.proofs.items c.in-Some.last.now (subst V c.deref.ensures.value (sym {b = slice_get c.deref.result.now (length c.deref.result.now - 1)} c.in-Some.ensures.value)) in
    IfOk-weaker c.replace_proofs.result
    (λ (end : ℕ).
    (other : ℕ) (route : Route) → StandsInOrder course.paths.now course.order.now place other route
    → ReplacesOrStays course place (prefix_of shared route) shared end before after)
    (λ (end : ℕ). HasLiftedTo old now course place end c.args.descent.now c.go_back-shared.new.self before after)
    (λ end is.
    replaced_or_stayed a old course c.requires.is_course place c.args.source c.requires.beginning c.requires.rules
    c.requires.within c.args.descent.now before (row g at) (path g at) (here g at) (begins g at)
    now same c.go_back-shared.new.self shared c.go_back-shared.ensures.shared there c.in-Some.last.now
    (take (length before.proofs.items - 1) before.proofs.items) ends c.if-last.false
    (subst₂ R (sym again.net) (sym again.rules) refutes) end after (is (row g at) (path g at) (here g at)))
    c.replace_proofs.ensures
