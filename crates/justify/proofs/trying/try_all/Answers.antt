-- The sources of the cone that are told are tried in their least states; where no conflict comes of that, and all are told, the pair that has
-- these states is a test.
use Rattle.std.proofs.Common.{◌≡◌, ◌<◌, true, false, refl, sym, ap, ◌∙◌, subst, length, List, arith}
use Rattle.std.proofs.lemmas.Bool.{false≢true}
use Rattle.std.proofs.lemmas.Grind.{common_steps}
use Rattle.std.proofs.lemmas.Result.{err_from_is_err_and}
use Rattle.std.specs.List.{All}
use Rattle.pd_base.specs.declared.ids.LineId.{LineId}
use Rattle.pd_base.specs.declared.rules.Rules.{Rules}
use Rattle.netlist.specs.Circuit.{Circuit, line_count}
use Rattle.netlist.specs.Paths.{IsPrefix}
use Rattle.state_sets.specs.declared.state.State.{State}
use Rattle.implication.specs.Scopes.{standing}
use Rattle.implication.specs.Standing.{Standing}
use Rattle.implication.proofs.ScopeLabels.{there_too}
use Rattle.justify.specs.declared.trial.Tried.{Tried}
use Rattle.justify.specs.Desks.{IsDesk}
use Rattle.justify.specs.Scoping.{TellsSupport}
use Rattle.pair_judging.specs.ConeStates.{AreStates, AreSourceStates}
use Rattle.cones.specs.KeptCones.{IsConeFor}
use Rattle.pair_judging.specs.Targets.{seen_target}
use Rattle.justify.specs.Trying.{CanTry, HasLeast, GivesTest}
use Rattle.justify.proofs.Suiting.{told_after, supported_after, setting_back, setting_restored, may_end_before}
use Rattle.justify.proofs.TriedSources.{read_in_support, read_within, all_tried, read_at, sources_within, tried_fits, least_of_sources}
use Rattle.justify.proofs.TriedSources.{kept_desk, cone_tells_support, support_tells_cone}
use Rattle.justify.proofs.Trials.{if_there, if_none}
use Rattle.justify.proofs.trying.try_all.Given.{Over}
use Rattle.justify.proofs.trying.try_all.Goals.{After-tells_all}
use Rattle.justify.proofs.trying.try_all.Goals as goal

-- once it is asked whether all sources of the cone are told
module _ (g : Over) (c : After-tells_all g) where
  abbrev now : Standing
  now = standing c.args.scope.now

  abbrev later : Standing
  later = standing c.closes_by.new.scope

  desk_later : IsDesk g.A.Algebra.algebra later.net later.rules c.args.target.now.path.now
      (record c.args.desk.now { tried = c.collect.new.tried; closers = c.closes_by.new.closers })
  desk_later =
      let P : Circuit → Rules → Type 0 = λ n r. IsDesk g.A.Algebra.algebra n r c.args.target.now.path.now
      (record c.args.desk.now { tried = c.collect.new.tried; closers = c.closes_by.new.closers }) in
      there_too P now.net later.net now.rules later.rules (sym c.closes_by.ensures.restored.net) (sym c.closes_by.ensures.restored.rules)
      (kept_desk g.A.Algebra.algebra now.net now.rules c.args.target.now.path.now c.args.desk.now _
      (record { cone = refl; states = refl; blame = refl; liked = refl; justifier = refl; judge = refl }) c.requires.desk)

  all_told : c.tells_all.result ≡ true → TellsSupport (seen_target c.args.target.now) now
  all_told all source support =
      let back = setting_back now later (setting_restored now later c.closes_by.ensures.restored) in
      told_after later now back source
      (cone_tells_support g.A.Algebra.algebra (seen_target c.args.target.now) later _ desk_later c.sources-2.result.now c.sources-2.ensures
      (c.tells_all.ensures.0 all) source
      (supported_after (seen_target c.args.target.now) now later (setting_restored now later c.closes_by.ensures.restored) source support))

  not_all_told : c.tells_all.result ≡ false → ¬ TellsSupport (seen_target c.args.target.now) later
  not_all_told some tells =
      false≢true (sym some ∙ c.tells_all.ensures.1
      (support_tells_cone g.A.Algebra.algebra (seen_target c.args.target.now) later _ desk_later c.sources-2.result.now c.sources-2.ensures tells))

pub collect-requires-clause-states : goal.collect-requires-clause-states
collect-requires-clause-states g c = ap length c.as_slice.ensures.value ∙ c.requires.desk.made.states

pub collect-requires-clause-lines : goal.collect-requires-clause-lines
collect-requires-clause-lines g c =
    read_within g.A.Algebra.algebra (standing c.args.scope.now).net (standing c.args.scope.now).rules c.args.target.now.path.now
    c.args.desk.now c.requires.desk c.sources.result.now c.sources.ensures
    (length c.as_slice.result.now) (ap length c.as_slice.ensures.value ∙ c.requires.desk.made.states)

pub closes_by-requires-clause-tried : goal.closes_by-requires-clause-tried
closes_by-requires-clause-tried g c =
    let now = standing c.args.scope.now in let target = seen_target c.args.target.now in
    let P : List Tried → Type 0 = λ xs. All (CanTry g.A.Algebra.algebra target now) xs in
    let Q : List State → Type 0 = λ xs. HasLeast g.A.Algebra.algebra target now xs in
    let R : List State → Type 0 = λ xs. AreStates g.A.Algebra.algebra.count xs in
    let same = sym c.as_slice.ensures.value in
    subst P (sym c.as_slice-2.ensures.value)
    (all_tried g.A.Algebra.algebra target now c.sources.result.now c.as_slice.result.now c.collect.new.tried.items c.in_ok-collect.ensures
    (read_in_support g.A.Algebra.algebra now.net now.rules c.args.target.now.path.now c.args.desk.now c.requires.desk c.sources.result.now
    c.sources.ensures)
    (subst Q same c.requires.least) (subst R same c.requires.desk.made.within)
    (ap length c.as_slice.ensures.value ∙ c.requires.desk.made.states))

pub read_test-requires-clause-sources : goal.read_test-requires-clause-sources
read_test-requires-clause-sources g c =
    sources_within g.A.Algebra.algebra c.net.result.now (standing c.args.scope.now).net (c.net.ensures ∙ c.closes_by.ensures.restored.net)
    (standing c.args.scope.now).rules c.args.target.now.path.now c.args.desk.now c.requires.desk

pub returns-clause-answer : goal.returns-clause-answer
returns-clause-answer g c =
    let net = (standing c.args.scope.now).net in let target = seen_target c.args.target.now in
    let rules = (standing c.args.scope.now).rules in
    let Q : List Tried → Type 0 = λ xs. GivesTest g.A.Algebra.algebra net rules target xs in
    tried_fits g.A.Algebra.algebra target (standing c.args.scope.now) c.args.desk.now c.requires.desk
    (all_told g (goal.at.returns-clause-answer g c).After-tells_all c.if-not-tells_all.false) c.sources.result.now c.sources.ensures
    c.as_slice.result.now c.collect.new.tried.items c.in_ok-pair-2.pair c.in_ok-collect.ensures
    (read_at g.A.Algebra.algebra c.net.result.now net (c.net.ensures ∙ c.closes_by.ensures.restored.net) rules target.path
    c.args.desk.now c.requires.desk c.as_slice-3.result.now c.as_slice.result.now
    (c.as_slice-3.ensures.value ∙ sym c.as_slice.ensures.value) c.in_ok-pair-2.pair c.in_ok-pair-2.ensures)
    (subst Q c.as_slice-2.ensures.value (if_none c.closes_by.result c.closes_by.ensures.test (sym c.is_some.ensures ∙ c.if-is_some.false)))

pub read_test-requires-clause-states : goal.read_test-requires-clause-states
read_test-requires-clause-states g c =
    let now = standing c.args.scope.now in let target = seen_target c.args.target.now in
    let Q : List State → Type 0 = λ xs. AreSourceStates g.A.Algebra.algebra c.args.desk.now.cone.sources xs in
    let labels = c.labels.ensures.told c.requires.node.free in
    subst Q (sym c.as_slice-3.ensures.value)
    (least_of_sources g.A.Algebra.algebra target now c.requires.node
    (all_told g (goal.at.read_test-requires-clause-states g c).After-tells_all c.if-not-tells_all.false) c.args.desk.now c.requires.desk labels.0 labels.1
    c.args.desk.now.states.items c.requires.least)

pub read_test-requires-clause-made : goal.read_test-requires-clause-made
read_test-requires-clause-made g c =
    let P : Circuit → Type 0 = λ n. IsConeFor n c.args.desk.now.cone in
    subst P (sym (c.net.ensures ∙ c.closes_by.ensures.restored.net)) c.requires.desk.made.cone

pub read_test-requires-clause-places : goal.read_test-requires-clause-places
read_test-requires-clause-places g c = grind (arith, common_steps)

pub returns-then-is_some-clause-answer : goal.returns-then-is_some-clause-answer
returns-then-is_some-clause-answer g c =
    if_there c.closes_by.result c.closes_by.ensures.failed (sym c.is_some.ensures ∙ c.if-is_some.true)

pub tells_all-requires : goal.tells_all-requires
tells_all-requires g c =
    let within = sources_within g.A.Algebra.algebra (standing c.closes_by.new.scope).net (standing c.args.scope.now).net c.closes_by.ensures.restored.net
    (standing c.args.scope.now).rules c.args.target.now.path.now c.args.desk.now c.requires.desk in
    let P : List LineId → Type 0 = λ xs. All (λ source. source.0 < line_count (standing c.closes_by.new.scope).net) xs in
    subst P (sym c.sources-2.ensures) (λ k d inside. let one = within k d inside in omega (arith, one))

pub judge_untold-requires-clause-desk : goal.judge_untold-requires-clause-desk
judge_untold-requires-clause-desk g c = desk_later g (goal.at.judge_untold-requires-clause-desk g c).After-tells_all

pub judge_untold-requires-clause-untold : goal.judge_untold-requires-clause-untold
judge_untold-requires-clause-untold g c = not_all_told g (goal.at.judge_untold-requires-clause-untold g c).After-tells_all c.if-not-tells_all.true

pub judge_untold-requires-clause-prefix : goal.judge_untold-requires-clause-prefix
judge_untold-requires-clause-prefix g c =
    let P : Circuit → Type 0 = λ n. IsPrefix n c.args.target.now.path.now in
    subst P (sym c.closes_by.ensures.restored.net) c.requires.suits.prefix

pub returns-in_err-pair-clause-unfinished : goal.returns-in_err-pair-clause-unfinished
returns-in_err-pair-clause-unfinished g c =
    let now = standing c.args.scope.now in let later = standing c.closes_by.new.scope in
    let left = c.from_residual-in_err-pair in
    let error = err_from_is_err_and left.result left.ensures.1 in
    rw (error.1, error.2)
    (may_end_before (seen_target c.args.target.now) now later (setting_restored now later c.closes_by.ensures.restored) _
    c.in_err-pair.ensures.unfinished)
