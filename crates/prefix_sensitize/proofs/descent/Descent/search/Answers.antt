-- A conflict at a pin refutes the prefix up to it, and otherwise the search on the scope is one of the whole path.
use Rattle.std.proofs.Common.{◌+◌, ◌<◌, ◌≤◌, length, sym, ap, subst, subst₂, ◌∙◌, arith}
use Rattle.pd_base.specs.declared.rules.Rules.{Rules}
use Rattle.netlist.specs.Circuit.{Circuit}
use Rattle.netlist.specs.Paths.{IsPrefix, prefix_of}
use Rattle.implication.specs.Scopes.{IsSameScope, standing}
use Rattle.implication.proofs.Restoring.{same_scope_twice}
use Rattle.justify.specs.Desks.{IsDeskFor}
use Rattle.prefix_sensitize.specs.Entering.{CountsPins, IsSameBeginning}
use Rattle.prefix_sensitize.proofs.SearchedAnew.{entered_again}
use Rattle.prefix_sensitize.proofs.Descents.{closed_ends, counts_pins, has_gone, leads_along, moved_on, moved_to_end, same_restored, same_twice, search_ends, starts_search, still_along, still_closes}
use Rattle.prefix_sensitize.proofs.descent.Descent.search.Given.{Over}
use Rattle.prefix_sensitize.proofs.descent.Descent.search.Goals.{After-go_on}
use Rattle.prefix_sensitize.proofs.descent.Descent.search.Goals as goal

-- once the scope went back and on
module _ (g : Over) (c : After-go_on g) where
  -- it is the same one, with the same beginning
  same_on : IsSameBeginning (standing c.args.scope.now) (standing c.go_on.new.scope)
  same_on =
      same_twice (standing c.args.scope.now) (standing c.go_back-shared.new.scope) (standing c.go_on.new.scope)
      c.go_back-shared.ensures.same c.go_on.ensures.same

  scope_on : IsSameScope c.args.scope.now c.go_on.new.scope
  scope_on = same_scope_twice c.go_back-shared.ensures.scope c.go_on.ensures.scope

  -- and the pins that were tried are counted
  counts_on : CountsPins c.args.self.now c.args.path.now c.args.steps.now c.go_on.new.steps
  counts_on =
      counts_pins c.args.self.now c.args.path.now c.go_back-shared.result c.go_back-shared.ensures.shared c.args.steps.now
      c.go_on.new.steps c.go_on.ensures.more c.go_on.ensures.few

pub go_on-requires-clause-along : goal.go_on-requires-clause-along
go_on-requires-clause-along g c =
    let old = standing c.args.scope.now in
    let along = leads_along g.A.Algebra.algebra old c.requires.can.is_desk.of_rules c.args.path.now c.args.aim c.args.self.now c.requires.can.gone c.requires.can.is_path c.requires.can.is_told in
    still_along g.A.Algebra.algebra old (standing c.go_back-shared.new.scope) c.args.path.now c.go_back-shared.ensures.same along

pub go_on-requires-clause-at : goal.go_on-requires-clause-at
go_on-requires-clause-at g c = c.go_back-shared.ensures.at

pub decide-requires-clause-enter : goal.decide-requires-clause-enter
decide-requires-clause-enter g c =
    let path = c.args.path.now in
    let kept = c.in_ok-kept.kept in
    let long = ap length c.steps.ensures in
    let all : length path.steps ≤ kept = omega (arith, long, c.if-kept-steps.false) in
    entered_again g.A.Algebra.algebra (standing c.args.scope.now) (standing c.go_on.new.scope) path c.args.aim c.args.self.now c.go_on.new.self
    c.requires.can.gone c.requires.can.is_desk.of_rules c.requires.can.is_path
    (same_on g (goal.at.decide-requires-clause-enter g c).After-go_on) kept c.in_ok-kept.ensures.on.at all

pub decide-requires-clause-can : goal.decide-requires-clause-can
decide-requires-clause-can g c = record {
  prefix =
      (let same = same_on g (goal.at.decide-requires-clause-can g c).After-go_on in
      let P : Circuit → Type 0 = λ net. IsPrefix net c.args.path.now in
      subst P (sym same.net) c.requires.can.is_path.prefix);
  start =
      (let path = c.args.path.now in
      let kept = c.in_ok-kept.kept in
      let long = ap length c.steps.ensures in
      let all : length path.steps ≤ kept = omega (arith, long, c.if-kept-steps.false) in
      starts_search g.A.Algebra.algebra (standing c.args.scope.now) c.requires.can.is_desk.of_rules path c.args.aim c.args.self.now c.requires.can.gone (standing c.go_on.new.scope)
      (same_on g (goal.at.decide-requires-clause-can g c).After-go_on) c.go_on.new.self kept c.in_ok-kept.ensures.on.at all);
  positive = c.requires.can.is_budget.positive;
  within = c.requires.can.is_budget.within;
}

pub decide-requires-clause-desk : goal.decide-requires-clause-desk
decide-requires-clause-desk g c =
    let same = same_on g (goal.at.decide-requires-clause-desk g c).After-go_on in
    let P : Circuit → Rules → Type 0 = λ net r. IsDeskFor g.A.Algebra.algebra net r c.args.desk.now in
    subst₂ P (sym same.net) (sym same.rules) c.requires.can.is_desk

pub returns-in_err-kept-clause-same : goal.returns-in_err-kept-clause-same
returns-in_err-kept-clause-same g c = same_on g (goal.at.returns-in_err-kept-clause-same g c).After-go_on

pub returns-in_err-tree-clause-same : goal.returns-in_err-tree-clause-same
returns-in_err-tree-clause-same g c = same_on g (goal.at.returns-in_err-tree-clause-same g c).After-go_on

pub returns-then-kept-steps-clause-same : goal.returns-then-kept-steps-clause-same
returns-then-kept-steps-clause-same g c = same_on g (goal.at.returns-then-kept-steps-clause-same g c).After-go_on

pub returns-in_err-found-clause-same : goal.returns-in_err-found-clause-same
returns-in_err-found-clause-same g c =
    let last = standing c.go_on.new.scope in
    let end = standing c.decide.new.scope in
    same_twice (standing c.args.scope.now) last end (same_on g (goal.at.returns-in_err-found-clause-same g c).After-go_on)
    (same_restored last end c.decide.ensures.restored)

pub returns-in_err-found-clause-desk : goal.returns-in_err-found-clause-desk
returns-in_err-found-clause-desk g c =
    let same = same_on g (goal.at.returns-in_err-found-clause-desk g c).After-go_on in
    let P : Circuit → Rules → Type 0 = λ net r. IsDeskFor g.A.Algebra.algebra net r c.decide.new.desk in
    subst₂ P same.net same.rules c.decide.ensures.desk

pub returns-clause-same : goal.returns-clause-same
returns-clause-same g c =
    let last = standing c.go_on.new.scope in
    let end = standing c.decide.new.scope in
    same_twice (standing c.args.scope.now) last end (same_on g (goal.at.returns-clause-same g c).After-go_on)
    (same_restored last end c.decide.ensures.restored)

pub returns-clause-desk : goal.returns-clause-desk
returns-clause-desk g c =
    let same = same_on g (goal.at.returns-clause-desk g c).After-go_on in
    let P : Circuit → Rules → Type 0 = λ net r. IsDeskFor g.A.Algebra.algebra net r c.decide.new.desk in
    subst₂ P same.net same.rules c.decide.ensures.desk

pub returns-in_err-kept-clause-counted : goal.returns-in_err-kept-clause-counted
returns-in_err-kept-clause-counted g c = counts_on g (goal.at.returns-in_err-kept-clause-counted g c).After-go_on

pub returns-in_err-tree-clause-counted : goal.returns-in_err-tree-clause-counted
returns-in_err-tree-clause-counted g c = counts_on g (goal.at.returns-in_err-tree-clause-counted g c).After-go_on

pub returns-then-kept-steps-clause-counted : goal.returns-then-kept-steps-clause-counted
returns-then-kept-steps-clause-counted g c = counts_on g (goal.at.returns-then-kept-steps-clause-counted g c).After-go_on

pub returns-in_err-found-clause-counted : goal.returns-in_err-found-clause-counted
returns-in_err-found-clause-counted g c = counts_on g (goal.at.returns-in_err-found-clause-counted g c).After-go_on

pub returns-clause-counted : goal.returns-clause-counted
returns-clause-counted g c = counts_on g (goal.at.returns-clause-counted g c).After-go_on

pub go_back-shared-requires-clause-entered : goal.go_back-shared-requires-clause-entered
go_back-shared-requires-clause-entered g c = c.requires.can.gone.entered

pub go_back-shared-requires-clause-free : goal.go_back-shared-requires-clause-free
go_back-shared-requires-clause-free g c = c.requires.can.gone.free

pub overflow_add-result : goal.overflow_add-result
overflow_add-result g c = let room = c.requires.can.room in omega (arith, c.if-kept-steps.true, room, ap length c.steps.ensures)

pub returns-in_err-kept-clause-scope : goal.returns-in_err-kept-clause-scope
returns-in_err-kept-clause-scope g c = scope_on g (goal.at.returns-in_err-kept-clause-scope g c).After-go_on

pub returns-in_err-tree-clause-scope : goal.returns-in_err-tree-clause-scope
returns-in_err-tree-clause-scope g c = scope_on g (goal.at.returns-in_err-tree-clause-scope g c).After-go_on

pub returns-then-kept-steps-clause-scope : goal.returns-then-kept-steps-clause-scope
returns-then-kept-steps-clause-scope g c = scope_on g (goal.at.returns-then-kept-steps-clause-scope g c).After-go_on

pub returns-in_err-found-clause-scope : goal.returns-in_err-found-clause-scope
returns-in_err-found-clause-scope g c =
    same_scope_twice (scope_on g (goal.at.returns-in_err-found-clause-scope g c).After-go_on) c.decide.ensures.scope

pub returns-clause-scope : goal.returns-clause-scope
returns-clause-scope g c = same_scope_twice (scope_on g (goal.at.returns-clause-scope g c).After-go_on) c.decide.ensures.scope

pub returns-then-kept-steps-clause-searched : goal.returns-then-kept-steps-clause-searched
returns-then-kept-steps-clause-searched g c = record {
  is_found =
      (let path = c.args.path.now in
      let old = standing c.args.scope.now in
      let kept = c.in_ok-kept.kept in
      let long = ap length c.steps.ensures in
      let within : kept < length path.steps = omega (arith, long, c.if-kept-steps.true) in
      closed_ends g.A.Algebra.algebra old c.requires.can.is_desk.of_rules path c.args.aim c.args.self.now c.requires.can.gone (standing c.go_on.new.scope)
      (same_on g (goal.at.returns-then-kept-steps-clause-searched g c).After-go_on) c.go_on.new.self kept c.in_ok-kept.ensures.on.at
      c.in_ok-tree.tree within
      (still_closes old (standing c.go_back-shared.new.scope) (prefix_of (kept + 1) path) c.go_back-shared.ensures.same
      (c.in_ok-kept.ensures.on.closes within))
      c.in_ok-tree.ensures);
  gone =
      (has_gone g.A.Algebra.algebra (standing c.args.scope.now) c.requires.can.is_desk.of_rules c.args.path.now c.args.aim c.args.self.now c.requires.can.gone (standing c.go_on.new.scope)
      (same_on g (goal.at.returns-then-kept-steps-clause-searched g c).After-go_on) c.go_on.new.self c.in_ok-kept.kept
      c.in_ok-kept.ensures.on.at);
  moved =
      (let path = c.args.path.now in
      let kept = c.in_ok-kept.kept in
      let long = ap length c.steps.ensures in
      let within : kept < length path.steps = omega (arith, long, c.if-kept-steps.true) in
      moved_on g.A.Algebra.algebra (standing c.args.scope.now) c.requires.can.is_desk.of_rules path c.args.aim c.args.self.now c.requires.can.gone (standing c.go_on.new.scope)
      (same_on g (goal.at.returns-then-kept-steps-clause-searched g c).After-go_on) c.go_on.new.self kept c.in_ok-kept.ensures.on.at
      c.go_back-shared.result c.args.steps.now c.go_on.new.steps c.go_back-shared.ensures.shared c.in_ok-kept.ensures.on.farther
      c.in_ok-kept.ensures.on.counted c.in_ok-tree.tree within);
}

pub returns-clause-searched : goal.returns-clause-searched
returns-clause-searched g c = record {
  is_found =
      (let path = c.args.path.now in
      let old = standing c.args.scope.now in
      let kept = c.in_ok-kept.kept in
      let long = ap length c.steps.ensures in
      let all : length path.steps ≤ kept = omega (arith, long, c.if-kept-steps.false) in
      search_ends g.A.Algebra.algebra old c.requires.can.is_desk.of_rules path c.args.aim c.args.self.now c.requires.can.gone (standing c.go_on.new.scope)
      (same_on g (goal.at.returns-clause-searched g c).After-go_on) c.go_on.new.self kept c.in_ok-kept.ensures.on.at
      all c.in_ok-found.found c.in_ok-found.ensures.found);
  gone =
      (let restored = c.decide.ensures.restored in
      let gone =
      has_gone g.A.Algebra.algebra (standing c.args.scope.now) c.requires.can.is_desk.of_rules c.args.path.now c.args.aim c.args.self.now c.requires.can.gone (standing c.go_on.new.scope)
      (same_on g (goal.at.returns-clause-searched g c).After-go_on) c.go_on.new.self c.in_ok-kept.kept c.in_ok-kept.ensures.on.at in
      record {
        beginning = restored.beginning ∙ gone.beginning;
        entered = restored.assumptions ∙ gone.entered;
        free = restored.conflict ∙ gone.free;
      });
  moved =
      (let path = c.args.path.now in
      let kept = c.in_ok-kept.kept in
      let long = ap length c.steps.ensures in
      let all : length path.steps ≤ kept = omega (arith, long, c.if-kept-steps.false) in
      moved_to_end g.A.Algebra.algebra (standing c.args.scope.now) c.requires.can.is_desk.of_rules path c.args.aim c.args.self.now c.requires.can.gone (standing c.go_on.new.scope)
      (same_on g (goal.at.returns-clause-searched g c).After-go_on) c.go_on.new.self kept c.in_ok-kept.ensures.on.at
      c.go_back-shared.result c.args.steps.now c.go_on.new.steps c.go_back-shared.ensures.shared c.in_ok-kept.ensures.on.farther
      c.in_ok-kept.ensures.on.counted c.in_ok-found.found all);
}
