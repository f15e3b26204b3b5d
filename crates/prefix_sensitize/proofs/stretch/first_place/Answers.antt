-- A place before is taken where its path has the first steps too; where it has not, no path before it has.
use Rattle.std.proofs.Common.{⊎_elim, ◌-◌, ◌<◌, ◌≤◌, get_or, true≢false, sym, subst, subst₂, ◌∙◌, arith}
use Rattle.std.proofs.lemmas.Bool.{cases_lt}
use Rattle.pd_base.specs.Route.{Route}
use Rattle.netlist.specs.Paths.{IsPrefixOf, prefix_of}
use Rattle.path_laws.proofs.Prefixes.{prefix_of-is_prefix}
use Rattle.prefix_sensitize.proofs.OrderPlaces.{some_path}
use Rattle.prefix_sensitize.proofs.PathOrder.{stands_once, stands_read}
use Rattle.prefix_sensitize.proofs.stretch.first_place.Goals as goal

pub loop-start-init : goal.loop-start-init
loop-start-init c = record {
  no_later = omega arith;
  has =
      λ row other route another here there.
      (let P : Route → Type 0 = λ r. IsPrefixOf (prefix_of c.args.steps route) r in
      subst P (stands_once c.args.paths.now c.args.order.now c.args.place row other route another here there).1
      (prefix_of-is_prefix c.args.steps route));
}

pub has_first_steps-requires : goal.has_first_steps-requires
has_first_steps-requires c =
    let order = c.args.order.now in
    c.requires.steps (get_or order c.args.place 0) c.index-paths-order.result
    (stands_read c.args.paths.now order c.requires.order.inside c.args.place c.index-paths-order.result c.requires.place
    c.index-paths-order.is)

pub loop-start-preserved : goal.loop-start-preserved
loop-start-preserved c =
    let routes = c.args.paths.now in
    let order = c.args.order.now in
    let place = c.args.place in
    let before = c.loop-start.start - 1 in
    let low = c.loop-start.invariant.no_later in
    let inside = c.requires.order.inside in
    let first = stands_read routes order inside place c.index-paths-order.result c.requires.place c.index-paths-order.is in
    let within = c.requires.place in
    let second =
    stands_read routes order inside before c.index-paths-order-in-loop-start.result (omega (arith, low, within))
    c.index-paths-order-in-loop-start.is in
    record {
      no_later = omega (arith, low);
      has =
          λ row other route another here there.
          (let P : Route → Route → Type 0 = λ r s. IsPrefixOf (prefix_of c.args.steps r) s in
          subst₂ P (stands_once routes order place (get_or order place 0) row c.index-paths-order.result route first here).1
          (stands_once routes order before (get_or order before 0) other c.index-paths-order-in-loop-start.result another second there).1
          (c.has_first_steps.ensures.0 c.if-has_first_steps.true));
    }

pub returns-else-has_first_steps : goal.returns-else-has_first_steps
returns-else-has_first_steps c row route here =
    let routes = c.args.paths.now in
    let order = c.args.order.now in
    let place = c.args.place in
    let start = c.loop-start.start in
    let before = start - 1 in
    let low = c.loop-start.invariant.no_later in
    let inside = c.requires.order.inside in
    let within = c.requires.place in
    let some = c.loop-start-test.true in
    let prefix = prefix_of c.args.steps route in
    let first = stands_read routes order inside place c.index-paths-order.result within c.index-paths-order.is in
    let same = (stands_once routes order place (get_or order place 0) row c.index-paths-order.result route first here).1 in
    let second =
    stands_read routes order inside before c.index-paths-order-in-loop-start.result (omega (arith, low, within))
    c.index-paths-order-in-loop-start.is in
    let last = some_path routes order c.requires.order start (omega (arith, low, within)) in
    let P : Route → Type 0 = λ r. IsPrefixOf (prefix_of c.args.steps r) c.index-paths-order-in-loop-start.result in
    record {
      no_later = low;
      has = λ other another there. c.loop-start.invariant.has row other route another here there;
      no_earlier =
          λ at other another there has.
          ⊎_elim
          (λ (less : at < start).
          let between : IsPrefixOf prefix c.index-paths-order-in-loop-start.result =
          c.requires.order.together at before start other (get_or order before 0) last.0 another c.index-paths-order-in-loop-start.result last.1
          prefix there second last.2 (omega (arith, less)) (omega arith) has
          (c.loop-start.invariant.has row last.0 route last.1 here last.2) in
          absurd (true≢false (sym (c.has_first_steps.ensures.1 (subst P (sym same) between)) ∙ c.if-has_first_steps.false)))
          (λ (behind : start ≤ at). behind) (cases_lt at start);
    }

pub returns-after-loop-start : goal.returns-after-loop-start
returns-after-loop-start c row route here =
    let none = c.loop-start-test.false in
    record {
      no_later = c.loop-start.invariant.no_later;
      has = λ other another there. c.loop-start.invariant.has row other route another here there;
      no_earlier = λ at other another there has. omega (arith, none);
    }
