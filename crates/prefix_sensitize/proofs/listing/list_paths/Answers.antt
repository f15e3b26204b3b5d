-- Each turn lists one path more, by the outcomes of its row.
use Rattle.std.proofs.Common.{◌≡◌, ℕ, ◌+◌, ◌-◌, ◌<◌, ◌∷◌, ◌++◌, List, [], length, refl, sym, ap, subst, ◌∙◌, append_assoc, arith}
use Rattle.std.specs.Vec.Iter.{into_iter_items}
use Rattle.std.proofs.lemmas.Grind.{common_steps}
use Rattle.std.proofs.lemmas.List.{length_push, nil_from_length}
use Rattle.std.proofs.lemmas.Option.{slice_get_within}
use Rattle.pd_base.specs.Route.{Route}
use Rattle.pd_base.specs.declared.fault.Direction.{Direction}
use Rattle.pd_base.specs.declared.fault.Direction.TheVariants.{Rise, Fall}
use Rattle.delay_annotation.specs.Annotation.{delays_of}
use Rattle.good_runs.specs.Faults.{IsNumber}
use Rattle.prefix_sensitize.specs.declared.all_outcomes.BothOutcomes.{BothOutcomes}
use Rattle.prefix_sensitize.specs.Answers.{written_by}
use Rattle.prefix_sensitize.specs.Searches.{AreBothOutcomesFrom}
use Rattle.prefix_sensitize.proofs.ListedPaths.{all_listed, is_listed, is_next, none_listed, one_more}
use Rattle.prefix_sensitize.proofs.Rows.{nonrobust_within, others_left, robust_within, taken_are}
use Rattle.prefix_sensitize.proofs.listing.list_paths.Given.{Over}
use Rattle.prefix_sensitize.proofs.listing.list_paths.Goals.{After-len-row}
use Rattle.prefix_sensitize.proofs.listing.list_paths.Goals as goal

pub loop-path-init : goal.loop-path-init
loop-path-init g c =
    let none = c.in_ok-listed.ensures.items in
    let net = c.args.net.now in
    let Rises : ℕ → Type 0 = λ from. AreBothOutcomesFrom net g.searches.rules g.searches.routes g.searches.proofs Rise from c.args.rises.now in
    let Falls : ℕ → Type 0 = λ from. AreBothOutcomesFrom net g.searches.rules g.searches.routes g.searches.proofs Fall from c.args.falls.now in
    record {
      listed = none_listed net (delays_of net c.args.delays.now) g.searches c.in_ok-listed.listed.items (written_by c.args.writer.now) none
          c.requires.1.1.1.1.1.1;
      writer = c.requires.1.1.1.1.1.0;
      rises = subst Rises (sym (ap length none)) c.requires.1.1.1.0;
      falls = subst Falls (sym (ap length none)) c.requires.1.1.1.1.0;
      rest = grind (arith, common_steps);
    }

-- the row of the path that a turn lists
module _ (g : Over) (c : After-len-row g) where
  row_is : c.len-row.result ≡ length c.loop-path.listed.items
  row_is = omega (arith, c.len-row.ensures)

  next_is : c.len-row.result + 1 ≡ length c.loop-path.listed.items + 1
  next_is = omega (arith, row_is)

  -- the path has the number of the row
  numbered : IsNumber g.searches.routes (c.len-row.result + 1) c.in-Some.path
  numbered =
      is_listed c.args.net.now (delays_of c.args.net.now c.args.delays.now) g.searches c.requires.1.1.0 c.loop-path.yielded _
      c.loop-path.invariant.rest c.loop-path.listed.items (written_by c.loop-path.writer) c.loop-path.invariant.listed c.in-Some.path _
      c.in-Some.ensures.steps.0 (c.len-row.result + 1) next_is

  within : c.len-row.result < length g.searches.routes
  within =
      let inside = slice_get_within g.searches.routes (c.len-row.result + 1 - 1) c.in-Some.path numbered.found in
      omega (arith, inside)

  -- the outcomes from the row on are left
  abbrev Left : Direction → BothOutcomes → ℕ → Type 0
  Left direction outcomes from =
      AreBothOutcomesFrom c.args.net.now g.searches.rules g.searches.routes g.searches.proofs direction from outcomes

  rises_left : Left Rise c.loop-path.rises c.len-row.result
  rises_left = subst (Left Rise c.loop-path.rises) (sym row_is) c.loop-path.invariant.rises

  falls_left : Left Fall c.loop-path.falls c.len-row.result
  falls_left = subst (Left Fall c.loop-path.falls) (sym row_is) c.loop-path.invariant.falls

pub take-rise-requires-clause-robust : goal.take-rise-requires-clause-robust
take-rise-requires-clause-robust g c =
    let turn = (goal.at.take-rise-requires-clause-robust g c).After-len-row in
    robust_within c.args.net.now g.searches.rules g.searches.routes g.searches.proofs Rise c.len-row.result c.loop-path.rises (rises_left g turn)
    (within g turn)

pub take-rise-requires-clause-nonrobust : goal.take-rise-requires-clause-nonrobust
take-rise-requires-clause-nonrobust g c =
    let turn = (goal.at.take-rise-requires-clause-nonrobust g c).After-len-row in
    nonrobust_within c.args.net.now g.searches.rules g.searches.routes g.searches.proofs Rise c.len-row.result c.loop-path.rises (rises_left g turn)
    (within g turn)

pub take-fall-requires-clause-robust : goal.take-fall-requires-clause-robust
take-fall-requires-clause-robust g c =
    let turn = (goal.at.take-fall-requires-clause-robust g c).After-len-row in
    robust_within c.args.net.now g.searches.rules g.searches.routes g.searches.proofs Fall c.len-row.result c.loop-path.falls (falls_left g turn)
    (within g turn)

pub take-fall-requires-clause-nonrobust : goal.take-fall-requires-clause-nonrobust
take-fall-requires-clause-nonrobust g c =
    let turn = (goal.at.take-fall-requires-clause-nonrobust g c).After-len-row in
    nonrobust_within c.args.net.now g.searches.rules g.searches.routes g.searches.proofs Fall c.len-row.result c.loop-path.falls (falls_left g turn)
    (within g turn)

pub list_path-requires : goal.list_path-requires
list_path-requires g c =
    let at = (goal.at.list_path-requires g c).After-len-row in
    let net = c.args.net.now in
    let number = c.len-row.result + 1 in (
      c.requires.0,
      (
        is_next net (delays_of net c.args.delays.now) g.searches c.requires.1.1.0 c.loop-path.yielded _ c.loop-path.invariant.rest
            c.loop-path.listed.items (written_by c.loop-path.writer) c.loop-path.invariant.listed c.in-Some.path _
            c.in-Some.ensures.steps.0 number (next_is g at) c.loop-path.writer c.loop-path.invariant.writer refl,
        (
          taken_are net g.searches.rules g.searches.routes g.searches.proofs Rise c.len-row.result c.loop-path.rises (rises_left g at) number
              c.in-Some.path (numbered g at) refl c.take-rise.result c.take-rise.ensures.taken,
          taken_are net g.searches.rules g.searches.routes g.searches.proofs Fall c.len-row.result c.loop-path.falls (falls_left g at) number
              c.in-Some.path (numbered g at) refl c.take-fall.result c.take-fall.ensures.taken,
        ),
      ),
    )

pub loop-path-preserved : goal.loop-path-preserved
loop-path-preserved g c =
    let net = c.args.net.now in
    let turn = c.loop-path.invariant in
    let at = (goal.at.loop-path-preserved g c).After-len-row in
    let row = row_is g at in
    let more : length c.push.new.self.items ≡ c.len-row.result + 1 =
    ap length c.in_ok-push.ensures.items ∙ length_push c.loop-path.listed.items c.in_ok-entry.entry ∙ ap (λ (n : ℕ). n + 1) (sym row) in
    record {
      listed = one_more net (delays_of net c.args.delays.now) g.searches c.requires.1.1.0 c.loop-path.yielded _ turn.rest
          c.loop-path.listed.items (written_by c.loop-path.writer) turn.listed c.in-Some.path _ c.in-Some.ensures.steps.0
          (c.len-row.result + 1) (omega (arith, row)) (written_by c.list_path.new.writer) c.in_ok-entry.entry c.push.new.self.items
          c.in_ok-push.ensures.items c.in_ok-entry.ensures.listed;
      writer = c.in_ok-entry.ensures.writer;
      rises = others_left net g.searches.rules g.searches.routes g.searches.proofs Rise c.len-row.result c.loop-path.rises
          (rises_left g at) c.take-rise.new.self c.take-rise.ensures.robust c.take-rise.ensures.nonrobust
          (length c.push.new.self.items) more;
      falls = others_left net g.searches.rules g.searches.routes g.searches.proofs Fall c.len-row.result c.loop-path.falls
          (falls_left g at) c.take-fall.new.self c.take-fall.ensures.robust c.take-fall.ensures.nonrobust
          (length c.push.new.self.items) more;
      rest = append_assoc c.loop-path.yielded (c.in-Some.path ∷ []) (into_iter_items c.next.new.self)
          ∙ ap (λ (rest : List Route). c.loop-path.yielded ++ rest) (sym c.in-Some.ensures.steps.0) ∙ turn.rest;
    }

pub returns-clause-listed : goal.returns-clause-listed
returns-clause-listed g c =
    let turn = c.loop-path.invariant in
    all_listed c.args.net.now (delays_of c.args.net.now c.args.delays.now) g.searches c.requires.1.1.0 c.loop-path.yielded
    (into_iter_items c.loop-path.path-iterator) turn.rest c.loop-path.listed.items (written_by c.loop-path.writer) turn.listed
    (nil_from_length (into_iter_items c.loop-path.path-iterator)
    (omega (arith, c.in-None.ensures.steps.0, c.loop-path.path-iterator.rest.ok.0)))
