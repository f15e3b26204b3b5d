-- What is the least state of the source's label is so in all labels of the node.
use Rattle.std.proofs.Common.{◌≡◌, ◌<◌, sym, ap, ◌∙◌, subst, arith}
use Rattle.std.proofs.lemmas.Bool.{eqb-true}
use Rattle.netlist.specs.Circuit.{source_count}
use Rattle.state_sets.specs.declared.state.State.{State}
use Rattle.state_sets.specs.declared.state.StateSet.{StateSet}
use Rattle.implication.specs.Scopes.{standing}
use Rattle.pair_judging.specs.LeastStates.{IsTakenOf}
use Rattle.implication.specs.NodeScopes.{beginning_of}
use Rattle.pair_judging.specs.Targets.{seen_target}
use Rattle.justify.proofs.Resting.{label_is}
use Rattle.justify.proofs.trying.has_least.Goals as goal

pub returns : goal.returns
returns g c = λ yes.
    let now = standing c.args.scope.now in
    let count = c.sources-sources.ensures.count in let same_count = ap source_count c.net.ensures in
    let within : c.args.entry.source.0 < source_count now.net = omega (arith, c.if-entry-sources.false, count, same_count) in
    let same = eqb-true c.least.result.0 c.args.entry.state.0 (sym c.eq.ensures ∙ yes) in
    let is : c.args.entry.state ≡ c.least.result = ap (λ n. record { 0 = n }) (sym same) in
    let P : State → Type 0 = λ state. state.0 < g.A.Algebra.algebra.count in
    let told = c.tells.ensures.0 c.if-not-tells.false in
    record {
      is_source = within;
      marked = c.if-not-marks-entry.false;
      told = told;
      in_range = subst P (sym is) c.least.ensures.in_range;
      least = λ labels labelled.
          let T : StateSet → Type 0 = λ set. IsTakenOf g.A.Algebra.algebra.count set c.args.entry.state in
          let U : State → Type 0 = λ state. IsTakenOf g.A.Algebra.algebra.count c.label.result state in
          subst T (label_is g.A.Algebra.algebra now (beginning_of (seen_target c.args.target.now))
          c.requires.node.beginning c.args.entry.source.0 c.label.result told (c.label.ensures.told c.requires.node.free) labels labelled)
          (subst U (sym is) c.least.ensures);
    }
