-- What the one pass finds, read with no limits.
use Rattle.std.proofs.Common.{None, subst}
use Rattle.netlist.specs.Gates.{op_of}
use Rattle.hulls.specs.declared.limits.Limits.{Limits}
use Rattle.hulls.specs.Passes.{PassFolds, PassSupports}
use Rattle.hulls.specs.Sets.{Means}
use Rattle.hulls.specs.GateViews.{pin_sets}
use Rattle.hulls.proofs.Passing.{free_pin, free_gate}
use Rattle.hulls.proofs.few.keep_two_freely.Goals as goal

pub returns : goal.returns
returns g c =
    let a = g.A.Algebra.algebra in let laws = g.met.A.Algebra.laws in let view = c.args.gate.now in
    let sets = pin_sets view in let target = c.uninverted-target.result in let pass = c.pass_two-pass.result in
    record {
      first = free_pin a laws view.kind sets view.own target c.uninverted-target.ensures.means None (λ choice each. tt) pass.first 0
          (subst (λ (limits : Limits). Means a.count pass.first (PassSupports a (op_of view.kind) limits sets target 0))
          c.no_limits.ensures.limits c.pass_two-pass.ensures.first);
      second = free_pin a laws view.kind sets view.own target c.uninverted-target.ensures.means None (λ choice each. tt) pass.second 1
          (subst (λ (limits : Limits). Means a.count pass.second (PassSupports a (op_of view.kind) limits sets target 1))
          c.no_limits.ensures.limits c.pass_two-pass.ensures.second);
      given = free_gate a laws view.kind sets view.own target c.uninverted-target.ensures.means None (λ choice each. tt)
          pass.joined c.uninverted.result
          (subst (λ (limits : Limits). Means a.count pass.joined (PassFolds a (op_of view.kind) limits sets target))
          c.no_limits.ensures.limits c.pass_two-pass.ensures.joined)
          c.uninverted.ensures.means;
    }
