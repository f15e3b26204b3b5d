-- A flip-flop is one of the last sources.
use Rattle.std.proofs.Common.{◌-◌, length, ap, arith}
use Rattle.std.proofs.lemmas.Bool.{leb-true, lt-ltb, ltb-true}
use Rattle.scan_order.proofs.FlopNames.{flop_is_late, late_is_flop}
use Rattle.scan_order.proofs.flops.is_flop.Goals as goal

pub returns-then-inputs-line-clause-flop : goal.returns-then-inputs-line-clause-flop
returns-then-inputs-line-clause-flop c =
    let long = ap length c.flops.ensures.flops in (
      (λ h. late_is_flop c.args.net.now c.sources-sources.ensures.circuit c.args.line (omega (arith, long))
          (omega (arith, ltb-true c.args.line.0 c.sources-sources.result h))),
      λ is_flop.
          let late = flop_is_late c.args.net.now c.sources-sources.ensures.circuit c.args.line is_flop in
          lt-ltb c.args.line.0 c.sources-sources.result (omega (arith, late.1)),
    )

pub returns-else-inputs-line-clause-flop : goal.returns-else-inputs-line-clause-flop
returns-else-inputs-line-clause-flop c =
    let long = ap length c.flops.ensures.flops in (
      (λ h. absurd (omega (arith, leb-true (c.sources-sources.result - length c.flops.result.now) c.args.line.0 h))),
      λ is_flop. let late = flop_is_late c.args.net.now c.sources-sources.ensures.circuit c.args.line is_flop in absurd (omega (arith, late.0, long)),
    )
