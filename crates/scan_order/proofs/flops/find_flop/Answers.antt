-- The line that bears the name is the only one that does.
use Rattle.std.proofs.Common.{◌∙◌, Contains, Some, refl, sym, ap, subst, true≢false}
use Rattle.netlist.specs.Circuit.{line_names}
use Rattle.scan_order.specs.Chains.{IsFlop}
use Rattle.scan_order.proofs.FlopNames.{flop_in_circuit, is_name, line_of_name}
use Rattle.scan_order.proofs.flops.find_flop.Goals as goal

pub returns-in_err-line-clause-reads : goal.returns-in_err-line-clause-reads
returns-in_err-line-clause-reads c =
    rw c.from_residual.ensures (record {
      found = tt;
      only = λ flop is_flop same. absurd (c.in_err-line.ensures (subst (Contains (line_names c.args.net.now)) (sym same) (is_name c.args.net.now c.requires flop is_flop)));
    })

pub returns-then-is_flop-clause-reads : goal.returns-then-is_flop-clause-reads
returns-then-is_flop-clause-reads c =
    let found = c.in_ok-line.ensures in
    record {
      found = (c.if-is_flop.ensures.flop.0 refl, sym found.1);
      only = λ flop is_flop same.
          ap Some (line_of_name c.args.net.now c.requires c.in_ok-line.line flop found.0 (flop_in_circuit c.args.net.now c.requires flop is_flop) (found.1 ∙ same));
    }

pub returns-else-is_flop-clause-reads : goal.returns-else-is_flop-clause-reads
returns-else-is_flop-clause-reads c =
    let found = c.in_ok-line.ensures in
    record {
      found = tt;
      only = λ flop is_flop same.
          let one = line_of_name c.args.net.now c.requires flop c.in_ok-line.line (flop_in_circuit c.args.net.now c.requires flop is_flop) found.0 (sym same ∙ sym found.1) in
          absurd (true≢false (sym (c.if-is_flop.ensures.flop.1 (subst (IsFlop c.args.net.now) one is_flop))));
    }
