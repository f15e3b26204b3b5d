-- Neither product is too great for its type.
use Rattle.std.proofs.Common.{◌≤◌, length, arith}
use Rattle.pd_base.specs.declared.limits.TheConstants.{MOST_PATHS}
use Rattle.netlist.specs.declared.limits.TheConstants.{MOST_LEVELS}
use Rattle.commands.proofs.FewLines.{few_lines}
use Rattle.commands.proofs.Products.{path_text_fits, test_text_fits}
use Rattle.commands.proofs.inputs.sizes.sizes_of.Goals as goal

pub overflow_mul-result-2 : goal.overflow_mul-result-2
overflow_mul-result-2 c =
    let few : c.from-paths.result ≤ MOST_PATHS = omega (arith, c.from-paths.ensures, c.requires) in
    let levels : c.from-names.result ≤ MOST_LEVELS =
    omega (arith, c.from-names.ensures, c.levels.ensures, c.sources.ensures.circuit.few_levels) in
    let small = path_text_fits c.from-paths.result c.from-names.result c.from-name_bytes.result few levels
    (omega (arith, c.from-name_bytes.ensures, c.longest_name.type_inv)) in
    omega (arith, small)

pub overflow_mul-result-3 : goal.overflow_mul-result-3
overflow_mul-result-3 c =
    let few : c.from-paths.result ≤ MOST_PATHS = omega (arith, c.from-paths.ensures, c.requires) in
    let lines = c.sources.ensures.circuit.few_lines in
    let few_observed = few_lines c.observed.result.now c.args.net.now c.observed.ensures.once c.observed.ensures.in_circuit in
    let small = test_text_fits c.from-paths.result c.from.result (length c.observed.result.now) few
    (omega (arith, c.from.ensures, c.sources.ensures.count, lines)) (omega (arith, few_observed, lines)) in
    omega (arith, small)
