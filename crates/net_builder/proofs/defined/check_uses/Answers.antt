-- Where all pins read lines and the other uses are among the names, each use is defined.
use Rattle.std.proofs.Common.{◌≡◌, ◌<◌, ℕ, List, refl, arith, length, subst}
use Rattle.std.specs.List.{All, Contains}
use Rattle.std.proofs.lemmas.List.Elements.{All-weaker}
use Rattle.pd_base.specs.declared.ids.LineId.{LineId}
use Rattle.netlist.specs.Description.{defined_names, gates, used_names}
use Rattle.net_builder.proofs.Assembly.{names_counted}
use Rattle.net_builder.proofs.ByLine.{is_defined}
use Rattle.net_builder.proofs.Deep.{few_lines}
use Rattle.net_builder.proofs.KnownUses.{all_used, arguments_have_lines}
use Rattle.net_builder.proofs.defined.check_uses.Goals as goal
use Rattle.net_builder.specs.KnownNames.{known_names}

pub overflow_cast-name_count : goal.overflow_cast-name_count
overflow_cast-name_count c =
    let st = c.args.raw.now in
    omega (arith, c.name_count.ensures, names_counted st (known_names c.args.names.now) c.requires.names, few_lines st c.requires.limits)

pub returns-then-others_defined-clause-defined : goal.returns-then-others_defined-clause-defined
returns-then-others_defined-clause-defined c =
    let st = c.args.raw.now in
    let names = known_names c.args.names.now in
    let many : c.name_count.result ≡ length names = c.name_count.ensures in
    let below = c.if-are_lines.ensures refl in
    let read = subst (λ (n : ℕ). All (λ (gate : List LineId). All (λ (line : LineId). line.0 < n) gate) c.args.pins.now) many below in
    let arguments = arguments_have_lines names (gates st)
    (subst (All (λ (gate : List LineId). All (λ (line : LineId). line.0 < length names) gate)) c.requires.pins read) in
    All-weaker (Contains names) (Contains (defined_names st))
    (λ name has. is_defined st name (subst (λ (all : List (List ℕ)). Contains all name) c.requires.names has)) (used_names st)
    (all_used (Contains names) st arguments (c.if-others_defined.ensures refl))
