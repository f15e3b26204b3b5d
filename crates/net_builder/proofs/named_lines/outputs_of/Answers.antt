-- The outputs are lines, and each is listed once.
use Rattle.std.proofs.Common.{◌≡◌, ◌<◌, List, length, map, sym, ap, subst, subst₂, ◌∙◌, arith, IfOk}
use Rattle.std.specs.List.{All}
use Rattle.pd_base.specs.declared.ids.LineId.{LineId}
use Rattle.netlist.specs.Circuit.{distinct_lines, line_count}
use Rattle.netlist.specs.Description.{described, line_named, outputs}
use Rattle.net_builder.proofs.Assembly.{names_counted}
use Rattle.net_builder.proofs.Circuits.{outputs_have_lines}
use Rattle.net_builder.proofs.Deep.{few_lines}
use Rattle.net_builder.proofs.named_lines.outputs_of.Goals as goal
use Rattle.net_builder.specs.KnownNames.{known_names}

pub named_outputs-requires : goal.named_outputs-requires
named_outputs-requires c =
    let st = c.args.raw.now in
    omega (arith, names_counted st (known_names c.args.names.now) c.requires.names, few_lines st c.requires.named.limits)

pub overflow_cast-name_count : goal.overflow_cast-name_count
overflow_cast-name_count c =
    let st = c.args.raw.now in
    let counted : c.name_count.result ≡ length (known_names c.args.names.now) = c.name_count.ensures in
    omega (arith, counted, names_counted st (known_names c.args.names.now) c.requires.names, few_lines st c.requires.named.limits)

pub once-requires : goal.once-requires
once-requires c =
    let st = c.args.raw.now in
    let lines : c.name_count.result ≡ line_count (described st) =
    c.name_count.ensures ∙ names_counted st (known_names c.args.names.now) c.requires.names in
    let listed = c.as_slice.ensures.value ∙ c.in_ok-listed.ensures
    ∙ ap (λ names. map (line_named names) (outputs st)) c.requires.names in
    subst₂ (λ n some. All (λ (line : LineId). line.0 < n) some) (sym lines) (sym listed) (outputs_have_lines st c.requires.named)

pub returns : goal.returns
returns c =
    let st = c.args.raw.now in
    let listed = c.as_slice.ensures.value ∙ c.in_ok-listed.ensures
    ∙ ap (λ names. map (line_named names) (outputs st)) c.requires.names in
    subst (λ (some : List LineId). IfOk c.once.result (λ kept. kept.items ≡ distinct_lines some)) listed c.once.ensures
