-- The answer is that of the comparison of lengths, sources and steps.
use Rattle.std.proofs.Common.{ap₂, ◌∙◌}
use Rattle.std.specs.Ordering.{nat_cmp, ordering_then}
use Rattle.std.specs.Cmp.Lexicographic.{slice_cmp}
use Rattle.pd_base.specs.declared.ids.LineId.{LineId}
use Rattle.delay_annotation.specs.Annotation.{delays_of}
use Rattle.path_model.proofs.PathOrder.{pin_cmp, route_compared}
use Rattle.path_model.proofs.measured.compare.Goals as goal

pub returns : goal.returns
returns c =
    let lengths = c.cmp.ensures ∙ ap₂ nat_cmp c.length.ensures c.length-2.ensures in
    let sources = c.cmp-2.ensures ∙ ap₂ (λ (a b : LineId). nat_cmp a.0 b.0) c.source.ensures c.source-2.ensures in
    let steps = c.cmp-3.ensures ∙ ap₂ (slice_cmp pin_cmp) c.steps.ensures c.steps-2.ensures in
    let compared =
    route_compared (delays_of c.args.net.now c.args.delays.now) c.args.p.now c.args.q.now c.then-2.result
    (c.then-2.ensures ∙ ap₂ ordering_then (c.then.ensures ∙ ap₂ ordering_then lengths sources) steps) in
    record { before = compared.before; same = compared.same; behind = compared.behind }
