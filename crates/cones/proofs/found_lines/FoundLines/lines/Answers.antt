use Rattle.std.proofs.Common.{◌<◌, ◌≤◌, length, sym, ap, subst, arith}
use Rattle.std.specs.List.{All}
use Rattle.std.specs.Prelude.{vec_capacity}
use Rattle.pd_base.specs.declared.ids.LineId.{LineId}
use Rattle.cones.specs.FoundLines.{FoundSet}
use Rattle.cones.proofs.Finding.{few_found, found_inside}
use Rattle.cones.proofs.found_lines.FoundLines.lines.Goals as goal

pub returns-clause-in_range : goal.returns-clause-in_range
returns-clause-in_range c = let i = c.self.inside in
    subst (λ (f : FoundSet). All (λ (line : LineId). line.0 < f.room) c.as_slice.result.now) c.self.view_is
    (subst (All (λ (line : LineId). line.0 < length i.marks.items)) (sym c.as_slice.ensures.value)
    (found_inside i.marks.items i.lines.items (vec_capacity i.lines) c.self.invariant))

pub returns-clause-few : goal.returns-clause-few
returns-clause-few c = let i = c.self.inside in
    subst (λ (f : FoundSet). length c.as_slice.result.now ≤ f.room) c.self.view_is
    (omega (arith, ap length c.as_slice.ensures.value, few_found i.marks.items i.lines.items (vec_capacity i.lines) c.self.invariant))
