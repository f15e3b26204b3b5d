-- The idle labels are those of all lines, so that the lines begun are in the circuit.
use Rattle.std.proofs.Common.{ℕ, ◌<◌, All, subst}
use Rattle.pd_base.specs.declared.ids.LineId.{LineId}
use Rattle.netlist.specs.Circuit.{line_count}
use Rattle.implication.specs.Standing.{Standing}
use Rattle.implication.proofs.Beginnings.{idle_on_all}
use Rattle.implication.proofs.engine.Engine.begun_lines.Goals as goal

pub returns : goal.returns
returns g c =
    let P : ℕ → Type 0 = λ count. All (λ (line : LineId). line.0 < count) c.begun_lines.result.now in
    let Q : Standing → Type 0 = λ s. P (line_count s.net) in
    subst Q c.self.view_is (subst P (idle_on_all g.A.Algebra.algebra c.self.invariant.0) c.begun_lines.ensures)
