use Rattle.std.proofs.Common.{ℕ, ◌↔◌, subst}
use Rattle.std.specs.List.{Contains}
use Rattle.cones.specs.FoundLines.{HasMark}
use Rattle.cones.specs.KeptCones.{KeptCone}
use Rattle.cones.proofs.cone.Cone.marks.Goals as goal

pub returns-clause-exactly : goal.returns-clause-exactly
returns-clause-exactly c =
    subst (λ (cone : KeptCone). (line : ℕ) → HasMark c.marks.result.now line ↔ Contains cone.found.lines (record { 0 = line }))
    c.self.view_is c.marks.ensures.exactly
