-- The outermost scope ends: the labels are the idle ones again.
use Rattle.std.proofs.Common.{ap, ◌∙◌}
use Rattle.implication.specs.Standing.{Standing}
use Rattle.implication.proofs.Beginnings.{stands_here, kept_ended}
use Rattle.implication.proofs.engine.Engine.end.Goals as goal

pub end-requires : goal.end-requires
end-requires g c =
    record { stands = stands_here g.A.Algebra.algebra c.self.invariant.0 (ap (λ (s : Standing). s.assumptions) (c.self.view_is ∙ c.back_to.ensures)) }

pub invariant_of-self : goal.invariant_of-self
invariant_of-self g c = (
  kept_ended g.A.Algebra.algebra c.self.invariant.0
      (ap (λ (s : Standing). s.assumptions) (c.self.view_is ∙ c.back_to.ensures))
      c.end.new.board c.end.new.self c.end.ensures.idle c.end.ensures.board.inside c.end.ensures.board.links c.end.ensures.board.lines c.end.ensures.board.at_rest c.self.inside.closings,
  c.self.invariant.1,
)
