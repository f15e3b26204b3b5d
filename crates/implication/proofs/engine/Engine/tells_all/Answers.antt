-- One line more is told.
use Rattle.std.proofs.Common.{List, refl, sym, subst, take_all, ◌∙◌}
use Rattle.std.specs.List.{All}
use Rattle.std.proofs.lemmas.Bool.{false≢true}
use Rattle.std.proofs.lemmas.List.Elements.{All-more}
use Rattle.pd_base.specs.declared.ids.LineId.{LineId}
use Rattle.implication.specs.Standing.{IsTold}
use Rattle.cones.proofs.Spreading.{no_line}
use Rattle.implication.proofs.engine.Engine.tells_all.Goals as goal

pub loop-line-preserved : goal.loop-line-preserved
loop-line-preserved g c =
    All-more (λ (line : LineId). IsTold c.args.self.now line.0) c.args.lines.now c.loop-line.line-index no_line c.loop-line-test.true
    c.loop-line.invariant (c.tells.ensures.0 c.if-not-tells.false)

pub returns-then-not-tells : goal.returns-then-not-tells
returns-then-not-tells g c = (
  λ never. absurd (false≢true never),
  λ all. absurd (false≢true (sym c.if-not-tells.true ∙ c.tells.ensures.1 (all c.loop-line.line-index no_line c.loop-line-test.true))),
)

pub returns : goal.returns
returns g c = (
  λ yes. subst (λ (lines : List LineId). All (λ line. IsTold c.args.self.now line.0) lines)
      (take_all c.loop-line.line-index c.args.lines.now c.loop-line-test.false) c.loop-line.invariant,
  λ all. refl,
)
