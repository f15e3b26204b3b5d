-- A source has one link at most.
use Rattle.std.proofs.Common.{ℕ, sym, ap, ◌∙◌}
use Rattle.pair_judging.specs.ConeStates.{state_in}
use Rattle.pair_judging.proofs.judging.failing_line.Goals as goal

pub returns-then-link-clause-passes : goal.returns-then-link-clause-passes
returns-then-link-clause-passes g c = λ line link.
    let a = g.A.Algebra.algebra in
    let states = c.args.states.now in
    ap (λ (l : ℕ). a.link (state_in states c.args.source.0) (state_in states l)) (c.in-Some.ensures.alone line link)
    ∙ sym c.link.ensures ∙ c.if-link.true

pub returns-in_default-clause-passes : goal.returns-in_default-clause-passes
returns-in_default-clause-passes g c = λ line link. absurd (c.in_default.ensures.free line link)
