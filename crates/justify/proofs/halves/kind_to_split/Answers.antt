-- A kind that is found leaves each half a state; where neither does, the set has less than two states.
use Rattle.std.proofs.Common.{◌∙◌, sym}
use Rattle.std.proofs.lemmas.Bool.{false≢true}
use Rattle.justify.proofs.HalfStates.{no_split_is_single}
use Rattle.justify.proofs.halves.kind_to_split.Goals as goal

pub returns-else-by_steadiness-clause-none : goal.returns-else-by_steadiness-clause-none
returns-else-by_steadiness-clause-none g c =
    no_split_is_single g.A.Algebra.algebra c.args.set g.met.A.Algebra.laws c.requires.sources
    (λ first second. false≢true (sym c.if-by_value.false ∙ c.has_both_halves-by_value.ensures.1 (first, second)))
    (λ first second. false≢true (sym c.if-by_steadiness.false ∙ c.has_both_halves-by_steadiness.ensures.1 (first, second)))

pub returns-then-by_value-clause-some : goal.returns-then-by_value-clause-some
returns-then-by_value-clause-some g c = c.has_both_halves-by_value.ensures.0 c.if-by_value.true

pub returns-then-by_steadiness-clause-some : goal.returns-then-by_steadiness-clause-some
returns-then-by_steadiness-clause-some g c = c.has_both_halves-by_steadiness.ensures.0 c.if-by_steadiness.true
