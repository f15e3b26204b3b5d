-- A set cut to all states has what it had, and its inversions are in the set exactly where those of a state are.
use Rattle.std.proofs.Common.{◌<◌, Bool, sym, ◌∙◌, subst}
use Rattle.state_sets.specs.States.{Has}
use Rattle.state_sets.specs.Narrowing.{inverted_if}
use Rattle.hulls.specs.Sets.{Means}
use Rattle.hulls.proofs.Sets.{cut_to_all, cut_within}
use Rattle.hulls.proofs.inverting.uninverted.Goals as goal

pub returns-then-inverts-clause-within : goal.returns-then-inverts-clause-within
returns-then-inverts-clause-within g c =
    cut_within g.A.Algebra.algebra.count c.invert_set.result c.every_state-all.result c.intersect.result c.intersect.ensures
    c.every_state-all.ensures.within

pub returns-then-inverts-clause-means : goal.returns-then-inverts-clause-means
returns-then-inverts-clause-means g c =
    let a = g.A.Algebra.algebra in let result = c.intersect.result in let all = c.every_state-all in
    let same = cut_to_all a.count c.args.set c.intersect-states.result all.result c.intersect-states.ensures all.ensures.all in
    let inverted = cut_to_all a.count c.invert_set.result result all.result c.intersect.ensures all.ensures.all in
    subst (λ (b : Bool). Means a.count result (λ s. (s.0 < a.count) × Has a.count c.args.set (inverted_if a b s)))
    (sym c.if-inverts.true ∙ c.inverts.ensures)
    (λ state. (
      (λ has. let both = (c.invert_set.ensures.inverts state).0 ((inverted state).0 has) in
          (both.0, (same (a.invert state)).0 both.1)),
      λ both. (inverted state).1 ((c.invert_set.ensures.inverts state).1 (both.0, (same (a.invert state)).1 both.1)),
    ))

pub returns-else-inverts-clause-means : goal.returns-else-inverts-clause-means
returns-else-inverts-clause-means g c =
    let a = g.A.Algebra.algebra in let result = c.intersect-states.result in
    let same = cut_to_all a.count c.args.set result c.every_state-all.result c.intersect-states.ensures c.every_state-all.ensures.all in
    subst (λ (b : Bool). Means a.count result (λ s. (s.0 < a.count) × Has a.count c.args.set (inverted_if a b s)))
    (sym c.if-inverts.false ∙ c.inverts.ensures)
    (λ state. ((λ has. (has.in_range, (same state).0 has)), λ both. (same state).1 both.1))
