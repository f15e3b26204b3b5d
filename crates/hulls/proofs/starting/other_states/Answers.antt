-- Under rules two the states of a source that are steady, and else all of them.
use Rattle.std.proofs.Common.{◌↔◌, sym, subst}
use Rattle.pd_base.specs.declared.rules.Rules.{Rules}
use Rattle.state_sets.specs.declared.state.StateSet.{StateSet}
use Rattle.state_sets.specs.States.{Has}
use Rattle.state_sets.specs.Starts.{IsOtherStart}
use Rattle.hulls.proofs.Sets.{has_both, both_have}
use Rattle.hulls.proofs.starting.other_states.Goals as goal

pub returns-in-Two-clause-means : goal.returns-in-Two-clause-means
returns-in-Two-clause-means g c state =
    let a = g.A.Algebra.algebra in
    let sources = c.source_states.result in
    let steady = c.half_states.result in
    let P : Rules → Type 0 = λ rules. Has a.count c.intersect.result state ↔ (Has a.count a.sources state × IsOtherStart a rules state) in
    subst P (sym c.in-Two.is) (
      λ has. let both = both_have a.count sources steady state c.intersect.result c.intersect.ensures has in
          (subst (λ (s : StateSet). Has a.count s state) c.source_states.ensures both.0, ((c.half_states.ensures.means state).0 both.1).1),
      λ both. has_both a.count sources steady state c.intersect.result c.intersect.ensures
          (subst (λ (s : StateSet). Has a.count s state) (sym c.source_states.ensures) both.0)
          ((c.half_states.ensures.means state).1 (both.0.in_range, both.1)),
    )
