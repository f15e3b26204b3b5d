-- A state launches the transition where it is one of a source, moves and has the last value.
use Rattle.std.proofs.Common.{sym, ◌∙◌, subst}
use Rattle.state_sets.specs.declared.state.StateSet.{StateSet}
use Rattle.state_sets.specs.States.{Has}
use Rattle.hulls.proofs.Sets.{has_both, both_have}
use Rattle.hulls.proofs.starting.launching_states.Goals as goal

pub returns-clause-means : goal.returns-clause-means
returns-clause-means g c state =
    let count = g.A.Algebra.algebra.count in
    let moving = c.half_states-moving.result in
    let ending = c.half_states.result in
    let launching = c.intersect-launching.result in
    let sources = c.source_states.result in (
      λ has. let all = both_have count sources launching state c.intersect.result c.intersect.ensures has in
          let both = both_have count moving ending state launching c.intersect-launching.ensures all.1 in
          let moves = (c.half_states-moving.ensures.means state).0 both.0 in
          let ends = (c.half_states.ensures.means state).0 both.1 in (
            subst (λ (s : StateSet). Has count s state) c.source_states.ensures all.0,
            record { moves = moves.1; ends = ends.1 ∙ c.final_bit.ensures },
          ),
      λ launches. has_both count sources launching state c.intersect.result c.intersect.ensures
          (subst (λ (s : StateSet). Has count s state) (sym c.source_states.ensures) launches.0)
          (has_both count moving ending state launching c.intersect-launching.ensures
          ((c.half_states-moving.ensures.means state).1 (launches.0.in_range, launches.1.moves))
          ((c.half_states.ensures.means state).1 (launches.0.in_range, launches.1.ends ∙ sym c.final_bit.ensures))),
    )
