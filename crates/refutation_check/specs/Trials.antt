-- The room for the trials of nodes, spoken of inside this crate alone (this project's own).
use Rattle.std.specs.Prelude.{◌≡◌, ℕ, ◌<◌, Bool, List, All, Contains, IsTrue}
use Rattle.pd_base.specs.Links.{LinkList, links_of}
use Rattle.pd_base.specs.Pair.{Vectors}
use Rattle.pd_base.specs.Target.{Target}
use Rattle.pd_base.specs.declared.ids.LineId.{LineId}
use Rattle.pd_base.specs.declared.rules.Rules.{Rules}
use Rattle.netlist.specs.Circuit.{Circuit, source_count, line_count}
use Rattle.netlist.specs.Conditions.{Meets}
use Rattle.netlist.specs.LinkedPairs.{IsSupported}
use Rattle.netlist.specs.Paths.{end_of}
use Rattle.state_sets.specs.declared.state.State.{State}
use Rattle.state_sets.specs.declared.state.StateSet.{StateSet}
use Rattle.state_sets.specs.Labellings.{label_at}
use Rattle.state_sets.specs.StateAlgebra.{StateAlgebra}
use Rattle.state_laws.specs.declared.split.Half.{Half}
use Rattle.state_laws.specs.FailedTrials.{FailsTrial}
use Rattle.trees.specs.Algebras.{algebra_of}
use Rattle.trees.specs.Spent.{IsInSupport}
use Rattle.implication.specs.Standing.{Standing}
use Rattle.pair_judging.specs.ConeStates.{state_in, HasSourceStates, HasLinkedStates}
use Rattle.cones.specs.KeptCones.{IsConeFor, IsConeAt}
use Rattle.pair_judging.specs.LeastStates.{IsTakenOf}
use Rattle.refutation_check.specs.declared.trial.TrialRoom.{TrialRoom}
use Rattle.refutation_check.specs.Blames.{IsBlamed}
use Rattle.refutation_check.specs.TrialStates.{AreTrialStates}
use Rattle.refutation_check.specs.Walks.{IsScopeAt}

-- the room is made for this circuit and these rules, with the kind of states that the rules choose
pub record IsTrialRoomFor (a : StateAlgebra) (c : Circuit) (rules : Rules) (room : TrialRoom) : Type 0 where
  pub chosen : a ≡ algebra_of rules
  pub cone : IsConeFor c room.cone
  pub linked : room.cone.links ≡ links_of rules
  pub kept : AreTrialStates a c room.kept
  pub found : room.blamed.room ≡ line_count c

-- under each pair that has these states at the sources of the support, the states along its links may be linked, and the pair is a test
abbrev pub EachIsTest : StateAlgebra → Circuit → LinkList → Target → List State → Type 0
EachIsTest a c links target states = (pair : Vectors) → HasSourceStates a c links (end_of c target.path) states pair
    → HasLinkedStates a c links (end_of c target.path) pair × Meets c target pair

-- each such pair fails, whatever the labels are
abbrev pub EachFails : StateAlgebra → Circuit → LinkList → Target → List State → Type 0
EachFails a c links target states = (labels : List StateSet) (pair : Vectors)
    → HasSourceStates a c links (end_of c target.path) states pair → FailsTrial a c links target labels pair

-- and its cone is that of the end of the target's path; where it says that the last pair failed, these lines are to blame in the states
-- that it has
pub record IsTrialRoomAt (a : StateAlgebra) (c : Circuit) (rules : Rules) (target : Target) (room : TrialRoom) : Type 0 where
  pub made : IsTrialRoomFor a c rules room
  pub cone : IsConeAt c (end_of c target.path) room.cone
  pub failed : IsTrue room.failed → IsBlamed a c (links_of rules) target room.kept.states.items room.blamed.lines

-- each source in the support of the end is in the state that is taken of its label
abbrev pub AreLeastOf : ℕ → Circuit → LinkList → ℕ → List StateSet → List State → Type 0
AreLeastOf count c links end labels states = (source : ℕ) → source < source_count c → IsSupported c links end source
    → IsTakenOf count (label_at labels source) (state_in states source)

-- each source among these lines is
abbrev pub AreLeastAmong : ℕ → Circuit → List LineId → List StateSet → List State → Type 0
AreLeastAmong count c lines labels states = (source : ℕ) → source < source_count c → Contains lines (record { 0 = source })
    → IsTakenOf count (label_at labels source) (state_in states source)

-- true shows the fact; and where that is told which it takes, false shows that it does not hold
abbrev pub Shows : Type 0 → Bool → Type 0 → Type 0
Shows told answer fact = (IsTrue answer → fact) × (told → fact → IsTrue answer)

-- the scope is at the node of a tree for this target below these halves, which are of sources of the support
pub record IsScopeInSupport (a : StateAlgebra) (target : Target) (halves : List Half) (standing : Standing) : Type 0 where
  pub at : IsScopeAt a target halves standing
  pub in_support : All (λ half. IsInSupport standing.net standing.rules target.path half.split.line.0) halves
