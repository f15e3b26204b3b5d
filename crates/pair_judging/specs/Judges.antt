-- What judges pairs of vectors within cones (this project's own).
use Rattle.std.specs.Prelude.{◌≡◌, ℕ, List, []}
use Rattle.netlist.specs.Circuit.{Circuit}
use Rattle.state_sets.specs.declared.state.State.{State}
use Rattle.pair_judging.specs.ConeStates.{AreLineStates}
use Rattle.pair_judging.specs.LineValues.{KeptValues, AreLineValues}
use Rattle.cones.specs.KeptCones.{KeptCone, IsConeFor}

-- the cone that is kept, a state for each line, and a value for each line
pub record KeptJudge : Type 0 where
  pub cone : KeptCone
  pub states : List State
  pub values : KeptValues

-- it judges pairs for this circuit
pub record IsJudgeOf (count : ℕ) (c : Circuit) (judge : KeptJudge) : Type 0 where
  pub cone : IsConeFor c judge.cone
  pub no_links : judge.cone.links ≡ []
  pub states : AreLineStates count c judge.states
  pub values : AreLineValues c judge.values
