-- What contracts see of a judge of trees: for what it is made (this project's own).
use Rattle.std.specs.Prelude.{◌≡◌, Option, None, IfSome}
use Rattle.pd_base.specs.declared.rules.Rules.{Rules}
use Rattle.netlist.specs.Circuit.{Circuit}
use Rattle.state_sets.specs.StateAlgebra.{StateAlgebra}
use Rattle.implication.specs.Standing.{Standing, ToldEnds, FollowsLinks}
use Rattle.refutation_check.specs.declared.trial.TrialRoom.{TrialRoom}
use Rattle.refutation_check.specs.Trials.{IsTrialRoomFor}

-- a circuit, the rules of its trees, and the lines in whose support the paths end that it can judge
pub record MadeFor : Type 0 where
  pub net : Circuit
  pub rules : Rules
  pub ends : Option ToldEnds

-- no scope is open on an engine, which is for the circuit and the rules of another one
pub record IsReadyBeside (engine near : Standing) : Type 0 where
  pub idle : near.beginning ≡ None
  pub net : near.net ≡ engine.net
  pub rules : near.rules ≡ engine.rules

-- No scope is open on its engine, which tells the whole support of its ends, nor on that of near gates, if there is one; and there is room
-- for trials, with states of the kind that the rules choose.
pub record IsJudgeReady (a : StateAlgebra) (engine : Standing) (beside : Option Standing) (trials : TrialRoom) : Type 0 where
  pub idle : engine.beginning ≡ None
  pub follows : FollowsLinks engine.ends
  pub near : IfSome beside (IsReadyBeside engine)
  pub room : IsTrialRoomFor a engine.net engine.rules trials
