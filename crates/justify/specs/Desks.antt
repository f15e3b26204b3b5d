-- The buffers of searches (this project's own).
use Rattle.std.specs.Prelude.{◌≡◌, ◌<◌, ℕ, List, length, All}
use Rattle.pd_base.specs.Links.{links_of}
use Rattle.pd_base.specs.Route.{Route}
use Rattle.pd_base.specs.declared.ids.LineId.{LineId}
use Rattle.pd_base.specs.declared.rules.Rules.{Rules}
use Rattle.netlist.specs.Circuit.{Circuit, source_count, line_count}
use Rattle.netlist.specs.Paths.{end_of}
use Rattle.netlist.specs.LinkedPairs.{FitRules}
use Rattle.state_sets.specs.StateAlgebra.{StateAlgebra}
use Rattle.trees.specs.Algebras.{algebra_of}
use Rattle.trees.specs.Spent.{IsInSupport}
use Rattle.justify.specs.declared.desk.Desk.{Desk}
use Rattle.pair_judging.specs.ConeStates.{state_in, AreStates}
use Rattle.pair_judging.specs.Judges.{IsJudgeOf}
use Rattle.cones.specs.KeptCones.{IsConeFor, IsConeAt}
use Rattle.search_hints.specs.Drafts.{IsJustifierOf}

-- The desk is made for searches with this kind of states, which is that of these rules, on this circuit, which they fit.
pub record IsDeskFor (a : StateAlgebra) (c : Circuit) (rules : Rules) (desk : Desk) : Type 0 where
  pub of_rules : a ≡ algebra_of rules
  pub fit : FitRules c rules
  pub cone : IsConeFor c desk.cone
  pub links : desk.cone.links ≡ links_of rules
  pub states : length desk.states.items ≡ line_count c
  pub within : AreStates a.count desk.states.items
  pub blame : desk.blame.room ≡ line_count c
  pub liked : length desk.liked.items ≡ line_count c
  pub justifier : IsJustifierOf c desk.justifier
  pub judge : IsJudgeOf 4 c desk.judge

-- and its cone is that of this path's end
pub record IsDesk (a : StateAlgebra) (c : Circuit) (rules : Rules) (path : Route) (desk : Desk) : Type 0 where
  pub made : IsDeskFor a c rules desk
  pub cone : IsConeAt c (end_of c path) desk.cone

-- the same cone is kept, and the sources are in the same states
pub record HasSameStates (c : Circuit) (old new : Desk) : Type 0 where
  pub cone : new.cone ≡ old.cone
  pub states : (source : ℕ) → source < source_count c → state_in new.states.items source ≡ state_in old.states.items source

-- all of these are sources in the support of the path
abbrev pub AreInSupport : Circuit → Rules → Route → List LineId → Type 0
AreInSupport c rules path sources = All (λ source. IsInSupport c rules path source.0) sources

-- all is as it was but what is liked
pub record IsSameDesk (old new : Desk) : Type 0 where
  pub cone : new.cone ≡ old.cone
  pub states : new.states.items ≡ old.states.items
  pub blame : new.blame.room ≡ old.blame.room
  pub liked : length new.liked.items ≡ length old.liked.items
  pub justifier : new.justifier ≡ old.justifier
  pub judge : new.judge ≡ old.judge
