-- The kind of states of trees under rules (this project's own).
use Rattle.pd_base.specs.declared.rules.Rules.{Rules}
use Rattle.pd_base.specs.declared.rules.Rules.TheVariants.{One, Two, Linked}
use Rattle.state_sets.specs.StateAlgebra.{StateAlgebra}
use Rattle.state_sets.specs.FourStates.{four_states}
use Rattle.state_sets.specs.SixStates.{six_states}

-- six states under linked rules, and else four
abbrev pub algebra_of : Rules → StateAlgebra
algebra_of One = four_states
algebra_of Two = four_states
algebra_of (Linked links) = six_states
