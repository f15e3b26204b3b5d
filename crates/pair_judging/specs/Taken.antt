-- The states that are taken of the labels of sources (this project's own).
use Rattle.std.specs.Prelude.{◌≡◌, ◌≢◌, ℕ, List, Contains}
use Rattle.pd_base.specs.declared.ids.LineId.{LineId}
use Rattle.state_sets.specs.declared.state.State.{State}
use Rattle.state_sets.specs.declared.state.StateSet.{StateSet}
use Rattle.state_sets.specs.States.{no_states, both_sets}
use Rattle.state_sets.specs.Labellings.{label_at}
use Rattle.pair_judging.specs.ConeStates.{state_in}
use Rattle.pair_judging.specs.LeastStates.{IsTakenOf}

-- the set is what one set has of another one, or all of the one where that is nothing
pub record IsPreferredOf (set liked preferred : StateSet) : Type 0 where
  pub shared : both_sets set liked ≢ no_states → preferred ≡ both_sets set liked
  pub whole : both_sets set liked ≡ no_states → preferred ≡ set

-- the state is taken of what is preferred of a set
pub record IsTakenAsLiked (count : ℕ) (set liked : StateSet) (state : State) : Type 0 where
  pub preferred : StateSet
  pub is : IsPreferredOf set liked preferred
  pub taken : IsTakenOf count preferred state

-- each of these sources is in the state that is taken of its set
abbrev pub AreLeast : ℕ → List LineId → List StateSet → List State → Type 0
AreLeast count sources sets states =
    (source : ℕ) → Contains sources (record { 0 = source }) → IsTakenOf count (label_at sets source) (state_in states source)

-- or in that which is taken of what is preferred of its set
abbrev pub ArePreferred : ℕ → List LineId → List StateSet → List StateSet → List State → Type 0
ArePreferred count sources sets liked states =
    (source : ℕ) → Contains sources (record { 0 = source })
    → IsTakenAsLiked count (label_at sets source) (label_at liked source) (state_in states source)
