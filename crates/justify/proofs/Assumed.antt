-- What it changes of a standing that a set is assumed of a source, and what it leaves.
use Rattle.std.proofs.Common.{◌≡◌, ℕ, Result, Ok, Err, true, ap}
use Rattle.std.specs.Prelude.{⊤, IfErr}
use Rattle.std.specs.Result.{is_err}
use Rattle.std.proofs.lemmas.Bool.{false≢true}
use Rattle.pd_base.specs.declared.ids.LineId.{LineId}
use Rattle.state_sets.specs.declared.state.StateSet.{StateSet}
use Rattle.implication.specs.declared.assumption.Conflict.{Conflict}
use Rattle.implication.specs.Moves.{with_assumed, grown, closed_at, risen}
use Rattle.implication.specs.Standing.{Standing}

module _ (count : ℕ) (old new : Standing) (source : LineId) (set : StateSet) where
  -- where no conflict came
  module _ (is : new ≡ grown old (with_assumed count old.assumptions source set)) where
    pub grown_list : new.assumptions ≡ with_assumed count old.assumptions source set
    grown_list = ap (λ (s : Standing). s.assumptions) is

    pub grown_conflict : new.conflict ≡ old.conflict
    grown_conflict = ap (λ (s : Standing). s.conflict) is

  -- where one came
  module _ (line : LineId) (is : new ≡ closed_at old (with_assumed count old.assumptions source set) line) where
    pub closed_list : new.assumptions ≡ with_assumed count old.assumptions source set
    closed_list = ap (λ (s : Standing). s.assumptions) is

    pub closed_count : new.closings ≡ risen old.closings
    closed_count = ap (λ (s : Standing). s.closings) is

  pub error_counted : (answer : Result ⊤ Conflict) → is_err answer ≡ true
      → IfErr answer (λ conflict. new ≡ closed_at old (with_assumed count old.assumptions source set) conflict.0)
      → new.closings ≡ risen old.closings
  error_counted (Ok done) some closed = absurd (false≢true some)
  error_counted (Err conflict) some closed = closed_count conflict.0 closed
