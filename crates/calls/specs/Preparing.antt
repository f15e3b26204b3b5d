-- What a command hands over before anything is written (this project's own).
use Rattle.std.specs.Prelude.{ℕ, List, Result, MatchResult}
use Rattle.pd_io.specs.Seen.{FilesSeen}
use Rattle.calls.specs.declared.ending.Ending.{Ending}
use Rattle.calls.specs.Work.{Work, Products}
use Rattle.calls.specs.Passing.{HasPassed}
use Rattle.calls.specs.Stopping.{Stops}

-- all stages of this work were passed, and its inputs lead to these products
pub record IsPrepared (work : Work) (products : Products) (old new : FilesSeen) : Type 0 where
  pub inputs : List (List ℕ)
  pub passed : HasPassed work work.stages inputs old new
  pub gives : work.Gives inputs products

-- a call of this work has what its products are made of, or it ended before it wrote
abbrev pub Prepares : {A : Type 0} → (A → Products) → Work → Result A Ending → FilesSeen → FilesSeen → Type 0
Prepares products_of work result old new =
    MatchResult result (λ made. IsPrepared work (products_of made) old new) (λ ending. Stops work ending old new)
