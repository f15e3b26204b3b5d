-- Calls that are planned to fail, by their numbers (this project's own).
use Rattle.std.specs.Prelude.{ℕ, ◌+◌, ◌==◌, Bool, List, [], ◌∷◌, ◌++◌, min}
use Rattle.std.specs.List.{list_any}
use Rattle.pd_io.specs.declared.plan.Plan.{Plan}
use Rattle.pd_io.specs.Counts.{greatest_count}

-- how often a method was called, and which of its calls, counted from 1, are to fail
pub record CallPlan : Type 0 where
  pub calls : ℕ
  pub failing : List ℕ

-- what a plan says: the calls so far, and those that are to fail
abbrev pub plan_of : Plan → CallPlan
plan_of plan = record { calls = plan.calls; failing = plan.failing.items }

-- no call was made, and none is to fail
abbrev pub empty_plan : CallPlan
empty_plan = record { calls = 0; failing = [] }

-- the number of the next call; the count stops at its greatest number
abbrev pub next_number : CallPlan → ℕ
next_number plan = min (plan.calls + 1) greatest_count

-- the next call is to fail
abbrev pub fails_next : CallPlan → Bool
fails_next plan = list_any (λ nth. nth == next_number plan) plan.failing

-- the plan after one more call
abbrev pub plan_after_call : CallPlan → CallPlan
plan_after_call plan = record plan { calls = next_number plan }

-- the plan by which one more call is to fail, that of this number
abbrev pub plan_with : CallPlan → ℕ → CallPlan
plan_with plan nth = record plan { failing = plan.failing ++ nth ∷ [] }
