-- What a call does that is refused before it does anything, as for its words (this project's own).
use Rattle.std.specs.Prelude.{◌≡◌, ⊤, ℕ, List, [], ◌∷◌}
use Rattle.pd_base.specs.Memory.{out_of_memory}
use Rattle.pd_io.specs.Seen.{SinkSeen}
use Rattle.calls.specs.declared.ending.Ending.TheVariants.{Refused}
use Rattle.calls.specs.declared.refusal.Refusal.{Refusal}
use Rattle.calls.specs.declared.status.Status.{Status}
use Rattle.calls.specs.declared.status.Status.TheVariants as exit
use Rattle.calls.specs.Reports.{IsReported}
use Rattle.calls.specs.Work.{Work, Require, Products}

-- it is refused so, and in no other way
abbrev pub RefusesAtOnce : Refusal → ⊤ → List (List ℕ) → Refusal → Type 0
RefusesAtOnce refusal requirement inputs told = told ≡ refusal

-- nothing is given
abbrev pub GivesNothing : List (List ℕ) → Products → Type 0
GivesNothing inputs products = ⊥

-- the work of such a call
abbrev pub refused_at_once : Refusal → Work
refused_at_once refusal = record {
  Requirement = ⊤;
  stages = Require tt ∷ [];
  Refuses = RefusesAtOnce refusal;
  Gives = GivesNothing;
}

-- such a call reports its refusal, or memory ran out
pub data ReportsAtOnce (refusal : Refusal) (status : Status) (old new : SinkSeen) : Type 0 where
  refused : IsReported (Refused refusal) status old new → ReportsAtOnce refusal status old new
  no_memory : status ≡ exit.NoMemory out_of_memory → ReportsAtOnce refusal status old new
