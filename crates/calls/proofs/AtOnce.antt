-- A call that is refused before it does anything reports its refusal, or want of memory.
use Rattle.std.proofs.Common.{◌≡◌, ℕ, List, [], ◌∷◌, ◌++◌, subst}
use Rattle.std.specs.Prelude.{⊤}
use Rattle.pd_io.specs.Seen.{Outside, seen_of}
use Rattle.calls.specs.declared.role.Role.{Role}
use Rattle.calls.specs.declared.refusal.Refusal.{Refusal}
use Rattle.calls.specs.declared.ending.Ending.{Ending}
use Rattle.calls.specs.declared.ending.Ending.TheVariants.{Done, NoMemory, OutFault, ReadFault, Refused, WriteFault}
use Rattle.calls.specs.declared.status.Status.{Status}
use Rattle.calls.specs.Reports.{IsReported}
use Rattle.calls.specs.Reports as reports
use Rattle.calls.specs.Refused.{ReportsAtOnce, refused_at_once}
use Rattle.calls.specs.Refused as at_once
use Rattle.calls.specs.Work.{Read, Require, Stage}
use Rattle.calls.specs.Calls.{Ends, Performs}
use Rattle.calls.specs.Calls as calls

-- no stage of such a call reads a file
no_read : (before rest : List (Stage ⊤)) (role : Role) (name : List ℕ) → Require tt ∷ [] ≡ (before ++ Read role name ∷ []) ++ rest → ⊥
no_read [] rest role name place = cc
no_read (stage ∷ []) rest role name place = cc
no_read (stage ∷ next ∷ before) rest role name place = cc

module _ (refusal : Refusal) (status : Status) (old new : Outside) where
  by_ending : (ending : Ending) → Performs (refused_at_once refusal) ending (seen_of old) (seen_of new)
      → IsReported ending status old.err new.err → ReportsAtOnce refusal status old.err new.err
  by_ending ending (calls.wrote inputs products read passed gives writes) reported = absurd gives
  by_ending Done (calls.stopped stops same) reported = absurd stops
  by_ending (Refused other) (calls.stopped stops same) reported =
      at_once.refused (subst (λ (r : Refusal). IsReported (Refused r) status old.err new.err) stops.refuses reported)
  by_ending (ReadFault role) (calls.stopped stops same) reported =
      absurd (no_read stops.before stops.place.0 role stops.name stops.place.1)
  by_ending (WriteFault role) (calls.stopped stops same) reported = absurd stops
  by_ending OutFault (calls.stopped stops same) reported = absurd stops
  by_ending (NoMemory refused) (calls.stopped stops same) (reports.nothing is done still) = let never : NoMemory refused ≡ Done = is in absurd cc
  by_ending (NoMemory _) (calls.stopped stops same) (reports.whole other is line) = at_once.no_memory is
  by_ending (NoMemory _) (calls.stopped stops same) (reports.cut other is part) = at_once.no_memory is
  by_ending (NoMemory _) (calls.stopped stops same) (reports.no_memory other is part) = at_once.no_memory is

  pub reports_at_once : Ends (refused_at_once refusal) status old new → ReportsAtOnce refusal status old.err new.err
  reports_at_once ends = by_ending ends.ending ends.performed ends.reported
