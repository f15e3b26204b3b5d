-- How a call goes on behind a text that it prepared.
use Rattle.std.proofs.Common.{◌≡◌, ℕ, List, [], subst}
use Rattle.pd_io.specs.Seen.{Seen}
use Rattle.calls.specs.declared.ending.Ending.{Ending}
use Rattle.calls.specs.Calls.{Performs, wrote}
use Rattle.calls.specs.Outputs.{Prints}
use Rattle.calls.specs.Preparing.{IsPrepared}
use Rattle.calls.specs.Work.{Work}
use Rattle.calls.proofs.Outputs.{none_whole, printed}

-- a text that was prepared was printed, or not
pub printed_behind : (work : Work) (text shown : List ℕ) (ending : Ending) (old new : Seen)
    → IsPrepared work (record { files = []; out = text }) old.files new.files → shown ≡ text → Prints shown ending old.out new.out
    → Performs work ending old new
printed_behind work text shown ending old new prepared is prints =
    let P : List ℕ → Type 0 = λ t. Prints t ending old.out new.out in
    wrote prepared.inputs (record { files = []; out = text }) new.files prepared.passed prepared.gives
    (printed (record { files = []; out = text }) ending (record { files = new.files; out = old.out }) new (none_whole new.files)
    (subst P is prints))
