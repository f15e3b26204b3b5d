-- The status and the line on err of each ending (this project's own).
use Rattle.std.specs.Prelude.{ℕ, List, [], ◌++◌, codes}
use Rattle.calls.specs.declared.role.Role.{Role}
use Rattle.calls.specs.declared.role.Role.TheVariants.{Net, Delays, Scan, Tests, Report, Proofs, Log, Out}
use Rattle.calls.specs.declared.cause.Cause.{Cause}
use Rattle.calls.specs.declared.cause.Cause.TheVariants as cause
use Rattle.calls.specs.declared.refusal.Refusal.{Refusal}
use Rattle.calls.specs.declared.ending.Ending.{Ending}
use Rattle.calls.specs.declared.ending.Ending.TheVariants.{Done, Refused, ReadFault, WriteFault, OutFault, NoMemory}
use Rattle.calls.specs.declared.status.Status.{Status}
use Rattle.calls.specs.declared.status.Status.TheVariants as exit
use Rattle.text_pieces.specs.Tokens.{line}

-- the word for a file in the line on err
abbrev pub role_word : Role → List ℕ
role_word Net = codes "NET"
role_word Delays = codes "DELAYS"
role_word Scan = codes "SCAN"
role_word Tests = codes "TESTS"
role_word Report = codes "REPORT"
role_word Proofs = codes "PROOFS"
role_word Log = codes "LOG"
role_word Out = codes "OUT"

-- the line on err for a refusal
abbrev pub refusal_line : Refusal → List ℕ
refusal_line refusal = line refusal.text

-- the line on err for an ending; `Done` has none
abbrev pub line_of : Ending → List ℕ
line_of Done = []
line_of (Refused refusal) = refusal_line refusal
line_of (ReadFault role) = line (codes "read fault " ++ role_word role)
line_of (WriteFault role) = line (codes "write fault " ++ role_word role)
line_of OutFault = line (codes "write fault out")
line_of (NoMemory _) = line (codes "want of memory")

-- the status of refusals for a cause
abbrev pub status_for : Cause → Status
status_for cause.Claims = exit.Refused
status_for cause.Words = exit.Words
status_for cause.Netlist = exit.Netlist
status_for cause.Delays = exit.Delays
status_for cause.Size = exit.Size
status_for cause.Scan = exit.Scan
status_for cause.Pair = exit.Pair
status_for cause.Log = exit.Log

-- the status of an ending
abbrev pub status_of : Ending → Status
status_of Done = exit.Done
status_of (Refused refusal) = status_for refusal.cause
status_of (ReadFault role) = exit.ReadFault
status_of (WriteFault role) = exit.WriteFault
status_of OutFault = exit.WriteFault
status_of (NoMemory refused) = exit.NoMemory refused

-- the number of a status
abbrev pub number_of : Status → ℕ
number_of exit.Done = 0
number_of exit.Refused = 1
number_of exit.Words = 2
number_of exit.Netlist = 3
number_of exit.Delays = 4
number_of exit.ReadFault = 5
number_of exit.WriteFault = 6
number_of (exit.NoMemory _) = 7
number_of exit.Size = 8
number_of exit.Scan = 10
number_of exit.Pair = 11
number_of exit.Log = 12
