-- The work that words ask for, from what they ask.
use Rattle.std.proofs.Common.{◌≡◌, [], refl, sym, subst}
use Rattle.std.specs.Prelude.{Result, Err}
use Rattle.pd_io.specs.Seen.{Seen}
use Rattle.command_line.specs.declared.refusal.WordsRefusal.{WordsRefusal}
use Rattle.command_line.specs.declared.fault.WordsFault.{WordsFault}
use Rattle.command_line.specs.declared.fault.WordsFault.TheVariants as fault
use Rattle.command_line.specs.Taken.{IsFaultOf}
use Rattle.command_line.specs.Words.{Call}
use Rattle.calls.specs.declared.ending.Ending.{Ending}
use Rattle.calls.specs.declared.ending.Ending.TheVariants.{Refused}
use Rattle.calls.specs.Calls.{Performs, stopped}
use Rattle.calls.specs.Refused.{refused_at_once}
use Rattle.calls.proofs.Stages.{begun, stops_at_once, stops_for_memory}
use Rattle.commands.specs.Commands.{work_of, words_ending}
use Rattle.commands.specs.WordsRefusals.{words_refusal}

-- a call that words ask for was performed
pub asked_performed : (asked call : Result Call WordsRefusal) (ending : Ending) (old new : Seen) → asked ≡ call
    → Performs (work_of call) ending old new → Performs (work_of asked) ending old new
asked_performed asked call ending old new is performed =
    let P : Result Call WordsRefusal → Type 0 = λ a. Performs (work_of a) ending old new in
    subst P (sym is) performed

-- words that give no command end the call before any file is read
pub fault_performed : (asked : Result Call WordsRefusal) (fault : WordsFault) (seen : Seen) → IsFaultOf asked fault
    → Performs (work_of asked) (words_ending fault) seen seen
fault_performed asked (fault.Refused reason) seen is =
    asked_performed asked (Err reason) (Refused (words_refusal reason)) seen seen is
    (stopped (stops_at_once (refused_at_once (words_refusal reason)) seen.files tt (words_refusal reason) ([], refl) refl) refl)
fault_performed asked (fault.NoMemory _) seen is = stopped (stops_for_memory (work_of asked) (begun (work_of asked) seen.files) (_, refl)) refl
