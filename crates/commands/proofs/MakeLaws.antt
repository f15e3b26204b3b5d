-- What follows for a call of `make`: it is always accepted, touches no file, and answers 0, 6 or 7.
use Rattle.std.proofs.Common.{◌≡◌, ℕ, List, [], ◌∷◌, ◌++◌, Option, refl, sym, ap, subst, ◌∙◌}
use Rattle.std.proofs.lemmas.List.{append-nil}
use Rattle.pd_base.specs.Memory.{out_of_memory}
use Rattle.pd_io.specs.Folder.{Folder}
use Rattle.pd_io.specs.Seen.{FilesSeen, SinkSeen, Outside, Seen, seen_of}
use Rattle.pd_io.specs.Telling.{Tells}
use Rattle.pd_io.proofs.Tellings.{tells_chain, tells_weaker}
use Rattle.command_line.specs.Words.{MakeCall}
use Rattle.calls.specs.declared.ending.Ending.{Ending}
use Rattle.calls.specs.declared.ending.Ending.TheVariants.{Done, Refused, ReadFault, WriteFault, OutFault, NoMemory}
use Rattle.calls.specs.declared.status.Status.{Status}
use Rattle.calls.specs.Lines.{status_of}
use Rattle.calls.specs.Reports.{IsReported}
use Rattle.calls.specs.Reports as reports
use Rattle.calls.specs.Calls.{Ends, Performs, stopped, wrote}
use Rattle.calls.specs.Outputs.{Prints}
use Rattle.calls.specs.Passing.{AsksOnly}
use Rattle.calls.specs.Work.{Due, Products, Stage, names_read}
use Rattle.calls.specs.Writing.{AreWhole, StandsInFile, folder_with_all, in_file, on_out}
use Rattle.calls.proofs.Outputs.{none_whole, printed}
use Rattle.calls.proofs.Stages.{begun, stops_for_memory}
use Rattle.netlist.specs.Circuit.{Circuit}
use Rattle.netlist.specs.Lawful.{IsCircuit}
use Rattle.netlist.specs.Waves.{Delays}
use Rattle.pd_base.specs.declared.rules.Rules.TheVariants.{Two}
use Rattle.runs.specs.declared.run.Run.{Run}
use Rattle.good_runs.specs.GoodRun.{IsGoodRun}
use Rattle.good_runs.specs.Promises.{AllKeepPromises}
use Rattle.good_runs.proofs.Promising.{good_run_keeps}
use Rattle.pd_base.specs.Links.{links_of}
use Rattle.trees.proofs.Unlinked.{unlinked_fit}
use Rattle.ladder.specs.Ladder.{ladder_circuit}
use Rattle.run_files.specs.LadderLine.{ladder_line}
use Rattle.commands.specs.declared.making.TheConstants.{LADDER_BUDGET, LADDER_PATHS}
use Rattle.commands.specs.MakeLaws.{AnswersMake, TouchesNoFile, KeepsMakeLaws, done, no_memory, unprinted}
use Rattle.commands.specs.Make.{AreUnit, GivesLadder, GivesMake, make_work}

-- the line of a good run of a ladder
pub gives_ladder : (stages : ℕ) (c : Circuit) → IsCircuit c → (delays : Delays) (run : Run) (text : List ℕ) → c ≡ ladder_circuit stages → AreUnit c delays
    → run.rules ≡ Two → IsGoodRun c delays LADDER_PATHS LADDER_BUDGET run → text ≡ ladder_line stages c run
    → GivesLadder stages (record { files = []; out = text })
gives_ladder stages c circuit delays run text is unit rules good told =
    let P : Circuit → Type 0 = λ d. AreUnit d delays in
    let Q : Circuit → Type 0 = λ d. IsGoodRun d delays LADDER_PATHS LADDER_BUDGET run in
    let R : Circuit → Type 0 = λ d. AllKeepPromises d LADDER_BUDGET run in
    record {
      delays = delays;
      unit = subst P is unit;
      run = run;
      rules = rules;
      good = subst Q is good;
      promises = subst R is (good_run_keeps c circuit delays LADDER_PATHS LADDER_BUDGET run
          (unlinked_fit c run.rules (ap links_of rules)) good);
      text = ap (λ (out : List ℕ). record { files = []; out = out }) (told ∙ ap (λ (d : Circuit). ladder_line stages d run) is);
    }

-- the line was printed, or not
pub made_performed : (call : MakeCall) (line shown : List ℕ) (files : FilesSeen) (ending : Ending) (old new : SinkSeen)
    → GivesLadder call.stages (record { files = []; out = line }) → shown ≡ line → Prints shown ending old new
    → Performs (make_work call) ending (record { files = files; out = old }) (record { files = files; out = new })
made_performed call line shown files ending old new gives is prints =
    let P : List ℕ → Type 0 = λ text. Prints text ending old new in
    wrote [] (record { files = []; out = line }) files (begun (make_work call) files) gives
    (printed (record { files = []; out = line }) ending (record { files = files; out = old }) (record { files = files; out = new })
    (none_whole files) (subst P is prints))

-- memory ran out before the line was made
pub made_no_memory : (call : MakeCall) (files : FilesSeen) (out : SinkSeen)
    → Performs (make_work call) (NoMemory out_of_memory) (record { files = files; out = out }) (record { files = files; out = out })
made_no_memory call files out = stopped (stops_for_memory (make_work call) (begun (make_work call) files) ([], refl)) refl

-- no stage stands among none
none_stands : {R : Type 0} (before : List (Stage R)) (stage : Stage R) (rest : List (Stage R)) → [] ≡ (before ++ stage ∷ []) ++ rest → ⊥
none_stands [] stage rest is = cc
none_stands (first ∷ before) stage rest is = cc

-- no file is due
none_due : (call : MakeCall) (inputs : List (List ℕ)) (products : Products) → GivesMake call inputs products → products.files ≡ []
none_due call [] products gives = ap (λ (p : Products). p.files) gives.text
none_due call (input ∷ inputs) products gives = absurd gives

-- so none is written
none_written : (files : List Due) (old new : FilesSeen) → files ≡ [] → StandsInFile files old new → ⊥
none_written files old new none stands = among_none stands.before stands.due stands.later (sym none ∙ stands.place) where
  among_none : (before : List Due) (due : Due) (later : List Due) → [] ≡ before ++ due ∷ later → ⊥
  among_none [] due later is = cc
  among_none (first ∷ before) due later is = cc

-- the endings of a call of `make`
data EndsMake (ending : Ending) : Type 0 where
  is_done : ending ≡ Done → EndsMake ending
  is_unprinted : ending ≡ OutFault → EndsMake ending
  is_without_memory : ending ≡ NoMemory out_of_memory → EndsMake ending

make_ends : (call : MakeCall) (ending : Ending) (old new : Seen) → Performs (make_work call) ending old new → EndsMake ending
make_ends call Done old new performed = is_done refl
make_ends call (Refused refusal) old new (stopped stops same) = absurd stops.refuses
make_ends call (Refused refusal) old new (wrote inputs products read passed gives writes) = absurd writes
make_ends call (ReadFault role) old new (stopped stops same) = absurd (none_stands stops.before _ stops.place.0 stops.place.1)
make_ends call (ReadFault role) old new (wrote inputs products read passed gives writes) = absurd writes
make_ends call (WriteFault role) old new (stopped stops same) = absurd stops
make_ends call (WriteFault role) old new (wrote inputs products read passed gives writes) =
    absurd (none_written products.files read new.files (none_due call inputs products gives) writes.stands)
make_ends call OutFault old new performed = is_unprinted refl
make_ends call (NoMemory _) old new performed = is_without_memory refl

-- the status of such an ending
status_of_make : (ending : Ending) (status : Status) → EndsMake ending → status ≡ status_of ending → AnswersMake status
status_of_make ending status (is_done so) is = done (is ∙ ap status_of so)
status_of_make ending status (is_unprinted so) is = unprinted (is ∙ ap status_of so)
status_of_make ending status (is_without_memory so) is = no_memory (is ∙ ap status_of so)

-- and of how it was reported
reported_so : (ending : Ending) (status : Status) (old new : SinkSeen) → EndsMake ending → IsReported ending status old new → AnswersMake status
reported_so ending status old new ends (reports.nothing is so same) = done so
reported_so ending status old new ends (reports.whole other is line) = status_of_make ending status ends is
reported_so ending status old new ends (reports.cut other is part) = status_of_make ending status ends is
reported_so ending status old new ends (reports.no_memory other is part) = no_memory is

-- `make` answers 0, 6 or 7
pub make_statuses : (call : MakeCall) (status : Status) (old new : Outside) → Ends (make_work call) status old new → AnswersMake status
make_statuses call status old new ends =
    reported_so ends.ending status old.err new.err (make_ends call ends.ending (seen_of old) (seen_of new) ends.performed) ends.reported

-- nothing was asked
asked_none : (old new : Option Folder) (names : List (List ℕ)) → names ≡ [] → Tells old new (AsksOnly names) → Tells old new (λ before after. after ≡ before)
asked_none old new names none asked =
    tells_weaker old new (AsksOnly names) (λ before after. after ≡ before) asked
    (λ x y is. is ∙ ap (λ (n : List (List ℕ)). record { held = x.held; asked = x.asked ++ n }) none
    ∙ ap (λ (n : List (List ℕ)). record { held = x.held; asked = n }) (append-nil x.asked))

-- a front of nothing is nothing
front_of_none : {A : Type 0} (front rest : List A) → [] ≡ front ++ rest → front ≡ []
front_of_none [] rest is = refl
front_of_none (first ∷ front) rest is = absurd cc

-- nothing was read, and no file written
none_touched : (old read new : FilesSeen) (files : List Due) → files ≡ [] → Tells old.folder read.folder (AsksOnly [])
    → read.read_faults ≡ old.read_faults → read.write_faults ≡ old.write_faults → AreWhole files read new → TouchesNoFile old new
none_touched old read new files none asked reads writes whole = record {
  told = tells_chain old.folder read.folder new.folder (λ before after. after ≡ before) (λ before after. after ≡ folder_with_all files before)
      (λ before after. after ≡ before) (asked_none old.folder read.folder [] refl asked) whole.told
      (λ x y z first second. second ∙ ap (λ (f : List Due). folder_with_all f y) none ∙ first);
  read_faults = whole.read_faults ∙ reads;
  write_faults = whole.write_faults ∙ writes;
}

-- `make` touches no file
pub make_touches_no_file : (call : MakeCall) (ending : Ending) (old new : Seen) → Performs (make_work call) ending old new
    → TouchesNoFile old.files new.files
make_touches_no_file call Done old new (stopped stops same) = absurd stops
make_touches_no_file call Done old new (wrote inputs products read passed gives writes) =
    none_touched old.files read new.files products.files (none_due call inputs products gives) passed.asked passed.only.read_faults
    passed.only.write_faults writes.files
make_touches_no_file call (Refused refusal) old new (stopped stops same) = absurd stops.refuses
make_touches_no_file call (Refused refusal) old new (wrote inputs products read passed gives writes) = absurd writes
make_touches_no_file call (ReadFault role) old new (stopped stops same) =
    absurd (none_stands stops.before _ stops.place.0 stops.place.1)
make_touches_no_file call (ReadFault role) old new (wrote inputs products read passed gives writes) = absurd writes
make_touches_no_file call (WriteFault role) old new (stopped stops same) = absurd stops
make_touches_no_file call (WriteFault role) old new (wrote inputs products read passed gives writes) =
    absurd (none_written products.files read new.files (none_due call inputs products gives) writes.stands)
make_touches_no_file call OutFault old new (stopped stops same) = absurd stops
make_touches_no_file call OutFault old new (wrote inputs products read passed gives writes) =
    none_touched old.files read new.files products.files (none_due call inputs products gives) passed.asked passed.only.read_faults
    passed.only.write_faults writes.stands.files
make_touches_no_file call (NoMemory _) old new (stopped stops same) =
    let stages = front_of_none (stops.before ++ stops.next) stops.place.0 stops.place.1 in
    record {
      told = asked_none old.files.folder new.files.folder stops.names
          (front_of_none stops.names stops.front.0 (sym (ap names_read stages) ∙ stops.front.1)) stops.asked;
      read_faults = stops.read_faults;
      write_faults = stops.write_faults;
    }
make_touches_no_file call (NoMemory _) old new (wrote inputs products read passed gives (in_file stands same out)) =
    absurd (none_written products.files read new.files (none_due call inputs products gives) stands)
make_touches_no_file call (NoMemory _) old new (wrote inputs products read passed gives (on_out stands same)) =
    none_touched old.files read new.files products.files (none_due call inputs products gives) passed.asked passed.only.read_faults
    passed.only.write_faults stands.files

-- what holds of a call of make
pub make_laws : (call : MakeCall) (status : Status) (old new : Outside) → Ends (make_work call) status old new → KeepsMakeLaws status old new
make_laws call status old new ends = record {
  statuses = make_statuses call status old new ends;
  untouched = make_touches_no_file call ends.ending (seen_of old) (seen_of new) ends.performed;
}
