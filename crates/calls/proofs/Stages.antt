-- The stages of a command, one after the other: what was passed so far, and how the call may end at the next stage.
use Rattle.std.proofs.Common.{◌≡◌, ℕ, List, [], ◌∷◌, ◌++◌, Option, None, Some, refl, sym, ap, subst, ◌∙◌, append_assoc, arith}
use Rattle.std.proofs.lemmas.List.{append-nil}
use Rattle.pd_base.specs.Memory.{out_of_memory}
use Rattle.pd_io.specs.Folder.{Folder, bytes_at}
use Rattle.pd_io.specs.Telling.{Tells, IsFrontOf}
use Rattle.pd_io.specs.Seen.{FilesSeen}
use Rattle.pd_io.proofs.Tellings.{tells_same, tells_chain}
use Rattle.calls.specs.declared.role.Role.{Role}
use Rattle.calls.specs.declared.refusal.Refusal.{Refusal}
use Rattle.calls.specs.declared.ending.Ending.{Ending}
use Rattle.calls.specs.declared.ending.Ending.TheVariants.{Refused, NoMemory}
use Rattle.calls.specs.Work.{Work, Stage, Read, Require, names_read}
use Rattle.calls.specs.Passing.{HasBytes, Accepts, Pass, AsksOnly, HasOnlyRead, HasPassed}
use Rattle.calls.specs.Stopping.{Stops}
use Rattle.calls.specs.Inputs.{FailsToRead}
use Rattle.calls.specs.Inputs as inputs
use Rattle.calls.proofs.Inputs.{asks_none}
use Rattle.calls.proofs.Outputs.{rose_later}

-- the names of stages and of further ones
pub names_read-append : {R : Type 0} (first later : List (Stage R)) → names_read (first ++ later) ≡ names_read first ++ names_read later
names_read-append [] later = refl
names_read-append (Read role name ∷ first) later = ap (λ (names : List (List ℕ)). name ∷ names) (names_read-append first later)
names_read-append (Require requirement ∷ first) later = names_read-append first later

-- names were asked, and then more
asks_more : (first second : List (List ℕ)) (old mid new : Folder)
    → AsksOnly first old mid → AsksOnly second mid new → AsksOnly (first ++ second) old new
asks_more first second old mid new asked then_asked =
    then_asked ∙ ap (λ (f : Folder). record { held = f.held; asked = f.asked ++ second }) asked
    ∙ ap (λ (names : List (List ℕ)). record { held = old.held; asked = names }) (append_assoc old.asked first second)

-- the same over what is told
pub then_asks : (first second : List (List ℕ)) (old mid new : Option Folder)
    → Tells old mid (AsksOnly first) → Tells mid new (AsksOnly second) → Tells old new (AsksOnly (first ++ second))
then_asks first second old mid new asked then_asked =
    tells_chain old mid new (AsksOnly first) (AsksOnly second) (AsksOnly (first ++ second)) asked then_asked
    (asks_more first second)

-- bytes that a name has after others were asked it had before
has_before : (names : List (List ℕ)) (name bytes : List ℕ) (old new : Option Folder)
    → Tells old new (AsksOnly names) → HasBytes new name bytes → HasBytes old name bytes
has_before names name bytes None new asked has = tt
has_before names name bytes (Some old) None asked has = absurd asked
has_before names name bytes (Some old) (Some new) asked has =
    has ∙ ap (λ (f : Folder). bytes_at f.held name) asked

module _ (work : Work) where
  -- a read behind stages that were passed
  pass_read : (folder : Option Folder) (stages : List (Stage work.Requirement)) (first all : List (List ℕ)) (role : Role) (name bytes : List ℕ)
      → Pass work folder stages first all → HasBytes folder name bytes
      → Pass work folder (stages ++ Read role name ∷ []) first (all ++ bytes ∷ [])
  pass_read folder [] first all role name bytes pass has =
      (bytes, has, ap (λ (inputs : List (List ℕ)). inputs ++ bytes ∷ []) pass)
  pass_read folder (Read other title ∷ stages) first all role name bytes (text, holds, pass) has =
      (text, holds, pass_read folder stages (first ++ text ∷ []) all role name bytes pass has)
  pass_read folder (Require requirement ∷ stages) first all role name bytes (accepts, pass) has =
      (accepts, pass_read folder stages first all role name bytes pass has)

  -- a requirement behind stages that were passed
  pass_requirement : (folder : Option Folder) (stages : List (Stage work.Requirement)) (first all : List (List ℕ)) (requirement : work.Requirement)
      → Pass work folder stages first all → Accepts work requirement all
      → Pass work folder (stages ++ Require requirement ∷ []) first all
  pass_requirement folder [] first all requirement pass accepts = (subst (Accepts work requirement) pass accepts, pass)
  pass_requirement folder (Read other title ∷ stages) first all requirement (text, holds, pass) accepts =
      (text, holds, pass_requirement folder stages (first ++ text ∷ []) all requirement pass accepts)
  pass_requirement folder (Require other ∷ stages) first all requirement (accepted, pass) accepts =
      (accepted, pass_requirement folder stages first all requirement pass accepts)

  -- no stage was taken yet
  pub begun : (files : FilesSeen) → HasPassed work [] [] files files
  begun files = record {
    passed = refl;
    asked = tells_same files.folder (AsksOnly []) asks_none;
    only = record { writer = refl; read_faults = refl; write_faults = refl };
  }

  -- one more input was read
  pub then_read : {stages : List (Stage work.Requirement)} {inputs : List (List ℕ)} {old mid new : FilesSeen} (role : Role) (name bytes : List ℕ)
      → HasPassed work stages inputs old mid
      → HasBytes mid.folder name bytes → Tells mid.folder new.folder (AsksOnly (name ∷ [])) → HasOnlyRead mid new
      → HasPassed work (stages ++ Read role name ∷ []) (inputs ++ bytes ∷ []) old new
  then_read {stages} {inputs} {old} {mid} {new} role name bytes before has asked only = record {
    passed = pass_read old.folder stages [] inputs role name bytes before.passed
        (has_before (names_read stages) name bytes old.folder mid.folder before.asked has);
    asked = subst (λ (names : List (List ℕ)). Tells old.folder new.folder (AsksOnly names))
        (sym (names_read-append stages (Read role name ∷ [])))
        (then_asks (names_read stages) (name ∷ []) old.folder mid.folder new.folder before.asked asked);
    only = record {
      writer = only.writer ∙ before.only.writer;
      read_faults = only.read_faults ∙ before.only.read_faults;
      write_faults = only.write_faults ∙ before.only.write_faults;
    };
  }

  -- what was read meets one more requirement
  pub then_required : {stages : List (Stage work.Requirement)} {inputs : List (List ℕ)} {old new : FilesSeen} (requirement : work.Requirement)
      → HasPassed work stages inputs old new → Accepts work requirement inputs
      → HasPassed work (stages ++ Require requirement ∷ []) inputs old new
  then_required {stages} {inputs} {old} {new} requirement before accepts = record {
    passed = pass_requirement old.folder stages [] inputs requirement before.passed accepts;
    asked = subst (λ (names : List (List ℕ)). Tells old.folder new.folder (AsksOnly names))
        (sym (names_read-append stages (Require requirement ∷ []) ∙ append-nil (names_read stages))) before.asked;
    only = before.only;
  }

  -- a refusal behind stages that were passed
  pub stops_refused : {stages : List (Stage work.Requirement)} {inputs : List (List ℕ)} {old new : FilesSeen}
      (requirement : work.Requirement) (refusal : Refusal) → HasPassed work stages inputs old new
      → IsFrontOf (stages ++ Require requirement ∷ []) work.stages → work.Refuses requirement inputs refusal
      → Stops work (Refused refusal) old new
  stops_refused {stages} {inputs} requirement refusal before place refuses = record {
    before = stages;
    requirement = requirement;
    inputs = inputs;
    place = place;
    passed = before;
    refuses = refuses;
  }

  -- want of memory behind stages that were passed
  pub stops_for_memory : {stages : List (Stage work.Requirement)} {inputs : List (List ℕ)} {old new : FilesSeen}
      → HasPassed work stages inputs old new → IsFrontOf stages work.stages → Stops work (NoMemory out_of_memory) old new
  stops_for_memory {stages} {inputs} {old} {new} before front = record {
    before = stages;
    next = [];
    inputs = inputs;
    names = names_read stages;
    place = (front.0, front.1 ∙ ap (λ (s : List (Stage work.Requirement)). s ++ front.0) (sym (append-nil stages)));
    one_at_most = omega arith;
    passed = before.passed;
    front = ([], ap names_read (append-nil stages) ∙ sym (append-nil (names_read stages)));
    asked = before.asked;
    read_faults = before.only.read_faults;
    write_faults = before.only.write_faults;
  }

  -- a front of the name of one more read is a front of the names with it
  front_with_name : (stages : List (Stage work.Requirement)) (role : Role) (name : List ℕ) (names : List (List ℕ))
      → IsFrontOf names (name ∷ []) → IsFrontOf (names_read stages ++ names) (names_read (stages ++ Read role name ∷ []))
  front_with_name stages role name names (more, whole) = (
    more,
    names_read-append stages (Read role name ∷ []) ∙ ap (λ (last : List (List ℕ)). names_read stages ++ last) whole
        ∙ sym (append_assoc (names_read stages) names more),
  )

  -- a file was not read, behind stages that were passed
  pub stops_unread : {stages : List (Stage work.Requirement)} {all : List (List ℕ)} {old mid new : FilesSeen} (role : Role) (name : List ℕ)
      (ending : Ending) → HasPassed work stages all old mid → IsFrontOf (stages ++ Read role name ∷ []) work.stages
      → FailsToRead role name ending mid new → Stops work ending old new
  stops_unread {stages} {all} {old} {mid} {new} role name ending before place (inputs.failed is asked rose write) =
      subst (λ (e : Ending). Stops work e old new) (sym is) (record {
        before = stages;
        inputs = all;
        name = name;
        place = place;
        passed = before.passed;
        asked = then_asks (names_read stages) (name ∷ []) old.folder mid.folder new.folder before.asked asked;
        rose = rose_later _ _ _ before.only.read_faults rose;
        write_faults = write ∙ before.only.write_faults;
      })
  stops_unread {stages} {all} {old} {mid} {new} role name ending before place (inputs.no_memory names is front asked read write) =
      subst (λ (e : Ending). Stops work e old new) (sym is) (record {
        before = stages;
        next = Read role name ∷ [];
        inputs = all;
        names = names_read stages ++ names;
        place = place;
        one_at_most = omega arith;
        passed = before.passed;
        front = front_with_name stages role name names front;
        asked = then_asks (names_read stages) names old.folder mid.folder new.folder before.asked asked;
        read_faults = read ∙ before.only.read_faults;
        write_faults = write ∙ before.only.write_faults;
      })

  -- the words or the inputs were refused before any stage
  pub stops_at_once : (files : FilesSeen) (requirement : work.Requirement) (refusal : Refusal)
      → IsFrontOf (Require requirement ∷ []) work.stages → work.Refuses requirement [] refusal → Stops work (Refused refusal) files files
  stops_at_once files requirement refusal stage refuses = stops_refused requirement refusal (begun files) stage refuses
