-- One input: what is known of it where it is over the limit, and where memory ran out.
use Rattle.std.proofs.Common.{◌≡◌, ℕ, ◌+◌, ◌<◌, List, [], ◌∷◌, length, Option, None, Some, Result, Err, refl, sym, ap, subst, arith}
use Rattle.std.proofs.lemmas.List.{append-nil, length-replicate}
use Rattle.std.specs.Prelude.{Vec, replicate, MatchResult, ◌≢◌, IsErrOf}
use Rattle.std.specs.declared.alloc.Global.{Global}
use Rattle.pd_base.specs.Memory.{out_of_memory}
use Rattle.pd_io.specs.declared.fault.ReadFault.{ReadFault}
use Rattle.pd_io.specs.declared.fault.ReadFault.TheVariants as reading
use Rattle.pd_io.specs.Counts.{HasCause}
use Rattle.pd_io.specs.Folder.{Folder, bytes_at}
use Rattle.pd_io.specs.Telling.{Tells, IsFrontOf}
use Rattle.pd_io.specs.Whole.{AsksFor}
use Rattle.pd_io.specs.Whole as whole
use Rattle.pd_io.specs.Seen.{FilesSeen}
use Rattle.pd_io.proofs.Tellings.{tells_weaker}
use Rattle.calls.specs.declared.role.Role.{Role}
use Rattle.calls.specs.declared.ending.Ending.TheVariants as ended
use Rattle.calls.specs.Passing.{AsksOnly, HasBytes}
use Rattle.calls.specs.Inputs.{ReadsInput, FailsToRead, no_memory}

-- nothing was asked
pub asks_none : (folder : Folder) → AsksOnly [] folder folder
asks_none folder =
    ap (λ (asked : List (List ℕ)). record { held = folder.held; asked = asked }) (sym (append-nil folder.asked))

-- there are bytes over the limit which the name has as far as the files tell
over_limit : (limit : ℕ) (name : List ℕ) (old new : Option Folder)
    → Tells old new (λ folder _. limit < length (bytes_at folder.held name))
    → (bytes : List ℕ) × (limit < length bytes) × HasBytes old name bytes
over_limit limit name None new told =
    (replicate (limit + 1) 0, omega (arith, length-replicate {A = ℕ} (limit + 1) 0), tt)
over_limit limit name (Some folder) None told = absurd told
over_limit limit name (Some folder) (Some after) told = (bytes_at folder.held name, told, refl)

-- a count did not change where the answer is another than the one that it counts
uncounted : {T : Type 0} (result : Result T ReadFault) (fault : ReadFault) (old new : ℕ) → result ≡ Err fault
    → (fault ≡ reading.Failed → ⊥) → HasCause old new result reading.Failed → new ≡ old
uncounted {T} result fault old new is other cause =
    let Q : Result T ReadFault → Type 0 = λ r. MatchResult r (λ _. new ≡ old) (λ e. e ≢ reading.Failed → new ≡ old) in
    subst Q is cause.only_then other

-- a read that found no want of memory asked the name
asked_once : {T : Type 0} (result : Result T ReadFault) (name : List ℕ) (old new : Folder) → result ≡ Err reading.TooLong
    → AsksFor result name old new → AsksOnly (name ∷ []) old new
asked_once result name old new is (whole.asked is_asked) = is_asked
asked_once result name old new is (whole.no_memory why same) = absurd (cc)

-- the file is over the limit
pub too_long : (limit : ℕ) (name : List ℕ) (result : Result (Vec ℕ Global) ReadFault) (old new : FilesSeen)
    → result ≡ Err reading.TooLong
    → (IsErrOf result reading.TooLong
    → Tells old.folder new.folder (λ folder _. limit < length (bytes_at folder.held name)))
    → Tells old.folder new.folder (AsksFor result name)
    → HasCause old.read_faults new.read_faults result reading.Failed
    → (IsErrOf result reading.TooLong → new.reader ≡ Some (record { name = name; place = limit + 1 }))
    → (IsErrOf result reading.TooLong → new.writer ≡ old.writer) → new.write_faults ≡ old.write_faults
    → ReadsInput limit name None old new
too_long limit name result old new is over asked cause reader writer write =
    let is_err : IsErrOf result reading.TooLong =
    (let Q : Result (Vec ℕ Global) ReadFault → Type 0 = λ r. IsErrOf r reading.TooLong in subst Q (sym is) refl) in
    let has = over_limit limit name old.folder new.folder (over is_err) in record {
      bytes = has.0;
      is_read = has.1;
      has = has.2;
      reader = reader is_err;
      asked = tells_weaker old.folder new.folder (AsksFor result name) (AsksOnly (name ∷ [])) asked
          (λ x y asks. asked_once result name x y is asks);
      only = record {
        writer = writer is_err;
        read_faults = uncounted result reading.TooLong old.read_faults new.read_faults is (λ same. cc) cause;
        write_faults = write;
      };
    }

-- the names that were asked by a read of one file, whatever its answer
names_asked : {T : Type 0} (result : Result T ReadFault) (name : List ℕ) (old new : Option Folder)
    → Tells old new (AsksFor result name)
    → (names : List (List ℕ)) × IsFrontOf names (name ∷ []) × Tells old new (AsksOnly names)
names_asked result name None None told = ([], (name ∷ [], refl), told)
names_asked result name None (Some after) told = absurd told
names_asked result name (Some before) None told = absurd told
names_asked result name (Some before) (Some after) (whole.asked is_asked) = (name ∷ [], ([], refl), is_asked)
names_asked result name (Some before) (Some after) (whole.no_memory why same) =
    ([], (name ∷ [], refl), subst (AsksOnly [] before) (sym same) (asks_none before))

-- memory ran out
pub without_memory : (role : Role) (name : List ℕ) (result : Result (Vec ℕ Global) ReadFault) (old new : FilesSeen)
    → result ≡ Err (reading.NoMemory out_of_memory) → Tells old.folder new.folder (AsksFor result name)
    → HasCause old.read_faults new.read_faults result reading.Failed → new.write_faults ≡ old.write_faults
    → FailsToRead role name (ended.NoMemory out_of_memory) old new
without_memory role name result old new is asked cause write =
    let names = names_asked result name old.folder new.folder asked in
    no_memory names.0 refl names.1 names.2
    (uncounted result (reading.NoMemory out_of_memory) old.read_faults new.read_faults is (λ same. cc) cause) write
