-- Files that are written in their order, and then out.
use Rattle.std.proofs.Common.{◌≡◌, ℕ, List, [], ◌∷◌, ◌++◌, Option, None, Result, Ok, Err, IfErr, OnOk, refl, sym, ap, subst, ◌∙◌}
use Rattle.pd_io.specs.Counts.{Rose}
use Rattle.pd_io.specs.Folder.{Contents, Folder, put}
use Rattle.pd_io.specs.Telling.{Tells}
use Rattle.pd_io.specs.Whole.{HoldsPart}
use Rattle.pd_io.specs.Seen.{FilesSeen, Seen}
use Rattle.pd_io.proofs.Tellings.{tells_chain, tells_same}
use Rattle.calls.specs.declared.ending.Ending.{Ending}
use Rattle.calls.specs.Work.{Due, Products}
use Rattle.calls.specs.Writing.{put_all, folder_with_all, writer_after, AreWhole, StandsInFile, Writes, in_file, on_out}
use Rattle.calls.specs.Outputs.{FailsToWrite, AreUnwritten, Prints}
use Rattle.calls.specs.Outputs as outputs

-- whole files, and then further ones
pub put_all-append : (held : Contents) (first later : List Due)
    → put_all held (first ++ later) ≡ put_all (put_all held first) later
put_all-append held [] later = refl
put_all-append held (due ∷ first) later = put_all-append (put held due.name due.text) first later

-- behind one more file none is open for writing
writer_after-one : (files : List Due) (due : Due) (writer : Option (List ℕ))
    → writer_after (files ++ due ∷ []) writer ≡ None
writer_after-one [] due writer = refl
writer_after-one (first ∷ files) due writer = refl

-- nothing was written yet
pub none_whole : (files : FilesSeen) → AreWhole [] files files
none_whole files = record {
  told = tells_same files.folder (λ before after. after ≡ folder_with_all [] before) (λ folder. refl);
  writer = refl;
  read_faults = refl;
  write_faults = refl;
}

-- one more file was written
pub one_more_whole : (files : List Due) (due : Due) (old between new : FilesSeen)
    → AreWhole files old between → AreWhole (due ∷ []) between new → AreWhole (files ++ due ∷ []) old new
one_more_whole files due old between new first more = record {
  told = tells_chain old.folder between.folder new.folder (λ before after. after ≡ folder_with_all files before)
      (λ before after. after ≡ folder_with_all (due ∷ []) before)
      (λ before after. after ≡ folder_with_all (files ++ due ∷ []) before) first.told more.told
      (λ x y z once then_one. then_one ∙ ap (folder_with_all (due ∷ [])) once
      ∙ ap (λ (held : Contents). record { held = held; asked = x.asked }) (sym (put_all-append x.held files (due ∷ []))));
  writer = more.writer ∙ sym (writer_after-one files due old.writer);
  read_faults = more.read_faults ∙ first.read_faults;
  write_faults = more.write_faults ∙ first.write_faults;
}

-- the files before one are whole, and of that one a front stands
stands_in_file : (files before later : List Due) (due : Due) (old between new : FilesSeen)
    → files ≡ before ++ due ∷ later → AreWhole before old between
    → Tells between.folder new.folder (HoldsPart due.name due.text) → new.read_faults ≡ between.read_faults
    → StandsInFile files old new
stands_in_file files before later due old between new place whole front read = record {
  before = before;
  due = due;
  later = later;
  place = place;
  told = tells_chain old.folder between.folder new.folder (λ first last. last ≡ folder_with_all before first)
      (HoldsPart due.name due.text) (λ first last. HoldsPart due.name due.text (folder_with_all before first) last) whole.told front
      (λ x y z once then_front. subst (λ (f : Folder). HoldsPart due.name due.text f z) once then_front);
  read_faults = read ∙ whole.read_faults;
}

-- a count that rose after it had stayed rose
pub rose_later : (old between new : ℕ) → between ≡ old → Rose between new → Rose old new
rose_later old between new same rose = subst (λ (count : ℕ). Rose count new) same rose

-- the files were not all written, and out is as it was
pub unwritten : (products : Products) (ending : Ending) (old new : Seen)
    → AreUnwritten products.files ending old.files new.files → new.out ≡ old.out → Writes products ending old new
unfolding stands_in_file
unwritten products ending old new it same_out = by_cause it.fails where
  by_cause : FailsToWrite it.due ending it.between new.files → Writes products ending old new
  by_cause (outputs.failed is front rose read) = subst (λ (e : Ending). Writes products e old new) (sym is) (record {
    stands = stands_in_file products.files it.before it.later it.due old.files it.between new.files it.place it.whole front
        read;
    of_role = refl;
    rose = rose_later _ _ _ it.whole.write_faults rose;
    out = same_out;
  })
  by_cause (outputs.no_memory is front write read) = subst (λ (e : Ending). Writes products e old new) (sym is) (in_file
      (stands_in_file products.files it.before it.later it.due old.files it.between new.files it.place it.whole front read)
      (write ∙ it.whole.write_faults) same_out)

-- all files were written, and then out was, or not
pub printed : (products : Products) (ending : Ending) (old new : Seen)
    → AreWhole products.files old.files new.files → Prints products.out ending old.out new.out
    → Writes products ending old new
printed products ending old new files (outputs.whole is told same) =
    subst (λ (e : Ending). Writes products e old new) (sym is) (record { files = files; out = told; out_faults = same })
printed products ending old new files (outputs.failed is part rose) =
    subst (λ (e : Ending). Writes products e old new) (sym is)
    (record { stands = record { files = files; out = part }; rose = rose })
printed products ending old new files (outputs.no_memory is part same) =
    subst (λ (e : Ending). Writes products e old new) (sym is)
    (on_out (record { files = files; out = part }) same)

-- a file was not written behind whole ones
pub fails_behind : (before : List Due) (due : Due) (later : List Due) (ending : Ending) (old between new : FilesSeen)
    → AreWhole before old between → FailsToWrite due ending between new → AreUnwritten (before ++ due ∷ later) ending old new
fails_behind before due later ending old between new whole fails = record {
  before = before;
  due = due;
  later = later;
  place = refl;
  between = between;
  whole = whole;
  fails = fails;
}

-- the last file was written behind whole ones, if this result is one that says so
pub last_whole : {T : Type 0} (result : Result T Ending) (before : List Due) (due : Due) (old between new : FilesSeen)
    → AreWhole before old between → OnOk result (AreWhole (due ∷ []) between new) → OnOk result (AreWhole (before ++ due ∷ []) old new)
last_whole (Ok done) before due old between new whole last = one_more_whole before due old between new whole last
last_whole (Err ending) before due old between new whole last = tt

-- or it was not
pub last_fails : {T : Type 0} (result : Result T Ending) (before : List Due) (due : Due) (old between new : FilesSeen)
    → AreWhole before old between → IfErr result (λ ending. FailsToWrite due ending between new)
    → IfErr result (λ ending. AreUnwritten (before ++ due ∷ []) ending old new)
last_fails (Ok done) before due old between new whole fails = tt
last_fails (Err ending) before due old between new whole fails = fails_behind before due [] ending old between new whole fails
