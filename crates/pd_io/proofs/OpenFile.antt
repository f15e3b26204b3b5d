-- Bytes that go to the open file, some at a time; and a file that is begun, and then takes a text.
use Rattle.std.proofs.Common.{◌≡◌, ℕ, Bool, true, false, cond, List, [], ◌++◌, take, drop, Option, None, Some, Result, Ok, Err, OnErr, OnOk, refl, sym, ap, subst, ◌∙◌, append_assoc, nat_eq}
use Rattle.std.proofs.lemmas.List.{append-nil}
use Rattle.std.proofs.lemmas.Slice.Eq.{bytes_eq-Decides}
use Rattle.std.specs.Cmp.Lexicographic.{pointwise}
use Rattle.pd_io.specs.declared.fault.FileFault.{FileFault}
use Rattle.pd_io.specs.OpenFile.{AppendsTo, TakesFront, TakesUpTo, KeepsOpen}
use Rattle.pd_io.specs.Telling.{Tells}
use Rattle.pd_io.specs.Folder.{Folder, Contents, bytes_at, put, contents_after_write}
use Rattle.pd_io.specs.Folder.HoldsFront.{front, untouched}
use Rattle.pd_io.specs.Seen.{FilesSeen}
use Rattle.pd_io.specs.Whole.{folder_with, HoldsPart}
use Rattle.pd_io.proofs.Tellings.{tells_chain, tells_same, tells_weaker}
use Rattle.pd_io.proofs.Handing.{cut_at}

-- of two tests of one Bool the outer one tells
pub cond_twice : {A : Type 0} (b : Bool) (x y z : A) → cond b x (cond b y z) ≡ cond b x z
cond_twice true x y z = refl
cond_twice false x y z = refl

-- the later of two texts under one name stands
pub put-put : (held : Contents) (name a b : List ℕ) → put (put held name a) name b ≡ put held name b
put-put held name a b = λ i other. cond_twice (pointwise nat_eq other name) (Some b) (Some a) (held other) i

-- what was put under a name is there
pub bytes_at-put : (held : Contents) (name a : List ℕ) → bytes_at (put held name a) name ≡ a
bytes_at-put held name a = rw (bytes_eq-Decides name name).1 refl

-- writing more of a text under its name
pub put_more : (held : Contents) (name a b : List ℕ)
    → put (put held name a) name (bytes_at (put held name a) name ++ b) ≡ put held name (a ++ b)
put_more held name a b =
    put-put held name a (bytes_at (put held name a) name ++ b) ∙ ap (λ t. put held name (t ++ b)) (bytes_at-put held name a)

-- the new folder is the old one with this text under the name
abbrev pub Stores : List ℕ → List ℕ → Folder → Folder → Type 0
Stores name text old new = new ≡ folder_with old name text

-- the new folder is the old one after a `write` of these bytes
abbrev pub Writes : Option (List ℕ) → Result ℕ FileFault → List ℕ → Folder → Folder → Type 0
Writes writer result bytes old new =
    new ≡ record { held = contents_after_write old.held writer result bytes; asked = old.asked }

-- no byte was appended
appends_none : (writer : Option (List ℕ)) (folder : Folder) → AppendsTo writer [] folder folder
appends_none None folder = refl
appends_none (Some name) folder = λ others held stood. stood ∙ ap (folder_with others name) (sym (append-nil held))

-- two pieces were appended, one behind the other
appends_both : (writer : Option (List ℕ)) (one two : List ℕ) (old mid new : Folder) → AppendsTo writer one old mid
    → AppendsTo writer two mid new → AppendsTo writer (one ++ two) old new
appends_both None one two old mid new first second = second ∙ first
appends_both (Some name) one two old mid new first second =
    λ others held stood. second others (held ++ one) (first others held stood) ∙ ap (folder_with others name) (append_assoc held one two)

-- a `write` appended the first of the bytes that it was offered
appends_written : (writer : Option (List ℕ)) (bytes : List ℕ) (count : ℕ) (old new : Folder) → Writes writer (Ok count) bytes old new
    → AppendsTo writer (take count bytes) old new
appends_written None bytes count old new written = written
appends_written (Some name) bytes count old new written =
    λ others held stood. written
    ∙ ap (λ (f : Folder). record { held = contents_after_write f.held (Some name) (Ok count) bytes; asked = f.asked }) stood
    ∙ ap (λ (c : Contents). record { held = c; asked = others.asked }) (put_more others.held name held (take count bytes))

-- one that failed left the folder as it was
write_failed : (writer : Option (List ℕ)) (error : FileFault) (bytes : List ℕ) (old new : Folder) → Writes writer (Err error) bytes old new
    → new ≡ old
write_failed None error bytes old new failed = failed
write_failed (Some name) error bytes old new failed = failed

-- the open file took nothing yet
takes_none : (writer : Option (List ℕ)) (coming : List ℕ) (folder : Folder) → TakesUpTo writer coming coming folder folder
takes_none writer coming folder = record { piece = []; split = refl; appended = appends_none writer folder }

-- it took more
takes_both : (writer : Option (List ℕ)) (coming next left : List ℕ) (old mid new : Folder) → TakesUpTo writer coming next old mid
    → TakesUpTo writer next left mid new → TakesUpTo writer coming left old new
takes_both writer coming next left old mid new first second = record {
  piece = first.piece ++ second.piece;
  split = first.split ∙ ap (λ (l : List ℕ). first.piece ++ l) second.split ∙ sym (append_assoc first.piece second.piece left);
  appended = appends_both writer first.piece second.piece old mid new first.appended second.appended;
}

-- so it is with further bytes behind those that are to come
takes_before : (writer : Option (List ℕ)) (coming left later : List ℕ) (old new : Folder) → TakesUpTo writer coming left old new
    → TakesUpTo writer (coming ++ later) (left ++ later) old new
takes_before writer coming left later old new taken = record {
  piece = taken.piece;
  split = ap (λ (l : List ℕ). l ++ later) taken.split ∙ append_assoc taken.piece left later;
  appended = taken.appended;
}

module _ (writer : Option (List ℕ)) where
  -- the same over what is told
  pub told_none : (now : Option Folder) (coming : List ℕ) → Tells now now (TakesUpTo writer coming coming)
  told_none now coming = tells_same now (TakesUpTo writer coming coming) (takes_none writer coming)

  pub told_both : (old mid new : Option Folder) (coming next left : List ℕ) → Tells old mid (TakesUpTo writer coming next)
      → Tells mid new (TakesUpTo writer next left) → Tells old new (TakesUpTo writer coming left)
  told_both old mid new coming next left first second =
      tells_chain old mid new (TakesUpTo writer coming next) (TakesUpTo writer next left) (TakesUpTo writer coming left) first second
      (takes_both writer coming next left)

  pub told_before : (old new : Option Folder) (coming left later : List ℕ) → Tells old new (TakesUpTo writer coming left)
      → Tells old new (TakesUpTo writer (coming ++ later) (left ++ later))
  told_before old new coming left later taken =
      tells_weaker old new (TakesUpTo writer coming left) (TakesUpTo writer (coming ++ later) (left ++ later)) taken
      (takes_before writer coming left later)

  -- what it took of the bytes is a front of them
  pub told_front : (old new : Option Folder) (coming left : List ℕ) → Tells old new (TakesUpTo writer coming left)
      → Tells old new (TakesFront writer coming)
  told_front old new coming left taken =
      tells_weaker old new (TakesUpTo writer coming left) (TakesFront writer coming) taken (λ x y t. (left, t))

  -- after more it took a front of what was left
  pub told_both_front : (old mid new : Option Folder) (coming next : List ℕ) → Tells old mid (TakesUpTo writer coming next)
      → Tells mid new (TakesFront writer next) → Tells old new (TakesFront writer coming)
  told_both_front old mid new coming next first second =
      tells_chain old mid new (TakesUpTo writer coming next) (TakesFront writer next) (TakesFront writer coming) first second
      (λ x y z one two. (two.0, takes_both writer coming next two.0 x y z one two.1))

  -- and with further bytes behind
  pub told_front_before : (old new : Option Folder) (coming later : List ℕ) → Tells old new (TakesFront writer coming)
      → Tells old new (TakesFront writer (coming ++ later))
  told_front_before old new coming later taken =
      tells_weaker old new (TakesFront writer coming) (TakesFront writer (coming ++ later)) taken
      (λ x y t. (t.0 ++ later, takes_before writer coming t.0 later x y t.1))

  module _ (open_name : Option (List ℕ)) (same : open_name ≡ writer) where
    -- the same, where the later call knows the open file by another name of it
    pub told_later : (old mid new : Option Folder) (coming next left : List ℕ) → Tells old mid (TakesUpTo writer coming next)
        → Tells mid new (TakesUpTo open_name next left) → Tells old new (TakesUpTo writer coming left)
    told_later old mid new coming next left first second =
        let P : Option (List ℕ) → Type 0 = λ w. Tells mid new (TakesUpTo w next left) in
        told_both old mid new coming next left first (subst P same second)

    pub told_later_front : (old mid new : Option Folder) (coming next : List ℕ) → Tells old mid (TakesUpTo writer coming next)
        → Tells mid new (TakesFront open_name next) → Tells old new (TakesFront writer coming)
    told_later_front old mid new coming next first second =
        let P : Option (List ℕ) → Type 0 = λ w. Tells mid new (TakesFront w next) in
        told_both_front old mid new coming next first (subst P same second)

  module _ (open_name : Option (List ℕ)) (same : open_name ≡ writer) (old new : Option Folder) (bytes : List ℕ) where
    -- a `write` took the first of the bytes
    pub told_written : (left : List ℕ) (count : ℕ) → Tells old new (Writes open_name (Ok count) bytes) → left ≡ drop count bytes
        → Tells old new (TakesUpTo writer bytes left)
    told_written left count written is =
        let P : Option (List ℕ) → Type 0 = λ w. Tells old new (TakesUpTo w bytes left) in
        subst P same
        (tells_weaker old new (Writes open_name (Ok count) bytes) (TakesUpTo open_name bytes left) written
        (λ x y w. record { piece = take count bytes; split = cut_at bytes left count is; appended = appends_written open_name bytes count x y w }))

    -- a `write` failed
    pub told_failed : (error : FileFault) → Tells old new (Writes open_name (Err error) bytes) → Tells old new (TakesFront writer bytes)
    told_failed error failed =
        tells_weaker old new (Writes open_name (Err error) bytes) (TakesFront writer bytes) failed
        (λ x y w. (bytes, subst (λ (f : Folder). TakesUpTo writer bytes bytes x f) (sym (write_failed open_name error bytes x y w)) (takes_none writer bytes x)))

-- calls that each keep the open files
pub keeps_none : (files : FilesSeen) → KeepsOpen files files
keeps_none files = record { reader = refl; writer = refl; read_faults = refl }

pub keeps_both : (old mid new : FilesSeen) → KeepsOpen old mid → KeepsOpen mid new → KeepsOpen old new
keeps_both old mid new first second = record {
  reader = second.reader ∙ first.reader;
  writer = second.writer ∙ first.writer;
  read_faults = second.read_faults ∙ first.read_faults;
}

-- where no name's bytes changed, what stood under the name is still there
pub untouched_part : (before now : Option Folder) (name text : List ℕ) → Tells before now (λ old new. new ≡ old)
    → Tells before now (HoldsPart name text)
untouched_part before now name text same =
    tells_weaker before now (λ old new. new ≡ old) (HoldsPart name text) same
    (λ x y s. record { held = untouched (ap (λ (f : Folder). f.held) s); asked = ap (λ (f : Folder). f.asked) s })

-- a whole text is a front of itself
pub stored_part : (before now : Option Folder) (name text : List ℕ) → Tells before now (Stores name text) → Tells before now (HoldsPart name text)
stored_part before now name text stored =
    tells_weaker before now (Stores name text) (HoldsPart name text) stored
    (λ x y s. record { held = front text ([], sym (append-nil text)) (ap (λ (f : Folder). f.held) s); asked = ap (λ (f : Folder). f.asked) s })

module _ (before begun after : Option Folder) (writer : Option (List ℕ)) (name text : List ℕ) (open_name : writer ≡ Some name)
    (begins : Tells before begun (Stores name [])) where
  -- a file that was begun took a whole text
  pub begun_whole : Tells begun after (TakesUpTo writer text []) → Tells before after (Stores name text)
  begun_whole taken =
      let P : Option (List ℕ) → Type 0 = λ w. Tells begun after (TakesUpTo w text []) in
      tells_chain before begun after (Stores name []) (TakesUpTo (Some name) text []) (Stores name text) begins (subst P open_name taken)
      (λ x y z b t. t.appended x [] b ∙ ap (folder_with x name) (sym (t.split ∙ append-nil t.piece)))

  -- or a front of it
  pub begun_part : Tells begun after (TakesFront writer text) → Tells before after (HoldsPart name text)
  begun_part taken =
      let P : Option (List ℕ) → Type 0 = λ w. Tells begun after (TakesFront w text) in
      tells_chain before begun after (Stores name []) (TakesFront (Some name) text) (HoldsPart name text) begins (subst P open_name taken)
      (λ x y z b t.
      let is = t.1.appended x [] b in
      record { held = front t.1.piece (t.0, t.1.split) (ap (λ (f : Folder). f.held) is); asked = ap (λ (f : Folder). f.asked) is })

  -- what stands after the last call, which leaves the folder as it is
  pub ended_whole : (last : Option Folder) → last ≡ after → Tells begun after (TakesUpTo writer text []) → Tells before last (Stores name text)
  ended_whole last same taken = let P : Option Folder → Type 0 = λ f. Tells before f (Stores name text) in subst P (sym same) (begun_whole taken)

  pub ended_part : (last : Option Folder) → last ≡ after → Tells begun after (TakesUpTo writer text []) → Tells before last (HoldsPart name text)
  ended_part last same taken = stored_part before last name text (ended_whole last same taken)

-- a text is to come, of which the open file took a front; then it is offered what is left of it
module _ {T : Type 0} (writer open_name : Option (List ℕ)) (same : open_name ≡ writer) (old mid new : Option Folder)
    (coming text next shown : List ℕ) (is_text : coming ≡ text) (is_next : shown ≡ next)
    (first : Tells old mid (TakesUpTo writer coming next)) (result : Result T FileFault) where
  -- the text is to come, and what is left of it is shown
  shown_first : Tells old mid (TakesUpTo writer text shown)
  shown_first =
      let P : List ℕ → Type 0 = λ l. Tells old mid (TakesUpTo writer l next) in
      let Q : List ℕ → Type 0 = λ l. Tells old mid (TakesUpTo writer text l) in
      subst Q (sym is_next) (subst P is_text first)

  pub rest_taken : OnOk result (Tells mid new (TakesUpTo open_name shown [])) → OnOk result (Tells old new (TakesUpTo writer text []))
  rest_taken second = taken_in result second where
    taken_in : (r : Result T FileFault) → OnOk r (Tells mid new (TakesUpTo open_name shown []))
        → OnOk r (Tells old new (TakesUpTo writer text []))
    taken_in (Ok done) taken = told_later writer open_name same old mid new text shown [] shown_first taken
    taken_in (Err error) taken = tt

  pub rest_front_taken : OnErr result (Tells mid new (TakesFront open_name shown)) → OnErr result (Tells old new (TakesFront writer text))
  rest_front_taken second = front_in result second where
    front_in : (r : Result T FileFault) → OnErr r (Tells mid new (TakesFront open_name shown))
        → OnErr r (Tells old new (TakesFront writer text))
    front_in (Ok done) taken = tt
    front_in (Err error) taken = told_later_front writer open_name same old mid new text shown shown_first taken
