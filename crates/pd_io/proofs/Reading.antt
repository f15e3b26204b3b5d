-- A file that is read piece by piece.
use Rattle.std.proofs.Common.{◌≡◌, ℕ, ◌+◌, ◌<◌, ◌≤◌, List, [], ◌++◌, length, take, drop, Option, Some, Result, Ok, refl, sym, ap, subst, ◌∙◌, append_assoc, length-append, arith}
use Rattle.std.proofs.lemmas.List.{append-nil, take-append-le, drop_at, length-take-le}
use Rattle.pd_io.specs.declared.fault.ReadFault.{ReadFault}
use Rattle.pd_io.specs.Telling.{Tells, IsFrontOf}
use Rattle.pd_io.specs.Folder.{Folder, Reader, Contents, bytes_at, reader_after, HoldsNext, GivesNext}
use Rattle.pd_io.specs.Whole.{folder_after_asking, AsksFor}
use Rattle.pd_io.specs.Whole.AsksFor.{asked}
use Rattle.pd_io.proofs.Tellings.{tells_weaker, tells_unchanged}
use Rattle.pd_io.proofs.Handing.{cut_at}

-- the new folder is the old one with this name asked
abbrev pub Asks : List ℕ → Folder → Folder → Type 0
Asks name old new = new ≡ folder_after_asking old name

-- the name was asked, and these bytes are a front of the file's
abbrev pub ReadsFront : List ℕ → List ℕ → Folder → Folder → Type 0
ReadsFront name bytes old new = Asks name old new × IsFrontOf bytes (bytes_at old.held name)

-- the file is open, its reader stands behind these bytes, and they are a front of the file's
pub record Reading (before now : Option Folder) (reader : Option Reader) (name bytes : List ℕ) : Type 0 where
  pub place : reader ≡ Some (record { name = name; place = length bytes })
  pub told : Tells before now (ReadsFront name bytes)

-- the file was just opened
pub reading_begun : (before now : Option Folder) (reader : Option Reader) (name : List ℕ)
    → reader ≡ Some (record { name = name; place = 0 }) → Tells before now (Asks name) → Reading before now reader name []
reading_begun before now reader name e t = record {
  place = e;
  told = tells_weaker before now (Asks name) (ReadsFront name []) t (λ x y p. (p, (bytes_at x.held name, refl)));
}

-- what is left of a text behind its front
left_of : (content bytes rest : List ℕ) → content ≡ bytes ++ rest → drop (length bytes) content ≡ rest
left_of content bytes rest e = ap (drop (length bytes)) e ∙ drop_at bytes rest (length bytes) refl

-- the front with the next bytes is a front
next_front : (content bytes buffer : List ℕ) (count : ℕ) → IsFrontOf bytes content
    → HoldsNext (drop (length bytes) content) count buffer → IsFrontOf (bytes ++ take count buffer) content
next_front content bytes buffer count (rest, split) n =
    let piece : take count buffer ≡ take count rest = n.bytes ∙ ap (take count) (left_of content bytes rest split) in (
      drop count rest,
      split ∙ ap (λ l. bytes ++ l) (cut_at rest (drop count rest) count refl)
          ∙ sym (append_assoc bytes (take count rest) (drop count rest))
          ∙ ap (λ p. (bytes ++ p) ++ drop count rest) (sym piece),
    )

-- where nothing comes next the front is the whole
next_none : (content bytes buffer : List ℕ) → IsFrontOf bytes content → HoldsNext (drop (length bytes) content) 0 buffer
    → bytes ≡ content
next_none content bytes buffer (rest, split) n =
    sym (split ∙ ap (λ l. bytes ++ l) (sym (left_of content bytes rest split) ∙ n.none_at_end refl) ∙ append-nil bytes)

-- what a read gave, at the place that is known
given_at : (folder : Folder) (held : Contents) (reader : Option Reader) (name bytes buffer : List ℕ) (count : ℕ)
    → reader ≡ Some (record { name = name; place = length bytes }) → folder.held ≡ held → GivesNext folder reader count buffer
    → HoldsNext (drop (length bytes) (bytes_at held name)) count buffer
given_at folder held reader name bytes buffer count e h g =
    let F : Option Reader → Type 0 = λ r. GivesNext folder r count buffer in
    let H : Contents → Type 0 = λ c. HoldsNext (drop (length bytes) (bytes_at c name)) count buffer in
    subst H h (subst F e g)

-- a front of a buffer is one of its first part
pub more_bytes : (more bytes buffer rest : List ℕ) (count : ℕ) → more ≡ bytes ++ take count (buffer ++ rest)
    → count ≤ length buffer → more ≡ bytes ++ take count buffer
more_bytes more bytes buffer rest count e w = e ∙ ap (λ l. bytes ++ l) (take-append-le count buffer rest w)

-- while the bytes so far are a front of the file's
module _ (before now : Option Folder) (reader : Option Reader) (name bytes : List ℕ) (h : Reading before now reader name bytes) where
  -- a read gave the next bytes
  pub reading_more : (next : Option Folder) (after : Option Reader) (buffer more : List ℕ) (count : ℕ) → count ≤ length buffer
      → Tells now next (λ old _. GivesNext old reader count buffer) → next ≡ now → after ≡ reader_after reader (Ok count)
      → more ≡ bytes ++ take count buffer → Reading before next after name more
  reading_more next after buffer more count w t same m e =
      let piece = take count buffer in
      let longer : length bytes + count ≡ length (bytes ++ piece) =
      sym (length-append bytes piece ∙ ap (λ n. length bytes + n) (length-take-le count buffer w)) in
      subst (Reading before next after name) (sym e) record {
        place = m ∙ ap (λ r. reader_after r (Ok count)) h.place ∙ ap (λ n. Some (record { name = name; place = n })) longer;
        told = tells_unchanged before now next (ReadsFront name bytes) (ReadsFront name (bytes ++ piece))
            (λ y. GivesNext y reader count buffer) h.told t same
            (λ x y (asks, front) given. (
              asks,
              next_front (bytes_at x.held name) bytes buffer count front
                  (given_at y x.held reader name bytes buffer count h.place (ap (λ f. f.held) asks) given),
            ));
      }

  -- a read gave nothing: these are all bytes of the file
  pub reading_end : (next : Option Folder) (buffer : List ℕ) → Tells now next (λ old _. GivesNext old reader 0 buffer) → next ≡ now
      → Tells before next (λ old _. bytes ≡ bytes_at old.held name)
  reading_end next buffer t same =
      tells_unchanged before now next (ReadsFront name bytes) (λ old _. bytes ≡ bytes_at old.held name)
      (λ y. GivesNext y reader 0 buffer) h.told t same
      (λ x y (asks, front) given. next_none (bytes_at x.held name) bytes buffer front
      (given_at y x.held reader name bytes buffer 0 h.place (ap (λ f. f.held) asks) given))

  -- the same of a read whose count is 0
  pub reading_ended : (next : Option Folder) (buffer : List ℕ) (count : ℕ) → count ≡ 0
      → Tells now next (λ old _. GivesNext old reader count buffer) → next ≡ now
      → Tells before next (λ old _. bytes ≡ bytes_at old.held name)
  reading_ended next buffer count none t same =
      reading_end next buffer (subst (λ n. Tells now next (λ old _. GivesNext old reader n buffer)) none t) same

  -- the file is no shorter than what was read
  pub reading_over : (limit : ℕ) → limit < length bytes → Tells before now (λ old _. limit < length (bytes_at old.held name))
  reading_over limit l =
      tells_weaker before now (ReadsFront name bytes) (λ old _. limit < length (bytes_at old.held name)) h.told
      (λ x y (_, (rest, split)).
      let e : length (bytes_at x.held name) ≡ length bytes + length rest = ap length split ∙ length-append bytes rest in
      omega arith)

  -- the name was asked once, whatever came
  pub reading_asks : {T : Type 0} (result : Result T ReadFault) → Tells before now (AsksFor result name)
  reading_asks result = tells_weaker before now (ReadsFront name bytes) (AsksFor result name) h.told (λ x y p. asked p.0)

  -- the same behind one more read
  pub reading_asked : (next : Option Folder) → next ≡ now → {T : Type 0} (result : Result T ReadFault)
      → Tells before next (AsksFor result name)
  reading_asked next same result = subst (λ f. Tells before f (AsksFor result name)) (sym same) (reading_asks result)
