-- Undoing writes, a part after another, and whatever was noted.
use Rattle.std.proofs.Common.{◌≡◌, ℕ, ◌-◌, ◌≤◌, List, [], ◌∷◌, ◌++◌, length, take, drop, refl, sym, ap, ◌∙◌, arith}
use Rattle.std.proofs.Math.ListN.{set}
use Rattle.std.proofs.lemmas.List.{length-set, length-take, take-append-drop, drop-append-le, drop_at, length_push, set-set, set-get_or}
use Rattle.std.proofs.lemmas.Option.{get_or_from_slice_get}
use Rattle.undo_trail.specs.declared.trail.Note.{Note}
use Rattle.undo_trail.specs.Undoing.{undone, AreNoted}
use Rattle.undo_trail.specs.Undoing.AreNoted.{none, more}

module _ {T : Type 0} where
  -- a part after another
  pub undone-append : (first second : List (Note T)) (values : List T)
      → undone (first ++ second) values ≡ undone first (undone second values)
  undone-append [] second values = refl
  undone-append (note ∷ notes) second values = ap (λ (v : List T). set v note.index note.old) (undone-append notes second values)

  pub length-undone : (notes : List (Note T)) (values : List T) → length (undone notes values) ≡ length values
  length-undone [] values = refl
  length-undone (note ∷ notes) values = length-set (undone notes values) note.index note.old ∙ length-undone notes values

  -- the last note first, and then the others since the mark
  pub undone_last : (notes : List (Note T)) (values : List T) (mark n : ℕ) → mark ≤ n → n ≤ length notes
      → undone (drop mark (take n notes)) (undone (drop n notes) values) ≡ undone (drop mark notes) values
  undone_last notes values mark n below within =
      let inside : mark ≤ length (take n notes) = let e = length-take n notes in omega arith in
      sym (undone-append (drop mark (take n notes)) (drop n notes) values)
      ∙ ap (λ (ns : List (Note T)). undone ns values)
      (sym (drop-append-le mark (take n notes) (drop n notes) inside) ∙ ap (drop mark) (take-append-drop n notes))

  -- writes that were noted are undone
  pub undone_noted : (notes : List (Note T)) (before after : List T) → AreNoted notes before after → undone notes after ≡ before
  undone_noted [] before after none = refl
  undone_noted (note ∷ notes) before after (more to was rest) =
      ap (λ (v : List T). set v note.index note.old) (undone_noted notes (set before note.index to) after rest)
      ∙ set-set before note.index to note.old
      ∙ ap (set before note.index) (sym (get_or_from_slice_get before note.index note.old note.old was))
      ∙ set-get_or before note.index note.old

  -- the last note alone
  pub last_dropped : (notes front : List (Note T)) (note : Note T) → notes ≡ front ++ note ∷ [] → drop (length notes - 1) notes ≡ note ∷ []
  last_dropped notes front note is =
      ap (λ (ns : List (Note T)). drop (length ns - 1) ns) is
      ∙ drop_at front (note ∷ []) (length (front ++ note ∷ []) - 1) (let e = length_push front note in omega arith)
