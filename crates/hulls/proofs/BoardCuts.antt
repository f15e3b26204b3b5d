-- What a cut of one line does to a board, and what undoing does.
use Rattle.std.proofs.Common.{◌≡◌, ◌≢◌, ℕ, ◌*◌, ◌<◌, ◌≤◌, ◌^◌, inr, bit_and, List, [], ◌∷◌, ◌++◌, Option, length, take, drop, refl, sym, ap, ap₂, ◌∙◌, subst, arith}
use Rattle.std.proofs.Math.ListN.{set}
use Rattle.std.specs.List.{All}
use Rattle.std.proofs.lemmas.Nat.{and_le_l}
use Rattle.std.proofs.lemmas.List.{length-set, set-set, set-get_or, take-append-drop}
use Rattle.std.proofs.lemmas.List.Elements.{All-set, All-push, All-take, All-drop}
use Rattle.pd_base.specs.Links.{LinkList}
use Rattle.pd_base.specs.declared.ids.GateId.{GateId}
use Rattle.netlist.specs.Circuit.{Circuit}
use Rattle.state_sets.specs.declared.state.StateSet.{StateSet}
use Rattle.state_sets.specs.States.{both_sets, no_states}
use Rattle.state_sets.specs.Labellings.{label_at}
use Rattle.undo_trail.specs.declared.trail.Note.{Note}
use Rattle.hulls.specs.Boards.{OnBoard, IsBoard}
use Rattle.hulls.specs.Falling.{states_left, Falls}
use Rattle.undo_trail.specs.Noted.{Noted}
use Rattle.hulls.specs.Awaiting.{Awaited, IsMore}
use Rattle.hulls.specs.Settling.{IsCutTo, AreWaiting, AreLinksWaiting}
use Rattle.undo_trail.specs.Undoing.{undone}
use Rattle.undo_trail.proofs.Undoing.{length-undone}
use Rattle.hulls.proofs.Falling.{left_fewer, falls_more, falls_front, notes_fit, undone_within}

module _ (count : ℕ) (labels : List StateSet) (notes : List (Note StateSet)) (awaited : Awaited)
    (links : LinkList) (room : ℕ) where
  abbrev board : OnBoard
  board = record { labels = labels; notes = notes; waiting = awaited.waiting; inside = awaited.inside; links = links }

  module _ (is : IsBoard count board room) where
    module _ (line : ℕ) (inside : line < length labels) (to : StateSet) where
      abbrev left : StateSet
      left = both_sets (label_at labels line) to

      abbrev note : Note StateSet
      note = record { index = line; old = label_at labels line }

      abbrev cut : List StateSet
      cut = set labels line left

      old_within : (label_at labels line).0 < 2 ^ count
      old_within = is.within line no_states inside

      -- a cut that takes states
      module _ (differs : bit_and (label_at labels line).0 to.0 ≢ (label_at labels line).0) where
        less : states_left count cut < states_left count labels
        less = left_fewer count labels line to inside old_within differs

        pub note_room : length notes < room
        note_room = let e = notes_fit count notes labels is.falls in let f = less in let g = is.enough in omega arith

        back : set cut line (label_at labels line) ≡ labels
        back = set-set labels line left (label_at labels line) ∙ set-get_or labels line no_states

        module _ (more : Awaited) (many : IsMore awaited more) where
          abbrev moved : OnBoard
          moved = record { labels = cut; notes = notes ++ note ∷ []; waiting = more.waiting; inside = more.inside; links = links }

          cut_within : All (λ (s : StateSet). s.0 < 2 ^ count) cut
          cut_within = All-set (λ (s : StateSet). s.0 < 2 ^ count) labels line left
              (let e = and_le_l (label_at labels line).0 to.0 in let f = old_within in omega arith) is.within

          pub moved_is : IsBoard count moved room
          moved_is = record {
            within = cut_within;
            olds = All-push (λ (n : Note StateSet). n.old.0 < 2 ^ count) notes note is.olds old_within;
            on_lines = All-push (λ (n : Note StateSet). n.index < length cut) notes note
                (subst (λ (n : ℕ). All (λ (m : Note StateSet). m.index < n) notes) (sym (length-set labels line left)) is.on_lines)
                (let e = length-set labels line left in let i = inside in omega arith);
            falls = falls_more count notes note labels cut back less is.falls;
            enough = subst (λ (n : ℕ). n * count ≤ room) (sym (length-set labels line left)) is.enough;
            few = many.few is.few;
          }

          pub moved_to : (c : Circuit) (passed : Option GateId) → AreWaiting c awaited.inside passed line more.waiting
              → AreLinksWaiting c links line more.waiting → IsCutTo count c passed line to board moved
          moved_to c passed waits links_wait = record {
            labels = refl;
            within = cut_within;
            inside = many.inside;
            links = refl;
            follows = record { more = note ∷ []; notes = refl; back = back };
            stays = many.stays;
            moves = inr (record { fewer = less; waits = waits; links_wait = links_wait; few = many.few is.few });
          }

      -- the same, as the code has the sets and the notes
      module _ (old new : StateSet) (is_old : old ≡ label_at labels line) (is_new : new.0 ≡ bit_and old.0 to.0) (differs : new.0 ≢ old.0) where
        away : bit_and (label_at labels line).0 to.0 ≢ (label_at labels line).0
        away = subst (λ (s : StateSet). bit_and s.0 to.0 ≢ s.0) is_old (λ same. differs (is_new ∙ same))

        pub room_left : length notes < room
        room_left = note_room away

        module _ (noted : Noted StateSet) (is_noted : noted ≡ record { notes = notes ++ (record { index = line; old = old }) ∷ []; room = room })
            (more : Awaited) (many : IsMore awaited more) (new_labels : List StateSet) (are_new : new_labels ≡ cut) where
          abbrev after : OnBoard
          after = record { labels = new_labels; notes = noted.notes; waiting = more.waiting; inside = more.inside; links = links }

          is_moved : after ≡ moved away more many
          is_moved =
              ap₂ (λ (ls : List StateSet) (ns : List (Note StateSet)). let b : OnBoard = record { labels = ls; notes = ns; waiting = more.waiting; inside = more.inside; links = links } in b)
              are_new
              (ap (λ (n : Noted StateSet). n.notes) is_noted
              ∙ ap (λ (s : StateSet). notes ++ (record { index = line; old = s }) ∷ []) is_old)

          pub cut_is : IsBoard count after noted.room
          cut_is = subst (λ (b : OnBoard). IsBoard count b noted.room) (sym is_moved)
              (subst (IsBoard count (moved away more many)) (sym (ap (λ (n : Noted StateSet). n.room) is_noted)) (moved_is away more many))

          pub cut_to : (c : Circuit) (passed : Option GateId) → AreWaiting c awaited.inside passed line more.waiting
              → AreLinksWaiting c links line more.waiting → IsCutTo count c passed line to board after
          cut_to c passed waits links_wait = subst (IsCutTo count c passed line to board) (sym is_moved) (moved_to away more many c passed waits links_wait)

    -- the changes since a mark are undone
    pub undone_is : (mark : ℕ) (back : List StateSet) → back ≡ undone (drop mark notes) labels → (noted : Noted StateSet)
        → noted ≡ record { notes = take mark notes; room = room } → (rested : Awaited) → rested.waiting ≡ []
        → IsBoard count (record { labels = back; notes = noted.notes; waiting = rested.waiting; inside = rested.inside; links = links }) noted.room
    undone_is mark back e noted f rested g =
        let undone_labels = undone (drop mark notes) labels in
        subst (λ (l : List StateSet). IsBoard count (record { labels = l; notes = noted.notes; waiting = rested.waiting; inside = rested.inside; links = links }) noted.room) (sym e)
        (subst (λ (n : Noted StateSet). IsBoard count (record { labels = undone (drop mark notes) labels; notes = n.notes; waiting = rested.waiting; inside = rested.inside; links = links }) n.room) (sym f)
        (record {
          within = undone_within count (drop mark notes) labels (All-drop (λ (n : Note StateSet). n.old.0 < 2 ^ count) mark notes is.olds) is.within;
          olds = All-take (λ (n : Note StateSet). n.old.0 < 2 ^ count) mark notes is.olds;
          on_lines = subst (λ (n : ℕ). All (λ (m : Note StateSet). m.index < n) (take mark notes)) (sym (length-undone (drop mark notes) labels))
              (All-take (λ (m : Note StateSet). m.index < length labels) mark notes is.on_lines);
          falls = falls_front count (take mark notes) (drop mark notes) labels
              (subst (λ (ns : List (Note StateSet)). Falls count ns labels) (sym (take-append-drop mark notes)) is.falls);
          enough = subst (λ (n : ℕ). n * count ≤ room) (sym (length-undone (drop mark notes) labels)) is.enough;
          few = let h = ap length g in omega arith;
        }))
