-- The trail of the board leads back to the labels before each entry: as the list grows, and as its last entry is taken back.
use Rattle.std.proofs.Common.{◌≡◌, ℕ, ◌+◌, ◌-◌, ◌<◌, ◌≤◌, ⊎_elim, List, [], ◌∷◌, ◌++◌, length, take, drop, get_or, refl, sym, ap, ◌∙◌, subst, arith}
use Rattle.std.proofs.lemmas.Bool.{cases_lt}
use Rattle.std.proofs.lemmas.List.{length_push, take-append-le, drop-append-le, get_or_append_left, length-take}
use Rattle.std.proofs.Math.Seq.{take-append_seam, get_or-append_seam}
use Rattle.state_sets.specs.declared.state.StateSet.{StateSet}
use Rattle.state_sets.specs.StateAlgebra.{StateAlgebra}
use Rattle.undo_trail.specs.declared.trail.Note.{Note}
use Rattle.undo_trail.specs.Undoing.{undone}
use Rattle.undo_trail.proofs.Undoing.{undone-append, undone_last}
use Rattle.hulls.specs.Boards.{OnBoard, Follows}
use Rattle.implication.specs.declared.assumption.Assumption.{Assumption}
use Rattle.implication.specs.declared.before.Before.{Before}
use Rattle.implication.specs.Kept.{Outset, IsOpenHull, IsLeftBefore, StoodAt, Stood, before_at, nothing_before, labels_after}

-- going back further than what was noted since is going back from what stood before
undone_since : (notes more : List (Note StateSet)) (old new : List StateSet) (mark : ℕ) → mark ≤ length notes → undone more new ≡ old
    → undone (drop mark (notes ++ more)) new ≡ undone (drop mark notes) old
undone_since notes more old new mark below back =
    ap (λ (ns : List (Note StateSet)). undone ns new) (drop-append-le mark notes more below)
    ∙ undone-append (drop mark notes) more new ∙ ap (undone (drop mark notes)) back

-- an element of a list with one more
module _ {X : Type 0} (xs : List X) (x else_ : X) where
  at_front : (place : ℕ) → place < length xs → get_or (xs ++ x ∷ []) place else_ ≡ get_or xs place else_
  at_front place below = get_or_append_left xs (x ∷ []) else_ place below

  at_end : get_or (xs ++ x ∷ []) (length xs) else_ ≡ x
  at_end = get_or-append_seam xs x [] else_

module _ (a : StateAlgebra) (from : Outset) where
  -- what stood on a board stood on one that follows it
  stood_later : (old new : OnBoard) → Follows old new → (before : List Assumption) (entry : Assumption) (was : Before)
      → StoodAt a from old before entry was → StoodAt a from new before entry was
  stood_later old new follows before entry was stood =
      let same : labels_after new was.changes ≡ labels_after old was.changes =
      ap (λ (ns : List (Note StateSet)). undone (drop was.changes ns) new.labels) follows.notes
      ∙ undone_since old.notes follows.more old.labels new.labels was.changes stood.few follows.back in
      let P : List StateSet → Type 0 = λ labels. IsOpenHull a from before labels in
      record {
        few = let e = ap length follows.notes in let f = length_append old.notes follows.more in omega (arith, stood.few);
        labels = subst P (sym same) stood.labels;
        left = stood.left;
      }
    where
      length_append : (xs ys : List (Note StateSet)) → length (xs ++ ys) ≡ length xs + length ys
      length_append xs ys = Rattle.std.proofs.Common.length-append xs ys

  -- an entry more
  module _ (old new : OnBoard) (follows : Follows old new) (list : List Assumption) (befores : List Before) (entry : Assumption) (was : Before)
      (marked : was.changes ≡ length old.notes) (stood : Stood a from old list befores) (open_ : IsOpenHull a from list old.labels)
      (left : IsLeftBefore a.count list entry was.left) where
    abbrev more : List Assumption
    more = list ++ entry ∷ []

    abbrev befores_more : List Before
    befores_more = befores ++ was ∷ []

    -- at the last entry the labels were those of the old board
    stood_now : StoodAt a from old list entry was
    stood_now =
        let P : List StateSet → Type 0 = λ labels. IsOpenHull a from list labels in
        let e : labels_after old was.changes ≡ old.labels =
        ap (λ (n : ℕ). undone (drop n old.notes) old.labels) marked
        ∙ ap (λ (ns : List (Note StateSet)). undone ns old.labels) (drop_all old.notes) in
        record { few = omega (arith, marked); labels = subst P (sym e) open_; left = left }
      where
        drop_all : (ns : List (Note StateSet)) → drop (length ns) ns ≡ []
        drop_all [] = refl
        drop_all (n ∷ ns) = drop_all ns

    before_front : (place : ℕ) → place < length list → before_at befores_more place ≡ before_at befores place
    before_front place below = at_front befores was nothing_before place (omega (arith, below, stood.one_each))

    before_end : before_at befores_more (length list) ≡ was
    before_end = ap (before_at befores_more) (sym stood.one_each) ∙ at_end befores was nothing_before

    each_more : (place : ℕ) (else_ : Assumption) → place < length more
        → StoodAt a from new (take place more) (get_or more place else_) (before_at befores_more place)
    each_more place else_ below = ⊎_elim
        (λ (front : place < length list).
        let here = stood_later old new follows (take place list) (get_or list place else_) (before_at befores place)
        (stood.each place else_ front) in
        let P : List Assumption → Type 0 = λ xs. StoodAt a from new xs (get_or list place else_) (before_at befores place) in
        let Q : Assumption → Type 0 = λ x. StoodAt a from new (take place more) x (before_at befores place) in
        let R : Before → Type 0 = λ b. StoodAt a from new (take place more) (get_or more place else_) b in
        subst R (sym (before_front place front)) (subst Q (sym (at_front list entry else_ place front))
        (subst P (sym (take-append-le place list (entry ∷ []) (omega arith))) here)))
        (λ (past : length list ≤ place).
        let e : length list ≡ place = omega (arith, past, below, length_push list entry) in
        let here = stood_later old new follows list entry was stood_now in
        let P : List Assumption → Type 0 = λ xs. StoodAt a from new xs entry was in
        let Q : Assumption → Type 0 = λ x. StoodAt a from new (take (length list) more) x was in
        let R : Before → Type 0 = λ b. StoodAt a from new (take (length list) more) (get_or more (length list) else_) b in
        let S : ℕ → Type 0 = λ n. StoodAt a from new (take n more) (get_or more n else_) (before_at befores_more n) in
        subst S e (subst R (sym before_end) (subst Q (sym (at_end list entry else_))
        (subst P (sym (take-append_seam list (entry ∷ []))) here))))
        (cases_lt place (length list))

    rising_more : (earlier later : ℕ) → earlier ≤ later → later < length more
        → (before_at befores_more earlier).changes ≤ (before_at befores_more later).changes
    rising_more earlier later order below = ⊎_elim
        (λ (front : later < length list).
        let e = ap (λ (b : Before). b.changes) (before_front earlier (omega arith)) in
        let f = ap (λ (b : Before). b.changes) (before_front later front) in
        omega (arith, e, f, stood.rising earlier later order front))
        (λ (past : length list ≤ later).
        let same : later ≡ length list = omega (arith, past, below, length_push list entry) in
        let f = ap (λ (n : ℕ). (before_at befores_more n).changes) same ∙ ap (λ (b : Before). b.changes) before_end in
        ⊎_elim
        (λ (front : earlier < length list).
        let e = ap (λ (b : Before). b.changes) (before_front earlier front) in
        omega (arith, e, f, marked, (stood.each earlier entry front).few))
        (λ (end : length list ≤ earlier).
        let e = ap (λ (n : ℕ). (before_at befores_more n).changes) (let s : earlier ≡ later = omega (arith, end, same, order) in s) in
        omega (arith, e))
        (cases_lt earlier (length list)))
        (cases_lt later (length list))

    pub stood_more : Stood a from new more befores_more
    stood_more = record {
      one_each = omega (arith, length_push befores was, length_push list entry, stood.one_each);
      each = each_more;
      rising = rising_more;
    }

  -- the last entry taken back
  module _ (old new : OnBoard) (list : List Assumption) (befores : List Before) (entry : Assumption) (was : Before)
      (stood : Stood a from old (list ++ entry ∷ []) (befores ++ was ∷ []))
      (notes : new.notes ≡ take was.changes old.notes) (labels : new.labels ≡ undone (drop was.changes old.notes) old.labels) where
    as_long : length befores ≡ length list
    as_long = omega (arith, stood.one_each, length_push befores was, length_push list entry)

    inside_more : (place : ℕ) → place < length list → place < length (list ++ entry ∷ [])
    inside_more place below = omega (arith, below, length_push list entry)

    was_front : (place : ℕ) → place < length list → before_at (befores ++ was ∷ []) place ≡ before_at befores place
    was_front place below = at_front befores was nothing_before place (omega (arith, below, as_long))

    was_end : before_at (befores ++ was ∷ []) (length list) ≡ was
    was_end = ap (before_at (befores ++ was ∷ [])) (sym as_long) ∙ at_end befores was nothing_before

    -- what stood at the last entry
    pub stood_last : StoodAt a from old list entry was
    stood_last =
        let here = stood.each (length list) entry (omega (arith, length_push list entry)) in
        let P : List Assumption → Type 0 =
        λ xs. StoodAt a from old xs (get_or (list ++ entry ∷ []) (length list) entry) (before_at (befores ++ was ∷ []) (length list)) in
        let Q : Assumption → Type 0 = λ x. StoodAt a from old list x (before_at (befores ++ was ∷ []) (length list)) in
        let R : Before → Type 0 = λ b. StoodAt a from old list entry b in
        subst R was_end (subst Q (at_end list entry entry) (subst P (take-append_seam list (entry ∷ [])) here))

    pub open_again : IsOpenHull a from list new.labels
    open_again = let P : List StateSet → Type 0 = λ l. IsOpenHull a from list l in subst P (sym labels) stood_last.labels

    stood_front : (place : ℕ) (else_ : Assumption) → place < length list
        → StoodAt a from old (take place list) (get_or list place else_) (before_at befores place)
    stood_front place else_ below =
        let here = stood.each place else_ (inside_more place below) in
        let P : List Assumption → Type 0 =
        λ xs. StoodAt a from old xs (get_or (list ++ entry ∷ []) place else_) (before_at (befores ++ was ∷ []) place) in
        let Q : Assumption → Type 0 = λ x. StoodAt a from old (take place list) x (before_at (befores ++ was ∷ []) place) in
        let R : Before → Type 0 = λ b. StoodAt a from old (take place list) (get_or list place else_) b in
        subst R (was_front place below) (subst Q (at_front list entry else_ place below)
        (subst P (take-append-le place list (entry ∷ []) (omega arith)) here))

    fewer_before : (place : ℕ) → place < length list → (before_at befores place).changes ≤ was.changes
    fewer_before place below =
        let r = stood.rising place (length list) (omega arith) (omega (arith, length_push list entry)) in
        let e = ap (λ (b : Before). b.changes) (was_front place below) in
        let f = ap (λ (b : Before). b.changes) was_end in omega (arith, r, e, f)

    each_back : (place : ℕ) (else_ : Assumption) → place < length list
        → StoodAt a from new (take place list) (get_or list place else_) (before_at befores place)
    each_back place else_ below =
        let here = stood_front place else_ below in let changes = (before_at befores place).changes in
        let same : labels_after new changes ≡ labels_after old changes =
        ap (λ (ns : List (Note StateSet)). undone (drop changes ns) new.labels) notes
        ∙ ap (undone (drop changes (take was.changes old.notes))) labels
        ∙ undone_last old.notes old.labels changes was.changes (fewer_before place below) stood_last.few in
        let P : List StateSet → Type 0 = λ l. IsOpenHull a from (take place list) l in
        record {
          few = let e = ap length notes in let f = length-take was.changes old.notes in
              omega (arith, e, f, fewer_before place below, stood_last.few);
          labels = subst P (sym same) here.labels;
          left = here.left;
        }

    pub stood_back : Stood a from new list befores
    stood_back = record {
      one_each = as_long;
      each = each_back;
      rising = λ earlier later order below.
          let r = stood.rising earlier later order (inside_more later below) in
          let e = ap (λ (b : Before). b.changes) (was_front earlier (omega arith)) in
          let f = ap (λ (b : Before). b.changes) (was_front later below) in omega (arith, r, e, f);
    }
