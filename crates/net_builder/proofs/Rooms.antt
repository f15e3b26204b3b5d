-- Lists in rooms: what stands where, what an item more makes of them, and how they begin.
use Rattle.std.proofs.Common.{◌≡◌, ℕ, zero, suc, ◌+◌, ◌-◌, ◌<◌, ◌≤◌, List, [], ◌∷◌, ◌++◌, take, drop, length, get_or, set, sum, sum_by, refl, sym, ap, ap₂, ◌∙◌, subst, arith}
use Rattle.std.proofs.lemmas.List.{drop-set-add, drop-set-lt, length-drop, length-take-le, take-set-le, take_more_set}
use Rattle.std.proofs.lemmas.List.Sums.{sum_by-cons}
use Rattle.pd_base.specs.declared.ids.PinRef.{PinRef}
use Rattle.pd_base.specs.FlatLists.{items_between}
use Rattle.net_builder.specs.Filling.{FillRooms, filled_lists, rooms_within}

-- the first room ends no later than the last
begins_within : (begin last : ℕ) (limits ends : List ℕ) → FillRooms begin limits ends last → begin ≤ last
begins_within begin last [] [] fill = omega (arith, fill)
begins_within begin last [] (end ∷ ends) fill = absurd fill
begins_within begin last (limit ∷ limits) [] fill = absurd fill
begins_within begin last (limit ∷ limits) (end ∷ ends) fill =
    omega (arith, fill.0, fill.1, begins_within limit last limits ends fill.2)

-- as many limits as ends
pub limits_counted : (begin last : ℕ) (limits ends : List ℕ) → FillRooms begin limits ends last → length limits ≡ length ends
limits_counted begin last [] [] fill = refl
limits_counted begin last [] (end ∷ ends) fill = absurd fill
limits_counted begin last (limit ∷ limits) [] fill = absurd fill
limits_counted begin last (limit ∷ limits) (end ∷ ends) fill = ap suc (limits_counted limit last limits ends fill.2)

-- and as many rooms
pub rooms_counted : (begin : ℕ) (limits : List ℕ) → length (rooms_within begin limits) ≡ length limits
rooms_counted begin [] = refl
rooms_counted begin (limit ∷ limits) = ap suc (rooms_counted limit limits)

-- where the room of a list begins
abbrev pub begin_of : ℕ → List ℕ → ℕ → ℕ
begin_of begin limits at = get_or (begin ∷ limits) at 0

module _ (items : List PinRef) where
  -- as many lists as ends
  pub lists_counted : (begin last : ℕ) (limits ends : List ℕ) → FillRooms begin limits ends last
      → length (filled_lists items begin limits ends) ≡ length ends
  lists_counted begin last [] [] fill = refl
  lists_counted begin last [] (end ∷ ends) fill = absurd fill
  lists_counted begin last (limit ∷ limits) [] fill = absurd fill
  lists_counted begin last (limit ∷ limits) (end ∷ ends) fill = ap suc (lists_counted limit last limits ends fill.2)

  -- so many items stand between two places
  pub length_between : (first next : ℕ) → first ≤ next → next ≤ length items → length (items_between items first next) ≡ next - first
  length_between first next rises within =
      length-take-le (next - first) (drop first items) (omega (arith, length-drop first items))

  -- a list, and the room that it stands in
  pub record IsRoomAt (begin : ℕ) (limits ends : List ℕ) (at : ℕ) : Type 0 where
    pub list : get_or (filled_lists items begin limits ends) at [] ≡ items_between items (begin_of begin limits at) (get_or ends at 0)
    pub begins : begin_of begin limits at ≤ get_or ends at 0
    pub ends_within : get_or ends at 0 ≤ get_or limits at 0
    pub within : get_or limits at 0 ≤ length items
    pub room : get_or (rooms_within begin limits) at 0 ≡ get_or limits at 0 - begin_of begin limits at
    pub first : begin ≤ begin_of begin limits at

  pub room_at : (begin : ℕ) (limits ends : List ℕ) (at : ℕ) → FillRooms begin limits ends (length items) → at < length ends
      → IsRoomAt begin limits ends at
  room_at begin [] [] at fill below = absurd (omega arith)
  room_at begin [] (end ∷ ends) at fill below = absurd fill
  room_at begin (limit ∷ limits) [] at fill below = absurd fill
  room_at begin (limit ∷ limits) (end ∷ ends) zero fill below = record {
    list = refl;
    begins = fill.0;
    ends_within = fill.1;
    within = begins_within limit (length items) limits ends fill.2;
    room = refl;
    first = omega arith;
  }
  room_at begin (limit ∷ limits) (end ∷ ends) (suc at) fill below =
      let later = room_at limit limits ends at fill.2 (omega arith) in
      record {
        list = later.list;
        begins = later.begins;
        ends_within = later.ends_within;
        within = later.within;
        room = later.room;
        first = omega (arith, fill.0, fill.1, later.first);
      }

  -- there is place for one more item in a list that is shorter than its room
  pub room_left : (begin : ℕ) (limits ends : List ℕ) (at : ℕ) → FillRooms begin limits ends (length items) → at < length ends
      → length (get_or (filled_lists items begin limits ends) at []) < get_or (rooms_within begin limits) at 0
      → get_or ends at 0 < get_or limits at 0
  room_left begin limits ends at fill below short =
      let r = room_at begin limits ends at fill below in
      let long = length_between (begin_of begin limits at) (get_or ends at 0) r.begins (omega (arith, r.ends_within, r.within)) in
      omega (arith, short, r.room, ap length r.list, long, r.begins)

  -- the lists before a place have no more items than the rooms before it
  pub items_before : (begin : ℕ) (limits ends : List ℕ) (at : ℕ) → FillRooms begin limits ends (length items) → at ≤ length ends
      → begin + sum_by length (take at (filled_lists items begin limits ends)) ≤ begin_of begin limits at
  items_before begin limits ends zero fill below = omega arith
  items_before begin [] [] (suc at) fill below = absurd (omega arith)
  items_before begin [] (end ∷ ends) (suc at) fill below = absurd fill
  items_before begin (limit ∷ limits) [] (suc at) fill below = absurd fill
  items_before begin (limit ∷ limits) (end ∷ ends) (suc at) fill below =
      let split : sum_by length (take (suc at) (filled_lists items begin (limit ∷ limits) (end ∷ ends)))
      ≡ length (items_between items begin end) + sum_by length (take at (filled_lists items limit limits ends)) =
      sum_by-cons length (items_between items begin end) (take at (filled_lists items limit limits ends)) in
      let last = begins_within limit (length items) limits ends fill.2 in
      omega (
        arith,
        split,
        fill.0,
        fill.1,
        length_between begin end fill.0 (omega (arith, fill.1, last)),
        items_before limit limits ends at fill.2 (omega arith),
      )

  module _ (item : PinRef) where
    -- what stands between two places stays where an item is set outside
    between_below : (place first next : ℕ) → place < first → items_between (set items place item) first next ≡ items_between items first next
    between_below place first next below = ap (take (next - first)) (drop-set-lt first items place item below)

    between_above : (place first next : ℕ) → first ≤ next → next ≤ place
        → items_between (set items place item) first next ≡ items_between items first next
    between_above place first next rises above =
        let split : first + (place - first) ≡ place = omega arith in
        ap (λ p. take (next - first) (drop first (set items p item))) (sym split)
        ∙ ap (take (next - first)) (drop-set-add first items (place - first) item)
        ∙ take-set-le (next - first) (drop first items) (place - first) item (omega arith)

    -- an item that is set behind the last one is one more
    between_more : (first next : ℕ) → first ≤ next → next < length items
        → items_between (set items next item) first (next + 1) ≡ items_between items first next ++ item ∷ []
    between_more first next rises within =
        let split : first + (next - first) ≡ next = omega arith in
        let one : next + 1 - first ≡ next - first + 1 = omega arith in
        ap (λ p. take (next + 1 - first) (drop first (set items p item))) (sym split)
        ∙ ap (take (next + 1 - first)) (drop-set-add first items (next - first) item)
        ∙ ap (λ n. take n (set (drop first items) (next - first) item)) one
        ∙ take_more_set (drop first items) (next - first) item (omega (arith, length-drop first items))

    -- lists whose rooms begin behind the item stay
    lists_above : (place begin last : ℕ) (limits ends : List ℕ) → place < begin → FillRooms begin limits ends last
        → filled_lists (set items place item) begin limits ends ≡ filled_lists items begin limits ends
    lists_above place begin last [] ends below fill = refl
    lists_above place begin last (limit ∷ limits) [] below fill = refl
    lists_above place begin last (limit ∷ limits) (end ∷ ends) below fill =
        ap₂ (λ list lists. list ∷ lists) (between_below place begin end below)
        (lists_above place limit last limits ends (omega (arith, fill.0, fill.1)) fill.2)

    -- the item is put last in the list at whose end it is set
    pub lists_put : (begin : ℕ) (limits ends : List ℕ) (at : ℕ) → FillRooms begin limits ends (length items) → at < length ends
        → get_or ends at 0 < get_or limits at 0
        → filled_lists (set items (get_or ends at 0) item) begin limits (set ends at (get_or ends at 0 + 1))
        ≡ set (filled_lists items begin limits ends) at (get_or (filled_lists items begin limits ends) at [] ++ item ∷ [])
    lists_put begin [] [] at fill below room = absurd (omega arith)
    lists_put begin [] (end ∷ ends) at fill below room = absurd fill
    lists_put begin (limit ∷ limits) [] at fill below room = absurd fill
    lists_put begin (limit ∷ limits) (end ∷ ends) zero fill below room =
        ap₂ (λ list lists. list ∷ lists)
        (between_more begin end fill.0 (omega (arith, room, begins_within limit (length items) limits ends fill.2)))
        (lists_above end limit (length items) limits ends room fill.2)
    lists_put begin (limit ∷ limits) (end ∷ ends) (suc at) fill below room =
        let r = room_at limit limits ends at fill.2 (omega arith) in
        ap₂ (λ list lists. list ∷ lists)
        (between_above (get_or ends at 0) begin end fill.0 (omega (arith, fill.1, r.first, r.begins)))
        (lists_put limit limits ends at fill.2 (omega arith) room)

-- the ends still stand in the rooms
pub rooms_put : (begin last : ℕ) (limits ends : List ℕ) (at : ℕ) → FillRooms begin limits ends last → at < length ends
    → get_or ends at 0 < get_or limits at 0 → FillRooms begin limits (set ends at (get_or ends at 0 + 1)) last
rooms_put begin last [] [] at fill below room = absurd (omega arith)
rooms_put begin last [] (end ∷ ends) at fill below room = absurd fill
rooms_put begin last (limit ∷ limits) [] at fill below room = absurd fill
rooms_put begin last (limit ∷ limits) (end ∷ ends) zero fill below room = (omega (arith, fill.0), omega (arith, room), fill.2)
rooms_put begin last (limit ∷ limits) (end ∷ ends) (suc at) fill below room =
    (fill.0, fill.1, rooms_put limit last limits ends at fill.2 (omega arith) room)

-- the places where rooms of these sizes begin, and where they end
abbrev pub begins_of : ℕ → List ℕ → List ℕ
begins_of begin [] = []
begins_of begin (room ∷ rooms) = begin ∷ begins_of (begin + room) rooms

abbrev pub limits_of : ℕ → List ℕ → List ℕ
limits_of begin [] = []
limits_of begin (room ∷ rooms) = (begin + room) ∷ limits_of (begin + room) rooms

-- with one room more
pub begins_more : (begin : ℕ) (rooms : List ℕ) (room : ℕ)
    → begins_of begin (rooms ++ room ∷ []) ≡ begins_of begin rooms ++ (begin + sum rooms) ∷ []
begins_more begin [] room = ap (λ n. n ∷ []) (omega arith)
begins_more begin (own ∷ rooms) room =
    ap (λ more. begin ∷ more)
    (begins_more (begin + own) rooms room
    ∙ ap (λ n. begins_of (begin + own) rooms ++ n ∷ []) (omega (arith, sum_by-cons (λ (n : ℕ). n) own rooms)))

pub limits_more : (begin : ℕ) (rooms : List ℕ) (room : ℕ)
    → limits_of begin (rooms ++ room ∷ []) ≡ limits_of begin rooms ++ (begin + sum rooms + room) ∷ []
limits_more begin [] room = ap (λ n. n ∷ []) (omega arith)
limits_more begin (own ∷ rooms) room =
    ap (λ more. (begin + own) ∷ more)
    (limits_more (begin + own) rooms room
    ∙ ap (λ n. limits_of (begin + own) rooms ++ n ∷ []) (omega (arith, sum_by-cons (λ (n : ℕ). n) own rooms)))

-- empty lists in such rooms
pub rooms_begin : (begin : ℕ) (rooms : List ℕ) → FillRooms begin (limits_of begin rooms) (begins_of begin rooms) (begin + sum rooms)
rooms_begin begin [] =
    let same : begin ≡ begin + 0 = omega arith in
    same
rooms_begin begin (room ∷ rooms) = (
  omega arith,
  omega arith,
  subst (FillRooms (begin + room) (limits_of (begin + room) rooms) (begins_of (begin + room) rooms))
      (omega (arith, sum_by-cons (λ (n : ℕ). n) room rooms)) (rooms_begin (begin + room) rooms),
)

pub rooms_are : (begin : ℕ) (rooms : List ℕ) → rooms_within begin (limits_of begin rooms) ≡ rooms
rooms_are begin [] = refl
rooms_are begin (room ∷ rooms) = ap₂ (λ n more. n ∷ more) (omega arith) (rooms_are (begin + room) rooms)

pub empty_begin : (items : List PinRef) (begin : ℕ) (rooms : List ℕ) (at : ℕ)
    → get_or (filled_lists items begin (limits_of begin rooms) (begins_of begin rooms)) at [] ≡ []
empty_begin items begin [] at = refl
empty_begin items begin (room ∷ rooms) zero =
    let none : begin - begin ≡ 0 = omega arith in
    ap (λ n. take n (drop begin items)) none
empty_begin items begin (room ∷ rooms) (suc at) = empty_begin items (begin + room) rooms at

pub counted_begin : (items : List PinRef) (begin : ℕ) (rooms : List ℕ)
    → length (filled_lists items begin (limits_of begin rooms) (begins_of begin rooms)) ≡ length rooms
counted_begin items begin [] = refl
counted_begin items begin (room ∷ rooms) = ap suc (counted_begin items (begin + room) rooms)
