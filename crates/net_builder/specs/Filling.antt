-- Lists that are filled one item after another, each in a room of its own: the rooms stand one behind another in one list (this
-- project's own).
use Rattle.std.specs.Prelude.{◌≡◌, ℕ, ◌-◌, ◌<◌, ◌≤◌, ◌^◌, List, [], ◌∷◌, length}
use Rattle.pd_base.specs.FlatLists.{items_between}
use Rattle.pd_base.specs.declared.ids.PinRef.{PinRef}
use Rattle.net_builder.specs.declared.filling.Filling.TheInside.{Inside}

-- the items of each list so far, and how many it has room for
pub record Filled : Type 0 where
  pub lists : List (List PinRef)
  pub rooms : List ℕ

-- the items of each list: from the place where its room begins, which is where the room before it ends, up to its own end
abbrev pub filled_lists : List PinRef → ℕ → List ℕ → List ℕ → List (List PinRef)
filled_lists items begin [] ends = []
filled_lists items begin (limit ∷ limits) [] = []
filled_lists items begin (limit ∷ limits) (end ∷ ends) = items_between items begin end ∷ filled_lists items limit limits ends

-- how many items each list has room for
abbrev pub rooms_within : ℕ → List ℕ → List ℕ
rooms_within begin [] = []
rooms_within begin (limit ∷ limits) = (limit - begin) ∷ rooms_within limit limits

-- what the fields of such lists stand for
abbrev pub filled_in : Inside → Filled
filled_in f = record {
  lists = filled_lists f.items.items 0 f.limits.items f.ends.items;
  rooms = rooms_within 0 f.limits.items;
}

-- each end stands in its list's room, and the last room ends here
abbrev pub FillRooms : ℕ → List ℕ → List ℕ → ℕ → Type 0
FillRooms begin [] [] last = begin ≡ last
FillRooms begin [] (end ∷ ends) last = ⊥
FillRooms begin (limit ∷ limits) [] last = ⊥
FillRooms begin (limit ∷ limits) (end ∷ ends) last = (begin ≤ end) × (end ≤ limit) × FillRooms limit limits ends last

-- the rooms are all the room that there is
pub record AreRooms (f : Inside) : Type 0 where
  pub fill : FillRooms 0 f.limits.items f.ends.items (length f.items.items)
  pub few : length f.items.items < 2 ^ 32
