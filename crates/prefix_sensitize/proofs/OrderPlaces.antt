-- Which path stands at which place of an order.
use Rattle.std.proofs.Common.{◌≡◌, ◌≢◌, ⊎_elim, ℕ, ◌<◌, List, [], length, get_or, Some, All, refl, sym, subst, ◌∙◌}
use Rattle.std.specs.Prelude.{AllPairs, Contains, slice_get}
use Rattle.std.proofs.lemmas.Bool.{cases_order}
use Rattle.std.proofs.lemmas.Option.{get_or_from_slice_get, same_Some, slice_get_read, slice_get_within}
use Rattle.pd_base.specs.Route.{Route}
use Rattle.prefix_sensitize.specs.PathOrder.{IsOrder, StandsInOrder}
use Rattle.prefix_sensitize.proofs.PathOrder.{stands_there}

module _ {X : Type 0} (P : X → Type 0) where
  -- what holds of all items holds of the one at a place
  pub all_at : (items : List X) (place : ℕ) (item : X) → All P items → slice_get items place ≡ Some item → P item
  all_at items place item all is =
      subst P (get_or_from_slice_get items place item item is) (all place item (slice_get_within items place item is))

module _ {X : Type 0} (items : List X) (place : ℕ) where
  -- what an index gives is what stands there
  pub at_index : (item : X) → place < length items → item ≡ get_or items place item → slice_get items place ≡ Some item
  at_index item within is = slice_get_read items (length items) place item refl within is

  -- two items at one place are the same
  pub same_item : (item other : X) → slice_get items place ≡ Some item → slice_get items place ≡ Some other → item ≡ other
  same_item item other is is_other = same_Some item other (sym is ∙ is_other)

  -- what stands somewhere is among the items
  pub among : (item : X) → slice_get items place ≡ Some item → Contains items item
  among item is = (place, slice_get_within items place item is, get_or_from_slice_get items place item item is)

-- an item of a list without repeats stands at one place
pub one_place : {X : Type 0} (items : List X) (first second : ℕ) (item other : X) → AllPairs (λ a b. a ≢ b) items
    → slice_get items first ≡ Some item → slice_get items second ≡ Some other → item ≡ other → first ≡ second
one_place items first second item other once is is_other same =
    let here = get_or_from_slice_get items first item item is in
    let there = get_or_from_slice_get items second other item is_other in
    let within = slice_get_within items first item is in
    let also = slice_get_within items second other is_other in
    ⊎_elim (λ (equal : first ≡ second). equal)
    (λ less.
    ⊎_elim (λ (before : first < second). absurd (once first second item before also (here ∙ same ∙ sym there)))
    (λ (behind : second < first). absurd (once second first item behind within (there ∙ sym same ∙ sym here))) less)
    (cases_order first second)

module _ (routes : List Route) (order : List ℕ) (is_order : IsOrder routes order) where
  -- at each place stands a path
  pub some_path : (place : ℕ) → place < length order → (row : ℕ) × (route : Route) × StandsInOrder routes order place row route
  some_path place within =
      let none : Route = record { source = record { 0 = 0 }; steps = [] } in
      (get_or order place 0, get_or routes (get_or order place 0) none, stands_there routes order is_order.inside place 0 none within)

  -- each listed path stands at some place
  pub some_place : (row : ℕ) (route : Route) → slice_get routes row ≡ Some route → (place : ℕ) × StandsInOrder routes order place row route
  some_place row route is =
      let at = is_order.whole row (slice_get_within routes row route is) in
      (at.0, record { is_placed = slice_get_read order (length order) at.0 row refl at.1 (sym at.2); is_listed = is })

  -- the path of a row stands at one place
  pub same_place : (first second row other : ℕ) (route another : Route) → StandsInOrder routes order first row route
      → StandsInOrder routes order second other another → row ≡ other → first ≡ second
  same_place first second row other route another is is_other same =
      one_place order first second row other is_order.once is.is_placed is_other.is_placed same

  -- paths at different places are different, where no path is listed twice
  pub other_route : AllPairs (λ p q. p ≢ q) routes → (first second row other : ℕ) (route another : Route)
      → StandsInOrder routes order first row route → StandsInOrder routes order second other another → route ≡ another → first ≡ second
  other_route once first second row other route another is is_other same =
      same_place first second row other route another is is_other
      (one_place routes row other route another once is.is_listed is_other.is_listed same)
