-- Items by their numbers, while a list grows at its end or one of its places is written over.
use Rattle.std.proofs.Common.{◌≡◌, ◌≢◌, ◌⊎◌, ⊎_elim, inl, inr, ℕ, zero, suc, ◌+◌, ◌-◌, ◌<◌, ◌≤◌, List, [], ◌∷◌, ◌++◌, length, map, set, Some, refl, sym, ap, subst, ◌∙◌, arith}
use Rattle.std.specs.List.{All, slice_get}
use Rattle.std.specs.Option.{option_map}
use Rattle.std.proofs.lemmas.List.{length-map}
use Rattle.std.proofs.lemmas.Option.{get_or_from_slice_get, none-some, same_Some, slice_get-map, slice_get_cases, slice_get_within}
use Rattle.good_runs.specs.Faults.{IsNumber}

module _ {T : Type 0} where
  -- a longer list has what the list has
  pub get_kept : (items more : List T) (place : ℕ) (item : T) → slice_get items place ≡ Some item
      → slice_get (items ++ more) place ≡ Some item
  get_kept [] more place item found = absurd (none-some item found)
  get_kept (first ∷ items) more zero item found = found
  get_kept (first ∷ items) more (suc place) item found = get_kept items more place item found

  -- an item stands behind those before it
  pub get_at : (items : List T) (item : T) (more : List T) → slice_get (items ++ item ∷ more) (length items) ≡ Some item
  get_at [] item more = refl
  get_at (first ∷ items) item more = get_at items item more

  -- what stands in a pushed list stood there before, or was pushed
  pub get_of_push : (items : List T) (pushed item : T) (place : ℕ) → slice_get (items ++ pushed ∷ []) place ≡ Some item
      → (slice_get items place ≡ Some item) ⊎ ((place ≡ length items) × (pushed ≡ item))
  get_of_push [] pushed item zero found = inr (refl, same_Some pushed item found)
  get_of_push [] pushed item (suc place) found = absurd (none-some item found)
  get_of_push (first ∷ items) pushed item zero found = inl found
  get_of_push (first ∷ items) pushed item (suc place) found =
      ⊎_elim (λ before. inl before) (λ last. inr (ap suc last.0, last.1)) (get_of_push items pushed item place found)

  -- what stands in an appended list stood there before, or stands in what was appended
  get_of_append : (items more : List T) (place : ℕ) (item : T) → slice_get (items ++ more) place ≡ Some item
      → (slice_get items place ≡ Some item) ⊎ ((behind : ℕ) × (place ≡ length items + behind) × (slice_get more behind ≡ Some item))
  get_of_append [] more place item found = inr (place, omega arith, found)
  get_of_append (first ∷ items) more zero item found = inl found
  get_of_append (first ∷ items) more (suc place) item found =
      ⊎_elim (λ before. inl before) (λ last. inr (last.0, let same = last.1 in omega arith, last.2))
      (get_of_append items more place item found)

  -- the place that was written over has what was written
  pub get_set_same : (items : List T) (place : ℕ) (item : T) → place < length items
      → slice_get (set items place item) place ≡ Some item
  get_set_same [] place item within = absurd (omega arith)
  get_set_same (first ∷ items) zero item within = refl
  get_set_same (first ∷ items) (suc place) item within = get_set_same items place item (omega arith)

  -- each other place has what it had
  pub get_set_other : (items : List T) (place other : ℕ) (item : T) → other ≢ place
      → slice_get (set items place item) other ≡ slice_get items other
  get_set_other [] place other item differs = refl
  get_set_other (first ∷ items) zero zero item differs = absurd (differs refl)
  get_set_other (first ∷ items) zero (suc other) item differs = refl
  get_set_other (first ∷ items) (suc place) zero item differs = refl
  get_set_other (first ∷ items) (suc place) (suc other) item differs =
      get_set_other items place other item (λ same. differs (ap suc same))

  -- what stands in a place has the number after it
  pub number_of_place : (items : List T) (place : ℕ) (item : T) → slice_get items place ≡ Some item → IsNumber items (place + 1) item
  number_of_place items place item found = record {
    positive = omega arith;
    found = subst (λ (k : ℕ). slice_get items k ≡ Some item) (let e : place ≡ place + 1 - 1 = omega arith in e) found;
  }

  -- an item keeps its number as more are pushed
  pub number_kept : (items more : List T) (number : ℕ) (item : T) → IsNumber items number item → IsNumber (items ++ more) number item
  number_kept items more number item is = record {
    positive = is.positive;
    found = get_kept items more (number - 1) item is.found;
  }

  -- an item has the next number behind those before it
  pub number_at : (items : List T) (number : ℕ) (item : T) (more : List T) → number ≡ length items + 1
      → IsNumber (items ++ item ∷ more) number item
  number_at items number item more next = record {
    positive = omega arith;
    found = subst (λ (place : ℕ). slice_get (items ++ item ∷ more) place ≡ Some item)
        (let e : length items ≡ number - 1 = omega arith in e) (get_at items item more);
  }

  -- so has the pushed one
  pub number_new : (items : List T) (number : ℕ) (item : T) → number ≡ length items + 1 → IsNumber (items ++ item ∷ []) number item
  number_new items number item next = number_at items number item [] next

  -- an item of a pushed list had its number before, or was pushed
  pub number_of_push : (items : List T) (pushed item : T) (number : ℕ) → IsNumber (items ++ pushed ∷ []) number item
      → IsNumber items number item ⊎ ((number ≡ length items + 1) × (pushed ≡ item))
  number_of_push items pushed item number is =
      ⊎_elim (λ before. inl (record { positive = is.positive; found = before }))
      (λ last. inr (let place = last.0 in let some = is.positive in (omega arith, last.1)))
      (get_of_push items pushed item (number - 1) is.found)

  -- an item of an appended list had its number before, or has one in what was appended
  pub number_of_append : (items more : List T) (number : ℕ) (item : T) → IsNumber (items ++ more) number item
      → IsNumber items number item ⊎ ((behind : ℕ) × (number ≡ length items + behind) × IsNumber more behind item)
  number_of_append items more number item is =
      ⊎_elim (λ before. inl (record { positive = is.positive; found = before }))
      (λ last. inr (last.0 + 1, let place = last.1 in let some = is.positive in omega arith, number_of_place more last.0 item last.2))
      (get_of_append items more (number - 1) item is.found)

  -- no number is past the end
  pub number_within : (items : List T) (number : ℕ) (item : T) → IsNumber items number item → number ≤ length items
  number_within items number item is =
      let within = slice_get_within items (number - 1) item is.found in let some = is.positive in omega arith

  -- a number is that of one item
  pub number_same : (items : List T) (number : ℕ) (item other : T) → IsNumber items number item → IsNumber items number other
      → item ≡ other
  number_same items number item other is its = same_Some item other (sym is.found ∙ its.found)

  -- what holds of all items holds of that of a number
  pub all_at_number : (P : T → Type 0) (items : List T) (number : ℕ) (item : T) → All P items → IsNumber items number item → P item
  all_at_number P items number item all is =
      subst P (get_or_from_slice_get items (number - 1) item item is.found)
      (all (number - 1) item (slice_get_within items (number - 1) item is.found))

-- an item's image has its number
pub number_in_map : {T R : Type 0} (f : T → R) (items : List T) (number : ℕ) (item : T) → IsNumber items number item
    → IsNumber (map f items) number (f item)
number_in_map f items number item is = record {
  positive = is.positive;
  found = slice_get-map f items (number - 1) ∙ ap (option_map f) is.found;
}

-- and each image is that of an item
pub number_of_map : {T R : Type 0} (f : T → R) (items : List T) (number : ℕ) (image : R) → IsNumber (map f items) number image
    → (item : T) × IsNumber items number item × (f item ≡ image)
number_of_map {T} {R} f items number image is =
    ⊎_elim
    (λ there.
    let own = number_in_map f items number there.0 (record { positive = is.positive; found = there.2 }) in
    (there.0, record { positive = is.positive; found = there.2 }, number_same (map f items) number (f there.0) image own is))
    (λ past.
    let within = number_within (map f items) number image is in
    let some = is.positive in
    let same = length-map items f in
    let short = past.0 in
    absurd (omega arith))
    (slice_get_cases items (number - 1)).1
