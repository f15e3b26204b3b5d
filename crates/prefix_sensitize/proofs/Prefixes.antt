-- How many prefixes listed paths have: no list of them without repeats has more, and a path behind the others adds those that no other has.
use Rattle.std.proofs.Common.{◌≡◌, ◌≢◌, ⊎_elim, ℕ, zero, suc, ◌+◌, ◌-◌, ◌<◌, ◌≤◌, List, [], ◌∷◌, ◌++◌, length, map, get_or, All, AllPairs, Contains, refl, sym, ap, subst, ◌∙◌, arith}
use Rattle.std.specs.List.{range_with_len, remove}
use Rattle.std.proofs.lemmas.Bool.{cases_lt}
use Rattle.std.proofs.lemmas.List.{length-append, length-take-le}
use Rattle.std.proofs.lemmas.List.Elements.{All-append, All-get_or, All-head, All-tail, All-weaker, Contains-append_left, Contains-append_right, Contains-push, Contains-push_cases}
use Rattle.std.proofs.lemmas.List.FromFn.{get_or-map-range_with_len, length-map-range_with_len}
use Rattle.std.proofs.lemmas.List.Kept.{AllPairs-cons}
use Rattle.std.proofs.lemmas.List.Sorted.{Contains-permutation, IsPermutation-remove, length_permutation}
use Rattle.pd_base.specs.Route.{Route}
use Rattle.netlist.specs.Paths.{IsPrefixOf, prefix_of}
use Rattle.path_laws.proofs.Prefixes.{is_prefix_of, prefix_of-is_prefix}
use Rattle.prefix_sensitize.specs.Prefixes.{AreListedPrefixes, HasNewPrefixes, HasPrefixes, IsListedPrefix}

module _ {X : Type 0} where
  -- the elements of a list, and those of its rest, are all different
  later_apart : (x : X) (xs : List X) → AllPairs (λ a b. a ≢ b) (x ∷ xs) → All (λ y. x ≢ y) xs
  later_apart x xs once k d within = once 0 (suc k) d (omega arith) (omega arith)

  rest_apart : (x : X) (xs : List X) → AllPairs (λ a b. a ≢ b) (x ∷ xs) → AllPairs (λ a b. a ≢ b) xs
  rest_apart x xs once i j d before within = once (suc i) (suc j) d (omega arith) (omega arith)

  -- what a list has it has beside one of its elements, or it is that one
  beside : (x y : X) (ys : List X) → Contains (x ∷ ys) y → x ≢ y → Contains ys y
  beside x y ys (zero, within, at) differ = absurd (differ at)
  beside x y ys (suc k, within, at) differ = (k, omega arith, at)

  -- a list without repeats whose elements another one has is no longer than that one
  pub no_longer : (xs ys : List X) → AllPairs (λ a b. a ≢ b) xs → All (Contains ys) xs → length xs ≤ length ys
  no_longer [] ys once among = omega arith
  no_longer (x ∷ xs) ys once among =
      let has = All-head (Contains ys) x xs among in
      let others : List X = remove ys has.0 in
      let moved = IsPermutation-remove ys has.0 x has.1 (sym has.2) in
      let rest : All (Contains others) xs =
      λ k d within. beside x (get_or xs k d) others
      (Contains-permutation ys (x ∷ others) (get_or xs k d) moved
      (All-get_or (Contains ys) xs k d within (All-tail (Contains ys) x xs among)))
      (later_apart x xs once k d within) in
      omega (arith, no_longer xs others (rest_apart x xs once) rest, length_permutation ys (x ∷ others) moved)

-- so no list of prefixes without repeats has more of them than there are
pub few_entered : (routes entered : List Route) (count : ℕ) → AreListedPrefixes routes entered → HasPrefixes routes count
    → length entered ≤ count
few_entered routes entered count are has =
    let low = no_longer entered has.prefixes are.once (λ k d within. has.whole (get_or entered k d) (are.each k d within)) in
    omega (arith, low, has.counts)

-- and there is one number of them
pub same_count : (routes : List Route) (count other : ℕ) → HasPrefixes routes count → HasPrefixes routes other → count ≡ other
same_count routes count other has also =
    omega (
      arith,
      few_entered routes has.prefixes other has.are_prefixes also,
      has.counts,
      few_entered routes also.prefixes count also.are_prefixes has,
      also.counts,
    )

-- lists of the same paths have the same prefixes
module _ (routes others : List Route) (same : (path : Route) → Contains routes path → Contains others path)
    (back : (path : Route) → Contains others path → Contains routes path) where
  in_others : (prefix : Route) → IsListedPrefix routes prefix → IsListedPrefix others prefix
  in_others prefix is = record {
    some_step = is.some_step;
    listed = is.listed;
    is_listed = same is.listed is.is_listed;
    is_prefix = is.is_prefix;
  }

  in_routes : (prefix : Route) → IsListedPrefix others prefix → IsListedPrefix routes prefix
  in_routes prefix is = record {
    some_step = is.some_step;
    listed = is.listed;
    is_listed = back is.listed is.is_listed;
    is_prefix = is.is_prefix;
  }

  pub same_prefixes : (count : ℕ) → HasPrefixes routes count → HasPrefixes others count
  same_prefixes count has = record {
    prefixes = has.prefixes;
    are_prefixes = record {
      each = All-weaker (IsListedPrefix routes) (IsListedPrefix others) in_others has.prefixes has.are_prefixes.each;
      once = has.are_prefixes.once;
    };
    whole = λ prefix is. has.whole prefix (in_routes prefix is);
    counts = has.counts;
  }

-- elements of two lists that differ from each other, and those of the one from those of the other
apart_appended : {X : Type 0} (xs ys : List X) → AllPairs (λ a b. a ≢ b) xs → AllPairs (λ a b. a ≢ b) ys
    → All (λ x. All (λ y. x ≢ y) ys) xs → AllPairs (λ a b. a ≢ b) (xs ++ ys)
apart_appended [] ys once also differ = also
apart_appended (x ∷ xs) ys once also differ =
    AllPairs-cons (λ a b. a ≢ b) x (xs ++ ys)
    (All-append (λ y. x ≢ y) xs ys (later_apart x xs once) (All-head (λ a. All (λ y. a ≢ y) ys) x xs differ))
    (apart_appended xs ys (rest_apart x xs once) also (All-tail (λ a. All (λ y. a ≢ y) ys) x xs differ))

module _ (routes : List Route) (path : Route) (count fresh : ℕ) (has : HasPrefixes routes count)
    (adds : HasNewPrefixes routes path fresh) where
  -- how many steps the shortest new prefix has
  abbrev first : ℕ
  first = length path.steps - fresh + 1

  -- the new prefixes
  abbrev added : List Route
  added = map (λ steps. prefix_of steps path) (range_with_len first fresh)

  added_at : (k : ℕ) (d : Route) → k < fresh → get_or added k d ≡ prefix_of (first + k) path
  added_at k d within = get_or-map-range_with_len (λ steps. prefix_of steps path) first fresh k (first + k) d within refl

  long : length added ≡ fresh
  long = length-map-range_with_len (λ steps. prefix_of steps path) first fresh

  steps_of : (k : ℕ) → k < fresh → length (prefix_of (first + k) path).steps ≡ first + k
  steps_of k within = length-take-le (first + k) path.steps (omega (arith, adds.within))

  -- each of them is one of the path, and none of the others
  are_added : All (IsListedPrefix (routes ++ path ∷ [])) added
  are_added k d within =
      let inside : k < fresh = omega (arith, long) in
      subst (IsListedPrefix (routes ++ path ∷ [])) (sym (added_at k d inside))
      (record {
        some_step = omega (arith, steps_of k inside);
        listed = path;
        is_listed = Contains-push routes path;
        is_prefix = prefix_of-is_prefix (first + k) path;
      })

  added_once : AllPairs (λ a b. a ≢ b) added
  added_once i j d before within same =
      let inside : j < fresh = omega (arith, long) in
      let one = ap (λ (route : Route). length route.steps)
      (sym (added_at i d (omega arith)) ∙ same ∙ added_at j d inside) in
      omega (arith, one, steps_of i (omega arith), steps_of j inside)

  not_known : All (λ known. All (λ other. known ≢ other) added) has.prefixes
  not_known i d within k e inside same =
      let at : k < fresh = omega (arith, long) in
      adds.new (first + k) (omega (arith, adds.within)) (omega (arith, adds.within))
      (subst (IsListedPrefix routes) (same ∙ added_at k e at) (has.are_prefixes.each i d within))

  still_listed : (prefix : Route) → IsListedPrefix routes prefix → IsListedPrefix (routes ++ path ∷ []) prefix
  still_listed prefix is = record {
    some_step = is.some_step;
    listed = is.listed;
    is_listed = Contains-append_left routes (path ∷ []) is.listed is.is_listed;
    is_prefix = is.is_prefix;
  }

  -- a prefix of so many steps of the path is known or new
  known_or_new : (steps : ℕ) → 1 ≤ steps → steps ≤ length path.steps → Contains (has.prefixes ++ added) (prefix_of steps path)
  known_or_new steps some within =
      ⊎_elim
      (λ beyond.
      let place : ℕ = steps - first in
      let inside : place < fresh = omega (arith, adds.within) in
      let at : first + place ≡ steps = omega (arith, adds.within) in
      Contains-append_right has.prefixes added (prefix_of steps path)
      (place, omega (arith, long), added_at place (prefix_of steps path) inside ∙ ap (λ count. prefix_of count path) at))
      (λ short. Contains-append_left has.prefixes added (prefix_of steps path)
      (has.whole (prefix_of steps path) (adds.known steps some short)))
      (cases_lt (length path.steps) (steps + fresh))

  whole : (prefix : Route) → IsListedPrefix (routes ++ path ∷ []) prefix → Contains (has.prefixes ++ added) prefix
  whole prefix is = ⊎_elim known own (Contains-push_cases routes path is.listed is.is_listed)
    where
      known : Contains routes is.listed → Contains (has.prefixes ++ added) prefix
      known among =
          Contains-append_left has.prefixes added prefix
          (has.whole prefix (record { some_step = is.some_step; listed = is.listed; is_listed = among; is_prefix = is.is_prefix }))

      own : path ≡ is.listed → Contains (has.prefixes ++ added) prefix
      own same =
          let of : IsPrefixOf prefix path = subst (IsPrefixOf prefix) (sym same) is.is_prefix in
          let within : length prefix.steps ≤ length path.steps = omega (arith, length-append prefix.steps of.rest, ap length of.steps) in
          subst (Contains (has.prefixes ++ added)) (sym (is_prefix_of prefix path of))
          (known_or_new (length prefix.steps) is.some_step within)

  -- with one path more there are its new prefixes more
  pub one_more_path : HasPrefixes (routes ++ path ∷ []) (count + fresh)
  one_more_path = record {
    prefixes = has.prefixes ++ added;
    are_prefixes = record {
      each =
          All-append (IsListedPrefix (routes ++ path ∷ [])) has.prefixes added
          (All-weaker (IsListedPrefix routes) (IsListedPrefix (routes ++ path ∷ [])) still_listed has.prefixes has.are_prefixes.each)
          are_added;
      once = apart_appended has.prefixes added has.are_prefixes.once added_once not_known;
    };
    whole = whole;
    counts = omega (arith, has.counts, long, length-append has.prefixes added);
  }
