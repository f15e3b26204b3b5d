-- Where paths stand in order, the prefixes that a path has and no path before it are those that it doesn't share with the one just before.
use Rattle.std.proofs.Common.{◌≡◌, ℕ, ◌+◌, ◌-◌, ◌<◌, ◌≤◌, List, [], ◌∷◌, ◌++◌, length, take, get_or, Some, Contains, sym, ap, subst, ◌∙◌, arith}
use Rattle.std.proofs.lemmas.List.{get_or-map, get_or-take, length-map, length-take-le, map_more, take_all}
use Rattle.std.proofs.lemmas.Option.{get_or_from_slice_get, slice_get-get_or, slice_get_within}
use Rattle.pd_base.specs.Route.{Route}
use Rattle.netlist.specs.Paths.{IsPrefixOf, prefix_of}
use Rattle.path_laws.proofs.Prefixes.{prefix_of-is_prefix}
use Rattle.prefix_sensitize.specs.PathOrder.{IsOrder, SharePrefix, StandsInOrder, routes_in}
use Rattle.prefix_sensitize.specs.Prefixes.{HasNewPrefixes, HasPrefixes}
use Rattle.prefix_sensitize.proofs.PathOrder.{stands_there, stands_within}
use Rattle.prefix_sensitize.proofs.Prefixes.{one_more_path, same_prefixes}

-- what is read past the last path
abbrev pub no_route : Route
no_route = record { source = record { 0 = 0 }; steps = [] }

-- the path in a row
abbrev pub route_in : List Route → ℕ → Route
route_in routes row = get_or routes row no_route

module _ (routes : List Route) (order : List ℕ) (is : IsOrder routes order) where
  -- a path at one of the first places is one of the paths there, and these are all
  pub among_first : (count place row : ℕ) (path : Route) → count ≤ length order → place < count → StandsInOrder routes order place row path
      → Contains (routes_in routes (take count order)) path
  among_first count place row path within before stands =
      let long : length (take count order) ≡ count = length-take-le count order within in
      let there : get_or order place row ≡ row = get_or_from_slice_get order place row row stands.is_placed in (
        place,
        omega (arith, long, length-map (take count order) (route_in routes)),
        get_or-map (route_in routes) (take count order) place row path (omega (arith, long))
            ∙ ap (route_in routes) (get_or-take count order place row before ∙ there)
            ∙ get_or_from_slice_get routes row path no_route stands.is_listed,
      )

  pub from_first : (count : ℕ) (path : Route) → count ≤ length order → Contains (routes_in routes (take count order)) path
      → (place : ℕ) × (row : ℕ) × (place < count) × StandsInOrder routes order place row path
  from_first count path within (place, inside, at) =
      let long : length (take count order) ≡ count = length-take-le count order within in
      let before : place < count = omega (arith, long, length-map (take count order) (route_in routes)) in
      let row : ℕ = get_or order place 0 in
      let same : route_in routes row ≡ path =
      ap (route_in routes) (sym (get_or-take count order place 0 before))
      ∙ sym (get_or-map (route_in routes) (take count order) place 0 path (omega (arith, long))) ∙ at in (
        place,
        row,
        before,
        subst (StandsInOrder routes order place row) same (stands_there routes order is.inside place 0 no_route (omega arith)),
      )

  -- a path behind the first one has those new that it doesn't share with the path before it
  module _ (place row : ℕ) (path : Route) (stands : StandsInOrder routes order place row path) (before earlier : ℕ) (other : Route)
      (next : before + 1 ≡ place) (at_other : StandsInOrder routes order before earlier other) (shared : ℕ)
      (share : SharePrefix other path shared) where
    inside : place < length order
    inside = stands_within routes order place row path stands

    pub not_shared_new : HasNewPrefixes (routes_in routes (take place order)) path (length path.steps - shared)
    not_shared_new = record {
      within = omega arith;
      known = λ steps some short. record {
        some_step = omega (arith, share.in_path, length-take-le steps path.steps (omega arith));
        listed = other;
        is_listed = among_first place before earlier other (omega (arith, inside)) (omega arith) at_other;
        is_prefix = share.shares steps some (omega (arith, share.in_path));
      };
      new = λ steps within long listed.
          let found = from_first place listed.listed (omega (arith, inside)) listed.is_listed in
          let some : 1 ≤ steps = omega (arith, share.in_path) in
          let of : IsPrefixOf (prefix_of steps path) other =
          is.together found.0 before place found.1 earlier row listed.listed other path (prefix_of steps path) found.3 at_other stands
          (omega (arith, found.2)) (omega arith) listed.is_prefix (prefix_of-is_prefix steps path) in
          let low : steps ≤ shared = share.most steps some within of in
          let no : ⊥ = omega (arith, share.in_path) in
          absurd no;
    }

  -- one place more
  pub one_more_place : (place row count fresh : ℕ) (path : Route) → StandsInOrder routes order place row path
      → HasNewPrefixes (routes_in routes (take place order)) path fresh
      → HasPrefixes (routes_in routes (take place order)) count → HasPrefixes (routes_in routes (take (place + 1) order)) (count + fresh)
  one_more_place place row count fresh path stands adds has =
      subst (λ list. HasPrefixes list (count + fresh)) (sym more)
      (one_more_path (routes_in routes (take place order)) path count fresh has adds)
    where
      there : route_in routes (get_or order place 0) ≡ path
      there =
          ap (route_in routes) (get_or_from_slice_get order place row 0 stands.is_placed)
          ∙ get_or_from_slice_get routes row path no_route stands.is_listed

      more : routes_in routes (take (place + 1) order) ≡ routes_in routes (take place order) ++ path ∷ []
      more =
          map_more (route_in routes) order place 0 (stands_within routes order place row path stands)
          ∙ ap (λ last. routes_in routes (take place order) ++ last ∷ []) there

  -- after the last place all paths are counted
  pub all_places : (place count : ℕ) → length order ≤ place → HasPrefixes (routes_in routes (take place order)) count
      → HasPrefixes routes count
  all_places place count last has =
      same_prefixes (routes_in routes (take (length order) order)) routes listed in_order count
      (subst (λ rows. HasPrefixes (routes_in routes rows) count)
      (take_all place order last ∙ sym (take_all (length order) order (omega arith))) has)
    where
      listed : (path : Route) → Contains (routes_in routes (take (length order) order)) path → Contains routes path
      listed path among =
          let found = from_first (length order) path (omega arith) among in (
            found.1,
            slice_get_within routes found.1 path found.3.is_listed,
            get_or_from_slice_get routes found.1 path path found.3.is_listed,
          )

      in_order : (path : Route) → Contains routes path → Contains (routes_in routes (take (length order) order)) path
      in_order path (row, within, at) =
          let has_place = is.whole row within in
          among_first (length order) has_place.0 row path (omega arith) has_place.1
          (record {
            is_placed = slice_get-get_or order has_place.0 row has_place.1 ∙ ap Some has_place.2;
            is_listed = slice_get-get_or routes row path within ∙ ap Some at;
          })
