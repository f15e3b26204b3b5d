-- What stands at places of an order of paths, and the stretches of places whose paths have one prefix.
use Rattle.std.proofs.Common.{◌≡◌, ⊎_elim, ℕ, ◌⊎◌, ◌+◌, ◌<◌, ◌≤◌, min, List, length, get_or, slice_get, Some, All, sym, ap, subst, ◌∙◌, arith}
use Rattle.std.proofs.lemmas.Bool.{cases_lt}
use Rattle.std.proofs.lemmas.List.Elements.{All-get_or}
use Rattle.std.proofs.lemmas.Option.{slice_get-get_or, slice_get_within}
use Rattle.pd_base.specs.Route.{Route}
use Rattle.netlist.specs.Paths.{IsPrefixOf}
use Rattle.prefix_sensitize.specs.PathOrder.{IsOrder, IsStretch, StandsInOrder}

module _ (routes : List Route) (order : List ℕ) where
  -- at a place stands one path
  pub stands_once : (place a b : ℕ) (p q : Route) → StandsInOrder routes order place a p → StandsInOrder routes order place b q → (a ≡ b) × (p ≡ q)
  stands_once place a b p q at_a at_b = (row, path)
    where
      row : a ≡ b
      row = let same : Some a ≡ Some b = sym at_a.is_placed ∙ at_b.is_placed in cc

      path : p ≡ q
      path = let same : Some p ≡ Some q = sym at_a.is_listed ∙ ap (slice_get routes) row ∙ at_b.is_listed in cc

  -- whose place is one of the order
  pub stands_within : (place row : ℕ) (path : Route) → StandsInOrder routes order place row path → place < length order
  stands_within place row path at = slice_get_within order place row at.is_placed

  -- at each place of the order the path in its row stands
  pub stands_there : All (λ row. row < length routes) order → (place d : ℕ) (e : Route) → place < length order
      → StandsInOrder routes order place (get_or order place d) (get_or routes (get_or order place d) e)
  stands_there inside place d e within = record {
    is_placed = slice_get-get_or order place d within;
    is_listed = slice_get-get_or routes (get_or order place d) e (All-get_or (λ row. row < length routes) order place d within inside);
  }

  -- also where it was read there
  pub stands_read : All (λ row. row < length routes) order → (place : ℕ) (path : Route) → place < length order
      → path ≡ get_or routes (get_or order place 0) path → StandsInOrder routes order place (get_or order place 0) path
  stands_read inside place path within is =
      subst (StandsInOrder routes order place (get_or order place 0)) (sym is) (stands_there inside place 0 path within)

  -- places from one on, up to another one, whose paths have this prefix, and the least of their rows
  pub record IsPart (prefix : Route) (place end least : ℕ) : Type 0 where
    pub some : place < end
    pub in_order : end ≤ length order
    pub inside : (at row : ℕ) (route : Route) → StandsInOrder routes order at row route → place ≤ at → at < end → IsPrefixOf prefix route
    pub at_least : ℕ
    pub least_behind : place ≤ at_least
    pub least_inside : at_least < end
    pub is_placed : slice_get order at_least ≡ Some least
    pub is_least : (at row : ℕ) → place ≤ at → at < end → slice_get order at ≡ Some row → least ≤ row

  module _ (prefix : Route) where
    -- one place
    pub part_begun : (place row : ℕ) (path : Route) → StandsInOrder routes order place row path → IsPrefixOf prefix path
        → IsPart prefix place (place + 1) row
    part_begun place row path stands of = record {
      some = omega arith;
      in_order = omega (arith, stands_within place row path stands);
      inside = λ at other route there from before.
          let here : at ≡ place = omega arith in
          let same = stands_once place row other path route stands (subst (λ k. StandsInOrder routes order k other route) here there) in
          subst (IsPrefixOf prefix) same.1 of;
      at_least = place;
      least_behind = omega arith;
      least_inside = omega arith;
      is_placed = stands.is_placed;
      is_least = λ at other from before there.
          let here : at ≡ place = omega arith in
          let same : Some row ≡ Some other = sym stands.is_placed ∙ ap (slice_get order) (sym here) ∙ there in
          let one : row ≡ other = cc in
          omega arith;
    }

    -- and one more
    module _ (place end least row : ℕ) (path : Route) (part : IsPart prefix place end least)
        (stands : StandsInOrder routes order end row path) (of : IsPrefixOf prefix path) where
      inside_more : (at other : ℕ) (route : Route) → StandsInOrder routes order at other route → place ≤ at → at < end + 1 → IsPrefixOf prefix route
      inside_more at other route there from before =
          ⊎_elim (λ earlier. part.inside at other route there from earlier)
          (λ here. let same : at ≡ end = omega arith in
          subst (IsPrefixOf prefix)
          (stands_once end row other path route stands (subst (λ k. StandsInOrder routes order k other route) same there)).1 of)
          (cases_lt at end)

      least_more : (at other : ℕ) → place ≤ at → at < end + 1 → slice_get order at ≡ Some other → min least row ≤ other
      least_more at other from before there =
          ⊎_elim (λ earlier. let low = part.is_least at other from earlier there in omega arith)
          (λ here. let same : at ≡ end = omega arith in
          let as_row : Some row ≡ Some other = sym stands.is_placed ∙ ap (slice_get order) (sym same) ∙ there in
          let one : row ≡ other = cc in
          omega arith)
          (cases_lt at end)

      pub part_more : IsPart prefix place (end + 1) (min least row)
      part_more = ⊎_elim kept lower (cases_lt row least)
        where
          lower : least ≤ row → IsPart prefix place (end + 1) (min least row)
          lower above = record {
            some = omega (arith, part.some);
            in_order = omega (arith, stands_within end row path stands);
            inside = inside_more;
            at_least = part.at_least;
            least_behind = part.least_behind;
            least_inside = omega (arith, part.least_inside);
            is_placed = let same : least ≡ min least row = omega arith in part.is_placed ∙ ap Some same;
            is_least = least_more;
          }

          kept : row < least → IsPart prefix place (end + 1) (min least row)
          kept below = record {
            some = omega (arith, part.some);
            in_order = omega (arith, stands_within end row path stands);
            inside = inside_more;
            at_least = end;
            least_behind = omega (arith, part.some);
            least_inside = omega arith;
            is_placed = let same : row ≡ min least row = omega arith in stands.is_placed ∙ ap Some same;
            is_least = least_more;
          }

    -- It is a stretch where the order ends, or where the path behind it has another prefix.
    pub part_ended : IsOrder routes order → (place end least row : ℕ) (path : Route) → IsPart prefix place end least
        → StandsInOrder routes order place row path
        → (length order ≤ end) ⊎ ((behind : ℕ) × (other : Route) × StandsInOrder routes order end behind other × (¬ IsPrefixOf prefix other))
        → IsStretch routes order prefix place end least
    part_ended is place end least row path part stands ends = record {
      some = part.some;
      in_order = part.in_order;
      inside = part.inside;
      behind = λ at there route stand from of.
          ⊎_elim
          (λ past. let within = stands_within at there route stand in omega arith)
          (λ other. other.3
          (is.together place end at row other.0 there path other.1 route prefix stands other.2 stand (omega (arith, part.some)) from
          (part.inside place row path stands (omega arith) part.some) of))
          ends;
      at_least = part.at_least;
      least_behind = part.least_behind;
      least_inside = part.least_inside;
      is_placed = part.is_placed;
      is_least = part.is_least;
    }
