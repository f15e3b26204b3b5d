-- The first walks of a circuit's graph are its first paths.
use Rattle.std.proofs.Common.{ℕ, List, [], ◌∷◌, map, get_or, Contains, ap, subst, ◌∙◌, arith}
use Rattle.std.specs.List.{All}
use Rattle.std.proofs.lemmas.List.{get_or-map, length-map}
use Rattle.std.proofs.lemmas.List.Elements.{All-head, All-map, All-tail, All-weaker}
use Rattle.pd_base.specs.declared.ids.PinRef.{PinRef}
use Rattle.pd_base.specs.Route.{Route}
use Rattle.netlist.specs.Circuit.{Circuit}
use Rattle.netlist.specs.Waves.{Delays}
use Rattle.netlist.specs.Paths.{IsPath}
use Rattle.netlist.specs.Order.{AreFirst, IsBefore, IsFull, IsRising}
use Rattle.netlist.specs.Order.IsFull.{so_many, all_paths}
use Rattle.path_laws.specs.Graph.{Graph}
use Rattle.path_laws.specs.Walks.{Leads}
use Rattle.path_laws.specs.Order.{AreFirstWalks, AreEnoughWalks, AreWalksRising}
use Rattle.path_laws.specs.Order.AreEnoughWalks.{so_many as so_many_walks, all_walks}
use Rattle.path_laws.specs.CircuitGraph.{IsGraphOf, route_of}
use Rattle.path_laws.proofs.WalkPaths.{walk_is_path, walk_of_path}
use Rattle.path_laws.proofs.WalkOrder.{path_before, walk_before}

module _ (c : Circuit) (delays : Delays) (nodes : List ℕ) (pins : List PinRef) (g : Graph)
    (is : IsGraphOf c delays nodes pins g) where
  -- the paths of walks
  abbrev routes : List (List ℕ) → List Route
  routes walks = map (route_of c pins) walks

  -- the paths of rising walks rise
  routes_rise : (walks : List (List ℕ)) → All (Leads g 0) walks → AreWalksRising g walks → IsRising delays (routes walks)
  routes_rise [] lead rise = tt
  routes_rise (p ∷ []) lead rise = tt
  routes_rise (p ∷ q ∷ walks) lead rise =
      let behind = All-tail (Leads g 0) p (q ∷ walks) lead in (
        path_before c delays nodes pins g is p q (All-head (Leads g 0) p (q ∷ walks) lead)
            (All-head (Leads g 0) q walks behind) rise.0,
        routes_rise (q ∷ walks) behind rise.1,
      )

  -- the path of a listed walk is listed
  route_listed : (walks : List (List ℕ)) (walk : List ℕ) → Contains walks walk → Contains (routes walks) (route_of c pins walk)
  route_listed walks walk has =
      let route = route_of c pins in (
        has.0,
        omega (arith, has.1, length-map walks route),
        get_or-map route walks has.0 walk (route walk) has.1 ∙ ap route has.2,
      )

  module _ (count : ℕ) (walks : List (List ℕ)) (first : AreFirstWalks g 0 count walks) where
    -- the path of a walk that is not listed stands before none of the listed ones
    none_before_route : (walk : List ℕ) → Leads g 0 walk → ¬ Contains (routes walks) (route_of c pins walk)
        → All (λ p. ¬ IsBefore delays (route_of c pins walk) p) (routes walks)
    none_before_route walk leads unlisted =
        let unlisted_walk : ¬ Contains walks walk = λ has. unlisted (route_listed walks walk has) in
        All-map (λ p. ¬ IsBefore delays (route_of c pins walk) p) (route_of c pins) walks
        (λ place d within. λ before.
        first.none_before walk leads unlisted_walk place d within
        (walk_before c delays nodes pins g is walk (get_or walks place d) leads (first.are_walks place d within) before))

    -- no other path does
    none_before_other : (other : Route) → IsPath c other → ¬ Contains (routes walks) other
        → All (λ p. ¬ IsBefore delays other p) (routes walks)
    none_before_other other of =
        let found = walk_of_path c delays nodes pins g is other of in
        subst (λ (path : Route). ¬ Contains (routes walks) path → All (λ p. ¬ IsBefore delays path p) (routes walks)) found.2
        (none_before_route found.0 found.1)

    -- where all walks are listed, so are all paths
    all_listed : ((walk : List ℕ) → Leads g 0 walk → Contains walks walk) → (other : Route) → IsPath c other
        → Contains (routes walks) other
    all_listed all other of =
        let found = walk_of_path c delays nodes pins g is other of in
        subst (Contains (routes walks)) found.2 (route_listed walks found.0 (all found.0 found.1))

    -- as many paths are listed as walks
    full_of_routes : AreEnoughWalks g 0 count walks → IsFull c count (routes walks)
    full_of_routes (so_many_walks many) = so_many (length-map walks (route_of c pins) ∙ many)
    full_of_routes (all_walks fewer all) =
        all_paths (omega (arith, length-map walks (route_of c pins))) (all_listed all)

    -- so the paths of the first walks are the first paths
    pub first_paths_from_walks : AreFirst c delays count (routes walks)
    first_paths_from_walks = record {
      are_paths = All-map (IsPath c) (route_of c pins) walks
          (All-weaker (Leads g 0) (λ walk. IsPath c (route_of c pins walk)) (walk_is_path c delays nodes pins g is) walks
          first.are_walks);
      rising = routes_rise walks first.are_walks first.rising;
      none_before = none_before_other;
      full = full_of_routes first.full;
    }
