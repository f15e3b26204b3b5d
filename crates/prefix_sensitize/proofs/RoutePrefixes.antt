-- The prefixes of one route: how many steps they have, and which are prefixes of which.
use Rattle.std.proofs.Common.{◌≡◌, ℕ, ◌≤◌, List, ◌++◌, length, take, drop, refl, sym, ap, subst, ◌∙◌, append_assoc, arith, length-append}
use Rattle.std.proofs.lemmas.List.{length-take-le, take-append-drop, take-take, take_all}
use Rattle.pd_base.specs.declared.ids.PinRef.{PinRef}
use Rattle.pd_base.specs.Route.{Route}
use Rattle.netlist.specs.Paths.{IsPrefixOf, prefix_of}
use Rattle.path_laws.proofs.Prefixes.{is_prefix_of}

-- the prefix of fewer steps is one of the prefix of more
pub shorter_prefix : (fewer more : ℕ) (path : Route) → fewer ≤ more → IsPrefixOf (prefix_of fewer path) (prefix_of more path)
shorter_prefix fewer more path within = record {
  source = refl;
  rest = drop fewer (take more path.steps);
  steps = ap (λ (front : List PinRef). front ++ drop fewer (take more path.steps)) (sym (take-take fewer more path.steps within))
      ∙ take-append-drop fewer (take more path.steps);
}

-- a prefix of a prefix is one
pub prefix_through : (p q r : Route) → IsPrefixOf p q → IsPrefixOf q r → IsPrefixOf p r
prefix_through p q r of on = record {
  source = of.source ∙ on.source;
  rest = of.rest ++ on.rest;
  steps = sym (append_assoc p.steps of.rest on.rest) ∙ ap (λ (steps : List PinRef). steps ++ on.rest) of.steps ∙ on.steps;
}

-- a prefix has no more steps than the route
pub fewer_steps : (prefix path : Route) → IsPrefixOf prefix path → length prefix.steps ≤ length path.steps
fewer_steps prefix path of =
    let whole = ap length of.steps in
    omega (arith, length-append prefix.steps of.rest, whole)

-- of two prefixes of a route the shorter one is a prefix of the other
pub shorter_of_two : (p q path : Route) → IsPrefixOf p path → IsPrefixOf q path → length p.steps ≤ length q.steps → IsPrefixOf p q
shorter_of_two p q path p_of q_of within =
    let P : Route → Type 0 = λ route. IsPrefixOf route q in
    let Q : Route → Type 0 = λ route. IsPrefixOf (prefix_of (length p.steps) path) route in
    subst P (sym (is_prefix_of p path p_of))
    (subst Q (sym (is_prefix_of q path q_of)) (shorter_prefix (length p.steps) (length q.steps) path within))

-- the prefix of so many steps has so many
pub steps_of_prefix : (count : ℕ) (path : Route) → count ≤ length path.steps → length (take count path.steps) ≡ count
steps_of_prefix count path within = length-take-le count path.steps within

-- the prefix of all steps is the route itself
pub whole_prefix : (count : ℕ) (path : Route) → length path.steps ≤ count → prefix_of count path ≡ path
whole_prefix count path whole = λ i. record { source = path.source; steps = take_all count path.steps whole i }
