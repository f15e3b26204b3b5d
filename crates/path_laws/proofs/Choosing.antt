-- The greatest key says which walk is the next one from a node whose arcs are all ready.
use Rattle.std.proofs.Common.{◌≡◌, ◌⊎◌, inl, inr, ⊎_elim, ℕ, ◌+◌, ◌-◌, ◌<◌, ◌≤◌, Bool, true, false, cond, List, [], ◌∷◌, drop, slice_index, IsTrue, refl, sym, ap, subst, ◌∙◌, arith}
use Rattle.std.specs.List.{slice_range}
use Rattle.std.proofs.lemmas.Bool.{cases_order, cond-true}
use Rattle.std.proofs.lemmas.List.{get_or-drop, get_or-take}
use Rattle.path_laws.specs.declared.entry.WalkEntry.{WalkEntry}
use Rattle.path_laws.specs.declared.entry.TheConstants.{NONE}
use Rattle.path_laws.specs.Graph.{Graph, IsArcOf, IsGraph, arc_end, first_arc, node_count}
use Rattle.path_laws.specs.Walks.{Leads, walk_length}
use Rattle.path_laws.specs.Order.{IsWalkBefore}
use Rattle.path_laws.specs.Order.AreArcsBefore.{shorter_list, lesser_arc}
use Rattle.path_laws.specs.Order.IsWalkBefore.{longer, lesser_arcs}
use Rattle.path_laws.specs.Entries.{HasEntry, walk_at, walk_of, walks_of}
use Rattle.path_laws.specs.Lists.{Lists, AllReady, HasAll, HasFirst, IsFreeRight, IsGreatest, IsReady, head_of, is_free, key_of}
use Rattle.path_laws.specs.Lists.IsReady.{spent, headed}
use Rattle.path_laws.specs.Lists.IsGreatest.{none_above, first_above}
use Rattle.path_laws.specs.Growth.{IsNextEntry}
use Rattle.path_laws.proofs.Arcs.{arc_in_graph}
use Rattle.path_laws.proofs.Ordered.{after_arc, compared, transitive}
use Rattle.path_laws.proofs.Taking.{walk_goes}

-- a key of a part of the keys
key_in : (keys : List ℕ) (first end k : ℕ) → k < end - first → slice_index (slice_range keys first end) k ≡
    slice_index keys (first + k)
key_in keys first end k below = get_or-take (end - first) (drop first keys) k 0 below ∙ get_or-drop first keys k 0

module _ (g : Graph) (graph : IsGraph g) (st : Lists) (node : ℕ) (within : node < node_count g)
    (firsts : (node : ℕ) → node < node_count g → HasFirst g st.entries node) (free : IsFreeRight g st node)
    (ready : AllReady g st node) where
  -- the walk through an arc and its head
  abbrev best_through : ℕ → List ℕ
  best_through arc = arc ∷ walk_at st.entries (head_of st arc)

  -- a walk through an arc is listed, or it isn't before the arc's best one
  data Through (arc : ℕ) (walk : List ℕ) : Type 0 where
    listed : HasEntry st.entries node (arc ∷ walk) → Through arc walk
    not_before : (best_through arc ≡ arc ∷ walk) ⊎ IsWalkBefore g (best_through arc) (arc ∷ walk)
        → key_of st arc ≡ walk_length g (best_through arc) + 1 → Through arc walk

  through : (arc : ℕ) (walk : List ℕ) → Leads g (arc_end g arc) walk → IsReady g st node arc → Through arc walk
  through arc walk leads (spent key all) = listed (all walk leads)
  through arc walk leads (headed passed fresh key) =
      ⊎_elim
      (λ before. listed (passed.below walk leads before))
      (λ rest. ⊎_elim
      (λ same. not_before (inl (ap (λ w. arc ∷ w) (sym same))) key)
      (λ after. not_before (inr (after_arc g arc (walk_at st.entries (head_of st arc)) walk after)) key)
      rest)
      (compared g walk (walk_at st.entries (head_of st arc)))

  -- a walk that isn't before the best one through an arc is no longer
  no_longer : (p q : List ℕ) → (p ≡ q) ⊎ IsWalkBefore g p q → walk_length g q ≤ walk_length g p
  no_longer p q either = ⊎_elim (λ same. omega (arith, ap (walk_length g) same)) by_order either
    where
      by_order : IsWalkBefore g p q → walk_length g q ≤ walk_length g p
      by_order (longer less) = omega arith
      by_order (lesser_arcs even less) = omega arith

  abbrev floor : ℕ
  floor = cond (is_free st node) 1 0

  abbrev first : ℕ
  first = first_arc g node

  abbrev end : ℕ
  end = first_arc g (node + 1)

  module _ (key place : ℕ) (greatest : IsGreatest (slice_range st.keys first end) (end - first) floor key place) where
    -- no arc of the node has a greater key
    at_most : (arc : ℕ) → IsArcOf g node arc → key_of st arc ≤ key
    at_most arc own = by_kind greatest
      where
        at : slice_index (slice_range st.keys first end) (arc - first) ≡ key_of st arc
        at =
            key_in st.keys first end (arc - first) (omega (arith, own.from, own.below))
            ∙ ap (key_of st) (let e : first + (arc - first) ≡ arc = omega (arith, own.from) in e)

        by_kind : IsGreatest (slice_range st.keys first end) (end - first) floor key place → key_of st arc ≤ key
        by_kind (none_above is all) = omega (arith, at, all (arc - first) (omega (arith, own.from, own.below)))
        by_kind (first_above above inside here all before) =
            omega (arith, at, all (arc - first) (omega (arith, own.from, own.below)))

    floor_below : floor ≤ key
    floor_below = by_kind greatest
      where
        by_kind : IsGreatest (slice_range st.keys first end) (end - first) floor key place → floor ≤ key
        by_kind (none_above is all) = omega arith
        by_kind (first_above above inside here all before) = omega arith

    free_floor : IsTrue (is_free st node) → floor ≡ 1
    free_floor is = cond-true (is_free st node) 1 0 is

    -- at key 0 all walks are listed
    pub all_at_zero : key ≡ 0 → HasAll g st.entries node
    all_at_zero none [] leads =
        ⊎_elim (λ listed. listed)
        (λ is. absurd (let f = free_floor is in let b = floor_below in let e : ⊥ = omega arith in e)) (free.kept leads)
    all_at_zero none (arc ∷ walk) (own, leads) = by_kind (through arc walk leads (ready arc own))
      where
        by_kind : Through arc walk → HasEntry st.entries node (arc ∷ walk)
        by_kind (listed is) = is
        by_kind (not_before _ is) = absurd (let m = at_most arc own in let e : ⊥ = omega arith in e)

    -- at key 1, where the node is free, it stops
    pub stop_at_one : key ≡ 1 → IsTrue (is_free st node)
        → IsNextEntry g st node (record { node = node; length = 0; arc = NONE; tail = NONE })
    stop_at_one one is = record {
      own = refl;
      leads = free.may is;
      long = refl;
      fresh = free.fresh is;
      least = least;
      arc_own = λ some. absurd (some refl);
      tail = λ some. absurd (some refl);
    }
      where
        least : (other : List ℕ) → Leads g node other
            → HasEntry st.entries node other ⊎ ((other ≡ []) ⊎ IsWalkBefore g [] other)
        least [] leads = inr (inl refl)
        least (arc ∷ walk) (own, leads) = by_kind (through arc walk leads (ready arc own))
          where
            by_kind : Through arc walk
                → HasEntry st.entries node (arc ∷ walk) ⊎ (((arc ∷ walk) ≡ []) ⊎ IsWalkBefore g [] (arc ∷ walk))
            by_kind (listed has) = inl has
            by_kind (not_before after has) =
                inr (inr (lesser_arcs (omega (
                  arith,
                  at_most arc own,
                  no_longer (best_through arc)
                      (arc ∷ walk) after,
                )) shorter_list))

    -- else it takes the arc of the greatest key
    module _ (some : key ≡ 0 → ⊥) (no_stop : key ≡ 1 → IsTrue (is_free st node) → ⊥) where
      abbrev taken : ℕ
      taken = first + place

      pub record IsChosen : Type 0 where
        pub inside : place < end - first
        pub above : floor < key
        pub own : IsArcOf g node taken
        pub here : key_of st taken ≡ key
        pub earlier : (arc : ℕ) → IsArcOf g node arc → arc < taken → key_of st arc < key

      pub chosen : IsChosen
      chosen = by_kind greatest
        where
          by_kind : IsGreatest (slice_range st.keys first end) (end - first) floor key place → IsChosen
          by_kind (none_above is all) = absurd (by_bool (is_free st node) refl is)
            where
              by_bool : (b : Bool) → b ≡ is_free st node → key ≡ cond b 1 0 → ⊥
              by_bool true same is_one = no_stop is_one (sym same)
              by_bool false same is_none = some is_none
          by_kind (first_above above inside here all before) = record {
            inside = inside;
            above = above;
            own = record { in_graph = within; from = omega arith; below = omega arith };
            here = sym (key_in st.keys first end place inside) ∙ here;
            earlier =
                λ arc own less.
                (let at = key_in st.keys first end (arc - first) (omega (arith, own.from, own.below)) in
                let same : first + (arc - first) ≡ arc = omega (arith, own.from) in
                let smaller = before (arc - first) (omega (arith, own.from)) in
                omega (arith, at, ap (key_of st) same, smaller));
          }

      abbrev entry : WalkEntry
      entry = record { node = node; length = key - 1; arc = taken; tail = head_of st taken }

      goes : taken ≡ NONE → ⊥
      goes is = let a = arc_in_graph g graph node taken chosen.own in let e : ⊥ = omega (arith, graph.few_arcs) in e

      walk_is : walk_of (walks_of st.entries) entry ≡ best_through taken
      walk_is = walk_goes (walks_of st.entries) entry goes

      -- the walk through it stands before all others that aren't listed
      least : key ≡ walk_length g (best_through taken) + 1 → (other : List ℕ) → Leads g node other
          → HasEntry st.entries node other ⊎ ((other ≡ best_through taken) ⊎ IsWalkBefore g (best_through taken) other)
      least long [] leads =
          ⊎_elim
          (λ listed. inl listed)
          (λ is. inr (inr (longer (let f = free_floor is in let c = chosen.above in omega arith))))
          (free.kept leads)
      least long (arc ∷ walk) (own, leads) = by_kind (through arc walk leads (ready arc own))
        where
          to_best : key_of st arc ≡ walk_length g (best_through arc) + 1
              → (best_through taken ≡ best_through arc) ⊎ IsWalkBefore g (best_through taken) (best_through arc)
          to_best has =
              ⊎_elim
              (λ same. inl (ap best_through (sym same)))
              (λ apart. inr (⊎_elim
              (λ less. longer (omega (arith, chosen.earlier arc own less)))
              (λ more. ⊎_elim
              (λ even. lesser_arcs (omega arith) (lesser_arc more))
              (λ uneven. ⊎_elim (λ less. longer (omega arith)) (λ greater. absurd (let m = at_most arc own in
              let e : ⊥ = omega arith in e)) uneven)
              (cases_order (key_of st arc) key))
              apart))
              (cases_order arc taken)

          by_kind : Through arc walk → HasEntry st.entries node (arc ∷ walk)
              ⊎ (((arc ∷ walk) ≡ best_through taken) ⊎ IsWalkBefore g (best_through taken) (arc ∷ walk))
          by_kind (listed is) = inl is
          by_kind (not_before after has) =
              inr (⊎_elim
              (λ same. ⊎_elim (λ also. inl (sym also ∙ sym same))
              (λ before. inr (subst (λ w. IsWalkBefore g w (arc ∷ walk)) (sym same) before)) after)
              (λ ahead. inr (⊎_elim (λ also. subst (IsWalkBefore g (best_through taken)) also ahead)
              (λ before. transitive g (best_through taken) (best_through arc) (arc ∷ walk) ahead before) after))
              (to_best has))

      pub arc_at_key : IsNextEntry g st node entry
      arc_at_key = by_kind (ready taken chosen.own)
        where
          by_kind : IsReady g st node taken → IsNextEntry g st node entry
          by_kind (spent none all) = absurd (some (sym chosen.here ∙ none))
          by_kind (headed passed fresh has) = record {
            own = refl;
            leads =
                subst (Leads g node) (sym walk_is) (
                  chosen.own,
                  (firsts (arc_end g taken) (graph.inside node taken chosen.own)).leads
                      (head_of st taken) passed.on_end,
                );
            long = (let h = chosen.here in let e : key - 1 ≡ walk_length g (best_through taken) = omega arith in e)
                ∙ ap (walk_length g) (sym walk_is);
            fresh = λ is. fresh (subst (HasEntry st.entries node) walk_is is);
            least =
                λ other leads.
                subst (λ w. HasEntry st.entries node other ⊎ ((other ≡ w) ⊎ IsWalkBefore g w other)) (sym walk_is)
                (least (sym chosen.here ∙ has) other leads);
            arc_own = λ _. chosen.own;
            tail = λ _. passed;
          }

      -- the same, under the names that the code has for the numbers
      pub entry_at_key : (arc tail : ℕ) → arc ≡ taken → tail ≡ head_of st arc
          → IsNextEntry g st node (record { node = node; length = key - 1; arc = arc; tail = tail })
      entry_at_key arc tail same head =
          subst (λ t. IsNextEntry g st node (record { node = node; length = key - 1; arc = arc; tail = t })) (sym head)
          (subst (λ a. IsNextEntry g st node (record { node = node; length = key - 1; arc = a; tail = head_of st a }))
          (sym same)
          arc_at_key)

-- the greatest key between two numbers that equal others
pub between : (keys : List ℕ) (from to low high least key place : ℕ) → from ≡ low → to ≡ high
    → IsGreatest (slice_range keys from to) (to - from) least key place
    → IsGreatest (slice_range keys low high) (high - low) least key place
between keys from to low high least key place same also greatest =
    subst (λ b. IsGreatest (slice_range keys low b) (b - low) least key place) also
    (subst (λ a. IsGreatest (slice_range keys a to) (to - a) least key place) same greatest)
