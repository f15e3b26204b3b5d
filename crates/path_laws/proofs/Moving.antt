-- The arc that a node's last walk took gets its next head: the next walk of its end, or none where all are listed.
use Rattle.std.proofs.Common.{◌≡◌, ⊎_elim, ℕ, ◌<◌, ◌≤◌, List, ◌∷◌, length, slice_index, sym, ap, subst, ◌∙◌, arith}
use Rattle.std.proofs.lemmas.Bool.{cases_order}
use Rattle.path_laws.specs.Graph.{Graph, IsGraph, arc_end, node_count}
use Rattle.path_laws.specs.Walks.{Leads}
use Rattle.path_laws.specs.Order.{IsWalkBefore}
use Rattle.path_laws.specs.Entries.{IsEntryAt, HasEntry, entry_at, walk_at}
use Rattle.path_laws.specs.Lists.{Lists, HasAll, HasAllThrough, HasFirst, IsLast, IsLinked, IsNextPlace, IsListedUpTo, IsReady, IsLastArc, last_place, with_head}
use Rattle.path_laws.specs.Lists.IsNextPlace.{no_next, next_one}
use Rattle.path_laws.specs.Lists.IsLast.{no_entries, last_one}
use Rattle.path_laws.specs.Growth.{IsFed}
use Rattle.path_laws.proofs.Arcs.{arc_in_graph}
use Rattle.path_laws.proofs.Ordered.{after_arc, asymmetric, irreflexive}
use Rattle.path_laws.proofs.Heads.{ready_headed, ready_spent}

-- no entry stands behind the last one
pub none_behind : (g : Graph) (st : Lists) (linked : IsLinked g st) (node place : ℕ) → node < node_count g
    → IsEntryAt st.entries node place → place ≤ last_place st node
none_behind g st linked node place within is = by_last (linked.lasts node within)
  where
    by_last : IsLast st.entries node (last_place st node) → place ≤ last_place st node
    by_last (no_entries none nowhere) = absurd (nowhere place is)
    by_last (last_one here before) = before place is

module _ (g : Graph) (st : Lists) (node arc : ℕ) (taken : IsLastArc g st node arc)
    (firsts : HasFirst g st.entries (arc_end g arc)) where
  -- the place of the walk by which the node's last one goes on
  abbrev pub tail : ℕ
  tail = (entry_at st.entries (last_place st node)).tail

  -- a walk listed up to there is listed behind the arc
  listed_up_to : (place : ℕ) (walk : List ℕ) → Leads g (arc_end g arc) walk → IsEntryAt st.entries (arc_end g arc) place
      → walk_at st.entries place ≡ walk → place ≤ tail → HasEntry st.entries node (arc ∷ walk)
  listed_up_to place walk leads is has up_to =
      ⊎_elim
      (λ same. record {
        place = last_place st node;
        entry = taken.last;
        has = taken.has ∙ ap (λ p. arc ∷ walk_at st.entries p) (sym same) ∙ ap (λ w. arc ∷ w) has;
      })
      (λ apart. ⊎_elim
      (λ less. taken.tail.below walk leads
      (subst (λ w. IsWalkBefore g w (walk_at st.entries tail)) has (firsts.rising place tail less is taken.tail.on_end)))
      (λ more. absurd (omega arith))
      apart)
      (cases_order place tail)

  -- with no next walk all are listed
  pub all_through : HasAll g st.entries (arc_end g arc)
      → ((later : ℕ) → tail < later → IsEntryAt st.entries (arc_end g arc) later → ⊥) → HasAllThrough g st.entries node arc
  all_through all no_later walk leads =
      let listed = all walk leads in
      listed_up_to listed.place walk leads listed.entry listed.has
      (⊎_elim (λ same. let e : listed.place ≤ tail = omega arith in e)
      (λ apart. ⊎_elim (λ less. let e : listed.place ≤ tail = omega arith in e)
      (λ more. absurd (no_later listed.place more listed.entry)) apart)
      (cases_order listed.place tail))

  module _ (next : ℕ) (behind : tail < next) (on_end : IsEntryAt st.entries (arc_end g arc) next)
      (closest : (later : ℕ) → tail < later → IsEntryAt st.entries (arc_end g arc) later → next ≤ later) where
    -- all walks before the next one are listed
    pub next_passed : IsListedUpTo g st.entries node arc next
    next_passed = record { on_end = on_end; below = below }
      where
        below : (walk : List ℕ) → Leads g (arc_end g arc) walk → IsWalkBefore g walk (walk_at st.entries next)
            → HasEntry st.entries node (arc ∷ walk)
        below walk leads before = ⊎_elim by_place after_all (firsts.rest_after walk leads)
          where
            after_all : ((place : ℕ) → IsEntryAt st.entries (arc_end g arc) place →
                IsWalkBefore g (walk_at st.entries place) walk)
                → HasEntry st.entries node (arc ∷ walk)
            after_all all = absurd (asymmetric g walk (walk_at st.entries next) before (all next on_end))

            by_place : HasEntry st.entries (arc_end g arc) walk → HasEntry st.entries node (arc ∷ walk)
            by_place listed =
                listed_up_to listed.place walk leads listed.entry listed.has
                (⊎_elim (λ same. let e : listed.place ≤ tail = omega arith in e)
                (λ apart. ⊎_elim (λ less. let e : listed.place ≤ tail = omega arith in e)
                (λ more. absurd (not_behind (closest listed.place more listed.entry))) apart)
                (cases_order listed.place tail))
              where
                not_behind : next ≤ listed.place → ⊥
                not_behind from =
                    ⊎_elim
                    (λ same. irreflexive g walk
                    (subst (λ w. IsWalkBefore g walk w) (ap (walk_at st.entries) same ∙ listed.has) before))
                    (λ apart. ⊎_elim
                    (λ less. asymmetric g walk (walk_at st.entries next) before
                    (subst (λ w. IsWalkBefore g (walk_at st.entries next) w) listed.has
                    (firsts.rising next listed.place less on_end listed.entry)))
                    (λ more. let e : ⊥ = omega arith in e) apart)
                    (cases_order next listed.place)

    -- and the next one isn't
    pub next_fresh : HasFirst g st.entries node → ((place : ℕ) → IsEntryAt st.entries node place → place ≤ last_place st node)
        → HasEntry st.entries node (arc ∷ walk_at st.entries next) → ⊥
    next_fresh own none_later listed =
        ⊎_elim
        (λ same. irreflexive g (arc ∷ walk_at st.entries next)
        (subst (λ w. IsWalkBefore g w (arc ∷ walk_at st.entries next))
        (sym taken.has ∙ ap (walk_at st.entries) (sym same) ∙ listed.has) later_behind))
        (λ apart. ⊎_elim
        (λ less. asymmetric g (arc ∷ walk_at st.entries tail) (arc ∷ walk_at st.entries next) later_behind
        (subst (λ w. IsWalkBefore g (arc ∷ walk_at st.entries next) w) taken.has
        (subst (λ w. IsWalkBefore g w (walk_at st.entries (last_place st node))) listed.has
        (own.rising listed.place (last_place st node) less listed.entry taken.last))))
        (λ more. let at_most = none_later listed.place listed.entry in let e : ⊥ = omega arith in e) apart)
        (cases_order listed.place (last_place st node))
      where
        later_behind : IsWalkBefore g (arc ∷ walk_at st.entries tail) (arc ∷ walk_at st.entries next)
        later_behind = after_arc g arc (walk_at st.entries tail) (walk_at st.entries next)
            (firsts.rising tail next behind taken.tail.on_end on_end)

-- so the arc is ready with the next head
module _ (g : Graph) (graph : IsGraph g) (st : Lists) (linked : IsLinked g st)
    (firsts : (node : ℕ) → node < node_count g → HasFirst g st.entries node) (node arc : ℕ) (within : node < node_count g)
    (taken : IsLastArc g st node arc) (fed : IsFed g st node) where
  abbrev next : ℕ
  next = slice_index st.nexts (tail g st node arc taken (firsts (arc_end g arc) (graph.inside node arc taken.own)))

  pub ready_next : IsReady g (with_head g st arc next) node arc
  ready_next = by_next (linked.nexts _ taken.tail.on_end.within)
    where
      on_end : HasFirst g st.entries (arc_end g arc)
      on_end = firsts (arc_end g arc) (graph.inside node arc taken.own)

      place : ℕ
      place = (entry_at st.entries (last_place st node)).tail

      keys : arc < length st.keys
      keys = omega (arith, linked.key_each, arc_in_graph g graph node arc taken.own)

      heads : arc < length st.heads
      heads = omega (arith, linked.head_each, arc_in_graph g graph node arc taken.own)

      by_next : IsNextPlace st.entries (entry_at st.entries (last_place st node)).tail next →
          IsReady g (with_head g st arc next) node arc
      by_next (no_next none nowhere) =
          ready_spent g st arc next node keys heads none
          (all_through g st node arc taken on_end (fed arc taken none)
          (λ later behind is. nowhere later behind
          (subst (λ n. IsEntryAt st.entries n later) (sym taken.tail.on_end.own) is)))
      by_next (next_one behind is closest) =
          let there = subst (λ n. IsEntryAt st.entries n next) taken.tail.on_end.own is in
          let first = λ (later : ℕ) (past : (entry_at st.entries (last_place st node)).tail < later)
          (has : IsEntryAt st.entries (arc_end g arc) later).
          closest later past (subst (λ n. IsEntryAt st.entries n later) (sym taken.tail.on_end.own) has) in
          ready_headed g st arc next node keys heads (λ none. let e : ⊥ = omega (arith, is.within, linked.few) in e)
          (on_end.lengths next there)
          (next_passed g st node arc taken on_end next behind there first)
          (next_fresh g st node arc taken on_end next behind there first (firsts node within)
          (λ p has. none_behind g st linked node p within has))
