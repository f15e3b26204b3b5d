-- What a node's last entry says of the arc that its last walk took.
use Rattle.std.proofs.Common.{◌≡◌, ℕ, ◌<◌, ◌^◌, slice_index, sym, ap, subst, ◌∙◌, arith}
use Rattle.path_laws.specs.declared.entry.WalkEntry.{WalkEntry}
use Rattle.path_laws.specs.declared.entry.TheConstants.{NONE}
use Rattle.path_laws.specs.Graph.{Graph, IsGraph, arc_end, node_count}
use Rattle.path_laws.specs.Walks.{HasShortWalks}
use Rattle.path_laws.specs.Entries.{IsEntryAt, entry_at}
use Rattle.path_laws.specs.Lists.{Lists, IsGoing, IsLast, IsLastArc, key_at, last_place, with_head}
use Rattle.path_laws.specs.Lists.IsLast.{no_entries, last_one}
use Rattle.path_laws.specs.Growth.{HasHeads, IsFed, IsWaiting}
use Rattle.path_laws.proofs.Arcs.{arc_in_graph}
use Rattle.path_laws.proofs.Stepping.{heads_moved, key_fits, next_on_end}

module _ (g : Graph) (graph : IsGraph g) (st : Lists) (going : IsGoing g st 0) (node : ℕ) (within : node < node_count g)
    (last : ℕ) (last_is : last ≡ last_place st node) where
  -- without a last entry no arc was taken
  pub none_without : last ≡ NONE → (arc : ℕ) → IsLastArc g st node arc → ⊥
  none_without none arc taken = omega (arith, none, last_is, taken.last.within, going.linked.few)

  -- with one it is the node's
  pub last_own : (last ≡ NONE → ⊥) → IsEntryAt st.entries node (last_place st node)
  last_own some = by_last (going.linked.lasts node within)
    where
      by_last : IsLast st.entries node (last_place st node) → IsEntryAt st.entries node (last_place st node)
      by_last (no_entries none _) = absurd (some (last_is ∙ none))
      by_last (last_one is _) = is

  module _ (entry : WalkEntry) (entry_is : entry ≡ entry_at st.entries last) where
    here : entry ≡ entry_at st.entries (last_place st node)
    here = entry_is ∙ ap (entry_at st.entries) last_is

    -- where its walk stops, no arc was taken
    pub none_taken : entry.arc ≡ NONE → (arc : ℕ) → IsLastArc g st node arc → ⊥
    none_taken stops arc taken =
        let same : entry.arc ≡ arc = ap (λ (e : WalkEntry). e.arc) here ∙ taken.by_arc in
        omega (arith, stops, arc_in_graph g graph node arc taken.own, graph.few_arcs)

    module _ (some : last ≡ NONE → ⊥) (goes : entry.arc ≡ NONE → ⊥) where
      -- else its arc was
      pub taken_here : IsLastArc g st node entry.arc
      taken_here =
          subst (IsLastArc g st node) (sym (ap (λ (e : WalkEntry). e.arc) here))
          ((going.started node (omega arith) within).taken (last_own some)
          (λ none. goes (ap (λ (e : WalkEntry). e.arc) here ∙ none)))

      module _ (next : ℕ) (next_is : next ≡ slice_index st.nexts entry.tail) where
        there : next ≡ slice_index st.nexts (entry_at st.entries (last_place st node)).tail
        there = next_is ∙ ap (λ (e : WalkEntry). slice_index st.nexts e.tail) here

        pub waiting_here : next ≡ NONE → IsWaiting g st node entry.arc
        waiting_here none = record { taken = taken_here; no_next = sym there ∙ none }

        pub next_fits : HasShortWalks g → key_at g st.entries entry.arc next < 2 ^ 32
        next_fits short =
            subst (λ n. key_at g st.entries entry.arc n < 2 ^ 32) (sym there)
            (key_fits g short st.entries node entry.arc _ taken_here.own
            (going.firsts (arc_end g entry.arc) (graph.inside node entry.arc taken_here.own))
            (next_on_end g graph st going node entry.arc within taken_here))

        pub moved_here : IsFed g st node → HasHeads g st (with_head g st entry.arc next) node
        moved_here fed =
            subst (λ n. HasHeads g st (with_head g st entry.arc n) node) (sym there)
            (heads_moved g graph st going node entry.arc within taken_here fed)
