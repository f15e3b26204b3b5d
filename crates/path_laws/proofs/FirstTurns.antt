-- The first walks, from the last node back.
use Rattle.std.proofs.Common.{◌≡◌, ◌⊎◌, inl, inr, ⊎_elim, ℕ, ◌+◌, ◌<◌, ◌≤◌, ◌^◌, Bool, true, false, List, [], ◌∷◌, length, refl, sym, ap, subst, ◌∙◌, arith}
use Rattle.std.proofs.lemmas.Bool.{cases_eq}
use Rattle.std.proofs.lemmas.List.{get_or-replicate, length-replicate}
use Rattle.path_laws.specs.declared.entry.TheConstants.{NONE}
use Rattle.path_laws.specs.Graph.{Graph, IsArcOf, IsGraph, arc_count, arc_end, node_count}
use Rattle.path_laws.specs.Walks.{HasShortWalks, Leads}
use Rattle.path_laws.specs.Order.{IsWalkBefore}
use Rattle.path_laws.specs.Entries.{IsEntryAt, HasEntry, walk_at}
use Rattle.path_laws.specs.Lists.{Lists, empty_lists, AllReady, HasAll, HasFirst, IsLast, IsReady, IsStarted, key_at, last_place, with_head}
use Rattle.path_laws.specs.Lists.IsLast.{no_entries, last_one}
use Rattle.path_laws.specs.Growth.{IsBegun, TakesNext}
use Rattle.path_laws.proofs.Appending.{still_listed, was_entry}
use Rattle.path_laws.proofs.Arcs.{arc_in_graph}
use Rattle.path_laws.proofs.Heads.{links_kept, others_started, ready_elsewhere, ready_headed, ready_spent}
use Rattle.path_laws.proofs.Ordered.{asymmetric, irreflexive}
use Rattle.path_laws.proofs.Stepping.{key_fits}

-- before the first turn no node has an entry
pub nothing_begun : (g : Graph) → IsBegun g (empty_lists g) (node_count g)
nothing_begun g = record {
  going = record {
    linked = record {
      few = omega arith;
      next_each = refl;
      last_each = length-replicate (node_count g) NONE;
      head_each = length-replicate (arc_count g) NONE;
      key_each = length-replicate (arc_count g) 0;
      free_each = refl;
      tails = λ place within. absurd (omega arith);
      nexts = λ place within. absurd (omega arith);
      lasts = λ node within. no_entries (get_or-replicate (node_count g) node NONE 0 within)
          (λ place is. absurd (omega (arith, is.within)));
    };
    firsts = λ node within. record {
      leads = λ place is. absurd (omega (arith, is.within));
      lengths = λ place is. absurd (omega (arith, is.within));
      rising = λ i j less is. absurd (omega (arith, is.within));
      rest_after = λ walk leads. inr (λ place is. absurd (omega (arith, is.within)));
    };
    started = λ node from within. absurd (omega arith);
  };
  none_before = λ node place before is. omega (arith, is.within);
  free_before = λ node before. refl;
  one_each = λ node place within is. absurd (omega (arith, is.within));
  all_of_none = λ node from within. absurd (omega arith);
}

-- an arc of the node whose turn it is gets its head
module _ (g : Graph) (graph : IsGraph g) (st : Lists) (node arc : ℕ) (begun : IsBegun g st (node + 1))
    (own : IsArcOf g node arc) where
  -- the first walk of the arc's end
  abbrev head : ℕ
  head = last_place st (arc_end g arc)

  inside : arc_end g arc < node_count g
  inside = graph.inside node arc own

  onward : node + 1 ≤ arc_end g arc
  onward = omega (arith, graph.onward node arc own)

  first : HasFirst g st.entries (arc_end g arc)
  first = begun.going.firsts (arc_end g arc) inside

  -- is none, or an entry of it
  pub head_on_end : (head ≡ NONE) ⊎ IsEntryAt st.entries (arc_end g arc) head
  head_on_end = by_last (begun.going.linked.lasts (arc_end g arc) inside)
    where
      by_last : IsLast st.entries (arc_end g arc) head → (head ≡ NONE) ⊎ IsEntryAt st.entries (arc_end g arc) head
      by_last (no_entries none _) = inl none
      by_last (last_one is _) = inr is

  pub head_fits : HasShortWalks g → key_at g st.entries arc head < 2 ^ 32
  head_fits short = key_fits g short st.entries node arc head own first head_on_end

  none_here : (walk : List ℕ) → HasEntry st.entries node walk → ⊥
  none_here walk listed = begun.none_before node listed.place (omega arith) listed.entry

  -- so the arc is ready
  ready_here : IsReady g (with_head g st arc head) node arc
  ready_here = by_last (begun.going.linked.lasts (arc_end g arc) inside)
    where
      keys : arc < length st.keys
      keys = omega (arith, begun.going.linked.key_each, arc_in_graph g graph node arc own)

      heads : arc < length st.heads
      heads = omega (arith, begun.going.linked.head_each, arc_in_graph g graph node arc own)

      by_last : IsLast st.entries (arc_end g arc) head → IsReady g (with_head g st arc head) node arc
      by_last (no_entries none nowhere) =
          ready_spent g st arc head node keys heads none
          (λ walk leads. (let listed = begun.all_of_none (arc_end g arc) onward inside none walk leads in
          absurd (nowhere listed.place listed.entry)))
      by_last (last_one is latest) =
          ready_headed g st arc head node keys heads
          (λ none. let e : ⊥ = omega (arith, is.within, begun.going.linked.few) in e)
          (first.lengths head is)
          (record { on_end = is; below = below })
          (none_here (arc ∷ walk_at st.entries head))
        where
          below : (walk : List ℕ) → Leads g (arc_end g arc) walk → IsWalkBefore g walk (walk_at st.entries head)
              → HasEntry st.entries node (arc ∷ walk)
          below walk leads before =
              absurd (⊎_elim
              (λ listed. irreflexive g walk
              (subst (IsWalkBefore g walk)
              (ap (walk_at st.entries) (sym (begun.one_each (arc_end g arc) listed.place inside listed.entry)) ∙ listed.has)
              before))
              (λ all. asymmetric g walk (walk_at st.entries head) before (all head is))
              (first.rest_after walk leads))

  abbrev new : Lists
  new = with_head g st arc head

  pub still_begun : IsBegun g new (node + 1)
  still_begun = record {
    going = record {
      linked = links_kept g st arc head begun.going.linked;
      firsts = begun.going.firsts;
      started = λ other from within. others_started g st arc head graph node other own (λ same. omega arith)
          (begun.going.started other from within);
    };
    none_before = begun.none_before;
    free_before = begun.free_before;
    one_each = begun.one_each;
    all_of_none = begun.all_of_none;
  }

  -- and so are those before it
  pub ready_up_to : ((other : ℕ) → IsArcOf g node other → other < arc → IsReady g st node other)
      → (other : ℕ) → IsArcOf g node other → other < arc + 1 → IsReady g new node other
  ready_up_to before other is less =
      ⊎_elim
      (λ same. subst (IsReady g new node) (sym same) ready_here)
      (λ differs. ready_elsewhere g st arc head node other differs (before other is (omega (arith, differs))))
      (cases_eq other arc)

module _ (g : Graph) (st : Lists) (node : ℕ) (within : node < node_count g) (begun : IsBegun g st (node + 1)) where
  nothing_listed : (walk : List ℕ) → HasEntry st.entries node walk → ⊥
  nothing_listed walk listed = begun.none_before node listed.place (omega arith) listed.entry

  -- a node without entries, whose arcs are ready, is started
  pub started_so : AllReady g st node → IsStarted g st node
  started_so ready = record {
    free = record {
      may = λ is. sym (begun.free_before node (omega arith)) ∙ is;
      fresh = λ is listed. nothing_listed [] listed;
      kept = λ may. inr (begun.free_before node (omega arith) ∙ may);
    };
    arcs = λ arc own. inl (ready arc own);
    taken = λ last some. absurd (begun.none_before node (last_place st node) (omega arith) last);
  }

  -- and then it takes its first walk
  module _ (new : Lists) (took : Bool) (takes : TakesNext g st new node took) where
    was : (other place : ℕ) → (other ≡ node → ⊥) → IsEntryAt new.entries other place → IsEntryAt st.entries other place
    was other place differs is =
        was_entry st.entries new.entries takes.extends other place (takes.keeps other differs place is) is

    pub begun_on : IsBegun g new node
    begun_on = record {
      going = record {
        linked = takes.linked;
        firsts = takes.firsts;
        started = λ other from inside. ⊎_elim (λ same. subst (IsStarted g new) (sym same) takes.started)
            (λ differs. takes.others other differs (begun.going.started other (omega (arith, differs)) inside))
            (cases_eq other node);
      };
      none_before = λ other place before is.
          begun.none_before other place (omega arith) (was other place (λ same. omega arith) is);
      free_before = λ other before. takes.same_frees other (λ same. omega arith) ∙ begun.free_before other (omega arith);
      one_each = λ other place inside is. ⊎_elim (λ same. one_here other place same is)
          (λ differs. begun.one_each other place inside (was other place differs is) ∙ sym (takes.same_lasts other differs))
          (cases_eq other node);
      all_of_none = λ other from inside none. ⊎_elim (λ same. subst (HasAll g new.entries) (sym same)
          (all_here other same none))
          (λ differs. λ walk leads. still_listed st.entries new.entries takes.extends other walk
          (begun.all_of_none other (omega (arith, differs)) inside (sym (takes.same_lasts other differs) ∙ none) walk leads))
          (cases_eq other node);
    }
      where
        one_here : (other place : ℕ) → other ≡ node → IsEntryAt new.entries other place → place ≡ last_place new other
        one_here other place same is =
            let here = subst (λ n. IsEntryAt new.entries n place) same is in
            ⊎_elim
            (λ old. absurd (begun.none_before node place (omega arith)
            (was_entry st.entries new.entries takes.extends node place old here)))
            (λ now. now.1 ∙ ap (last_place new) (sym same))
            (takes.only place here)

        all_here : (other : ℕ) → other ≡ node → last_place new other ≡ NONE → HasAll g new.entries node
        all_here other same none = by_took took refl
          where
            by_took : (b : Bool) → b ≡ took → HasAll g new.entries node
            by_took true is =
                absurd (let one = takes.one_more (sym is) in
                let at : last_place new node ≡ NONE = ap (last_place new) (sym same) ∙ none in
                let e : ⊥ = omega (arith, at, one.0.within, takes.linked.few) in e)
            by_took false is = takes.all_listed (sym is)
