-- One step of a node: the arc that its last walk took gets its next head, and then the node takes its next walk, if any.
use Rattle.std.proofs.Common.{◌≡◌, ◌⊎◌, inl, inr, ⊎_elim, ℕ, ◌+◌, ◌<◌, ◌≤◌, ◌^◌, Bool, false, eqb, List, ◌∷◌, length, slice_index, slice_index_or, refl, sym, ap, subst, ◌∙◌, arith}
use Rattle.std.proofs.lemmas.Bool.{cases_eq, cond-true, cond-false, eq-eqb, ne_eqb, false≢true}
use Rattle.path_laws.specs.declared.entry.WalkEntry.{WalkEntry}
use Rattle.path_laws.specs.declared.entry.TheConstants.{NONE}
use Rattle.path_laws.specs.Graph.{Graph, IsArcOf, IsGraph, delay_of, arc_end, node_count}
use Rattle.path_laws.specs.Walks.{HasShortWalks}
use Rattle.path_laws.specs.Entries.{KeepsEntries, IsEntryAt, KeepsNode, entry_at, walk_at}
use Rattle.path_laws.specs.Lists.{Lists, AllReady, HasAll, HasFirst, IsGoing, IsLinked, IsNextPlace, IsReady, IsStarted, IsLastArc, key_at, last_place, with_head}
use Rattle.path_laws.specs.Lists.IsNextPlace.{no_next, next_one}
use Rattle.path_laws.specs.Growth.{HasHeads, IsFed, TakesNext}
use Rattle.path_laws.proofs.Appending.{extends_itself}
use Rattle.path_laws.proofs.Heads.{free_kept, links_kept, others_started, ready_elsewhere, taken_kept}
use Rattle.path_laws.proofs.Moving.{ready_next}

-- the key of an arc with a head fits 32 bits
pub key_fits : (g : Graph) (short : HasShortWalks g) (entries : List WalkEntry) (node arc head : ℕ) → IsArcOf g node arc
    → HasFirst g entries (arc_end g arc) → (head ≡ NONE) ⊎ IsEntryAt entries (arc_end g arc) head
    → key_at g entries arc head < 2 ^ 32
key_fits g short entries node arc head own first either =
    ⊎_elim none (λ some. ⊎_elim (λ is. absurd (some is)) (fits some) either) (cases_eq head NONE)
  where
    none : head ≡ NONE → key_at g entries arc head < 2 ^ 32
    none is =
        let at = cond-true (eqb head NONE) 0 (delay_of g arc + (entry_at entries head).length + 1) (eq-eqb head NONE is) in
        omega arith

    fits : (head ≡ NONE → ⊥) → IsEntryAt entries (arc_end g arc) head → key_at g entries arc head < 2 ^ 32
    fits some is =
        let at = cond-false (eqb head NONE) 0 (delay_of g arc + (entry_at entries head).length + 1) (ne_eqb head NONE some) in
        let bound = short node (arc ∷ walk_at entries head) (own, first.leads head is) in
        omega (arith, at, bound, first.lengths head is)

-- where no arc was taken, or all are ready again, nothing has to move
pub heads_kept : (g : Graph) (st : Lists) (node : ℕ) → IsLinked g st → IsStarted g st node
    → ((arc : ℕ) → IsLastArc g st node arc → ⊥) → HasHeads g st st node
heads_kept g st node linked started none = record {
  entries = refl;
  nexts = refl;
  lasts = refl;
  frees = refl;
  linked = linked;
  others = λ other differs is. is;
  started = started;
  ready = λ arc own. ⊎_elim (λ ready. ready) (λ taken. absurd (none arc taken)) (started.arcs arc own);
}

module _ (g : Graph) (graph : IsGraph g) (st : Lists) (going : IsGoing g st 0) (node arc : ℕ) (within : node < node_count g)
    (taken : IsLastArc g st node arc) where
  abbrev next : ℕ
  next = slice_index st.nexts (entry_at st.entries (last_place st node)).tail

  -- the next head is none, or an entry of the arc's end
  pub next_on_end : (next ≡ NONE) ⊎ IsEntryAt st.entries (arc_end g arc) next
  next_on_end = by_next (going.linked.nexts _ taken.tail.on_end.within)
    where
      by_next : IsNextPlace st.entries (entry_at st.entries (last_place st node)).tail next
          → (next ≡ NONE) ⊎ IsEntryAt st.entries (arc_end g arc) next
      by_next (no_next none _) = inl none
      by_next (next_one _ is _) = inr (subst (λ n. IsEntryAt st.entries n next) taken.tail.on_end.own is)

  -- the arc that was taken gets it
  pub heads_moved : IsFed g st node → HasHeads g st (with_head g st arc next) node
  heads_moved fed = record {
    entries = refl;
    nexts = refl;
    lasts = refl;
    frees = refl;
    linked = links_kept g st arc next going.linked;
    others = λ other differs started. others_started g st arc next graph node other taken.own differs started;
    started = record {
      free = free_kept g st arc next node (going.started node (omega arith) within).free;
      arcs = λ other own. inl (all_ready other own);
      taken = λ last some. taken_kept g st arc next node _ ((going.started node (omega arith) within).taken last some);
    };
    ready = all_ready;
  }
    where
      all_ready : AllReady g (with_head g st arc next) node
      all_ready other own =
          ⊎_elim
          (λ same. subst (IsReady g (with_head g st arc next) node) (sym same)
          (ready_next g graph st going.linked going.firsts node arc within taken fed))
          (λ differs. ready_elsewhere g st arc next node other differs
          (⊎_elim (λ ready. ready) (λ also. absurd (differs (sym also.by_arc ∙ taken.by_arc)))
          ((going.started node (omega arith) within).arcs other own)))
          (cases_eq other arc)

-- a node with all walks listed takes none
pub takes_none : (g : Graph) (st : Lists) (node : ℕ) → IsLinked g st
    → ((other : ℕ) → other < node_count g → HasFirst g st.entries other) → IsStarted g st node → HasAll g st.entries node
    → TakesNext g st st node false
takes_none g st node linked firsts started all = record {
  linked = linked;
  firsts = firsts;
  started = started;
  others = λ other differs is. is;
  extends = extends_itself st.entries;
  keeps = λ other differs place is. is.within;
  same_lasts = λ other differs. refl;
  same_frees = λ other differs. refl;
  only = λ place is. inl is.within;
  one_more = λ took. absurd (false≢true took);
  all_listed = λ _. all;
}

-- the heads first, then the walk
pub takes_after : (g : Graph) (old mid new : Lists) (node : ℕ) (took : Bool) → HasHeads g old mid node
    → TakesNext g mid new node took → TakesNext g old new node took
takes_after g old mid new node took heads takes = record {
  linked = takes.linked;
  firsts = takes.firsts;
  started = takes.started;
  others = λ other differs is. takes.others other differs (heads.others other differs is);
  extends = subst (λ entries. KeepsEntries entries new.entries) heads.entries takes.extends;
  keeps = λ other differs. subst (λ entries. KeepsNode entries new.entries other) heads.entries (takes.keeps other differs);
  same_lasts = λ other differs. takes.same_lasts other differs ∙ ap (λ lasts. slice_index lasts other) heads.lasts;
  same_frees = λ other differs. takes.same_frees other differs ∙ ap (λ free. slice_index_or free other false) heads.frees;
  only = λ place is. ⊎_elim (λ was. inl (subst (λ entries. place < length entries) heads.entries was)) (λ now. inr now)
      (takes.only place is);
  one_more = λ is. (
    (takes.one_more is).0,
    subst (λ entries. length entries ≤ last_place new node) heads.entries
        (takes.one_more is).1,
  );
  all_listed = takes.all_listed;
}

-- what stays true of all nodes
pub going_on : (g : Graph) (old new : Lists) (node : ℕ) (took : Bool) → IsGoing g old 0 → TakesNext g old new node took
    → IsGoing g new 0
going_on g old new node took going takes = record {
  linked = takes.linked;
  firsts = takes.firsts;
  started = λ other from within. ⊎_elim (λ same. subst (IsStarted g new) (sym same) takes.started)
      (λ differs. takes.others other differs (going.started other from within)) (cases_eq other node);
}
