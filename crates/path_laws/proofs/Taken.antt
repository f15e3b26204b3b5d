-- A node takes its next walk: it still has its first walks, and is ready for the one after but for the arc that was taken.
use Rattle.std.proofs.Common.{◌≡◌, ◌⊎◌, inl, inr, ⊎_elim, ℕ, ◌+◌, ◌<◌, true, false, eqb, List, [], ◌∷◌, length, get_or, set, get_or-set_same, refl, sym, ap, subst, ◌∙◌, arith}
use Rattle.std.proofs.lemmas.Bool.{cases_eq, cond-true, cond-false, eq-eqb, ne_eqb, false≢true}
use Rattle.path_laws.specs.declared.entry.WalkEntry.{WalkEntry}
use Rattle.path_laws.specs.declared.entry.TheConstants.{NONE}
use Rattle.path_laws.specs.Graph.{Graph, IsArcOf, node_count}
use Rattle.path_laws.specs.Walks.{Leads, walk_length}
use Rattle.path_laws.specs.Order.{IsWalkBefore}
use Rattle.path_laws.specs.Entries.{IsEntryAt, HasEntry, entry_at, walk_at, walk_of, walks_of}
use Rattle.path_laws.specs.Lists.{Lists, AllReady, HasFirst, IsFreeRight, IsLinked, IsListedUpTo, IsReady, IsStarted, IsLastArc, head_of, is_free, last_place, with_entry}
use Rattle.path_laws.specs.Lists.IsReady.{spent, headed}
use Rattle.path_laws.specs.Growth.{IsNextEntry, TakesNext}
use Rattle.path_laws.proofs.Appending.{new_entry, still_entry, still_listed, was_entry, was_listed}
use Rattle.path_laws.proofs.Taking.{extends, first_kept, has_new, here, keeps, last_new, linked_on, passed_kept, same_frees, same_lasts, split, walk_goes, walk_stops}

module _ (g : Graph) (st : Lists) (node : ℕ) (entry : WalkEntry) (linked : IsLinked g st) (room : length st.entries < NONE)
    (within : node < node_count g) (next : IsNextEntry g st node entry) where
  abbrev new : Lists
  new = with_entry st entry

  abbrev walk : List ℕ
  walk = walk_of (walks_of st.entries) entry

  -- it is listed now
  new_listed : HasEntry new.entries node walk
  new_listed = record {
    place = length st.entries;
    entry = here g st node entry linked room within next;
    has = has_new g st node entry linked room within next;
  }

  kept : (other : ℕ) (listed : List ℕ) → HasEntry st.entries other listed → HasEntry new.entries other listed
  kept = still_listed st.entries new.entries (extends g st node entry linked room within next)

  -- and nothing else is
  old_or_walk : (listed : List ℕ) → HasEntry new.entries node listed → HasEntry st.entries node listed ⊎ (walk ≡ listed)
  old_or_walk listed is =
      ⊎_elim
      (λ old. inl (record {
        place = is.place;
        entry = old;
        has = sym ((extends g st node entry linked room within next).walks is.place old.within) ∙ is.has;
      }))
      (λ new_one. inr (sym (has_new g st node entry linked room within next) ∙ ap (walk_at new.entries) (sym new_one.0)
      ∙ is.has))
      (split g st node entry linked room within next node is.place is.entry)

  -- the walk at a place is one that was there, or the new one
  data AtPlace (place : ℕ) : Type 0 where
    old : IsEntryAt st.entries node place → walk_at new.entries place ≡ walk_at st.entries place
        → entry_at new.entries place ≡ entry_at st.entries place → AtPlace place
    latest : place ≡ length st.entries → walk_at new.entries place ≡ walk → entry_at new.entries place ≡ entry → AtPlace place

  at_place : (place : ℕ) → IsEntryAt new.entries node place → AtPlace place
  at_place place is =
      ⊎_elim
      (λ was. old was ((extends g st node entry linked room within next).walks place was.within)
      ((extends g st node entry linked room within next).same place was.within))
      (λ now. latest now.0 (ap (walk_at new.entries) now.0 ∙ has_new g st node entry linked room within next)
      (ap (entry_at new.entries) now.0 ∙ new_entry st.entries entry))
      (split g st node entry linked room within next node place is)

  module _ (first : HasFirst g st.entries node) where
    all_before : (place : ℕ) → IsEntryAt st.entries node place → IsWalkBefore g (walk_at st.entries place) walk
    all_before = ⊎_elim (λ listed. absurd (next.fresh listed)) (λ all. all) (first.rest_after walk next.leads)

    leads : (place : ℕ) → AtPlace place → Leads g node (walk_at new.entries place)
    leads place (old was same _) = subst (Leads g node) (sym same) (first.leads place was)
    leads place (latest _ same _) = subst (Leads g node) (sym same) next.leads

    lengths : (place : ℕ) → AtPlace place → (entry_at new.entries place).length ≡ walk_length g (walk_at new.entries place)
    lengths place (old was same also) =
        ap (λ (e : WalkEntry). e.length) also ∙ first.lengths place was ∙ ap (walk_length g) (sym same)
    lengths place (latest _ same also) = ap (λ (e : WalkEntry). e.length) also ∙ next.long ∙ ap (walk_length g) (sym same)

    rising : (i j : ℕ) → i < j → j < length new.entries → AtPlace i → AtPlace j
        → IsWalkBefore g (walk_at new.entries i) (walk_at new.entries j)
    rising i j less inside (old was_i same_i _) (old was_j same_j _) =
        subst (λ w. IsWalkBefore g w (walk_at new.entries j)) (sym same_i)
        (subst (IsWalkBefore g (walk_at st.entries i)) (sym same_j) (first.rising i j less was_i was_j))
    rising i j less inside (old was_i same_i _) (latest _ same_j _) =
        subst (λ w. IsWalkBefore g w (walk_at new.entries j)) (sym same_i)
        (subst (IsWalkBefore g (walk_at st.entries i)) (sym same_j) (all_before i was_i))
    rising i j less inside (latest at _ _) (old was_j _ _) = absurd (omega (arith, was_j.within))
    rising i j less inside (latest at _ _) (latest also _ _) = absurd (omega arith)

    after : (listed : List ℕ) → IsWalkBefore g walk listed
        → ((place : ℕ) → IsEntryAt st.entries node place → IsWalkBefore g (walk_at st.entries place) listed)
        → (place : ℕ) → AtPlace place → IsWalkBefore g (walk_at new.entries place) listed
    after listed before all place (old was same _) = subst (λ w. IsWalkBefore g w listed) (sym same) (all place was)
    after listed before all place (latest _ same _) = subst (λ w. IsWalkBefore g w listed) (sym same) before

    -- the entries of the node are still its first walks
    pub first_on : HasFirst g new.entries node
    first_on = record {
      leads = λ place is. leads place (at_place place is);
      lengths = λ place is. lengths place (at_place place is);
      rising = λ i j less at_i at_j. rising i j less at_j.within (at_place i at_i) (at_place j at_j);
      rest_after =
          λ other to.
          ⊎_elim
          (λ listed. inl (kept node other listed))
          (λ rest. ⊎_elim
          (λ same. inl (subst (HasEntry new.entries node) (sym same) new_listed))
          (λ before. ⊎_elim
          (λ listed. inl (kept node other listed))
          (λ all. inr (λ place is. after other before all place (at_place place is)))
          (first.rest_after other to))
          rest)
          (next.least other to);
    }

  -- an arc stays ready where no walk through it was listed
  ready_kept : (other arc : ℕ)
      → ((listed : List ℕ) → HasEntry new.entries other (arc ∷ listed) → HasEntry st.entries other (arc ∷ listed))
      → IsReady g st other arc → IsReady g new other arc
  ready_kept other arc was (spent key all) = spent key (λ listed to. kept other (arc ∷ listed) (all listed to))
  ready_kept other arc was (headed passed fresh key) =
      let same = (extends g st node entry linked room within next).walks (head_of st arc) passed.on_end.within in
      headed
      (passed_kept g st.entries new.entries (extends g st node entry linked room within next) other arc (head_of st arc) passed)
      (λ listed. fresh (subst (λ w. HasEntry st.entries other (arc ∷ w)) same (was (walk_at new.entries
      (head_of st arc)) listed)))
      (key ∙ ap (λ w. walk_length g (arc ∷ w) + 1) (sym same))

  -- the other nodes stay started
  pub others : (other : ℕ) → (other ≡ node → ⊥) → IsStarted g st other → IsStarted g new other
  others other differs started = record {
    free = record {
      may = λ is. started.free.may (sym frees ∙ is);
      fresh = λ is listed. started.free.fresh (sym frees ∙ is) (was [] listed);
      kept = λ may. ⊎_elim (λ listed. inl (kept other [] listed)) (λ is. inr (frees ∙ is)) (started.free.kept may);
    };
    arcs = λ arc own. ⊎_elim (λ ready. inl (ready_kept other arc (λ listed. was (arc ∷ listed)) ready))
        (λ taken. inr (taken_on arc taken)) (started.arcs arc own);
    taken = λ last some.
        (let before = last_was last in
        subst (IsLastArc g new other) (sym (same_arc before))
        (taken_on _ (started.taken before (λ none. some (same_arc before ∙ none)))));
  }
    where
      frees : is_free new other ≡ is_free st other
      frees = same_frees g st node entry linked room within next other differs

      same : last_place new other ≡ last_place st other
      same = same_lasts g st node entry linked room within next other differs

      was : (listed : List ℕ) → HasEntry new.entries other listed → HasEntry st.entries other listed
      was listed = was_listed st.entries new.entries (extends g st node entry linked room within next) other listed
          (keeps g st node entry linked room within next other differs)

      -- a last entry is the one that there was
      last_was : IsEntryAt new.entries other (last_place new other) → IsEntryAt st.entries other (last_place st other)
      last_was last =
          subst (IsEntryAt st.entries other) same
          (was_entry st.entries new.entries (extends g st node entry linked room within next) other (last_place new other)
          (keeps g st node entry linked room within next other differs (last_place new other) last) last)

      same_entry : IsEntryAt st.entries other (last_place st other)
          → entry_at new.entries (last_place new other) ≡ entry_at st.entries (last_place st other)
      same_entry before =
          ap (entry_at new.entries) same
          ∙ (extends g st node entry linked room within next).same (last_place st other) before.within

      same_arc : IsEntryAt st.entries other (last_place st other)
          → (entry_at new.entries (last_place new other)).arc ≡ (entry_at st.entries (last_place st other)).arc
      same_arc before = ap (λ (e : WalkEntry). e.arc) (same_entry before)

      taken_on : (arc : ℕ) → IsLastArc g st other arc → IsLastArc g new other arc
      taken_on arc taken = record {
        last =
            subst (IsEntryAt new.entries other) (sym same)
            (still_entry st.entries new.entries (extends g st node entry linked room within next) other
            (last_place st other) taken.last);
        by_arc = same_arc taken.last ∙ taken.by_arc;
        own = taken.own;
        tail =
            subst (λ (e : WalkEntry). IsListedUpTo g new.entries other arc e.tail) (sym (same_entry taken.last))
            (passed_kept g st.entries new.entries (extends g st node entry linked room within next) other arc _ taken.tail);
        has =
            ap (walk_at new.entries) same
            ∙ (extends g st node entry linked room within next).walks (last_place st other) taken.last.within
            ∙ taken.has
            ∙ ap (λ w. arc ∷ w)
            (sym ((extends g st node entry linked room within next).walks _ taken.tail.on_end.within))
            ∙ ap (λ (e : WalkEntry). arc ∷ walk_at new.entries e.tail) (sym (same_entry taken.last));
      }

  -- the node's last walk took the arc of the new entry
  last_entry : entry_at new.entries (last_place new node) ≡ entry
  last_entry = ap (entry_at new.entries) (last_new g st node entry linked room within next) ∙ new_entry st.entries entry

  took_arc : (entry.arc ≡ NONE → ⊥) → IsLastArc g new node entry.arc
  took_arc goes = record {
    last =
        subst (IsEntryAt new.entries node) (sym (last_new g st node entry linked room within next))
        (here g st node entry linked room within next);
    by_arc = ap (λ (e : WalkEntry). e.arc) last_entry;
    own = next.arc_own goes;
    tail =
        subst (λ (e : WalkEntry). IsListedUpTo g new.entries node entry.arc e.tail) (sym last_entry)
        (passed_kept g st.entries new.entries (extends g st node entry linked room within next) node entry.arc entry.tail
        (next.tail goes));
    has =
        ap (walk_at new.entries) (last_new g st node entry linked room within next)
        ∙ has_new g st node entry linked room within next
        ∙ walk_goes (walks_of st.entries) entry goes
        ∙ ap (λ w. entry.arc ∷ w)
        (sym ((extends g st node entry linked room within next).walks entry.tail (next.tail goes).on_end.within))
        ∙ ap (λ (e : WalkEntry). entry.arc ∷ walk_at new.entries e.tail) (sym last_entry);
  }

  -- the node may stop no more where that was its new walk
  free_on : IsFreeRight g st node → IsFreeRight g new node
  free_on free = ⊎_elim stopped went (cases_eq entry.arc NONE)
    where
      stopped : entry.arc ≡ NONE → IsFreeRight g new node
      stopped stops = record {
        may = λ is. absurd (false≢true (sym none ∙ is));
        fresh = λ is _. absurd (false≢true (sym none ∙ is));
        kept = λ _. inl (subst (HasEntry new.entries node) (walk_stops (walks_of st.entries) entry stops) new_listed);
      }
        where
          none : is_free new node ≡ false
          none =
              ap (λ f. get_or f node false)
              (cond-true (eqb entry.arc NONE) (set st.free entry.node false) st.free (eq-eqb entry.arc NONE stops))
              ∙ ap (λ n. get_or (set st.free entry.node false) n false) (sym next.own)
              ∙ get_or-set_same st.free entry.node false false (omega (arith, next.own, linked.free_each))

      went : (entry.arc ≡ NONE → ⊥) → IsFreeRight g new node
      went goes = record {
        may = λ is. free.may (sym same ∙ is);
        fresh = λ is listed. ⊎_elim (λ was. free.fresh (sym same ∙ is) was)
            (λ walk_is. let other = sym (walk_goes (walks_of st.entries) entry goes) ∙ walk_is in let e : ⊥ = cc in e)
            (old_or_walk [] listed);
        kept = λ may. ⊎_elim (λ listed. inl (kept node [] listed)) (λ is. inr (same ∙ is)) (free.kept may);
      }
        where
          same : is_free new node ≡ is_free st node
          same =
              ap (λ f. get_or f node false)
              (cond-false (eqb entry.arc NONE) (set st.free entry.node false) st.free (ne_eqb entry.arc NONE goes))

  -- its other arcs stay ready
  pub started_on : IsFreeRight g st node → AllReady g st node → IsStarted g new node
  started_on free ready = record {
    free = free_on free;
    arcs = λ arc own. ⊎_elim (stopped arc own) (went arc own) (cases_eq entry.arc NONE);
    taken = λ last some.
        subst (IsLastArc g new node) (sym (ap (λ (e : WalkEntry). e.arc) last_entry))
        (took_arc (λ none. some (ap (λ (e : WalkEntry). e.arc) last_entry ∙ none)));
  }
    where
      stopped : (arc : ℕ) → IsArcOf g node arc → entry.arc ≡ NONE → IsReady g new node arc ⊎ IsLastArc g new node arc
      stopped arc own stops =
          inl (ready_kept node arc (λ listed is. ⊎_elim (λ was. was)
          (λ walk_is. let other = sym (walk_stops (walks_of st.entries) entry stops) ∙ walk_is in
          let e : ⊥ = cc in absurd e)
          (old_or_walk (arc ∷ listed) is)) (ready arc own))

      went : (arc : ℕ) → IsArcOf g node arc → (entry.arc ≡ NONE → ⊥) → IsReady g new node arc ⊎ IsLastArc g new node arc
      went arc own goes =
          ⊎_elim
          (λ same. inr (subst (IsLastArc g new node) same (took_arc goes)))
          (λ differs. inl (ready_kept node arc (λ listed is. ⊎_elim (λ was. was)
          (λ walk_is. let other = sym (walk_goes (walks_of st.entries) entry goes) ∙ walk_is in
          let same : entry.arc ≡ arc = cc in absurd (differs same))
          (old_or_walk (arc ∷ listed) is)) (ready arc own)))
          (cases_eq entry.arc arc)

  -- all of it together
  pub takes_next : ((other : ℕ) → other < node_count g → HasFirst g st.entries other) → IsFreeRight g st node
      → AllReady g st node → TakesNext g st new node true
  takes_next firsts free ready = record {
    linked = linked_on g st node entry linked room within next;
    firsts = λ other known. ⊎_elim
        (λ same. subst (HasFirst g new.entries) (sym same) (first_on (firsts node within)))
        (λ differs. first_kept g st.entries new.entries (extends g st node entry linked room within next) other
        (keeps g st node entry linked room within next other differs) (firsts other known))
        (cases_eq other node);
    started = started_on free ready;
    others = others;
    extends = extends g st node entry linked room within next;
    keeps = keeps g st node entry linked room within next;
    same_lasts = same_lasts g st node entry linked room within next;
    same_frees = same_frees g st node entry linked room within next;
    only = λ place is. ⊎_elim (λ was. inl was.within)
        (λ now. inr (refl, now.0 ∙ sym (last_new g st node entry linked room within next)))
        (split g st node entry linked room within next node place is);
    one_more = λ _. (
      subst (IsEntryAt new.entries node) (sym (last_new g st node entry linked room within next))
          (here g st node entry linked room within next),
      (let at = last_new g st node entry linked room within next in omega arith),
    );
    all_listed = λ none. absurd (false≢true (sym none));
  }
