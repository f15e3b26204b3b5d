-- A node takes its next walk: one entry more keeps all that is known of the lists.
use Rattle.std.proofs.Common.{◌≡◌, ◌⊎◌, inl, inr, ⊎_elim, ℕ, ◌<◌, ◌≤◌, false, eqb, List, [], ◌∷◌, length, get_or, set, slice_index, get_or-set_same, get_or-set_other, length-set, length-append, sym, ap, subst, ◌∙◌, arith}
use Rattle.std.proofs.lemmas.Bool.{cases_eq, cases_lt, cond-true, cond-false, eq-eqb, ne_eqb}
use Rattle.std.proofs.lemmas.List.{get_or_append_left}
use Rattle.std.proofs.Math.Seq.{get_or-append_seam}
use Rattle.path_laws.specs.declared.entry.WalkEntry.{WalkEntry}
use Rattle.path_laws.specs.declared.entry.TheConstants.{NONE}
use Rattle.path_laws.specs.Graph.{Graph, arc_end, node_count}
use Rattle.path_laws.specs.Walks.{Leads, walk_length}
use Rattle.path_laws.specs.Order.{IsWalkBefore}
use Rattle.path_laws.specs.Entries.{KeepsEntries, IsEntryAt, KeepsNode, entry_at, walk_at, walk_of, walks_of}
use Rattle.path_laws.specs.Lists.{Lists, HasFirst, IsLast, IsLinked, IsNextPlace, IsListedUpTo, is_free, last_place, with_entry}
use Rattle.path_laws.specs.Lists.IsNextPlace.{no_next, next_one}
use Rattle.path_laws.specs.Lists.IsLast.{no_entries, last_one}
use Rattle.path_laws.specs.Growth.{IsNextEntry}
use Rattle.path_laws.proofs.Appending.{appended, is_new, keeps_others, more_long, new_entry, new_walk, old_or_new, still_entry, still_listed, was_entry}

-- the walk of an entry that stops, and of one that takes an arc
pub walk_stops : (walks : List (List ℕ)) (entry : WalkEntry) → entry.arc ≡ NONE → walk_of walks entry ≡ []
walk_stops walks entry stops =
    cond-true (eqb entry.arc NONE) [] (entry.arc ∷ get_or walks entry.tail []) (eq-eqb entry.arc NONE stops)

pub walk_goes : (walks : List (List ℕ)) (entry : WalkEntry) → (entry.arc ≡ NONE → ⊥)
    → walk_of walks entry ≡ entry.arc ∷ get_or walks entry.tail []
walk_goes walks entry goes =
    cond-false (eqb entry.arc NONE) [] (entry.arc ∷ get_or walks entry.tail []) (ne_eqb entry.arc NONE goes)

-- the first walks of a node that gets no entry
pub first_kept : (g : Graph) (entries more : List WalkEntry) (extends : KeepsEntries entries more) (node : ℕ)
    → KeepsNode entries more node → HasFirst g entries node → HasFirst g more node
first_kept g entries more extends node keeps first = record {
  leads = λ place is. subst (Leads g node) (sym (extends.walks place (keeps place is))) (first.leads place (was place is));
  lengths = λ place is.
      ap (λ (e : WalkEntry). e.length) (extends.same place (keeps place is)) ∙ first.lengths place (was place is)
      ∙ ap (walk_length g) (sym (extends.walks place (keeps place is)));
  rising = λ i j less at_i at_j.
      subst (λ w. IsWalkBefore g w (walk_at more j)) (sym (extends.walks i (keeps i at_i)))
      (subst (λ w. IsWalkBefore g (walk_at entries i) w) (sym (extends.walks j (keeps j at_j)))
      (first.rising i j less (was i at_i) (was j at_j)));
  rest_after = λ walk leads. ⊎_elim (λ listed. inl (still_listed entries more extends node walk listed))
      (λ all. inr (λ place is. subst (λ w. IsWalkBefore g w walk) (sym (extends.walks place (keeps place is)))
      (all place (was place is))))
      (first.rest_after walk leads);
}
  where
    was : (place : ℕ) → IsEntryAt more node place → IsEntryAt entries node place
    was place is = was_entry entries more extends node place (keeps place is) is

pub passed_kept : (g : Graph) (entries more : List WalkEntry) (extends : KeepsEntries entries more) (node arc place : ℕ)
    → IsListedUpTo g entries node arc place → IsListedUpTo g more node arc place
passed_kept g entries more extends node arc place passed = record {
  on_end = still_entry entries more extends (arc_end g arc) place passed.on_end;
  below = λ walk leads before. still_listed entries more extends node (arc ∷ walk)
      (passed.below walk leads
      (subst (IsWalkBefore g walk) (extends.walks place passed.on_end.within) before));
}

module _ (g : Graph) (st : Lists) (node : ℕ) (entry : WalkEntry) (linked : IsLinked g st) (room : length st.entries < NONE)
    (within : node < node_count g) (next : IsNextEntry g st node entry) where
  abbrev pub new : Lists
  new = with_entry st entry

  abbrev pub walk : List ℕ
  walk = walk_of (walks_of st.entries) entry

  pub extends : KeepsEntries st.entries new.entries
  extends = appended st.entries entry

  pub split : (other place : ℕ) → IsEntryAt new.entries other place
      → IsEntryAt st.entries other place ⊎ ((place ≡ length st.entries) × (entry.node ≡ other))
  split other place is = old_or_new st.entries entry other place is

  pub keeps : (other : ℕ) → (other ≡ node → ⊥) → KeepsNode st.entries new.entries other
  keeps other differs = keeps_others st.entries entry other (λ same. differs (sym same ∙ next.own))

  pub here : IsEntryAt new.entries node (length st.entries)
  here = subst (λ n. IsEntryAt new.entries n (length st.entries)) next.own (is_new st.entries entry)

  pub has_new : walk_at new.entries (length st.entries) ≡ walk
  has_new = new_walk st.entries entry

  pub last_new : last_place new node ≡ length st.entries
  last_new =
      ap (λ n. last_place new n) (sym next.own)
      ∙ get_or-set_same st.lasts entry.node (length st.entries) 0 (omega (arith, next.own, linked.last_each))

  pub same_lasts : (other : ℕ) → (other ≡ node → ⊥) → last_place new other ≡ last_place st other
  same_lasts other differs =
      get_or-set_other st.lasts entry.node other (length st.entries) 0 (λ same. differs (same ∙ next.own))

  pub same_frees : (other : ℕ) → (other ≡ node → ⊥) → is_free new other ≡ is_free st other
  same_frees other differs =
      ⊎_elim
      (λ stops. ap (λ f. get_or f other false) (cond-true (eqb entry.arc NONE) (set st.free entry.node false) st.free
      (eq-eqb entry.arc NONE stops))
      ∙ get_or-set_other st.free entry.node other false false (λ same. differs (same ∙ next.own)))
      (λ goes. ap (λ f. get_or f other false) (cond-false (eqb entry.arc NONE) (set st.free entry.node false) st.free
      (ne_eqb entry.arc NONE goes)))
      (cases_eq entry.arc NONE)

  free_long : length new.free ≡ length st.free
  free_long =
      ⊎_elim
      (λ stops. ap length (cond-true (eqb entry.arc NONE) (set st.free entry.node false) st.free (eq-eqb entry.arc NONE stops))
      ∙ length-set st.free entry.node false)
      (λ goes. ap length (cond-false (eqb entry.arc NONE) (set st.free entry.node false) st.free (ne_eqb entry.arc NONE goes)))
      (cases_eq entry.arc NONE)

  -- the links
  abbrev moved : List ℕ
  moved = set st.nexts (last_place st entry.node) (length st.entries)

  moved_long : length moved ≡ length st.entries
  moved_long = length-set st.nexts (last_place st entry.node) (length st.entries) ∙ linked.next_each

  no_link : slice_index new.nexts (length st.entries) ≡ NONE
  no_link = ap (slice_index new.nexts) (sym moved_long) ∙ get_or-append_seam moved NONE [] 0

  old_link : (place : ℕ) → place < length st.entries → slice_index new.nexts place ≡ get_or moved place 0
  old_link place before = get_or_append_left moved (NONE ∷ []) 0 place (omega (arith, moved_long))

  same_last : last_place st entry.node ≡ last_place st node
  same_last = ap (last_place st) next.own

  -- the node's last entry so far gets the new one
  link_of_last : (place : ℕ) → place < length st.entries → place ≡ last_place st node
      → IsNextPlace new.entries place (slice_index new.nexts place)
  link_of_last place before at = by_last (linked.lasts node within)
    where
      link : slice_index new.nexts place ≡ length st.entries
      link =
          old_link place before
          ∙ ap (λ p. get_or moved p 0) (at ∙ sym same_last)
          ∙ get_or-set_same st.nexts (last_place st entry.node) (length st.entries) 0
          (omega (arith, linked.next_each, same_last))

      by_last : IsLast st.entries node (last_place st node) → IsNextPlace new.entries place (slice_index new.nexts place)
      by_last (no_entries none nowhere) = absurd (omega (arith, none))
      by_last (last_one is latest) =
          let own : (entry_at new.entries place).node ≡ node =
          ap (λ (e : WalkEntry). e.node) (extends.same place before ∙ ap (entry_at st.entries) at) ∙ is.own in
          subst (IsNextPlace new.entries place) (sym link)
          (next_one before
          (subst (λ n. IsEntryAt new.entries n (length st.entries)) (sym own) here)
          (λ later behind there. ⊎_elim
          (λ old. let early = latest later (subst (λ n. IsEntryAt st.entries n later) own old) in
          absurd (let e : ⊥ = omega arith in e))
          (λ new_one. let e : length st.entries ≤ later = omega (arith, new_one.0) in e)
          (split (entry_at new.entries place).node later there)))

  -- the others keep theirs
  link_of_other : (place : ℕ) → place < length st.entries → (place ≡ last_place st node → ⊥)
      → IsNextPlace new.entries place (slice_index new.nexts place)
  link_of_other place before differs =
      subst (IsNextPlace new.entries place) (sym link) (by_next (linked.nexts place before))
    where
      link : slice_index new.nexts place ≡ slice_index st.nexts place
      link =
          old_link place before
          ∙ get_or-set_other st.nexts (last_place st entry.node) place (length st.entries) 0 (λ same. differs (same ∙ same_last))

      own : (entry_at new.entries place).node ≡ (entry_at st.entries place).node
      own = ap (λ (e : WalkEntry). e.node) (extends.same place before)

      by_next : IsNextPlace st.entries place (slice_index st.nexts place) → IsNextPlace new.entries place (slice_index st.nexts place)
      by_next (no_next none nowhere) = no_next none nothing
        where
          nothing : (later : ℕ) → place < later → IsEntryAt new.entries (entry_at new.entries place).node later → ⊥
          nothing later behind there =
              ⊎_elim
              (λ old. nowhere later behind (subst (λ n. IsEntryAt st.entries n later) own old))
              (λ new_one. by_last (sym own ∙ sym new_one.1 ∙ next.own) (linked.lasts node within))
              (split (entry_at new.entries place).node later there)
            where
              by_last : (entry_at st.entries place).node ≡ node → IsLast st.entries node (last_place st node) → ⊥
              by_last is (no_entries _ none_there) = none_there place (record { within = before; own = is })
              by_last is (last_one last latest) =
                  let early = latest place (record { within = before; own = is }) in
                  nowhere (last_place st node) (omega (arith, differs))
                  (subst (λ n. IsEntryAt st.entries n (last_place st node)) (sym is) last)
      by_next (next_one behind is closest) =
          next_one behind
          (subst (λ n. IsEntryAt new.entries n (slice_index st.nexts place)) (sym own)
          (still_entry st.entries new.entries extends (entry_at st.entries place).node (slice_index st.nexts place) is))
          (λ later past there. ⊎_elim
          (λ old. closest later past (subst (λ n. IsEntryAt st.entries n later) own old))
          (λ new_one. let e : slice_index st.nexts place ≤ later = omega (arith, new_one.0, is.within) in e)
          (split (entry_at new.entries place).node later there))

  links : (place : ℕ) → place < length new.entries → IsNextPlace new.entries place (slice_index new.nexts place)
  links place inside =
      ⊎_elim
      (λ before. ⊎_elim (link_of_last place before) (link_of_other place before) (cases_eq place (last_place st node)))
      (λ past. let at : length st.entries ≡ place = omega (arith, more_long st.entries entry) in
      subst (λ p. IsNextPlace new.entries p (slice_index new.nexts p)) at
      (no_next no_link (λ later behind is. let e : ⊥ = omega (arith, is.within, more_long st.entries entry) in e)))
      (cases_lt place (length st.entries))

  lasts : (other : ℕ) → other < node_count g → IsLast new.entries other (last_place new other)
  lasts other known =
      ⊎_elim
      (λ same. subst (λ n. IsLast new.entries n (last_place new n)) (sym same)
      (subst (IsLast new.entries node) (sym last_new)
      (last_one here (λ place is. let e : place ≤ length st.entries =
      omega (arith, is.within, more_long st.entries entry) in e))))
      (λ differs. subst (IsLast new.entries other) (sym (same_lasts other differs)) (by_last differs
      (linked.lasts other known)))
      (cases_eq other node)
    where
      by_last : (other ≡ node → ⊥) → IsLast st.entries other (last_place st other) → IsLast new.entries other (last_place st other)
      by_last differs (no_entries none nowhere) =
          no_entries none (λ place is. nowhere place
          (was_entry st.entries new.entries extends other place (keeps other differs place is) is))
      by_last differs (last_one is latest) =
          last_one (still_entry st.entries new.entries extends other (last_place st other) is)
          (λ place there. latest place
          (was_entry st.entries new.entries extends other place (keeps other differs place there) there))

  tails : (place : ℕ) → place < length new.entries → ((entry_at new.entries place).arc ≡ NONE → ⊥)
      → (entry_at new.entries place).tail < place
  tails place inside goes =
      ⊎_elim
      (λ before. let same = extends.same place before in
      subst (λ (e : WalkEntry). e.tail < place) (sym same)
      (linked.tails place before (λ none. goes (ap (λ (e : WalkEntry). e.arc) same ∙ none))))
      (λ past. let at : place ≡ length st.entries = omega (arith, more_long st.entries entry) in
      let same : entry_at new.entries place ≡ entry = ap (entry_at new.entries) at ∙ new_entry st.entries entry in
      let tail = (next.tail (λ none. goes (ap (λ (e : WalkEntry). e.arc) same ∙ none))).on_end.within in
      omega (arith, ap (λ (e : WalkEntry). e.tail) same))
      (cases_lt place (length st.entries))

  pub linked_on : IsLinked g new
  linked_on = record {
    few = omega (arith, more_long st.entries entry);
    next_each = length-append moved (NONE ∷ []) ∙ (omega (arith, moved_long, more_long st.entries entry));
    last_each = length-set st.lasts entry.node (length st.entries) ∙ linked.last_each;
    head_each = linked.head_each;
    key_each = linked.key_each;
    free_each = free_long ∙ linked.free_each;
    tails = tails;
    nexts = links;
    lasts = lasts;
  }
