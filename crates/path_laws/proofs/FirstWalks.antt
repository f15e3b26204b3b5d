-- The places of the first entries of node 0 give the first walks from there.
use Rattle.std.proofs.Common.{◌≡◌, inl, inr, ⊎_elim, ℕ, suc, ◌+◌, ◌<◌, List, [], ◌∷◌, ◌++◌, length, get_or, slice_index, All, Contains, sym, ap, subst, ◌∙◌, arith, length-append}
use Rattle.std.proofs.lemmas.Bool.{cases_lt}
use Rattle.std.proofs.lemmas.List.{get_or-map, get_or_append_left, get_or_default, length-map}
use Rattle.std.proofs.lemmas.List.Elements.{Contains-append_left, Contains-push}
use Rattle.std.proofs.Math.Seq.{get_or-append_seam}
use Rattle.path_laws.specs.declared.entry.TheConstants.{NONE}
use Rattle.path_laws.specs.Graph.{Graph, IsGraph}
use Rattle.path_laws.specs.Walks.{Leads}
use Rattle.path_laws.specs.Order.{AreFirstWalks, AreEnoughWalks, AreWalksRising, IsWalkBefore}
use Rattle.path_laws.specs.Order.AreEnoughWalks.{all_walks, so_many}
use Rattle.path_laws.specs.Entries.{IsEntryAt, HasEntry, walk_at, walks_at}
use Rattle.path_laws.specs.Lists.{Lists, HasFirst, IsGoing, IsLast, last_place}
use Rattle.path_laws.specs.Lists.IsLast.{no_entries, last_one}
use Rattle.path_laws.specs.Growth.{IsBegun}
use Rattle.path_laws.specs.Listed.{AreFirstPlaces, AreRootPlaces, HasNext}
use Rattle.path_laws.proofs.Appending.{still_entry, was_entry}
use Rattle.path_laws.proofs.Ordered.{asymmetric}

-- when all nodes have their first walk, none is listed yet
pub begun_listed : (g : Graph) (graph : IsGraph g) (st : Lists) → IsBegun g st 0 → AreRootPlaces g st [] (last_place st 0)
begun_listed g graph st begun = record {
  going = begun.going;
  entries = λ k below. absurd (omega arith);
  rising = λ j k less below. absurd (omega arith);
  whole = λ place is. inr (begun.one_each 0 place graph.some_node is);
  next_one = by_last (begun.going.linked.lasts 0 graph.some_node);
  next_last = λ k below. absurd (omega arith);
  none_left = begun.all_of_none 0 (omega arith) graph.some_node;
}
  where
    by_last : IsLast st.entries 0 (last_place st 0) → (last_place st 0 ≡ NONE → ⊥) → IsEntryAt st.entries 0 (last_place st 0)
    by_last (no_entries none _) some = absurd (some none)
    by_last (last_one is _) some = is

-- the next one is listed too, and there is another next one
module _ (g : Graph) (st new : Lists) (places : List ℕ) (place next : ℕ) (listed : AreRootPlaces g st places place)
    (some : place ≡ NONE → ⊥) (has : HasNext g st new next) where
  abbrev more : List ℕ
  more = places ++ place ∷ []

  pub more_long : length more ≡ length places + 1
  more_long = omega (arith, length-append places (place ∷ []))

  old : (k : ℕ) → k < length places → slice_index more k ≡ slice_index places k
  old k below = get_or_append_left places (place ∷ []) 0 k below

  latest : (k : ℕ) → k < length more → (k < length places → ⊥) → slice_index more k ≡ place
  latest k inside past =
      ap (slice_index more) (let e : k ≡ length places = omega (arith, more_long, past) in e)
      ∙ get_or-append_seam places place [] 0

  entries : (k : ℕ) → k < length more → IsEntryAt st.entries 0 (slice_index more k)
  entries k inside =
      ⊎_elim
      (λ below. subst (IsEntryAt st.entries 0) (sym (old k below)) (listed.entries k below))
      (λ past. subst (IsEntryAt st.entries 0) (sym (latest k inside (λ below. omega arith))) (listed.next_one some))
      (cases_lt k (length places))

  pub listed_more : IsGoing g new 0 → AreRootPlaces g new more next
  listed_more going = record {
    going = going;
    entries = λ k inside. still_entry st.entries new.entries has.extends 0 (slice_index more k) (entries k inside);
    rising = λ j k less inside. ⊎_elim
        (λ below. let a = old j (omega arith) in let b = old k below in let r = listed.rising j k less below in
        let e : slice_index more j < slice_index more k = omega arith in e)
        (λ past. let below : j < length places = omega (arith, more_long) in let a = old j below in
        let b = latest k inside (λ is. omega arith) in let r = listed.next_last j below in
        let e : slice_index more j < slice_index more k = omega arith in e)
        (cases_lt k (length places));
    whole = λ at is. ⊎_elim
        (λ was. ⊎_elim
        (λ among. inl (Contains-append_left places (place ∷ []) at among))
        (λ same. inl (subst (Contains more) (sym same) (Contains-push places place)))
        (listed.whole at (was_entry st.entries new.entries has.extends 0 at was is)))
        (λ same. inr same)
        (has.only at is);
    next_one = has.next_one;
    next_last = λ k inside. let e : slice_index more k < next = omega (arith, (entries k inside).within, has.behind) in e;
    none_left = has.none_left;
  }

-- walks that rise at each place rise as a list
rising_list : (g : Graph) (walks : List (List ℕ))
    → ((j k : ℕ) → j < k → k < length walks → IsWalkBefore g (get_or walks j []) (get_or walks k [])) → AreWalksRising g walks
rising_list g [] rises = tt
rising_list g (p ∷ []) rises = tt
rising_list g (p ∷ q ∷ walks) rises = (
  rises 0 1 (omega arith) (omega arith),
  rising_list g (q ∷ walks) (λ j k less inside. rises (suc j) (suc k)
      (omega arith) (omega arith)),
)

module _ (g : Graph) (graph : IsGraph g) (st : Lists) (count : ℕ) (places : List ℕ)
    (firsts : AreFirstPlaces g st count places) where
  abbrev walks : List (List ℕ)
  walks = walks_at st.entries places

  first : HasFirst g st.entries 0
  first = firsts.listed.going.firsts 0 graph.some_node

  long : length walks ≡ length places
  long = length-map places (walk_at st.entries)

  walk_is : (k : ℕ) (d : List ℕ) → k < length places → get_or walks k d ≡ walk_at st.entries (slice_index places k)
  walk_is k d below = get_or-map (walk_at st.entries) places k 0 d below

  -- a walk listed at one of the places is among the walks
  among : (walk : List ℕ) (listed : HasEntry st.entries 0 walk) → Contains places listed.place → Contains walks walk
  among walk listed (k, below, at) = (
    k,
    omega (arith, long),
    walk_is k walk below
        ∙ ap (walk_at st.entries) (get_or_default places k 0 listed.place below ∙ at)
        ∙ listed.has,
  )

  none_before : (other : List ℕ) → Leads g 0 other → (Contains walks other → ⊥)
      → All (λ p. IsWalkBefore g other p → ⊥) walks
  none_before other leads missing k d inside =
      let below : k < length places = omega (arith, long) in
      subst (λ w. IsWalkBefore g other w → ⊥) (sym (walk_is k d below))
      (λ before. ⊎_elim
      (λ listed. ⊎_elim
      (λ has. missing (among other listed has))
      (λ same. asymmetric g other (walk_at st.entries (slice_index places k)) before
      (subst (IsWalkBefore g (walk_at st.entries (slice_index places k))) listed.has
      (first.rising (slice_index places k) listed.place
      (let last = firsts.listed.next_last k below in omega arith) (firsts.listed.entries k below) listed.entry)))
      (firsts.listed.whole listed.place listed.entry))
      (λ all. asymmetric g other (walk_at st.entries (slice_index places k)) before
      (all (slice_index places k) (firsts.listed.entries k below)))
      (first.rest_after other leads))

  full : AreEnoughWalks g 0 count walks
  full =
      ⊎_elim
      (λ many. so_many (long ∙ many))
      (λ few. all_walks (omega (arith, long, few.1))
      (λ other leads. (let listed = firsts.listed.none_left few.0 other leads in
      ⊎_elim (among other listed)
      (λ same. absurd (let e : ⊥ = omega (arith, same, few.0, listed.entry.within, firsts.listed.going.linked.few) in e))
      (firsts.listed.whole listed.place listed.entry))))
      firsts.full

  pub first_walks_are : AreFirstWalks g 0 count walks
  first_walks_are = record {
    are_walks = λ k d inside. let below : k < length places = omega (arith, long) in
        subst (Leads g 0) (sym (walk_is k d below)) (first.leads (slice_index places k) (firsts.listed.entries k below));
    rising = rising_list g walks (λ j k less inside. let below : k < length places = omega (arith, long) in
        subst (λ w. IsWalkBefore g w (get_or walks k [])) (sym (walk_is j [] (omega arith)))
        (subst (IsWalkBefore g (walk_at st.entries (slice_index places j))) (sym (walk_is k [] below))
        (first.rising (slice_index places j) (slice_index places k) (firsts.listed.rising j k less below)
        (firsts.listed.entries j (omega arith)) (firsts.listed.entries k below))));
    none_before = none_before;
    full = full;
  }
