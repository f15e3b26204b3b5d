-- A node grows: first the node behind the arc that its last walk took, where that is asked for, and then the node itself.
use Rattle.std.proofs.Common.{◌≡◌, inl, inr, ⊎_elim, ℕ, ◌<◌, ◌≤◌, Bool, true, false, length, slice_index, IsTrue, refl, sym, ap, subst, ◌∙◌, arith}
use Rattle.path_laws.specs.declared.entry.WalkEntry.{WalkEntry}
use Rattle.path_laws.specs.Graph.{Graph, IsGraph, arc_end}
use Rattle.path_laws.specs.Entries.{IsEntryAt, entry_at}
use Rattle.path_laws.specs.Lists.{Lists, HasAll, IsGoing, IsNextPlace, last_place}
use Rattle.path_laws.specs.Lists.IsNextPlace.{no_next, next_one}
use Rattle.path_laws.specs.Growth.{HasGrown, IsFed, IsWaiting, TakesNext}
use Rattle.path_laws.proofs.Appending.{extends_transitive, was_entry}

-- a step alone
pub grown_by_step : (g : Graph) (old new : Lists) (node : ℕ) (took : Bool) → TakesNext g old new node took
    → HasGrown g old new node took
grown_by_step g old new node took takes = record {
  extends = takes.extends;
  keeps = λ other before. takes.keeps other (λ same. omega arith);
  same_lasts = λ other before. takes.same_lasts other (λ same. omega arith);
  only = takes.only;
  one_more = takes.one_more;
  all_listed = takes.all_listed;
}

module _ (g : Graph) (graph : IsGraph g) (old mid : Lists) (node arc : ℕ) (waits : IsWaiting g old node arc) (tail_took : Bool)
    (grown : HasGrown g old mid (arc_end g arc) tail_took) where
  -- the arc leads on
  onward : node < arc_end g arc
  onward = graph.onward node arc waits.taken.own

  -- after the node behind the arc has grown, the next walk is known
  pub fed : IsGoing g mid 0 → IsFed g mid node
  fed going other taken none = by_took tail_took refl
    where
      same_entry : entry_at mid.entries (last_place mid node) ≡ entry_at old.entries (last_place old node)
      same_entry =
          ap (entry_at mid.entries) (grown.same_lasts node onward)
          ∙ grown.extends.same (last_place old node) waits.taken.last.within

      same_arc : other ≡ arc
      same_arc = sym taken.by_arc ∙ ap (λ (e : WalkEntry). e.arc) same_entry ∙ waits.taken.by_arc

      same_tail : (entry_at mid.entries (last_place mid node)).tail ≡ (entry_at old.entries (last_place old node)).tail
      same_tail = ap (λ (e : WalkEntry). e.tail) same_entry

      no_more : IsTrue tail_took → ⊥
      no_more took =
          by_next (going.linked.nexts _ taken.tail.on_end.within)
        where
          by_next : IsNextPlace mid.entries (entry_at mid.entries (last_place mid node)).tail
              (slice_index mid.nexts (entry_at mid.entries (last_place mid node)).tail) → ⊥
          by_next (no_next _ nowhere) =
              nowhere (last_place mid (arc_end g arc))
              (omega (arith, same_tail, waits.taken.tail.on_end.within, (grown.one_more took).1))
              (subst (λ n. IsEntryAt mid.entries n (last_place mid (arc_end g arc)))
              (sym (taken.tail.on_end.own ∙ ap (arc_end g) same_arc)) (grown.one_more took).0)
          by_next (next_one behind is _) = omega (arith, none, is.within, going.linked.few)

      by_took : (b : Bool) → b ≡ tail_took → HasAll g mid.entries (arc_end g other)
      by_took true is = absurd (no_more (sym is))
      by_took false is = subst (λ a. HasAll g mid.entries (arc_end g a)) (sym same_arc) (grown.all_listed (sym is))

  -- both together
  pub grown_by_both : (new : Lists) (took : Bool) → TakesNext g mid new node took → HasGrown g old new node took
  grown_by_both new took takes = record {
    extends = extends_transitive old.entries mid.entries new.entries grown.extends takes.extends;
    keeps = λ other before place is. kept other (omega (arith, onward)) place
        (was_entry mid.entries new.entries takes.extends other place (takes.keeps other (λ same. omega arith) place is) is);
    same_lasts = λ other before.
        takes.same_lasts other (λ same. omega arith) ∙ grown.same_lasts other (omega (arith, onward));
    only = λ place is. ⊎_elim
        (λ was. inl (kept node onward place (was_entry mid.entries new.entries takes.extends node place was is)))
        (λ now. inr now) (takes.only place is);
    one_more = λ is. (
      (takes.one_more is).0,
      (let e : length old.entries ≤ last_place new node =
          omega (arith, (takes.one_more is).1, grown.extends.longer) in e),
    );
    all_listed = takes.all_listed;
  }
    where
      kept : (other : ℕ) → other < arc_end g arc → (place : ℕ) → IsEntryAt mid.entries other place → place < length old.entries
      kept other before place is = grown.keeps other before place is
