-- Narrowings of both kinds: what they keep lies in the labels, what they keep of labels they keep of larger ones, and labels at
-- rest stay in what is narrowed.
use Rattle.std.proofs.Common.{◌≡◌, ℕ, List, length, refl, sym, subst, Option, None, IsTrue}
use Rattle.netlist.specs.Circuit.{Circuit}
use Rattle.state_sets.specs.declared.state.State.{State}
use Rattle.state_sets.specs.declared.state.StateSet.{StateSet}
use Rattle.state_sets.specs.declared.condition.Condition.{Condition}
use Rattle.state_sets.specs.StateAlgebra.{StateAlgebra}
use Rattle.state_sets.specs.States.{Has}
use Rattle.state_sets.specs.Labellings.{label_at, LiesIn}
use Rattle.state_sets.specs.Narrowing.{IsNarrowing, IsLinkNarrowing, IsKeptByLink}
use Rattle.state_sets.specs.Hulls.{Narrowing, Narrows}
use Rattle.state_sets.specs.Hulls.Narrowing.{at_gate, along_link}
use Rattle.state_laws.proofs.Narrowing.{narrowing_shrinks, narrowing_monotone, condition_keeps_less}

module _ (a : StateAlgebra) where
  -- what a narrowing along a link keeps lies in the labels
  pub link_shrinks : (source line : ℕ) (old new : List StateSet) → IsLinkNarrowing a source line old new → LiesIn a.count new old
  link_shrinks source line old new is at state has = ((is.exactly at state).0 has).had

  -- states that may be linked are kept: where source and line have theirs, each line that had its own keeps it
  pub agreeing_kept_by_link : (source line : ℕ) (old : List StateSet) (states : ℕ → State) → IsTrue (a.link (states source) (states line))
      → Has a.count (label_at old source) (states source) → Has a.count (label_at old line) (states line)
      → (at : ℕ) → Has a.count (label_at old at) (states at) → IsKeptByLink a source line old at (states at)
  agreeing_kept_by_link source line old states linked at_source at_line at had = record {
    had = had;
    at_source = λ here. (states line, at_line, subst (λ l. IsTrue (a.link (states l) (states line))) (sym here) linked);
    at_line = λ here. (states source, at_source, subst (λ l. IsTrue (a.link (states source) (states l))) (sym here) linked);
  }

  -- what it keeps of labels it keeps of larger ones
  kept_by_larger_link : (source line : ℕ) (old larger : List StateSet) → LiesIn a.count old larger
      → (at : ℕ) (state : State) → IsKeptByLink a source line old at state → IsKeptByLink a source line larger at state
  kept_by_larger_link source line old larger inside at state kept = record {
    had = inside at state kept.had;
    at_source = λ here. let other = kept.at_source here in (other.0, inside line other.0 other.1, other.2);
    at_line = λ here. let other = kept.at_line here in (other.0, inside source other.0 other.1, other.2);
  }

  pub link_monotone : (source line : ℕ) (old larger new larger_new : List StateSet) → LiesIn a.count old larger
      → IsLinkNarrowing a source line old new → IsLinkNarrowing a source line larger larger_new → LiesIn a.count new larger_new
  link_monotone source line old larger new larger_new inside is larger_is at state has =
      (larger_is.exactly at state).1 (kept_by_larger_link source line old larger inside at state ((is.exactly at state).0 has))

  module _ (c : Circuit) where
    -- the same of both kinds of narrowings
    pub narrows_shrinks : (narrowing : Narrowing) (old new : List StateSet) → Narrows a c narrowing old new → LiesIn a.count new old
    narrows_shrinks (at_gate gate condition) old new is = narrowing_shrinks a c gate condition old new is
    narrows_shrinks (along_link source line) old new is = link_shrinks source line old new is

    pub narrows_monotone : (narrowing : Narrowing) (old larger new larger_new : List StateSet) → LiesIn a.count old larger
        → Narrows a c narrowing old new → Narrows a c narrowing larger larger_new → LiesIn a.count new larger_new
    narrows_monotone (at_gate gate condition) old larger new larger_new inside is larger_is =
        narrowing_monotone a c gate condition old larger inside new larger_new is larger_is
    narrows_monotone (along_link source line) old larger new larger_new inside is larger_is =
        link_monotone source line old larger new larger_new inside is larger_is

    -- no narrowing changes the number of lines
    pub narrows_lines : (narrowing : Narrowing) (old new : List StateSet) → Narrows a c narrowing old new → length new ≡ length old
    narrows_lines (at_gate gate condition) old new is = is.lines
    narrows_lines (along_link source line) old new is = is.lines

    -- labels at rest under a condition are at rest without it
    pub rest_without_condition : (gate : ℕ) (condition : Option Condition) (labels : List StateSet)
        → IsNarrowing a c gate condition labels labels → IsNarrowing a c gate None labels labels
    rest_without_condition gate condition labels is = record {
      lines = refl;
      exactly = λ line state. (
        (λ has. condition_keeps_less a c gate condition labels line state ((is.exactly line state).0 has)),
        λ kept. kept.had,
      );
    }
