-- Two cuts, of a source and of the line to which it is linked, are the narrowing along the link.
use Rattle.std.proofs.Common.{ℕ, ◌<◌, List, length, refl, ◌∙◌, arith}
use Rattle.std.specs.Prelude.{IsTrue}
use Rattle.std.proofs.Math.ListN.{set}
use Rattle.std.proofs.lemmas.List.{length-set}
use Rattle.state_sets.specs.declared.state.State.{State}
use Rattle.state_sets.specs.declared.state.StateSet.{StateSet}
use Rattle.state_sets.specs.States.{Has, both_sets}
use Rattle.state_sets.specs.StateAlgebra.{StateAlgebra}
use Rattle.state_sets.specs.Labellings.{label_at}
use Rattle.state_sets.specs.Narrowing.{IsLinkNarrowing}
use Rattle.hulls.specs.Sets.{Means}
use Rattle.hulls.proofs.Cuts.{has_after_cut, had_before_cut, kept_by_cut}

module _ (a : StateAlgebra) (source line : ℕ) (old : List StateSet) (in_source : source < length old) (in_line : line < length old)
    (at_source at_line : StateSet)
    (sources : Means a.count at_source
    (λ s. (s.0 < a.count) × ((c : State) × Has a.count (label_at old line) c × IsTrue (a.link s c))))
    (lines : Means a.count at_line
    (λ c. (c.0 < a.count) × ((s : State) × Has a.count (label_at old source) s × IsTrue (a.link s c)))) where
  abbrev mid : List StateSet
  mid = set old source (both_sets (label_at old source) at_source)

  abbrev new : List StateSet
  new = set mid line (both_sets (label_at mid line) at_line)

  in_mid : line < length mid
  in_mid = let e = length-set old source (both_sets (label_at old source) at_source) in omega arith

  pub link_narrowed : IsLinkNarrowing a source line old new
  link_narrowed = record {
    lines = length-set mid line (both_sets (label_at mid line) at_line)
        ∙ length-set old source (both_sets (label_at old source) at_source);
    exactly = λ at state. (
      (λ has.
          let had_mid = had_before_cut mid line in_mid (both_sets (label_at mid line) at_line) a.count at_line refl at state has in
          record {
            had = had_before_cut old source in_source (both_sets (label_at old source) at_source) a.count at_source refl at state had_mid;
            at_source = λ here. ((sources state).0
                (kept_by_cut old source in_source (both_sets (label_at old source) at_source) a.count at_source refl at state had_mid here)).1;
            at_line = λ here. ((lines state).0
                (kept_by_cut mid line in_mid (both_sets (label_at mid line) at_line) a.count at_line refl at state has here)).1;
          }),
      λ kept. has_after_cut mid line in_mid (both_sets (label_at mid line) at_line) a.count at_line refl at state
          (has_after_cut old source in_source (both_sets (label_at old source) at_source) a.count at_source refl at state kept.had
          (λ here. (sources state).1 (kept.had.in_range, kept.at_source here)))
          (λ here. (lines state).1 (kept.had.in_range, kept.at_line here)),
    );
  }
