-- A turn of a board along a link: its two lines are cut, one after the other.
use Rattle.std.proofs.Common.{◌≡◌, ◌≢◌, ℕ, ◌<◌, ◌⊎◌, inl, inr, ⊎_elim, List, length, None, IsTrue, refl, sym, ap, ◌∙◌, subst, arith}
use Rattle.std.specs.List.{All, Contains}
use Rattle.std.proofs.lemmas.Bool.{cases_eq}
use Rattle.pd_base.specs.Links.{LinkList, IsLink}
use Rattle.pd_base.specs.declared.ids.LineId.{LineId}
use Rattle.pd_base.specs.declared.ids.PinRef.{PinRef}
use Rattle.pd_base.specs.declared.fault.Kind.{Kind}
use Rattle.netlist.specs.Circuit.{Circuit, line_count}
use Rattle.state_sets.specs.declared.state.State.{State}
use Rattle.state_sets.specs.declared.state.StateSet.{StateSet}
use Rattle.state_sets.specs.States.{Has, AreWithin, both_sets, no_states}
use Rattle.state_sets.specs.StateAlgebra.{StateAlgebra}
use Rattle.state_sets.specs.Labellings.{label_at}
use Rattle.state_sets.specs.Narrowing.{IsLinkNarrowing}
use Rattle.state_sets.specs.Hulls.{HasNoEmptySet}
use Rattle.state_sets.specs.Hulls.Narrowing.{along_link}
use Rattle.state_laws.specs.Cones.{IsNarrowingIn}
use Rattle.state_laws.specs.Sweeps.{KeepsRests}
use Rattle.state_laws.proofs.Linked.{linked_source, linked_line}
use Rattle.state_laws.proofs.Sweeps.{keeps_one}
use Rattle.hulls.specs.Sets.{Means}
use Rattle.hulls.specs.Awaiting.{is_inside}
use Rattle.hulls.specs.Boards.{OnBoard, IsBoardOf, link_turn}
use Rattle.hulls.specs.Settling.{RestsAlong, IsSameAt, IsShrunk, IsCutTo, IsAwakeBut, IsNarrowed, IsTurn, IsConflict}
use Rattle.hulls.specs.Links.{link_at, link_lines}
use Rattle.hulls.proofs.Changing.{cut_shrunk, shrunk_on, some_left}
use Rattle.hulls.proofs.Cuts.{has_after_cut, had_before_cut}
use Rattle.hulls.proofs.Narrowed.{awake_on, link_stands, link_rests_after}
use Rattle.hulls.proofs.LinkCuts.{link_narrowed}

module _ (a : StateAlgebra) (c : Circuit) (kind : Kind) (steps : List PinRef) (old : OnBoard) (of : IsBoardOf c old)
    (sets : AreWithin a.count old.labels) (link : ℕ) (stands : link < length old.links)
    (two : LineId × LineId) (is : two ≡ link_at old.links link) where
  abbrev source : ℕ
  source = two.0.0

  abbrev line : ℕ
  line = two.1.0

  is_link : IsLink old.links source line
  is_link = subst (λ (t : LineId × LineId). IsLink old.links t.0.0 t.1.0) (sym is) (link_stands old.links link stands)

  pub source_in : source < line_count c
  source_in = let s = linked_source c old.links of.links source line is_link in omega arith

  pub line_in : line < line_count c
  line_in = linked_line c old.links of.links source line is_link

  source_within : source < length old.labels
  source_within = let s = source_in in let e = of.lines in omega arith

  line_within : line < length old.labels
  line_within = let s = line_in in let e = of.lines in omega arith

  module _ (at_source at_line : StateSet)
      (sources : Means a.count at_source
      (λ s. (s.0 < a.count) × ((l : State) × Has a.count (label_at old.labels line) l × IsTrue (a.link s l))))
      (lines : Means a.count at_line
      (λ l. (l.0 < a.count) × ((s : State) × Has a.count (label_at old.labels source) s × IsTrue (a.link s l))))
      (mid : OnBoard) (first : IsCutTo a.count c None source at_source old mid) where
    first_shrunk : IsShrunk a.count c None old mid
    first_shrunk = cut_shrunk c None a.count source at_source old mid first

    -- the first cut loses no labels at rest
    first_keeps : KeepsRests a c (IsNarrowingIn c (is_inside old.inside) old.links kind steps) old.labels mid.labels
    first_keeps = record {
      labelling = record { one_each = first_shrunk.lines ∙ of.lines; within = first.within };
      inside = λ at state has. had_before_cut old.labels source source_within (both_sets (label_at old.labels source) at_source) a.count
          at_source refl at state (subst (λ (l : List StateSet). Has a.count (label_at l at) state) first.labels has);
      keeps = λ other labelled rest lies at state has.
          let kept = ((rest (along_link source line) is_link).exactly at state).0 has in
          subst (λ (l : List StateSet). Has a.count (label_at l at) state) (sym first.labels)
          (has_after_cut old.labels source source_within (both_sets (label_at old.labels source) at_source) a.count at_source refl at state
          (lies at state has)
          (λ here. let two = kept.at_source here in
          (sources state).1 (has.in_range, (two.0, lies line two.0 two.1, two.2))));
    }

    pub conflict_at_source : label_at mid.labels source ≡ no_states → IsConflict a c kind steps old mid source
    conflict_at_source none = record {
      narrowed = record { keeps = first_keeps; inside = first.inside; links = first.links; follows = first.follows };
      in_circuit = source_in;
      none = none;
    }

    module _ (new : OnBoard) (second : IsCutTo a.count c None line at_line mid new) where
      is_narrowing : IsLinkNarrowing a source line old.labels new.labels
      is_narrowing =
          subst (IsLinkNarrowing a source line old.labels)
          (sym (second.labels ∙ ap (λ (l : List StateSet). Rattle.std.proofs.Math.ListN.set l line (both_sets (label_at l line) at_line)) first.labels))
          (link_narrowed a source line old.labels source_within line_within at_source at_line sources lines)

      shrunk : IsShrunk a.count c None old new
      shrunk = shrunk_on c None a.count old mid new first_shrunk (cut_shrunk c None a.count line at_line mid new second)

      narrowed : IsNarrowed a c kind steps old new
      narrowed = record {
        keeps = keeps_one a c (IsNarrowingIn c (is_inside old.inside) old.links kind steps) (along_link source line) is_link old.labels new.labels
            (record { one_each = of.lines; within = sets }) is_narrowing shrunk.within;
        inside = shrunk.inside;
        links = shrunk.links;
        follows = shrunk.follows;
      }

      pub conflict_at_line : label_at new.labels line ≡ no_states → IsConflict a c kind steps old new line
      conflict_at_line none = record { narrowed = narrowed; in_circuit = line_in; none = none }

      -- the link itself waits, or rests
      awake_here : Contains new.waiting (link_turn c link) ⊎ RestsAlong a old.links new.labels link
      awake_here = ⊎_elim
          (λ (waits : Contains new.waiting (link_turn c link)). inl waits)
          (λ (same : All (IsSameAt old.labels new.labels) (link_lines old.links link)).
          inr (link_rests_after a old.links link old.labels new.labels same
          (subst (λ (t : LineId × LineId). IsLinkNarrowing a t.0.0 t.1.0 old.labels new.labels) is is_narrowing)))
          (shrunk.wakes.links_woken link stands)

      pub link_done : IsAwakeBut a c kind steps (link_turn c link).0 old → HasNoEmptySet c old.labels
          → label_at mid.labels source ≢ no_states → label_at new.labels line ≢ no_states → IsTurn a c kind steps old new
      link_done awake some left_source left_line =
          let but = awake_on a c kind steps (link_turn c link).0 None tt old new shrunk.inside shrunk.links shrunk.wakes awake in
          record {
            narrowed = narrowed;
            awake = record {
              gates = λ gate within here. but.gates gate within here (λ same. absurd (omega (arith, same, within)));
              links = λ other inside. ⊎_elim
                  (λ (same : other ≡ link).
                  subst (λ (n : ℕ). Contains new.waiting (link_turn c n) ⊎ RestsAlong a new.links new.labels n) (sym same)
                  (subst (λ (ls : LinkList). Contains new.waiting (link_turn c link) ⊎ RestsAlong a ls new.labels link) (sym shrunk.links) awake_here))
                  (λ (away : other ≢ link). but.links other inside (λ same. away (omega (arith, same))))
                  (cases_eq other link);
            };
            some = some_left c None a.count line at_line mid new second
                (some_left c None a.count source at_source old mid first some left_source) left_line;
            falls = shrunk.falls;
          }
