-- What labels at the gates inside tell of the whole circuit: they are those of its hull where lines are told, and close where it closes.
use Rattle.pd_base.specs.Links.{LinkList, links_of, IsLink}
use Rattle.std.proofs.Common.{◌≡◌, ℕ, ◌-◌, ◌<◌, ◌≤◌, ⊎_elim, inl, inr, Bool, true, false, List, length, replicate, get_or, All, Option, Some, None, IfSome, IfNone, refl, sym, ap, ◌∙◌, subst, arith}
use Rattle.std.proofs.lemmas.Bool.{cases_lt, false≢true}
use Rattle.std.proofs.lemmas.List.{get_or-replicate, length-replicate}
use Rattle.pd_base.specs.declared.ids.LineId.{LineId}
use Rattle.pd_base.specs.declared.ids.PinRef.{PinRef}
use Rattle.pd_base.specs.declared.rules.Rules.{Rules}
use Rattle.netlist.specs.Circuit.{Circuit, source_count, gate_count, line_count, gate_line, pins_at}
use Rattle.netlist.specs.Lawful.{IsCircuit}
use Rattle.netlist.specs.Pins.{IsPin}
use Rattle.netlist.proofs.Evaluation.{gate_line_of}
use Rattle.state_sets.specs.declared.state.State.{State}
use Rattle.state_sets.specs.declared.state.StateSet.{StateSet}
use Rattle.state_sets.specs.States.{Has}
use Rattle.state_sets.specs.StateAlgebra.{StateAlgebra, HasLaws}
use Rattle.state_sets.specs.Labellings.{label_at}
use Rattle.state_sets.specs.Hulls.{IsNarrowingOf}
use Rattle.state_laws.specs.Cones.{IsLineWithin, AreFreeOutside, IsPartOfHull}
use Rattle.state_laws.proofs.FirstValues.{part_of_near_hull}
use Rattle.state_laws.proofs.LinkedCones.{part_of_linked_hull, emptied_within}
use Rattle.state_laws.proofs.Linked.{none_linked, linked_source, linked_line}
use Rattle.netlist.specs.LinkedPairs.{AreLinksOf}
use Rattle.state_sets.specs.Starts.{IsOtherStart}
use Rattle.pd_base.specs.declared.rules.Rules.TheVariants.{One, Two, Linked}
use Rattle.implication.proofs.Lists.{told_pins}
use Rattle.implication.proofs.Linking.{links_among}
use Rattle.state_laws.proofs.Hulls.{not_closing}
use Rattle.hulls.specs.Awaiting.{is_inside}
use Rattle.implication.specs.declared.assumption.Beginning.{Beginning}
use Rattle.implication.specs.declared.assumption.Assumption.{Assumption}
use Rattle.implication.specs.declared.assumption.Assumption.TheVariants.{Entered, Assumed}
use Rattle.implication.specs.Assumptions.{entered_pins, MayUnder, IsLetBy, IsEmptiedUnder, ClosesUnder}
use Rattle.implication.specs.Standing.{Standing, ToldEnds, IsToldBy, TellsLabels, IsLabels, IsHullFrom, IsOpenFrom, IsOpenIn, IsEmptiedFrom, IsEmptiedIn}
use Rattle.implication.specs.FirstStates.{HasFirstValues}
use Rattle.implication.specs.Kept.{Outset, Kept, AreAssumptions, AreToldEntries, IsToldEntry, AreToldGates, AreNearGates, AreEnough, IsOpenHull, IsEmptiedInside, StandsFrom, KeepsStanding}
use Rattle.implication.proofs.Entering.{pins_of}

-- where all gates and links are inside, all lines are told
pub cone_of_all : (c : Circuit) → IsCircuit c → (links : LinkList) → AreLinksOf c links → (inside : List Bool)
    → inside ≡ replicate (gate_count c) true → AreToldGates c links None inside links
cone_of_all c circuit links of inside is = record {
  gates = let e = ap length is in let f = length-replicate (gate_count c) true in omega arith;
  closed = record {
    pins = λ gate within here i d in_pins. all_within (get_or (pins_at c gate) i d).0 (circuit.reads_lines gate within i d in_pins);
    among = λ source line link. link;
    lines = λ source line link. all_within line (linked_line c links of source line link);
  };
  told = λ gate within. ((λ _. tt), (λ _. whole gate within));
  sources = λ source line told link. link;
}
  where
    whole : (gate : ℕ) → gate < gate_count c → is_inside inside gate ≡ true
    whole gate within = ap (λ (flags : List Bool). is_inside flags gate) is ∙ get_or-replicate (gate_count c) gate true false within

    all_within : (line : ℕ) → line < line_count c → IsLineWithin c (is_inside inside) links links line
    all_within line within = ⊎_elim
        (λ (source : line < source_count c). inl (source, (λ other link. link)))
        (λ (above : source_count c ≤ line).
        let gate = line - source_count c in
        let below : gate < gate_count c = omega (arith, within, above) in
        inr (gate, below, whole gate below, sym (gate_line_of c line above)))
        (cases_lt line (source_count c))

-- each gate whose line is told is near
abbrev HasToldGates : Circuit → LinkList → Option ToldEnds → (ℕ → Bool) → Type 0
HasToldGates c links ends near = (gate : ℕ) → gate < gate_count c → IsToldBy c links ends (gate_line c gate) → near gate ≡ true

-- and each link of a source that is told is inner
abbrev HasToldLinks : Circuit → LinkList → Option ToldEnds → LinkList → Type 0
HasToldLinks c links ends inner = (source line : ℕ) → IsToldBy c links ends source → IsLink links source line → IsLink inner source line

-- then a line that is told is near
told_near : (c : Circuit) (links : LinkList) (ends : Option ToldEnds) (near : ℕ → Bool) (inner : LinkList) → HasToldGates c links ends near
    → HasToldLinks c links ends inner → (line : ℕ) → line < line_count c → IsToldBy c links ends line → IsLineWithin c near links inner line
told_near c links ends near inner gates sources line within told = ⊎_elim
    (λ (source : line < source_count c). inl (source, (λ other link. sources line other told link)))
    (λ (above : source_count c ≤ line).
    let gate = line - source_count c in
    let is : gate_line c gate ≡ line = gate_line_of c line above in
    let below : gate < gate_count c = omega (arith, within, above) in
    let P : ℕ → Type 0 = λ l. IsToldBy c links ends l in
    inr (gate, below, gates gate below (subst P (sym is) told), sym is))
    (cases_lt line (source_count c))

-- a line of the circuit that is told
abbrev IsToldLine : Circuit → LinkList → Option ToldEnds → ℕ → Type 0
IsToldLine c links ends line = (line < line_count c) × IsToldBy c links ends line

-- under rules with a link other sources may start in every state of a source
linked_start : (a : StateAlgebra) (rules : Rules) (source line : ℕ) → IsLink (links_of rules) source line → (state : State)
    → IsOtherStart a rules state
linked_start a One source line link state = tt
linked_start a Two source line link state = absurd (none_linked source line link)
linked_start a (Linked links) source line link state = tt

module _ (a : StateAlgebra) (from : Outset) (linked : AreLinksOf from.net (links_of from.rules))
    (ends : Option ToldEnds) (near : ℕ → Bool) (gates : HasToldGates from.net (links_of from.rules) ends near)
    (sources : HasToldLinks from.net (links_of from.rules) ends from.inner) (list : List Assumption)
    (are : AreAssumptions a.count from.net from.begun list) (begins : IsToldBy from.net (links_of from.rules) ends from.begun.source.0)
    (told : AreToldEntries from.net (links_of from.rules) ends list) where
  abbrev May : ℕ → State → Type 0
  May = MayUnder a from.net from.rules from.begun list

  abbrev steps : List PinRef
  steps = entered_pins list

  -- each pin was entered at a near gate
  through : All (λ step. near step.gate.0 ≡ true) steps
  through k d within =
      let step = get_or steps k d in
      let pins : All (IsPin from.net) steps = pins_of from.net from.begun.source.0 steps are.connects in
      gates step.gate.0 (pins k d within).in_circuit (told_pins from.net (links_of from.rules) ends list told k d within)

  -- no entry is about a line that is not told
  lets_untold : (line : ℕ) → ¬ IsToldBy from.net (links_of from.rules) ends line → (state : State) → (entry : Assumption)
      → IsToldEntry from.net (links_of from.rules) ends entry → IsLetBy a.count line state entry
  lets_untold line untold state (Entered pin) told = tt
  lets_untold line untold state (Assumed own set) told = λ here.
      let P : ℕ → Type 0 = λ l. IsToldBy from.net (links_of from.rules) ends l in
      absurd (untold (subst P (sym here) told))

  -- the line of a gate that is not near may be in every state
  free : (gate : ℕ) → gate < gate_count from.net → near gate ≡ false → (state : State) → state.0 < a.count
      → May (gate_line from.net gate) state
  free gate within outside state below =
      let source = are.source in record {
        start = record {
          is_source = λ less. absurd (omega (arith, less));
          own = λ here. absurd (omega (arith, here, source));
          other = λ less apart. absurd (omega (arith, less));
        };
        assumed = λ k d inside.
            lets_untold (gate_line from.net gate) (λ told_gate. false≢true (sym outside ∙ gates gate within told_gate)) state
            (get_or list k d) (told k d inside);
      }

  -- a source that is linked from outside may be in every state of a source
  loose : AreFreeOutside a (links_of from.rules) from.inner May
  loose source line link outside state = (
    (λ may. may.start.is_source (linked_source from.net (links_of from.rules) linked source line link)),
    λ has. record {
      start = record {
        is_source = λ less. has;
        own = λ here.
            let P : ℕ → Type 0 = λ s. IsToldBy from.net (links_of from.rules) ends s in
            absurd (outside (sources source line (subst P (sym here) begins) link));
        other = λ less away. linked_start a from.rules source line link state;
      };
      assumed = λ k d inside.
          lets_untold source (λ told_source. outside (sources source line told_source link)) state (get_or list k d) (told k d inside);
    },
  )

  -- these labels are part of the hull of the whole circuit at told lines where they are at near ones
  part_at_told : (labels : List StateSet)
      → IsPartOfHull a from.net (IsLineWithin from.net near (links_of from.rules) from.inner) (links_of from.rules) from.begun.kind steps May labels
      → IsPartOfHull a from.net (IsToldLine from.net (links_of from.rules) ends) (links_of from.rules) from.begun.kind steps May labels
  part_at_told labels part = record {
    whole = part.whole;
    hull = part.hull;
    none_empty = part.none_empty;
    same = λ line told_line. part.same line
        (told_near from.net (links_of from.rules) ends near from.inner gates sources line told_line.0 told_line.1);
    lies = part.lies;
  }

-- The labels are part of the hull of the whole circuit, with the gates behind told lines over all links,
module _ (a : StateAlgebra) (laws : HasLaws a) (from : Outset) (circuit : IsCircuit from.net) (linked : AreLinksOf from.net (links_of from.rules))
    (ends : Option ToldEnds) (list : List Assumption) (are : AreAssumptions a.count from.net from.begun list)
    (begins : IsToldBy from.net (links_of from.rules) ends from.begun.source.0) (told : AreToldEntries from.net (links_of from.rules) ends list)
    (labels : List StateSet) (is : IsOpenHull a from list labels) where
  abbrev IsPart : Type 0
  IsPart = IsPartOfHull a from.net (IsToldLine from.net (links_of from.rules) ends) (links_of from.rules) from.begun.kind (entered_pins list)
      (MayUnder a from.net from.rules from.begun list) labels

  part_of_told : AreToldGates from.net (links_of from.rules) ends from.inside from.inner → IsPart
  part_of_told cone =
      let gates : HasToldGates from.net (links_of from.rules) ends (is_inside from.inside) = λ gate within. (cone.told gate within).1 in
      part_at_told a from linked ends (is_inside from.inside) gates cone.sources list are begins told labels
      (part_of_linked_hull a from.net laws circuit.reads_lines (is_inside from.inside) (links_of from.rules) from.inner linked cone.closed
      from.begun.kind (entered_pins list) (through a from linked ends (is_inside from.inside) gates cone.sources list are begins told)
      (MayUnder a from.net from.rules from.begun list)
      (free a from linked ends (is_inside from.inside) gates cone.sources list are begins told)
      (loose a from linked ends (is_inside from.inside) gates cone.sources list are begins told) labels is.hull is.none_empty)

  -- and with near and first gates
  part_of_near : HasFirstValues a → AreNearGates from.net (links_of from.rules) ends from.inside from.inner → IsPart
  part_of_near firsts cone =
      let gates : HasToldGates from.net (links_of from.rules) ends (is_inside cone.near) = λ gate within. (cone.told gate within).1 in
      let near_steps = through a from linked ends (is_inside cone.near) gates cone.sources list are begins told in
      let pins : All (IsPin from.net) (entered_pins list) = pins_of from.net from.begun.source.0 (entered_pins list) are.connects in
      part_at_told a from linked ends (is_inside cone.near) gates cone.sources list are begins told labels
      (part_of_near_hull a from.net laws firsts.first firsts.laws circuit.reads_lines circuit.loop_free (is_inside cone.near)
      (is_inside from.inside) (links_of from.rules) from.inner linked cone.of cone.closed cone.covers cone.cone from.begun.kind
      (entered_pins list) near_steps
      (λ k d within. cone.covers (get_or (entered_pins list) k d).gate.0 (pins k d within).in_circuit (near_steps k d within))
      (MayUnder a from.net from.rules from.begun list)
      (free a from linked ends (is_inside cone.near) gates cone.sources list are begins told)
      (loose a from linked ends (is_inside cone.near) gates cone.sources list are begins told) labels is.hull is.none_empty)

  pub part : AreEnough a from.net (links_of from.rules) ends from.inside from.inner → IsPart
  part cone = ⊎_elim part_of_told (λ (near : HasFirstValues a × AreNearGates from.net (links_of from.rules) ends from.inside from.inner).
      part_of_near near.0 near.1) cone

  module _ (cone : AreEnough a from.net (links_of from.rules) ends from.inside from.inner) where
    -- each line has some state, then, and the assumptions do not close
    pub open_if_settled : ¬ ClosesUnder a from.net from.rules from.begun list
    open_if_settled =
        let in_whole = part cone in
        not_closing a from.net (IsNarrowingOf from.net (links_of from.rules) from.begun.kind (entered_pins list))
        (MayUnder a from.net from.rules from.begun list) in_whole.whole in_whole.hull in_whole.none_empty

    -- what the labels tell of a line
    pub told_by : (line : ℕ) → line < line_count from.net
        → ((state : State) → Has a.count (label_at (part cone).whole line) state → Has a.count (label_at labels line) state)
        × (IsToldBy from.net (links_of from.rules) ends line → label_at labels line ≡ label_at (part cone).whole line)
    told_by line within =
        let in_whole = part cone in (
          (λ state has. in_whole.lies line state has),
          (λ told_line. sym (in_whole.same line (within, told_line))),
        )

-- what is emptied by the narrowings inside is emptied in the whole circuit
pub emptied_under : (a : StateAlgebra) (from : Outset) (list : List Assumption)
    → ((source line : ℕ) → IsLink from.inner source line → IsLink (links_of from.rules) source line) → (line : ℕ)
    → IsEmptiedInside a from list line → (line < line_count from.net) × IsEmptiedUnder a from.net from.rules from.begun list line
emptied_under a from list among line is = (
  is.in_circuit,
  emptied_within a from.net (is_inside from.inside) (links_of from.rules) from.inner among from.begun.kind (entered_pins list)
      (MayUnder a from.net from.rules from.begun list) line is.emptied,
)

-- so it is as an engine stands
module _ (a : StateAlgebra) (laws : HasLaws a) (c : Circuit) (circuit : IsCircuit c) (rules : Rules) (ends : Option ToldEnds)
    (list : List Assumption) (kept : Kept) (linked : AreLinksOf c (links_of rules))
    (cone : AreEnough a c (links_of rules) ends kept.board.inside kept.board.links) where
  open_from : (beginning : Option Beginning) → StandsFrom a c rules ends beginning list None kept → IsOpenFrom a c rules beginning list
  open_from None stands = tt
  open_from (Some begun) stands =
      open_if_settled a laws
      (record { net = c; inside = kept.board.inside; inner = kept.board.links; rules = rules; begun = begun }) circuit linked ends list
      stands.list stands.begins stands.told kept.board.labels stands.answer cone

  emptied_from : (beginning : Option Beginning) (line : LineId) → StandsFrom a c rules ends beginning list (Some line) kept
      → IsEmptiedFrom a c rules beginning list line.0
  emptied_from None line stands = tt
  emptied_from (Some begun) line stands =
      emptied_under a (record { net = c; inside = kept.board.inside; inner = kept.board.links; rules = rules; begun = begun }) list
      (links_among a c (links_of rules) ends kept.board.inside kept.board.links cone) line.0 stands.answer

  tells_from : (beginning : Option Beginning) → StandsFrom a c rules ends beginning list None kept
      → (labels : List StateSet) × IsHullFrom a c rules beginning list labels
      × ((line : ℕ) → line < line_count c
      → ((state : State) → Has a.count (label_at labels line) state → Has a.count (label_at kept.board.labels line) state)
      × (IsToldBy c (links_of rules) ends line → label_at kept.board.labels line ≡ label_at labels line))
  tells_from None stands = (kept.board.labels, tt, (λ line within. ((λ state has. has), (λ told. refl))))
  tells_from (Some begun) stands =
      let from : Outset = record { net = c; inside = kept.board.inside; inner = kept.board.links; rules = rules; begun = begun } in
      let is : IsOpenHull a from list kept.board.labels = stands.answer in (
        (part a laws from circuit linked ends list stands.list stands.begins stands.told kept.board.labels is cone).whole,
        (part a laws from circuit linked ends list stands.list stands.begins stands.told kept.board.labels is cone).hull,
        told_by a laws from circuit linked ends list stands.list stands.begins stands.told kept.board.labels is cone,
      )

module _ (a : StateAlgebra) (laws : HasLaws a) {standing : Standing} {kept : Kept} {room befores_room : ℕ}
    (keeps : KeepsStanding a standing kept room befores_room) (now : Standing) (is_now : standing ≡ now) where
  stands_with : (conflict : Option LineId) → standing.conflict ≡ conflict
      → StandsFrom a standing.net standing.rules standing.ends standing.beginning standing.assumptions conflict kept
  stands_with conflict is =
      let P : Option LineId → Type 0 =
      λ x. StandsFrom a standing.net standing.rules standing.ends standing.beginning standing.assumptions x kept in
      subst P is keeps.stands

  -- where no conflict stands, each line has some state
  open_in : standing.conflict ≡ None → IsOpenIn a standing
  open_in free =
      open_from a laws standing.net keeps.circuit standing.rules standing.ends standing.assumptions kept keeps.links keeps.cone standing.beginning
      (stands_with None free)

  -- and where one stands, its line has none
  emptied_in : (line : LineId) → standing.conflict ≡ Some line → IsEmptiedIn a standing line.0
  emptied_in line is =
      emptied_from a laws standing.net keeps.circuit standing.rules standing.ends standing.assumptions kept keeps.links keeps.cone standing.beginning line
      (stands_with (Some line) is)

  -- what the labels on the board tell
  tells_in : standing.conflict ≡ None
      → (labels : List StateSet) × IsLabels a standing labels
      × TellsLabels a.count standing labels kept.board.labels
  tells_in free =
      let tells = tells_from a laws standing.net keeps.circuit standing.rules standing.ends standing.assumptions kept keeps.links keeps.cone
      standing.beginning (stands_with None free) in (
        tells.0,
        tells.1,
        (λ line within. record { contains = (tells.2 line within).0; told = (tells.2 line within).1 }),
      )

  pub open_of : (conflict : Option LineId) → standing.conflict ≡ conflict → IfNone conflict (IsOpenIn a now)
  open_of None is = subst (IsOpenIn a) is_now (open_in is)
  open_of (Some line) is = tt

  pub emptied_of : (conflict : Option LineId) → standing.conflict ≡ conflict → IfSome conflict (λ line. IsEmptiedIn a now line.0)
  emptied_of None is = tt
  emptied_of (Some line) is = let P : Standing → Type 0 = λ s. IsEmptiedIn a s line.0 in subst P is_now (emptied_in line is)

  pub tells_of : (answers : List StateSet) → answers ≡ kept.board.labels → now.conflict ≡ None
      → (labels : List StateSet) × IsLabels a now labels × TellsLabels a.count now labels answers
  tells_of answers is free =
      let P : Standing → Type 0 =
      λ s. (labels : List StateSet) × IsLabels a s labels × TellsLabels a.count s labels kept.board.labels in
      let Q : List StateSet → Type 0 = λ x. (labels : List StateSet) × IsLabels a now labels × TellsLabels a.count now labels x in
      subst Q (sym is) (subst P is_now (tells_in (ap (λ (s : Standing). s.conflict) is_now ∙ free)))
