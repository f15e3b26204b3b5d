-- The lines of the pins of a gate are cut, one pin after another, as the code has the pins.
use Rattle.std.proofs.Common.{◌≡◌, ℕ, zero, suc, ◌+◌, ◌<◌, ◌≤◌, inl, Bool, true, false, List, length, get_or, slice_get, Option, Some, refl, sym, ap, ◌∙◌, subst, arith}
use Rattle.std.proofs.Math.ListN.{set}
use Rattle.std.proofs.Math.Dec.{eqb}
use Rattle.std.proofs.lemmas.List.{set-get_or}
use Rattle.std.proofs.lemmas.Option.{slice_get-get_or}
use Rattle.pd_base.specs.Links.{LinkList}
use Rattle.pd_base.specs.declared.ids.GateId.{GateId}
use Rattle.pd_base.specs.declared.ids.LineId.{LineId}
use Rattle.netlist.specs.Circuit.{Circuit, HasLines, gate_line, line_count, pins_at}
use Rattle.netlist.specs.LinkedPairs.{AreLinksOf}
use Rattle.state_sets.specs.declared.state.StateSet.{StateSet}
use Rattle.state_sets.specs.States.{AreWithin, both_sets, no_states}
use Rattle.state_sets.specs.Labellings.{label_at}
use Rattle.state_sets.specs.Hulls.{HasNoEmptySet}
use Rattle.hulls.specs.Sets.{set_at}
use Rattle.hulls.specs.Awaiting.{is_inside}
use Rattle.hulls.specs.Boards.{OnBoard, IsBoardOf, link_turn}
use Rattle.hulls.specs.Settling.{ArePinsCut, IsCutTo, IsPinEmptied, IsShrunk, HasCutsWithStates, KeepsAll}
use Rattle.hulls.proofs.Changing.{cut_none, cut_more, follows_none, some_left}
use Rattle.hulls.proofs.Narrowed.{is_none, is_some}

-- after cuts the board is still one of its circuit
pub still_board : (c : Circuit) (passed : Option GateId) (count : ℕ) (old new : OnBoard) → IsBoardOf c old → IsShrunk count c passed old new
    → IsBoardOf c new
still_board c passed count old new of shrunk = record {
  lines = shrunk.lines ∙ of.lines;
  gates = omega (arith, of.gates, ap (length {A = Bool}) shrunk.inside, ap length shrunk.links);
  few = omega (arith, of.few, ap (length {A = Bool}) shrunk.inside);
  links = subst (AreLinksOf c) (sym shrunk.links) of.links;
  links_inside = λ link within. subst (λ (flags : List Bool). is_inside flags (link_turn c link).0 ≡ true) (sym shrunk.inside)
      (of.links_inside link (subst (λ (ls : LinkList). link < length ls) shrunk.links within));
}

-- before the first cut
pub none_cut : (c : Circuit) (passed : Option GateId) (count gate : ℕ) (kept : List StateSet) (board : OnBoard)
    → AreWithin count board.labels → HasNoEmptySet c board.labels → HasCutsWithStates count c passed gate kept 0 board board
none_cut c passed count gate kept board within some = record { cut = cut_none c passed count gate kept board within; some = some }

module _ (c : Circuit) (passed : Option GateId) (count gate : ℕ) (kept : List StateSet) (pins : List LineId) (are : pins ≡ pins_at c gate)
    (in_circuit : HasLines c pins) (pin : ℕ) (inside : pin < length pins) (old mid new : OnBoard) (lines : length old.labels ≡ line_count c)
    (before : HasCutsWithStates count c passed gate kept pin old mid) where
  abbrev line : LineId
  line = get_or pins pin (record { 0 = 0 })

  within : line.0 < line_count c
  within = in_circuit pin (record { 0 = 0 }) inside

  module _ (cut : IsCutTo count c passed line.0 (set_at kept pin) mid new) where
    one_more : ArePinsCut count c passed gate kept (pin + 1) old new
    one_more = cut_more c passed count gate kept pin line old mid new (omega (arith, inside, ap length are))
        (subst (λ (ps : List LineId). slice_get ps pin ≡ Some line) are (slice_get-get_or pins pin (record { 0 = 0 }) inside))
        (omega (arith, within, before.cut.shrunk.lines, lines)) before.cut cut

    -- what the comparison with the empty set tells: the line of the pin has some state left, or none
    module _ (left : StateSet) (is_left : left ≡ label_at new.labels line.0) (is_empty : Bool) (tells : is_empty ≡ eqb left.0 0) where
      pub pin_left : is_empty ≡ false → HasCutsWithStates count c passed gate kept (pin + 1) old new
      pin_left is = record {
        cut = one_more;
        some = some_left c passed count line.0 (set_at kept pin) mid new cut before.some
            (is_some is_empty left (label_at new.labels line.0) tells is is_left);
      }

      pub pin_emptied : is_empty ≡ true → IsPinEmptied count c passed gate kept old new line.0
      pin_emptied is = record {
        pins = pin + 1;
        few = omega (arith, inside, ap length are);
        cut = one_more;
        in_circuit = within;
        none = is_none is_empty left (label_at new.labels line.0) tells is is_left;
      }

-- the line of the first pin is cut
module _ (c : Circuit) (passed : Option GateId) (count gate : ℕ) (kept : List StateSet) (pins : List LineId) (are : pins ≡ pins_at c gate)
    (in_circuit : HasLines c pins) (inside : 0 < length pins) (old new : OnBoard) (lines : length old.labels ≡ line_count c)
    (within : AreWithin count old.labels) (some : HasNoEmptySet c old.labels)
    (cut : IsCutTo count c passed (get_or pins 0 (record { 0 = 0 })).0 (set_at kept 0) old new)
    (left : StateSet) (is_left : left ≡ label_at new.labels (get_or pins 0 (record { 0 = 0 })).0)
    (is_empty : Bool) (tells : is_empty ≡ eqb left.0 0) where
  pub first_left : is_empty ≡ false → HasCutsWithStates count c passed gate kept 1 old new
  first_left = pin_left c passed count gate kept pins are in_circuit 0 inside old old new lines
      (none_cut c passed count gate kept old within some) cut left is_left is_empty tells

  pub first_emptied : is_empty ≡ true → IsPinEmptied count c passed gate kept old new (get_or pins 0 (record { 0 = 0 })).0
  first_emptied = pin_emptied c passed count gate kept pins are in_circuit 0 inside old old new lines
      (none_cut c passed count gate kept old within some) cut left is_left is_empty tells

-- as many pins as the gate has are all of them
pub left_at_all_pins : (c : Circuit) (passed : Option GateId) (count gate : ℕ) (kept : List StateSet) (pins : ℕ)
    → length (pins_at c gate) ≡ pins → (old new : OnBoard) → HasCutsWithStates count c passed gate kept pins old new
    → HasCutsWithStates count c passed gate kept (length (pins_at c gate)) old new
left_at_all_pins c passed count gate kept pins all old new left =
    subst (λ (n : ℕ). HasCutsWithStates count c passed gate kept n old new) (sym all) left

-- where all lines of a gate keep their states, cuts change nothing
module _ (c : Circuit) (passed : Option GateId) (count gate : ℕ) (kept : List StateSet) (given : StateSet) (board : OnBoard)
    (lines : length board.labels ≡ line_count c) (within : AreWithin count board.labels) (some : HasNoEmptySet c board.labels)
    (in_circuit : HasLines c (pins_at c gate)) (keeps : KeepsAll c gate kept given board.labels) where
  no_cut : (line : ℕ) (to : StateSet) → both_sets (label_at board.labels line) to ≡ label_at board.labels line
      → IsCutTo count c passed line to board board
  no_cut line to same = record {
    labels = sym (ap (λ (s : StateSet). set board.labels line s) same ∙ set-get_or board.labels line no_states);
    within = within;
    inside = refl;
    links = refl;
    follows = follows_none board;
    stays = λ turn waits. waits;
    moves = inl refl;
  }

  pub own_kept : IsCutTo count c passed (gate_line c gate) given board board
  own_kept = no_cut (gate_line c gate) given keeps.own

  pub pins_kept : (pins : ℕ) → pins ≤ length (pins_at c gate) → HasCutsWithStates count c passed gate kept pins board board
  pins_kept zero few = none_cut c passed count gate kept board within some
  pins_kept (suc pins) few =
      let line : LineId = get_or (pins_at c gate) pins (record { 0 = 0 }) in
      let at = slice_get-get_or (pins_at c gate) pins (record { 0 = 0 }) (omega (arith, few)) in
      record {
        cut = subst (λ n. ArePinsCut count c passed gate kept n board board) (omega arith)
            (cut_more c passed count gate kept pins line board board board (omega (arith, few)) at
            (omega (arith, in_circuit pins (record { 0 = 0 }) (omega (arith, few)), lines))
            (pins_kept pins (omega (arith, few))).cut (no_cut line.0 (set_at kept pins) (keeps.pins pins line at)));
        some = some;
      }
