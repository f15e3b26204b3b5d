-- Sets of states cut to the first values of other sets, and choices that begin alike: a gate's state begins as the first values of its
-- pins' states alone say. The six states are of this kind.
use Rattle.std.proofs.Common.{◌≡◌, ℕ, zero, suc, ◌<◌, ◌^◌, ◌==◌, ◌&&◌, Bool, true, false, not, List, [], ◌∷◌, map, slice_get, Some, refl, sym, ap, ap₂, ◌∙◌, subst}
use Rattle.std.specs.Bool.{Decides}
use Rattle.std.specs.List.{All}
use Rattle.std.specs.Int.{bit_at}
use Rattle.std.proofs.lemmas.Bool.Decides.{Decides-and, Decides-eqb}
use Rattle.std.proofs.lemmas.List.Elements.{All-head, All-tail}
use Rattle.std.proofs.lemmas.Option.{same_Some}
use Rattle.pd_base.specs.declared.ids.LineId.{LineId}
use Rattle.netlist.specs.declared.kind.GateKind.{GateKind}
use Rattle.netlist.specs.declared.op.Op.{Op}
use Rattle.netlist.specs.Gates.{op_of, is_inverting}
use Rattle.state_sets.specs.declared.state.State.{State}
use Rattle.state_sets.specs.declared.state.StateSet.{StateSet}
use Rattle.state_sets.specs.States.{Has}
use Rattle.state_sets.specs.StateAlgebra.{StateAlgebra, HasLaws, joined, joined_bit, same_bit}
use Rattle.state_sets.specs.ComputedLaws.{same_bit_tells}
use Rattle.state_sets.specs.Narrowing.{IsChoice, inverted_if, gate_state}
use Rattle.state_sets.specs.Narrowing.IsChoice.{none, one}
use Rattle.state_laws.specs.FirstValues.{FirstLaws}
use Rattle.state_laws.proofs.Images.{state_of, any_below, any_decides, gathered, gathers, gathered_within, joined_below}

-- a bit is the same as itself
pub same_as_itself : (bit : Bool) → same_bit bit bit ≡ true
same_as_itself true = refl
same_as_itself false = refl

-- whether two bits are one is decided
same_is : (a b : Bool) → Decides (same_bit a b) (a ≡ b)
same_is a b = (same_bit_tells a b, λ e. subst (λ (x : Bool). same_bit a x ≡ true) e (same_as_itself a))

module _ (a : StateAlgebra) (first : State → Bool) where
  -- some state of the set has this first value
  pub record Begins (set : StateSet) (bit : Bool) : Type 0 where
    pub state : State
    pub has : Has a.count set state
    pub begins : first state ≡ bit

  -- for each state of the set the other one has a state with the same first value
  abbrev pub BeginsAll : StateSet → StateSet → Type 0
  BeginsAll set other = (state : State) → Has a.count set state → Begins other (first state)

  -- each set has so for its own states
  pub begins_own : (set : StateSet) → BeginsAll set set
  begins_own set state has = record { state = state; has = has; begins = refl }

  abbrev HasFirst : StateSet → Bool → ℕ → Type 0
  HasFirst set bit k = (bit_at set.0 k ≡ 1) × (first (state_of k) ≡ bit)

  abbrev may_begin : StateSet → Bool → Bool
  may_begin set bit = any_below a.count (λ k. (bit_at set.0 k == 1) && same_bit (first (state_of k)) bit)

  begins_is : (set : StateSet) (bit : Bool) → Decides (may_begin set bit) ((k : ℕ) × (k < a.count) × HasFirst set bit k)
  begins_is set bit =
      any_decides (HasFirst set bit) (λ k. (bit_at set.0 k == 1) && same_bit (first (state_of k)) bit)
      (λ k. Decides-and (bit_at set.0 k == 1) (same_bit (first (state_of k)) bit) (Decides-eqb (bit_at set.0 k) 1)
      (same_is (first (state_of k)) bit)) a.count

  abbrev may_stay : StateSet → StateSet → ℕ → Bool
  may_stay set begun n = (bit_at set.0 n == 1) && may_begin begun (first (state_of n))

  stays_is : (set begun : StateSet) (n : ℕ) → Decides (may_stay set begun n)
      ((bit_at set.0 n ≡ 1) × ((k : ℕ) × (k < a.count) × HasFirst begun (first (state_of n)) k))
  stays_is set begun n =
      Decides-and (bit_at set.0 n == 1) (may_begin begun (first (state_of n))) (Decides-eqb (bit_at set.0 n) 1)
      (begins_is begun (first (state_of n)))

  -- the states of a set that begin as some state of another set does
  abbrev pub cut_set : StateSet → StateSet → StateSet
  cut_set set begun = record { 0 = gathered a.count (may_stay set begun) }

  pub cut_has : (set begun : StateSet) (state : State) → Has a.count (cut_set set begun) state
      → Has a.count set state × Begins begun (first state)
  cut_has set begun state has =
      let found = (stays_is set begun state.0).0 ((gathers (may_stay set begun) a.count state.0).0 has.bit).1 in (
        record { in_range = has.in_range; bit = found.0 },
        record {
          state = state_of found.1.0;
          has = record { in_range = found.1.1; bit = found.1.2.0 };
          begins = found.1.2.1;
        },
      )

  pub has_cut : (set begun : StateSet) (state : State) → Has a.count set state → Begins begun (first state)
      → Has a.count (cut_set set begun) state
  has_cut set begun state has begins = record {
    in_range = has.in_range;
    bit = (gathers (may_stay set begun) a.count state.0).1 (
      has.in_range,
      (stays_is set begun state.0).1 (has.bit, (begins.state.0, begins.has.in_range, (begins.has.bit, begins.begins))),
    );
  }

  pub cut_within : (set begun : StateSet) → (cut_set set begun).0 < 2 ^ a.count
  cut_within set begun = gathered_within (may_stay set begun) a.count

module _ (a : StateAlgebra) (laws : HasLaws a) (first : State → Bool) (tells : FirstLaws a first) where
  -- a choice out of the sets, what it joins to begins as this state does
  record JoinsAlike (op : Op) (sets : List StateSet) (state : State) : Type 0 where
    pub choice : List State
    pub each : IsChoice a.count sets choice
    pub alike : first (joined a op choice) ≡ first state

  -- a choice out of the sets, of which a gate has a state that begins as this one does
  pub record MakesAlike (kind : GateKind) (sets : List StateSet) (state : State) : Type 0 where
    pub choice : List State
    pub each : IsChoice a.count sets choice
    pub alike : first (gate_state a kind choice) ≡ first state

  join_alike : (op : Op) (x y z w : State) → x.0 < a.count → y.0 < a.count → z.0 < a.count → w.0 < a.count → first x ≡ first z
      → first y ≡ first w → first (a.join op x y) ≡ first (a.join op z w)
  join_alike op x y z w in_x in_y in_z in_w left right =
      tells.joins op x y in_x in_y ∙ ap₂ (joined_bit op) left right ∙ sym (tells.joins op z w in_z in_w)

  invert_alike : (inverts : Bool) (x y : State) → x.0 < a.count → y.0 < a.count → first x ≡ first y
      → first (inverted_if a inverts x) ≡ first (inverted_if a inverts y)
  invert_alike true x y in_x in_y same = tells.inverts x in_x ∙ ap not same ∙ sym (tells.inverts y in_y)
  invert_alike false x y in_x in_y same = same

  module _ (sets others : ℕ → StateSet) where
    abbrev Follows : LineId → Type 0
    Follows line = BeginsAll a first (sets line.0) (others line.0)

    join_choices : (op : Op) (lines : List LineId) → All Follows lines → {choice : List State}
        → IsChoice a.count (map (λ line. sets line.0) lines) choice
        → JoinsAlike op (map (λ line. others line.0) lines) (joined a op choice)
    join_choices op [] follows none = record { choice = []; each = none; alike = refl }
    join_choices op (line ∷ lines) follows (one {state = state} {states = states} has rest) =
        let begun = All-head Follows line lines follows state has in
        let more = join_choices op lines (All-tail Follows line lines follows) rest in
        record {
          choice = begun.state ∷ more.choice;
          each = one begun.has more.each;
          alike = join_alike op begun.state (joined a op more.choice) state (joined a op states) begun.has.in_range
              (joined_below a laws op more.each) has.in_range (joined_below a laws op rest) begun.begins more.alike;
        }

    abbrev JoinsWith : Op → List LineId → List State → ℕ → State → Type 0
    JoinsWith op lines choice pin state =
        (found : JoinsAlike op (map (λ line. others line.0) lines) (joined a op choice)) × (slice_get found.choice pin ≡ Some state)

    join_with : (op : Op) (lines : List LineId) → All Follows lines → (pin : ℕ) (line : LineId) → slice_get lines pin ≡ Some line
        → (state was : State) → Has a.count (others line.0) state → first state ≡ first was
        → {choice : List State} → IsChoice a.count (map (λ line. sets line.0) lines) choice → slice_get choice pin ≡ Some was
        → JoinsWith op lines choice pin state
    join_with op [] follows pin line reads state was has same each holds = absurd cc
    join_with op (top ∷ lines) follows zero line reads state was has same (one {state = old} {states = states} had rest) holds =
        let more = join_choices op lines (All-tail Follows top lines follows) rest in
        let here : old ≡ was = same_Some old was holds in (
          record {
            choice = state ∷ more.choice;
            each = one (subst (λ (l : LineId). Has a.count (others l.0) state) (sym (same_Some top line reads)) has) more.each;
            alike = join_alike op state (joined a op more.choice) old (joined a op states) has.in_range
                (joined_below a laws op more.each) had.in_range (joined_below a laws op rest) (same ∙ ap first (sym here)) more.alike;
          },
          refl,
        )
    join_with op (top ∷ lines) follows (suc pin) line reads state was has same (one {state = old} {states = states} had rest) holds =
        let begun = All-head Follows top lines follows old had in
        let more = join_with op lines (All-tail Follows top lines follows) pin line reads state was has same rest holds in (
          record {
            choice = begun.state ∷ more.0.choice;
            each = one begun.has more.0.each;
            alike = join_alike op begun.state (joined a op more.0.choice) old (joined a op states) begun.has.in_range
                (joined_below a laws op more.0.each) had.in_range (joined_below a laws op rest) begun.begins more.0.alike;
          },
          more.1,
        )

    -- where the others' sets have states that begin as those of the sets do, a gate has of them a state that begins as that of a choice does
    pub make_alike : (kind : GateKind) (lines : List LineId) → All Follows lines → {choice : List State}
        → IsChoice a.count (map (λ line. sets line.0) lines) choice
        → MakesAlike kind (map (λ line. others line.0) lines) (gate_state a kind choice)
    make_alike kind lines follows {choice} each =
        let found = join_choices (op_of kind) lines follows each in
        record {
          choice = found.choice;
          each = found.each;
          alike = invert_alike (is_inverting kind) (joined a (op_of kind) found.choice) (joined a (op_of kind) choice)
              (joined_below a laws (op_of kind) found.each) (joined_below a laws (op_of kind) each) found.alike;
        }

    -- and so with a given state at a pin, that begins as the choice's there
    pub make_with : (kind : GateKind) (lines : List LineId) → All Follows lines → (pin : ℕ) (line : LineId)
        → slice_get lines pin ≡ Some line → (state was : State) → Has a.count (others line.0) state → first state ≡ first was
        → {choice : List State} → IsChoice a.count (map (λ line. sets line.0) lines) choice → slice_get choice pin ≡ Some was
        → (found : MakesAlike kind (map (λ line. others line.0) lines) (gate_state a kind choice)) × (slice_get found.choice pin ≡ Some state)
    make_with kind lines follows pin line reads state was has same {choice} each holds =
        let found = join_with (op_of kind) lines follows pin line reads state was has same each holds in (
          record {
            choice = found.0.choice;
            each = found.0.each;
            alike = invert_alike (is_inverting kind) (joined a (op_of kind) found.0.choice) (joined a (op_of kind) choice)
                (joined_below a laws (op_of kind) found.0.each) (joined_below a laws (op_of kind) each) found.0.alike;
          },
          found.1,
        )

  -- a source may be linked from one state to another one where its last value is the other's first
  pub linked_if : (x y : State) → x.0 < a.count → y.0 < a.count → a.last x ≡ first y → a.link x y ≡ true
  linked_if x y in_x in_y same =
      tells.links x y in_x in_y ∙ ap (λ (bit : Bool). same_bit bit (first y)) same ∙ same_as_itself (first y)

  -- it may be linked to states that begin alike, or to none of them
  pub linked_alike : (x y z : State) → x.0 < a.count → y.0 < a.count → z.0 < a.count → first z ≡ first y → a.link x y ≡ true
      → a.link x z ≡ true
  linked_alike x y z in_x in_y in_z same link =
      tells.links x z in_x in_z ∙ ap (same_bit (a.last x)) same ∙ sym (tells.links x y in_x in_y) ∙ link
