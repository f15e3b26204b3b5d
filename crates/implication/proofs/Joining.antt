-- What a gate makes of the sets of its pins' lines: they are joined line by line, and inverted where the gate inverts.
use Rattle.std.proofs.Common.{◌≡◌, ℕ, ◌+◌, ◌<◌, ◌≤◌, ◌^◌, Bool, true, false, List, [], ◌∷◌, length, map, take, get_or, sym, ap, ◌∙◌, subst, arith, take_all}
use Rattle.std.proofs.lemmas.List.{length-map, get_or-map, take_more}
use Rattle.pd_base.specs.declared.ids.LineId.{LineId}
use Rattle.netlist.specs.declared.kind.GateKind.{GateKind}
use Rattle.netlist.specs.declared.op.Op.{Op}
use Rattle.netlist.specs.Gates.{op_of, is_inverting}
use Rattle.state_sets.specs.declared.state.State.{State}
use Rattle.state_sets.specs.declared.state.StateSet.{StateSet}
use Rattle.state_sets.specs.States.{Has, no_states}
use Rattle.state_sets.specs.StateSets.{AreJoins, AreInversions}
use Rattle.state_sets.specs.StateAlgebra.{StateAlgebra, HasLaws, joined}
use Rattle.state_sets.specs.Labellings.{label_at}
use Rattle.state_sets.specs.Narrowing.{inverted_if, IsChoice}
use Rattle.state_sets.specs.Narrowing.IsChoice.{none, one}
use Rattle.hulls.specs.Sets.{Means}
use Rattle.hulls.specs.Joins.{Folds}
use Rattle.hulls.proofs.Sets.{only_has, only_this, only_within}
use Rattle.hulls.proofs.Folds.{first_of_choice, folds_none, folds_snoc, joined_within}
use Rattle.implication.specs.Begun.{IsImage}

-- the sets of these lines
abbrev pub sets_of : List StateSet → List LineId → List StateSet
sets_of labels lines = map (λ line. label_at labels line.0) lines

-- the set is what choices out of a first set and the sets of so many lines join to
pub record AreJoined (a : StateAlgebra) (op : Op) (labels : List StateSet) (first : StateSet) (others : List LineId) (count : ℕ)
    (set : StateSet) : Type 0 where
  pub within : set.0 < 2 ^ a.count
  pub folds : Means a.count set (Folds a op (first ∷ take count (sets_of labels others)))

module _ (a : StateAlgebra) (laws : HasLaws a) (op : Op) where
  -- a state alone joins to itself
  alone : (state : State) → state.0 < a.count → joined a op (state ∷ []) ≡ state
  alone state within = laws.commutative op state (a.unit op) within (laws.unit_within op) ∙ laws.unit_first op state within

  last_joins : {rest : List State} (state : State) → state.0 < a.count → IsChoice a.count [] rest → joined a op (state ∷ rest) ≡ state
  last_joins state within none = alone state within

  -- choices out of one set join to its states
  folds_alone : (set : StateSet) → Means a.count set (Folds a op (set ∷ []))
  folds_alone set state = (
    (λ has. record { choice = state ∷ []; each = one has none; joins = alone state has.in_range }),
    λ folds. let first = first_of_choice a.count folds.each in
        subst (Has a.count set)
        (sym (last_joins first.state first.has.in_range first.each) ∙ sym (ap (joined a op) first.is) ∙ folds.joins)
        first.has,
  )

  module _ (labels : List StateSet) where
    -- no lines join to the unit
    pub joined_none : (lines : List LineId) → length lines ≡ 0 → (only : StateSet) → only.0 ≡ 2 ^ (a.unit op).0
        → (only.0 < 2 ^ a.count) × Means a.count only (Folds a op (sets_of labels lines))
    joined_none [] empty only is = (
      only_within a.count only (a.unit op) is (laws.unit_within op),
      folds_none a laws op only
          (λ state. (
            (λ has. only_this a.count only (a.unit op) state is has),
            λ same. subst (Has a.count only) (sym same) (only_has a.count only (a.unit op) is (laws.unit_within op)),
          )),
    )
    joined_none (line ∷ lines) empty only is = absurd (omega (arith, empty))

    -- the sets of the lines are that of the first one and those of the others
    pub joined_split : (lines : List LineId) (first : LineId) (others : List LineId) → lines ≡ first ∷ others → (set : StateSet)
        → Means a.count set (Folds a op (label_at labels first.0 ∷ sets_of labels others))
        → Means a.count set (Folds a op (sets_of labels lines))
    joined_split lines first others is set means =
        subst (λ (sets : List StateSet). Means a.count set (Folds a op sets)) (sym (ap (sets_of labels) is)) means

    module _ (first : StateSet) (others : List LineId) where
      -- the first set alone
      pub joined_first : first.0 < 2 ^ a.count → AreJoined a op labels first others 0 first
      joined_first within = record { within = within; folds = folds_alone first }

      -- one line more
      pub joined_more : (index : ℕ) (nowhere : LineId) → index < length others → (before out : StateSet)
          → AreJoined a op labels first others index before → out.0 < 2 ^ a.count
          → AreJoins a op before (label_at labels (get_or others index nowhere).0) out → AreJoined a op labels first others (index + 1) out
      joined_more index nowhere in_others before out were within joins =
          let sets = sets_of labels others in
          record {
            within = within;
            folds = subst (λ (list : List StateSet). Means a.count out (Folds a op (first ∷ list)))
                (sym (take_more sets index no_states
                (omega (arith, in_others, length-map others (λ (line : LineId). label_at labels line.0)))))
                (folds_snoc a laws op (first ∷ take index sets) (get_or sets index no_states) before out were.folds
                (subst (λ (set : StateSet). AreJoins a op before set out)
                (sym (get_or-map (λ (line : LineId). label_at labels line.0) others index nowhere no_states in_others)) joins));
          }

      -- all lines
      pub joined_all : (index : ℕ) → length others ≤ index → (set : StateSet) → AreJoined a op labels first others index set
          → Means a.count set (Folds a op (first ∷ sets_of labels others))
      joined_all index last set are =
          subst (λ (sets : List StateSet). Means a.count set (Folds a op (first ∷ sets)))
          (take_all index (sets_of labels others) (omega (arith, last, length-map others (λ (line : LineId). label_at labels line.0))))
          are.folds

module _ (a : StateAlgebra) (laws : HasLaws a) (kind : GateKind) (sets : List StateSet) (joins : StateSet)
    (folds : Means a.count joins (Folds a (op_of kind) sets)) where
  -- a gate that does not invert has the joins
  pub image_plain : false ≡ is_inverting kind → IsImage a kind sets joins
  image_plain plain state = (
    (λ has. let fold = (folds state).0 has in record {
      choice = fold.choice;
      each = fold.each;
      makes = subst (λ (b : Bool). inverted_if a b (joined a (op_of kind) fold.choice) ≡ state) plain fold.joins;
    }),
    λ made. (folds state).1 (record {
      choice = made.choice;
      each = made.each;
      joins = subst (λ (b : Bool). inverted_if a b (joined a (op_of kind) made.choice) ≡ state) (sym plain) made.makes;
    }),
  )

  -- one that inverts has their inversions
  pub image_inverted : true ≡ is_inverting kind → (set : StateSet) → AreInversions a joins set → IsImage a kind sets set
  image_inverted inverts set inversions state = (
    (λ has. let both = (inversions state).0 has in let fold = (folds (a.invert state)).0 both.1 in record {
      choice = fold.choice;
      each = fold.each;
      makes = subst (λ (b : Bool). inverted_if a b (joined a (op_of kind) fold.choice) ≡ state) inverts
          (ap a.invert fold.joins ∙ laws.invert_twice state both.0);
    }),
    λ made.
        let join = joined a (op_of kind) made.choice in
        let below = joined_within a laws (op_of kind) made.each in
        let makes : a.invert join ≡ state =
        subst (λ (b : Bool). inverted_if a b join ≡ state) (sym inverts) made.makes in
        (inversions state).1 (
          subst (λ (s : State). s.0 < a.count) makes (laws.invert_within join below),
          (folds (a.invert state)).1 (record {
            choice = made.choice;
            each = made.each;
            joins = sym (laws.invert_twice join below) ∙ ap a.invert makes;
          }),
        ),
  )
