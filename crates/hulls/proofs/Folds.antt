-- What choices out of a list of sets join to: one more set at the front or at the back, and the states at one place of the list.
use Rattle.std.proofs.Common.{◌≡◌, ℕ, zero, suc, ◌+◌, ◌<◌, ◌↔◌, List, [], ◌∷◌, ◌++◌, length, take, drop, slice_get, Some, refl, sym, ap, ◌∙◌, subst, arith}
use Rattle.std.proofs.lemmas.Option.{same_Some}
use Rattle.std.proofs.lemmas.List.{take_more, drop_more, take-append-drop, length-take-le}
use Rattle.netlist.specs.declared.op.Op.{Op}
use Rattle.state_sets.specs.declared.state.State.{State}
use Rattle.state_sets.specs.declared.state.StateSet.{StateSet}
use Rattle.state_sets.specs.States.{Has, no_states}
use Rattle.state_sets.specs.StateSets.{AreJoins, JoinsInto}
use Rattle.state_sets.specs.StateAlgebra.{StateAlgebra, HasLaws, joined}
use Rattle.state_sets.specs.Narrowing.{IsChoice}
use Rattle.state_sets.specs.Narrowing.IsChoice.{none, one}
use Rattle.hulls.specs.Sets.{Means, set_at}
use Rattle.hulls.specs.Joins.{Folds, Supports}

-- a choice out of one set and more is a state of it and a choice out of the rest
pub record FirstOf (count : ℕ) (set : StateSet) (sets : List StateSet) (choice : List State) : Type 0 where
  pub state : State
  pub rest : List State
  pub is : choice ≡ state ∷ rest
  pub has : Has count set state
  pub each : IsChoice count sets rest

pub first_of_choice : (count : ℕ) {set : StateSet} {sets : List StateSet} {choice : List State} → IsChoice count (set ∷ sets) choice
    → FirstOf count set sets choice
first_of_choice count (one has each) = record { state = _; rest = _; is = refl; has = has; each = each }

-- a choice out of two lists of sets is a choice out of each
pub record PartsOf (count : ℕ) (front back : List StateSet) (choice : List State) : Type 0 where
  pub before : List State
  pub after : List State
  pub is : choice ≡ before ++ after
  pub each_before : IsChoice count front before
  pub each_after : IsChoice count back after

pub parts_of_choice : (count : ℕ) (front back : List StateSet) {choice : List State} → IsChoice count (front ++ back) choice
    → PartsOf count front back choice
parts_of_choice count [] back {choice} all =
    record { before = []; after = choice; is = refl; each_before = none; each_after = all }
parts_of_choice count (set ∷ front) back (one {state = state} has each) =
    let parts = parts_of_choice count front back each in
    record {
      before = state ∷ parts.before;
      after = parts.after;
      is = ap (λ states. state ∷ states) parts.is;
      each_before = one has parts.each_before;
      each_after = parts.each_after;
    }

pub choices_append : (count : ℕ) {front back : List StateSet} {before after : List State} → IsChoice count front before
    → IsChoice count back after → IsChoice count (front ++ back) (before ++ after)
choices_append count none after = after
choices_append count (one has each) after = one has (choices_append count each after)

-- the state of a choice behind others
pub get_behind : (before : List State) (state : State) (after : List State) (place : ℕ) → length before ≡ place
    → slice_get (before ++ state ∷ after) place ≡ Some state
get_behind [] state after zero is = refl
get_behind [] state after (suc place) is = absurd (omega arith)
get_behind (first ∷ before) state after zero is = absurd (omega arith)
get_behind (first ∷ before) state after (suc place) is = get_behind before state after place (omega arith)

pub length_of_choice : (count : ℕ) {sets : List StateSet} {choice : List State} → IsChoice count sets choice
    → length choice ≡ length sets
length_of_choice count none = refl
length_of_choice count (one has each) = ap suc (length_of_choice count each)

module _ (a : StateAlgebra) (laws : HasLaws a) (op : Op) where
  -- what a choice joins to is below the count
  pub joined_within : {sets : List StateSet} {choice : List State} → IsChoice a.count sets choice → (joined a op choice).0 < a.count
  joined_within none = laws.unit_within op
  joined_within (one {state = state} {states = states} has each) =
      laws.join_within op state (joined a op states) has.in_range (joined_within each)

  -- two choices one behind the other join to the join of what they join to
  pub joined_append : {front back : List StateSet} {before after : List State} → IsChoice a.count front before
      → IsChoice a.count back after → joined a op (before ++ after) ≡ a.join op (joined a op before) (joined a op after)
  joined_append {after = after} none all = sym (laws.unit_first op (joined a op after) (joined_within all))
  joined_append {after = after} (one {state = state} {states = states} has each) all =
      ap (a.join op state) (joined_append each all)
      ∙ laws.associative op state (joined a op states) (joined a op after) has.in_range (joined_within each) (joined_within all)

  -- a state between two choices joins first
  pub joined_between : {front back : List StateSet} {before after : List State} (state : State) → state.0 < a.count
      → IsChoice a.count front before → IsChoice a.count back after
      → a.join op (joined a op before) (a.join op state (joined a op after))
      ≡ a.join op state (a.join op (joined a op before) (joined a op after))
  joined_between {before = before} {after = after} state within each all =
      let x = joined a op before in let z = joined a op after in
      let in_x = joined_within each in let in_z = joined_within all in
      laws.associative op x state z in_x within in_z
      ∙ ap (λ y. a.join op y z) (laws.commutative op x state in_x within)
      ∙ sym (laws.associative op state x z within in_x in_z)

  -- no set joins to the unit
  pub folds_none : (set : StateSet) → ((state : State) → Has a.count set state ↔ (state ≡ a.unit op))
      → Means a.count set (Folds a op [])
  folds_none set is state = (
    (λ has. record { choice = []; each = none; joins = sym ((is state).0 has) }),
    λ folds. (is state).1 (sym (unit_folds folds.each folds.joins)),
  )
    where
      unit_folds : {choice : List State} → IsChoice a.count [] choice → joined a op choice ≡ state → a.unit op ≡ state
      unit_folds none joins = joins

  -- one more set in front
  pub folds_cons : (set : StateSet) (sets : List StateSet) (rest out : StateSet) → Means a.count rest (Folds a op sets)
      → AreJoins a op set rest out → Means a.count out (Folds a op (set ∷ sets))
  folds_cons set sets rest out means joins state = (
    (λ has. let join = (joins state).0 has in let folds = (means join.right).0 join.in_second in
        record {
          choice = join.left ∷ folds.choice;
          each = one join.in_first folds.each;
          joins = ap (a.join op join.left) folds.joins ∙ join.joins;
        }),
    λ folds. let first = first_of_choice a.count folds.each in
        (joins state).1 (record {
          left = first.state;
          right = joined a op first.rest;
          in_first = first.has;
          in_second = (means (joined a op first.rest)).1 (record { choice = first.rest; each = first.each; joins = refl });
          joins = sym (ap (joined a op) first.is) ∙ folds.joins;
        }),
  )

  -- one more set behind
  pub folds_snoc : (front : List StateSet) (set before out : StateSet) → Means a.count before (Folds a op front)
      → AreJoins a op before set out → Means a.count out (Folds a op (front ++ set ∷ []))
  folds_snoc front set before out means joins state = (
    (λ has. let join = (joins state).0 has in let folds = (means join.left).0 join.in_first in
        let last = one join.in_second none in
        record {
          choice = folds.choice ++ join.right ∷ [];
          each = choices_append a.count folds.each last;
          joins = joined_append folds.each last
              ∙ ap (λ x. a.join op x (a.join op join.right (a.unit op))) folds.joins
              ∙ ap (a.join op join.left) (with_unit join.right join.in_second.in_range)
              ∙ join.joins;
        }),
    λ folds. let parts = parts_of_choice a.count front (set ∷ []) folds.each in
        let first = first_of_choice a.count parts.each_after in
        (joins state).1 (record {
          left = joined a op parts.before;
          right = first.state;
          in_first = (means (joined a op parts.before)).1 (record { choice = parts.before; each = parts.each_before; joins = refl });
          in_second = first.has;
          joins = ap (a.join op (joined a op parts.before)) (sym (last_joins first.is first.each first.has.in_range))
              ∙ sym (joined_append parts.each_before parts.each_after)
              ∙ sym (ap (joined a op) parts.is) ∙ folds.joins;
        }),
  )
    where
      with_unit : (x : State) → x.0 < a.count → a.join op x (a.unit op) ≡ x
      with_unit x within = laws.commutative op x (a.unit op) within (laws.unit_within op) ∙ laws.unit_first op x within

      last_joins : {after rest : List State} {x : State} → after ≡ x ∷ rest → IsChoice a.count [] rest → x.0 < a.count
          → joined a op after ≡ x
      last_joins {x = x} is none within = ap (joined a op) is ∙ with_unit x within

  -- The states that choices have at a place: those of its set that join into the target with what the others join to.
  module _ (front : List StateSet) (set : StateSet) (back : List StateSet) (before after rest target : StateSet)
      (means_before : Means a.count before (Folds a op front)) (means_after : Means a.count after (Folds a op back))
      (joins : AreJoins a op before after rest) where
    supports_then : (place : ℕ) → length front ≡ place → (state : State)
        → Supports a op (front ++ set ∷ back) target place state → Has a.count set state × JoinsInto a op rest target state
    supports_then place is state supports =
        let parts = parts_of_choice a.count front (set ∷ back) supports.each in
        let first = first_of_choice a.count parts.each_after in
        let choice_is : supports.choice ≡ parts.before ++ first.state ∷ first.rest =
        parts.is ∙ ap (λ after. parts.before ++ after) first.is in
        let here : first.state ≡ state = same_Some first.state state
        (sym (get_behind parts.before first.state first.rest place (length_of_choice a.count parts.each_before ∙ is))
        ∙ ap (λ states. slice_get states place) (sym choice_is) ∙ supports.here) in
        let others = a.join op (joined a op parts.before) (joined a op first.rest) in
        let total : joined a op supports.choice ≡ a.join op first.state others =
        ap (joined a op) choice_is
        ∙ joined_append parts.each_before (one first.has first.each)
        ∙ joined_between first.state first.has.in_range parts.each_before first.each in (
          subst (Has a.count set) here first.has,
          record {
            other = others;
            in_rest = (joins others).1 (record {
              left = joined a op parts.before;
              right = joined a op first.rest;
              in_first = (means_before (joined a op parts.before)).1 (record { choice = parts.before; each = parts.each_before; joins = refl });
              in_second = (means_after (joined a op first.rest)).1 (record { choice = first.rest; each = first.each; joins = refl });
              joins = refl;
            });
            hits = subst (λ s. Has a.count target (a.join op s others)) here (subst (Has a.count target) total supports.hits);
          },
        )

    then_supports : (place : ℕ) → length front ≡ place → (state : State) → Has a.count set state → JoinsInto a op rest target state
        → Supports a op (front ++ set ∷ back) target place state
    then_supports place is state has into =
        let join = (joins into.other).0 into.in_rest in
        let left = (means_before join.left).0 join.in_first in
        let right = (means_after join.right).0 join.in_second in
        let total : joined a op (left.choice ++ state ∷ right.choice) ≡ a.join op state into.other =
        joined_append left.each (one has right.each)
        ∙ joined_between state has.in_range left.each right.each
        ∙ ap (a.join op state) (ap (λ x. a.join op x (joined a op right.choice)) left.joins
        ∙ ap (a.join op join.left) right.joins ∙ join.joins) in
        record {
          choice = left.choice ++ state ∷ right.choice;
          each = choices_append a.count left.each (one has right.each);
          hits = subst (Has a.count target) (sym total) into.hits;
          here = get_behind left.choice state right.choice place (length_of_choice a.count left.each ∙ is);
        }

  -- the same by places of one list
  module _ (sets : List StateSet) (place : ℕ) (inside : place < length sets) where
    parts_are : take place sets ++ (set_at sets place ∷ drop (place + 1) sets) ≡ sets
    parts_are = ap (λ rest. take place sets ++ rest) (sym (drop_more sets place no_states inside)) ∙ take-append-drop place sets

    front_length : length (take place sets) ≡ place
    front_length = length-take-le place sets (omega arith)

    -- one more set at the end of the sets before the place
    pub folds_more : (before out : StateSet) → Means a.count before (Folds a op (take place sets))
        → AreJoins a op before (set_at sets place) out → Means a.count out (Folds a op (take (place + 1) sets))
    folds_more before out means joins =
        subst (λ list. Means a.count out (Folds a op list)) (sym (take_more sets place no_states inside))
        (folds_snoc (take place sets) (set_at sets place) before out means joins)

    -- one more set at the front of the sets behind the place
    pub folds_back : (rest out : StateSet) → Means a.count rest (Folds a op (drop (place + 1) sets))
        → AreJoins a op (set_at sets place) rest out → Means a.count out (Folds a op (drop place sets))
    folds_back rest out means joins =
        subst (λ list. Means a.count out (Folds a op list)) (sym (drop_more sets place no_states inside))
        (folds_cons (set_at sets place) (drop (place + 1) sets) rest out means joins)

    module _ (before after rest target : StateSet)
        (means_before : Means a.count before (Folds a op (take place sets)))
        (means_after : Means a.count after (Folds a op (drop (place + 1) sets)))
        (joins : AreJoins a op before after rest) where
      pub supports_at : (found : StateSet)
          → Means a.count found (λ s. (s.0 < a.count) × (Has a.count (set_at sets place) s × JoinsInto a op rest target s))
          → Means a.count found (Supports a op sets target place)
      supports_at found means state = (
        (λ has. let both = (means state).0 has in
            subst (λ list. Supports a op list target place state) parts_are
            (then_supports (take place sets) (set_at sets place) (drop (place + 1) sets) before after rest target
            means_before means_after joins place front_length state both.1.0 both.1.1)),
        λ supports. let both = supports_then (take place sets) (set_at sets place) (drop (place + 1) sets) before after rest
            target means_before means_after joins place front_length state
            (subst (λ list. Supports a op list target place state) (sym parts_are) supports) in
            (means state).1 (both.0.in_range, both),
      )
