-- Choices of one state out of each set of a list, place by place, and where sets are larger.
use Rattle.std.proofs.Common.{◌≡◌, ℕ, zero, suc, List, [], ◌∷◌, map, length, slice_get, Some, refl, sym, ap, ap₂, subst}
use Rattle.std.specs.List.{All}
use Rattle.std.proofs.lemmas.List.Elements.{All-head, All-tail}
use Rattle.std.proofs.lemmas.Option.{same_Some}
use Rattle.pd_base.specs.declared.ids.LineId.{LineId}
use Rattle.state_sets.specs.declared.state.State.{State}
use Rattle.state_sets.specs.declared.state.StateSet.{StateSet}
use Rattle.state_sets.specs.States.{Has}
use Rattle.state_sets.specs.Narrowing.{IsChoice}
use Rattle.state_sets.specs.Narrowing.IsChoice.{none, one}

module _ (count : ℕ) where
  -- a choice has one state for each set
  pub choice_length : {sets : List StateSet} {choice : List State} → IsChoice count sets choice → length choice ≡ length sets
  choice_length none = refl
  choice_length (one has rest) = ap suc (choice_length rest)

  -- the states of the lines, each in its line's set, are a choice
  pub choice_of_states : (sets : ℕ → StateSet) (states : ℕ → State) (lines : List LineId)
      → All (λ line. Has count (sets line.0) (states line.0)) lines
      → IsChoice count (map (λ line. sets line.0) lines) (map (λ line. states line.0) lines)
  choice_of_states sets states [] all = none
  choice_of_states sets states (line ∷ lines) all =
      one (All-head (λ (l : LineId). Has count (sets l.0) (states l.0)) line lines all)
      (choice_of_states sets states lines (All-tail (λ (l : LineId). Has count (sets l.0) (states l.0)) line lines all))

  -- a choice out of the sets of lines is one out of larger sets
  pub choice_larger : (sets larger : ℕ → StateSet) → ((line : ℕ) (state : State) → Has count (sets line) state → Has count (larger line) state)
      → (lines : List LineId) {choice : List State} → IsChoice count (map (λ line. sets line.0) lines) choice
      → IsChoice count (map (λ line. larger line.0) lines) choice
  choice_larger sets larger inside [] none = none
  choice_larger sets larger inside (line ∷ lines) (one has rest) =
      one (inside line.0 _ has) (choice_larger sets larger inside lines rest)

  -- where each set has one state at most, the states are the only choice
  pub only_choice : (sets : ℕ → StateSet) (states : ℕ → State) (lines : List LineId)
      → All (λ line. (state : State) → Has count (sets line.0) state → state ≡ states line.0) lines
      → {choice : List State} → IsChoice count (map (λ line. sets line.0) lines) choice → choice ≡ map (λ line. states line.0) lines
  only_choice sets states [] single none = refl
  only_choice sets states (line ∷ lines) single (one {state = state} has rest) =
      ap₂ (λ (s : State) (ss : List State). s ∷ ss)
      (All-head (λ (l : LineId). (s : State) → Has count (sets l.0) s → s ≡ states l.0) line lines single state has)
      (only_choice sets states lines (All-tail (λ (l : LineId). (s : State) → Has count (sets l.0) s → s ≡ states l.0) line lines single) rest)

module _ (count : ℕ) (sets : ℕ → StateSet) where
  -- the line has some state
  abbrev HasSome : LineId → Type 0
  HasSome line = (state : State) × Has count (sets line.0) state

  -- of lines each of which has some state there is a choice
  pub some_choice : (lines : List LineId) → All HasSome lines
      → (choice : List State) × IsChoice count (map (λ line. sets line.0) lines) choice
  some_choice [] some = ([], none)
  some_choice (line ∷ lines) some =
      let first = All-head HasSome line lines some in
      let rest = some_choice lines (All-tail HasSome line lines some) in
      (first.0 ∷ rest.0, one first.1 rest.1)

  -- and one with a given state at a pin
  pub choice_with : (lines : List LineId) → All HasSome lines → (pin : ℕ) (line : LineId) → slice_get lines pin ≡ Some line
      → (state : State) → Has count (sets line.0) state
      → (choice : List State) × IsChoice count (map (λ line. sets line.0) lines) choice × (slice_get choice pin ≡ Some state)
  choice_with [] some pin line reads state has = absurd cc
  choice_with (first ∷ lines) some zero line reads state has =
      let rest = some_choice lines (All-tail HasSome first lines some) in
      let same : first ≡ line = same_Some first line reads in
      (state ∷ rest.0, one (subst (λ (l : LineId). Has count (sets l.0) state) (sym same) has) rest.1, refl)
  choice_with (first ∷ lines) some (suc pin) line reads state has =
      let head = All-head HasSome first lines some in
      let rest = choice_with lines (All-tail HasSome first lines some) pin line reads state has in
      (head.0 ∷ rest.0, one head.1 rest.1, rest.2)

  -- a choice out of the sets of lines is one out of sets that are larger at these lines
  pub choice_into : (larger : ℕ → StateSet) (lines : List LineId)
      → All (λ line. (state : State) → Has count (sets line.0) state → Has count (larger line.0) state) lines
      → {choice : List State} → IsChoice count (map (λ line. sets line.0) lines) choice
      → IsChoice count (map (λ line. larger line.0) lines) choice
  choice_into larger [] inside none = none
  choice_into larger (line ∷ lines) inside (one {state = state} has rest) =
      let P : LineId → Type 0 = λ l. (s : State) → Has count (sets l.0) s → Has count (larger l.0) s in
      one (All-head P line lines inside state has) (choice_into larger lines (All-tail P line lines inside) rest)
