-- The pins of a path are entered one by one. Where a conflict comes up at one, the start of the path up to it closes; and where none has
-- come up, the start of no prefix that was entered does.
use Rattle.std.proofs.Common.{◌≡◌, ℕ, zero, suc, ◌+◌, ◌<◌, ◌≤◌, Bool, true, false, if◌then◌else◌, List, [], ◌∷◌, ◌++◌, length, map, take, get_or, Some, None, Option, refl, sym, ap, subst, subst₂, ◌∙◌, arith}
use Rattle.std.specs.Prelude.{nat_lt, IsSome}
use Rattle.std.proofs.lemmas.Bool.{lt-ltb}
use Rattle.std.proofs.lemmas.List.{length_push, map_push, take_more, get_or_default}
use Rattle.std.proofs.Math.Seq.{take-append_seam}
use Rattle.std.proofs.lemmas.List.Elements.{All-map}
use Rattle.pd_base.specs.Links.{links_of}
use Rattle.trees.specs.Algebras.{algebra_of}
use Rattle.pd_base.specs.declared.ids.LineId.{LineId}
use Rattle.pd_base.specs.declared.ids.PinRef.{PinRef}
use Rattle.pd_base.specs.Route.{Route}
use Rattle.pd_base.specs.Target.{Target, target_of}
use Rattle.pd_base.specs.declared.rules.Rules.{Rules}
use Rattle.netlist.specs.Circuit.{Circuit, line_count, gate_line}
use Rattle.netlist.specs.Pins.{IsPinOn}
use Rattle.netlist.specs.Paths.{line_after, prefix_of}
use Rattle.state_sets.specs.declared.state.State.{State}
use Rattle.state_sets.specs.StateAlgebra.{StateAlgebra}
use Rattle.state_sets.specs.Starts.{MayStart}
use Rattle.state_sets.specs.Hulls.{IsNarrowingOf, IsEmptied, Closes}
use Rattle.state_laws.specs.Nodes.{ClosesAtNode, MayBe}
use Rattle.state_laws.proofs.Hulls.{closes_if_wider, emptied_if_wider, prefix_closes, widens_by_states}
use Rattle.implication.specs.declared.assumption.Assumption.{Assumption}
use Rattle.implication.specs.declared.assumption.Assumption.TheVariants.{Entered}
use Rattle.implication.specs.declared.assumption.Beginning.{Beginning}
use Rattle.implication.specs.Assumptions.{ClosesUnder, IsEmptiedUnder, IsLetBy, MayUnder}
use Rattle.implication.specs.Moves.{back_at, closed_at, conflict_at, grown, with_entered}
use Rattle.implication.specs.Standing.{Standing, IsEmptiedFrom, IsEmptiedIn, IsFree, IsOpenFrom, IsOpenIn, IsTold, IsToldBy, end_of_scope, end_from}
use Rattle.good_runs.specs.Shortest.{ClosesAtStart}
use Rattle.prefix_sensitize.specs.AlongPaths.{ClosesFrom, IsAtPin, LeadsAlong}
use Rattle.prefix_sensitize.specs.Entering.{IsSameBeginning}
use Rattle.prefix_sensitize.specs.PathOrder.{ShareSteps}
use Rattle.prefix_sensitize.proofs.RoutePrefixes.{shorter_prefix}
use Rattle.implication.proofs.Entered.{pins_of_entered, step_on}
use Rattle.implication.proofs.Told.{gate_told}

first_entered : (count : ℕ) (steps : List PinRef) → take count (map Entered steps) ≡ map Entered (take count steps)
first_entered zero steps = refl
first_entered (suc count) [] = refl
first_entered (suc count) (step ∷ steps) = ap (λ rest. Entered step ∷ rest) (first_entered count steps)

none_either : (less : Bool) (line : Option LineId) → line ≡ None → (if less then None else line) ≡ None
none_either true line none = refl
none_either false line none = none

module _ (a : StateAlgebra) (c : Circuit) (rules : Rules) (of_rules : a ≡ algebra_of rules) (begun : Beginning) (path : Route) (source : begun.source ≡ path.source) (count : ℕ) where
  -- the entries of the first pins, and the target of the prefix that they make
  abbrev entries : List Assumption
  entries = map Entered (take count path.steps)

  abbrev first : Target
  first = target_of (prefix_of count path) begun.direction begun.kind

  abbrev Under : ℕ → State → Type 0
  Under = MayUnder a c rules begun entries

  abbrev At : ℕ → State → Type 0
  At = MayBe a c rules first []

  -- lines may be in the same states at the start of the prefix and under the entries
  let_under : (line : ℕ) (state : State) → line < line_count c → state.0 < a.count → At line state → Under line state
  let_under line state inside in_range may = record {
    start =
        let P : LineId → Type 0 = λ s. MayStart a c rules s.0 begun.direction line state in
        subst P (sym source) may.start;
    assumed = All-map (IsLetBy a.count line state) Entered (take count path.steps) (λ place d within. tt);
  }

  let_at : (line : ℕ) (state : State) → line < line_count c → state.0 < a.count → Under line state → At line state
  let_at line state inside in_range might = record {
    start =
        let P : LineId → Type 0 = λ s. MayStart a c rules s.0 begun.direction line state in
        subst P source might.start;
    cut = λ place d within. absurd (omega arith);
  }

  -- where the entries empty a line, the start of the prefix closes
  pub closes_at : (line : ℕ) → line < line_count c → IsEmptiedUnder a c rules begun entries line → ClosesAtStart c rules first
  closes_at line inside emptied =
      let Emptied : List PinRef → Type 0 =
      λ steps. IsEmptied a c (IsNarrowingOf c (links_of rules) begun.kind steps) Under line in
      let Narrowings = IsNarrowingOf c (links_of rules) begun.kind (take count path.steps) in
      let P : StateAlgebra → Type 0 = λ b. ClosesAtNode b c rules first [] in
      subst P of_rules (record {
        line = line;
        in_circuit = inside;
        emptied =
            emptied_if_wider a c Narrowings Narrowings At Under (widens_by_states a c Narrowings At Under let_under)
            line (subst Emptied (pins_of_entered (take count path.steps)) emptied);
      })

  -- and the other way round
  closes_under : ClosesAtStart c rules first → ClosesUnder a c rules begun entries
  closes_under closes =
      let P : StateAlgebra → Type 0 = λ b. ClosesAtNode b c rules first [] in
      let Closing : List PinRef → Type 0 = λ steps. Closes a c (IsNarrowingOf c (links_of rules) begun.kind steps) Under in
      let Narrowings = IsNarrowingOf c (links_of rules) begun.kind (take count path.steps) in
      subst Closing (sym (pins_of_entered (take count path.steps)))
      (closes_if_wider a c Narrowings Narrowings Under At (widens_by_states a c Narrowings Under At let_at) (subst P (sym of_rules) closes))

  -- so where the entries leave each line some state, the start of no prefix with as many steps or fewer closes
  open_before : ¬ ClosesUnder a c rules begun entries → (fewer : ℕ) → fewer ≤ count
      → ¬ ClosesAtStart c rules (target_of (prefix_of fewer path) begun.direction begun.kind)
  open_before not fewer less closes =
      not (closes_under
      (prefix_closes (algebra_of rules) c rules (prefix_of fewer path) (prefix_of count path) (shorter_prefix fewer count path less) begun.direction
      begun.kind [] closes))

-- where the first pins of a path empty a line, the start of their prefix closes
closes_from : (a : StateAlgebra) (old new : Standing) (path : Route) (count line : ℕ) → LeadsAlong a old path → IsSameBeginning old new
    → new.assumptions ≡ map Entered (take count path.steps) → IsEmptiedIn a new line → ClosesFrom old (prefix_of count path)
closes_from a old new path count line along same entered emptied =
    let began : new.beginning ≡ Some along.begun = same.beginning ∙ along.began in
    let P : Circuit → Rules → Type 0 = λ c r. IsEmptiedFrom a c r new.beginning new.assumptions line in
    let Q : Option Beginning → Type 0 = λ b. IsEmptiedFrom a old.net old.rules b new.assumptions line in
    let R : List Assumption → Type 0 = λ list. IsEmptiedFrom a old.net old.rules (Some along.begun) list line in
    let here : IsEmptiedFrom a old.net old.rules (Some along.begun) (map Entered (take count path.steps)) line =
    subst R entered (subst Q began (subst₂ P same.net same.rules emptied)) in
    record {
      begun = along.begun;
      began = along.began;
      closes = closes_at a old.net old.rules along.of_rules along.begun path along.source count line here.0 here.1;
    }

-- a scope that stands at a pin of the path has closed at no prefix of it up to there
pub open_at : (a : StateAlgebra) (standing : Standing) (pins : List PinRef) (path : Route) (count fewer : ℕ) (begun : Beginning)
    → standing.beginning ≡ Some begun → begun.source ≡ path.source → a ≡ algebra_of standing.rules → IsAtPin a standing pins path count → fewer ≤ count
    → ¬ ClosesAtStart standing.net standing.rules (target_of (prefix_of fewer path) begun.direction begun.kind)
open_at a s pins path count fewer begun began source of_rules at less =
    let Q : Option Beginning → Type 0 = λ b. IsOpenFrom a s.net s.rules b s.assumptions in
    let R : List Assumption → Type 0 = λ list. IsOpenFrom a s.net s.rules (Some begun) list in
    let entered : s.assumptions ≡ map Entered (take count path.steps) = at.entered ∙ ap (map Entered) at.first in
    open_before a s.net s.rules of_rules begun path source count (subst R entered (subst Q began at.left_open)) fewer less

-- the first pins of a path, one more
pub first_more : (pins steps : List PinRef) (count : ℕ) (pin : PinRef) → pins ≡ take count steps → count < length steps
    → pin ≡ get_or steps count pin → pins ++ pin ∷ [] ≡ take (count + 1) steps
first_more pins steps count pin first within is =
    ap (λ (list : List PinRef). list ++ pin ∷ []) first
    ∙ ap (λ (p : PinRef). take count steps ++ p ∷ []) is
    ∙ sym (take_more steps count pin within)

-- what leaves each line some state does where the circuit, the rules, the beginning and the entries are the same
pub still_open : (a : StateAlgebra) (old new : Standing) → IsSameBeginning old new → new.assumptions ≡ old.assumptions → IsOpenIn a old
    → IsOpenIn a new
still_open a old new same entries left_open =
    let P : Circuit → Rules → Type 0 = λ c r. IsOpenFrom a c r old.beginning old.assumptions in
    let Q : Option Beginning → List Assumption → Type 0 = λ b list. IsOpenFrom a new.net new.rules b list in
    subst₂ Q (sym same.beginning) (sym entries) (subst₂ P (sym same.net) (sym same.rules) left_open)

module _ (a : StateAlgebra) (before : Standing) (pins : List PinRef) (path : Route) (count : ℕ) (pin : PinRef) (along : LeadsAlong a before path)
    (at : IsAtPin a before pins path count) (within : count < length path.steps) (is : pin ≡ get_or path.steps count pin) where
  -- the entries with one pin more
  entries_more : before.assumptions ++ Entered pin ∷ [] ≡ map Entered (take (count + 1) path.steps)
  entries_more =
      ap (λ (list : List Assumption). list ++ Entered pin ∷ []) at.entered
      ∙ sym (map_push Entered pins pin)
      ∙ ap (map Entered) (first_more pins path.steps count pin at.first within is)

  -- the pin is on the line that was reached
  pub pin_on : IsPinOn before.net pin (end_of_scope before)
  pin_on =
      let entered : before.assumptions ≡ map Entered (take count path.steps) = at.entered ∙ ap (map Entered) at.first in
      let last : end_of_scope before ≡ line_after before.net path.source.0 (take count path.steps) =
      (λ i. end_from before.net (along.began i) (entered i))
      ∙ (λ i. line_after before.net (along.source i).0 (pins_of_entered (take count path.steps) i)) in
      let Q : ℕ → Type 0 = λ line. IsPinOn before.net (get_or path.steps count pin) line in
      let R : PinRef → Type 0 = λ p. IsPinOn before.net p (end_of_scope before) in
      subst R (sym is)
      (subst Q (sym last) (step_on before.net path.source.0 path.steps count pin along.is_path.prefix.connects within))

  -- the line of its gate is told
  pub told_on : IsTold before (gate_line before.net pin.gate.0)
  told_on =
      let P : PinRef → Type 0 = λ p. IsToldBy before.net (links_of before.rules) before.ends (gate_line before.net p.gate.0) in
      subst P (sym is)
      (gate_told before.net (links_of before.rules) before.ends path.source.0 path.steps count pin along.is_path.prefix.connects within along.is_told)

  -- one pin more is entered
  pub entered_more : (after : Standing) (more : List PinRef) → after ≡ grown before (with_entered before.assumptions pin)
      → more ≡ pins ++ pin ∷ [] → IsOpenIn a after → IsAtPin a after more path (count + 1)
  entered_more after more grows pushed left_open = record {
    within = omega (arith, within);
    first = pushed ∙ first_more pins path.steps count pin at.first within is;
    entered =
        ap (λ (s : Standing). s.assumptions) grows
        ∙ ap (λ (list : List Assumption). list ++ Entered pin ∷ []) at.entered
        ∙ sym (map_push Entered pins pin)
        ∙ ap (map Entered) (sym pushed);
    free = ap (λ (s : Standing). s.conflict) grows ∙ at.free;
    left_open = left_open;
  }

  module _ (tried : Standing) (line : LineId) (closes : tried ≡ closed_at before (with_entered before.assumptions pin) line) where
    same_tried : IsSameBeginning before tried
    same_tried = record {
      net = ap (λ (s : Standing). s.net) closes;
      rules = ap (λ (s : Standing). s.rules) closes;
      ends = ap (λ (s : Standing). s.ends) closes;
      beginning = ap (λ (s : Standing). s.beginning) closes;
    }

    -- a conflict there closes the start of the path up to it
    pub tried_closes : IsEmptiedIn a tried line.0 → ClosesFrom before (prefix_of (count + 1) path)
    tried_closes emptied =
        closes_from a before tried path (count + 1) line.0 along same_tried (ap (λ (s : Standing). s.assumptions) closes ∙ entries_more)
        emptied

    -- and where it is left again, the scope stands as before
    pub left_again : (after : Standing) (mark : ℕ) → mark ≡ length before.assumptions → after ≡ back_at tried mark
        → IsAtPin a after pins path count
    left_again after mark marked back =
        let grows = ap (λ (s : Standing). s.assumptions) closes in
        let longer : mark < length tried.assumptions =
        let e = ap length grows in let f = length_push before.assumptions (Entered pin) in omega arith in
        let entries : after.assumptions ≡ before.assumptions =
        ap (λ (s : Standing). s.assumptions) back
        ∙ (λ i. take (marked i) (grows i))
        ∙ take-append_seam before.assumptions (Entered pin ∷ []) in
        let none : conflict_at tried mark ≡ None = let e = lt-ltb mark (length tried.assumptions) longer in rw e refl in
        let same : IsSameBeginning before after = record {
          net = ap (λ (s : Standing). s.net) back ∙ same_tried.net;
          rules = ap (λ (s : Standing). s.rules) back ∙ same_tried.rules;
          ends = ap (λ (s : Standing). s.ends) back ∙ same_tried.ends;
          beginning = ap (λ (s : Standing). s.beginning) back ∙ same_tried.beginning;
        } in
        record {
          within = at.within;
          first = at.first;
          entered = entries ∙ at.entered;
          free = ap (λ (s : Standing). s.conflict) back ∙ none;
          left_open = still_open a before after same entries at.left_open;
        }

-- where no conflict stood none stands after going back
pub free_back : (old back : Standing) (mark : ℕ) → old.conflict ≡ None → back ≡ back_at old mark → back.conflict ≡ None
free_back old back mark free goes = ap (λ (s : Standing). s.conflict) goes ∙ none_either (nat_lt mark (length old.assumptions)) old.conflict free

-- going back to what pins share with a path leads to a pin of the path
pub at_shared : (a : StateAlgebra) (old back : Standing) (pins left : List PinRef) (path : Route) (shared : ℕ) → ShareSteps pins path.steps shared
    → old.assumptions ≡ map Entered pins → old.conflict ≡ None → left ≡ take shared pins → back ≡ back_at old shared
    → IsOpenIn a back → IsAtPin a back left path shared
at_shared a old back pins left path shared shares entered free stays goes left_open = record {
  within = shares.in_second;
  first = stays ∙ shares.same;
  entered =
      ap (λ (s : Standing). s.assumptions) goes
      ∙ ap (take shared) entered
      ∙ first_entered shared pins
      ∙ ap (map Entered) (sym stays);
  free = free_back old back shared free goes;
  left_open = left_open;
}

-- a pin that is read from a copy of the steps
pub pin_read : (items steps : List PinRef) (place : ℕ) (d : PinRef) → items ≡ steps → place < length steps
    → get_or items place d ≡ get_or steps place (get_or items place d)
pin_read items steps place d same within =
    ap (λ (list : List PinRef). get_or list place d) same ∙ get_or_default steps place d (get_or items place d) within

-- where no conflict stands on a scope along a path, pins may be entered
pub free_along : (a : StateAlgebra) (standing : Standing) (path : Route) → LeadsAlong a standing path → standing.conflict ≡ None → IsFree standing
free_along a standing path along free =
    let P : Option Beginning → Type 0 = λ b. IsSome b in
    record { begun = subst P (sym along.began) refl; free = free }
