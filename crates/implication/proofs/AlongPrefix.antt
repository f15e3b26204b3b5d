-- The pins of a prefix are entered one after another: the next one is on the line that was reached, and told; it leaves each line some
-- state, or leads to a conflict.
use Rattle.std.proofs.Common.{◌≡◌, ℕ, ◌+◌, ◌<◌, ◌≤◌, List, [], length, take, get_or, Bool, true, false, true≢false, None, Some, Result, Ok, Err}
use Rattle.std.proofs.Common.{OnOk, IfErr, refl, sym, ap, subst, ◌∙◌, arith}
use Rattle.std.specs.Prelude.{is_err, is_some, Option, IfNone, IfSome}
use Rattle.std.proofs.lemmas.Bool.{false≢true}
use Rattle.std.proofs.lemmas.List.{get_or_default}
use Rattle.pd_base.specs.declared.ids.PinRef.{PinRef}
use Rattle.pd_base.specs.declared.ids.LineId.{LineId}
use Rattle.pd_base.specs.Links.{links_of}
use Rattle.pd_base.specs.Route.{Route}
use Rattle.netlist.specs.Circuit.{gate_line}
use Rattle.netlist.specs.Pins.{IsPinOn}
use Rattle.netlist.specs.Paths.{IsPrefix, line_after, end_of}
use Rattle.state_sets.specs.StateAlgebra.{StateAlgebra}
use Rattle.implication.specs.AlongPrefix.{HasEnteredAlong, HasEnteredTo}
use Rattle.implication.specs.Clients.{TellsOfConflict}
use Rattle.implication.specs.Moves.{grown, closed_at, risen, with_entered}
use Rattle.implication.specs.Standing.{Standing, IsTold, IsEmptiedIn, IsOpenIn, end_of_scope, end_from}
use Rattle.implication.proofs.Entered.{pins_of_entered, step_on, entries_more}
use Rattle.implication.proofs.Told.{gate_told}

-- an answer that is told to be no error, and one that is told to be one
pub ok_of : {T E : Type 0} (answer : Result T E) (P : Type 0) (r : Bool) → r ≡ is_err answer → r ≡ false → OnOk answer P → P
ok_of (Ok value) P r is none holds = holds
ok_of (Err error) P r is none holds = absurd (false≢true (sym none ∙ is))

pub err_of : {T E : Type 0} (answer : Result T E) (P : E → Type 0) (r : Bool) → r ≡ is_err answer → r ≡ true → IfErr answer P
    → (error : E) × P error
err_of (Ok value) P r is some holds = absurd (false≢true (sym is ∙ some))
err_of (Err error) P r is some holds = (error, holds)

pub err_both : {T E : Type 0} (answer : Result T E) (P Q : E → Type 0) → IfErr answer P → IfErr answer Q
    → IfErr answer (λ error. P error × Q error)
err_both (Ok value) P Q one two = tt
err_both (Err error) P Q one two = (one, two)

-- where none is, there is none
pub none_if : {X : Type 0} (found : Option X) → is_some found ≡ false → found ≡ None
none_if None none = refl
none_if (Some item) none = absurd (true≢false none)

-- where a conflict stands from the beginning, no pin is entered
pub none_entered : (prefix : Route) (closings : ℕ) (new : Standing) → new.assumptions ≡ [] → is_some new.conflict ≡ true
    → new.closings ≡ closings → HasEnteredAlong prefix closings new
none_entered prefix closings new nothing stands same = record {
  count = 0;
  within = omega arith;
  entered = nothing;
  all = λ free. absurd (true≢false (sym stands ∙ ap is_some free));
  free = λ free. same;
  at_source = λ none. same;
  counted = λ some. absurd (omega (arith, some));
}

-- a pin as it is read is one of the steps
pub read_pin : (items steps : List PinRef) (count : ℕ) (d : PinRef) → items ≡ steps → count < length items
    → get_or items count d ≡ get_or steps count (get_or items count d)
read_pin items steps count d same inside =
    get_or_default items count d (get_or items count d) inside ∙ ap (λ (list : List PinRef). get_or list count (get_or items count d)) same

module _ (a : StateAlgebra) (standing : Standing) where
  -- what a scope tells of its conflict, where none stands and where one does
  pub tells_open : standing.conflict ≡ None → IsOpenIn a standing → TellsOfConflict a standing
  tells_open free left_open = record {
    left_open = let P : Option LineId → Type 0 = λ o. IfNone o (IsOpenIn a standing) in subst P (sym free) left_open;
    emptied = let P : Option LineId → Type 0 = λ o. IfSome o (λ line. IsEmptiedIn a standing line.0) in subst P (sym free) tt;
  }

  pub tells_closed : (line : LineId) → standing.conflict ≡ Some line → IsEmptiedIn a standing line.0 → TellsOfConflict a standing
  tells_closed line stands emptied = record {
    left_open = let P : Option LineId → Type 0 = λ o. IfNone o (IsOpenIn a standing) in subst P (sym stands) tt;
    emptied = let P : Option LineId → Type 0 = λ o. IfSome o (λ l. IsEmptiedIn a standing l.0) in subst P (sym stands) emptied;
  }

module _ (a : StateAlgebra) (prefix : Route) (before : Standing) (count : ℕ) where
  -- where all pins are entered, they are so along the prefix
  pub all_entered : (closings : ℕ) → HasEnteredTo a prefix count before → count ≤ length prefix.steps → length prefix.steps ≤ count
      → before.closings ≡ closings → HasEnteredAlong prefix closings before
  all_entered closings has within past same = record {
    count = count;
    within = within;
    entered = has.entered;
    all = λ free. past;
    free = λ free. same;
    at_source = λ none. same;
    counted = λ some. let P : Option LineId → Type 0 = λ conflict. IfSome conflict (λ line. before.closings ≡ risen closings) in
        subst P (sym has.free) tt;
  }

  module _ (pin : PinRef) (has : HasEnteredTo a prefix count before) (within : count < length prefix.steps)
      (is : pin ≡ get_or prefix.steps count pin) where
    -- the next pin is on the line that was reached, and told
    pub next_on : IsPrefix before.net prefix → IsPinOn before.net pin (end_of_scope before)
    next_on connected =
        let last : end_of_scope before ≡ line_after before.net prefix.source.0 (take count prefix.steps) =
        (λ i. end_from before.net (has.beginning i) (has.entered i))
        ∙ (λ i. line_after before.net (has.source i).0 (pins_of_entered (take count prefix.steps) i)) in
        let Q : ℕ → Type 0 = λ line. IsPinOn before.net (get_or prefix.steps count pin) line in
        let R : PinRef → Type 0 = λ p. IsPinOn before.net p (end_of_scope before) in
        subst R (sym is)
        (subst Q (sym last) (step_on before.net prefix.source.0 prefix.steps count pin connected.connects within))

    pub next_told : IsPrefix before.net prefix → IsTold before (end_of before.net prefix) → IsTold before (gate_line before.net pin.gate.0)
    next_told connected told =
        let P : PinRef → Type 0 = λ p. IsTold before (gate_line before.net p.gate.0) in
        subst P (sym is) (gate_told before.net (links_of before.rules) before.ends prefix.source.0 prefix.steps count pin connected.connects within told)

    -- one more was entered
    pub next_entered : (after : Standing) → after ≡ grown before (with_entered before.assumptions pin) → IsOpenIn a after
        → HasEnteredTo a prefix (count + 1) after
    next_entered after grows left_open = record {
      begun = has.begun;
      beginning = ap (λ (s : Standing). s.beginning) grows ∙ has.beginning;
      source = has.source;
      entered = ap (λ (s : Standing). s.assumptions) grows ∙ entries_more before.assumptions prefix.steps count pin has.entered within is;
      free = ap (λ (s : Standing). s.conflict) grows ∙ has.free;
      left_open = left_open;
    }

    -- or that led to a conflict, which stands and is counted
    pub next_closed : (closings : ℕ) (after : Standing) (line : LineId) → after ≡ closed_at before (with_entered before.assumptions pin) line
        → before.closings ≡ closings → HasEnteredAlong prefix closings after
    next_closed closings after line closes same =
        let stands : after.conflict ≡ Some line = ap (λ (s : Standing). s.conflict) closes in
        record {
          count = count + 1;
          within = omega (arith, within);
          entered = ap (λ (s : Standing). s.assumptions) closes
              ∙ entries_more before.assumptions prefix.steps count pin has.entered within is;
          all = λ free. absurd (true≢false (ap is_some (sym stands ∙ free)));
          free = λ free. absurd (true≢false (ap is_some (sym stands ∙ free)));
          at_source = λ none. absurd (omega (arith, none));
          counted = λ some. let P : Option LineId → Type 0 = λ conflict. IfSome conflict (λ l. after.closings ≡ risen closings) in
              subst P (sym stands) (ap (λ (s : Standing). s.closings) closes ∙ ap risen same);
        }
