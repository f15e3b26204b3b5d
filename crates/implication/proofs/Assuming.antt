-- That what is assumed or entered makes a list as scopes make it.
use Rattle.std.proofs.Common.{◌≡◌, ◌≢◌, ℕ, ◌<◌, ◌≤◌, ◌==◌, nat_eq, true, false, List, length, get_or, [], ◌∷◌, ◌++◌, bit_and, Option, Some, None, Result, Ok, Err, OnOk, IfErr, if◌then◌else◌, refl, sym, ap, ◌∙◌, subst, arith}
use Rattle.std.proofs.lemmas.Bool.{eqb-false, eqb-true, eq-eqb, ne_eqb}
use Rattle.std.proofs.lemmas.List.{get_or_default}
use Rattle.pd_base.specs.Links.{links_of}
use Rattle.pd_base.specs.declared.ids.LineId.{LineId}
use Rattle.pd_base.specs.declared.ids.PinRef.{PinRef}
use Rattle.pd_base.specs.declared.rules.Rules.{Rules}
use Rattle.netlist.specs.Circuit.{Circuit, line_count, gate_line}
use Rattle.netlist.specs.Pins.{IsPinOn}
use Rattle.state_sets.specs.declared.state.StateSet.{StateSet}
use Rattle.state_sets.specs.States.{both_sets, no_states}
use Rattle.state_sets.specs.StateAlgebra.{StateAlgebra}
use Rattle.state_sets.specs.Labellings.{label_at}
use Rattle.implication.specs.declared.assumption.Beginning.{Beginning}
use Rattle.implication.specs.declared.assumption.Assumption.{Assumption}
use Rattle.implication.specs.declared.assumption.Assumption.TheVariants.{Entered, Assumed}
use Rattle.implication.specs.declared.assumption.Conflict.{Conflict}
use Rattle.implication.specs.Assumptions.{left_of}
use Rattle.implication.specs.Standing.{Standing, ToldEnds, IsTold, IsToldBy, end_from, end_of_scope}
use Rattle.implication.specs.Moves.{with_assumed, grown, closed_at}
use Rattle.implication.specs.Clients.{ExtendsStanding}
use Rattle.implication.specs.Kept.{Kept, IsListFrom, StandsFrom, KeepsStanding}
use Rattle.implication.proofs.Lists.{list_with_pin, list_with_set, told_with}
use Rattle.implication.proofs.Restoring.{extends_by_one}

-- what stood is extended, whether an entry more is answered by Ok or by a conflict
pub extends_added : {T : Type 0} (answer : Result T Conflict) (old new : Standing) (entry : Assumption) → old.conflict ≡ None
    → OnOk answer (new ≡ grown old (old.assumptions ++ entry ∷ []))
    → IfErr answer (λ conflict. new ≡ closed_at old (old.assumptions ++ entry ∷ []) conflict.0)
    → old.closings ≤ new.closings → ExtendsStanding old new
extends_added (Ok value) old new entry free ok err later =
    extends_by_one old new entry free (ap (λ (s : Standing). s.net) ok) (ap (λ (s : Standing). s.rules) ok)
    (ap (λ (s : Standing). s.ends) ok) (ap (λ (s : Standing). s.beginning) ok) (ap (λ (s : Standing). s.assumptions) ok) later
extends_added (Err conflict) old new entry free ok err later =
    extends_by_one old new entry free (ap (λ (s : Standing). s.net) err) (ap (λ (s : Standing). s.rules) err)
    (ap (λ (s : Standing). s.ends) err) (ap (λ (s : Standing). s.beginning) err) (ap (λ (s : Standing). s.assumptions) err) later

abbrev set_of : ℕ → StateSet
set_of n = record { 0 = n }

-- a set that takes some state away is added
pub assumed_more : (count : ℕ) (list : List Assumption) (line : LineId) (to left cut : StateSet)
    → left ≡ left_of count line list → cut.0 ≡ bit_and left.0 to.0 → false ≡ nat_eq cut.0 left.0
    → with_assumed count list line to ≡ list ++ Assumed line cut ∷ []
assumed_more count list line to left cut from cuts other =
    let differs : left.0 ≢ cut.0 = λ e. eqb-false cut.0 left.0 (sym other) (sym e) in
    let f : (left.0 == cut.0) ≡ false = ne_eqb left.0 cut.0 differs in
    let P : StateSet → Type 0 = λ l. (if l.0 == (both_sets l to).0 then list else list ++ Assumed line (both_sets l to) ∷ [])
    ≡ list ++ Assumed line cut ∷ [] in
    let e : cut ≡ both_sets left to = ap set_of cuts in
    let Q : StateSet → Type 0 = λ x. (if left.0 == x.0 then list else list ++ Assumed line x ∷ []) ≡ list ++ Assumed line cut ∷ [] in
    subst P from (subst Q e (rw f refl))

-- and one that takes none is not
pub assumed_none : (count : ℕ) (list : List Assumption) (line : LineId) (to left cut : StateSet)
    → left ≡ left_of count line list → cut.0 ≡ bit_and left.0 to.0 → true ≡ nat_eq cut.0 left.0 → with_assumed count list line to ≡ list
assumed_none count list line to left cut from cuts same =
    let f : (left.0 == cut.0) ≡ true = eq-eqb left.0 cut.0 (sym (eqb-true cut.0 left.0 (sym same))) in
    let P : StateSet → Type 0 = λ l. (if l.0 == (both_sets l to).0 then list else list ++ Assumed line (both_sets l to) ∷ []) ≡ list in
    let e : cut ≡ both_sets left to = ap set_of cuts in
    let Q : StateSet → Type 0 = λ x. (if left.0 == x.0 then list else list ++ Assumed line x ∷ []) ≡ list in
    subst P from (subst Q e (rw f refl))

module _ (a : StateAlgebra) (c : Circuit) (rules : Rules) (ends : Option ToldEnds) (list : List Assumption) (conflict : Option LineId)
    (kept : Kept) where
  lefts_from : (beginning : Option Beginning) → StandsFrom a c rules ends beginning list conflict kept
      → length kept.left ≡ line_count c
  lefts_from None stands = stands.left.one_each
  lefts_from (Some begun) stands = stands.left.one_each

  left_from : (beginning : Option Beginning) → StandsFrom a c rules ends beginning list conflict kept → (line : LineId)
      → line.0 < line_count c → label_at kept.left line.0 ≡ left_of a.count line list
  left_from None stands line within =
      stands.left.each line.0 within ∙ ap (left_of a.count line) (sym stands.nothing)
  left_from (Some begun) stands line within = stands.left.each line.0 within

  set_from : (beginning : Option Beginning) → StandsFrom a c rules ends beginning list conflict kept → (line : LineId) (to cut : StateSet)
      → line.0 < line_count c → IsToldBy c (links_of rules) ends line.0 → cut.0 ≡ bit_and (left_of a.count line list).0 to.0 → (left_of a.count line list).0 ≢ cut.0
      → IsListFrom a.count c (links_of rules) ends beginning (list ++ Assumed line cut ∷ [])
  set_from None stands line to cut within told cuts differs = tt
  set_from (Some begun) stands line to cut within told cuts differs = (
    list_with_set a.count c begun list stands.list line to cut within cuts differs,
    told_with c (links_of rules) ends list (Assumed line cut) stands.told told,
  )

  pin_from : (beginning : Option Beginning) → StandsFrom a c rules ends beginning list conflict kept → (pin : PinRef)
      → IsPinOn c pin (end_from c beginning list) → IsToldBy c (links_of rules) ends (gate_line c pin.gate.0)
      → IsListFrom a.count c (links_of rules) ends beginning (list ++ Entered pin ∷ [])
  pin_from None stands pin on told = tt
  pin_from (Some begun) stands pin on told =
      (list_with_pin a.count c begun list stands.list pin on, told_with c (links_of rules) ends list (Entered pin) stands.told told)

module _ (a : StateAlgebra) {standing : Standing} {kept : Kept} {room befores_room : ℕ}
    (keeps : KeepsStanding a standing kept room befores_room) (now : Standing) (is_now : standing ≡ now) where
  -- what is kept as left of a line is left of it
  pub left_seen : (line : LineId) → line.0 < line_count now.net → (seen : StateSet) → seen ≡ get_or kept.left line.0 seen
      → seen ≡ left_of a.count line now.assumptions
  left_seen line within seen is =
      let P : Standing → Type 0 = λ s. line.0 < line_count s.net in
      let here : line.0 < line_count standing.net = subst P (sym is_now) within in
      let e = lefts_from a standing.net standing.rules standing.ends standing.assumptions standing.conflict kept standing.beginning keeps.stands in
      is ∙ get_or_default kept.left line.0 seen no_states (omega (arith, here, e))
      ∙ left_from a standing.net standing.rules standing.ends standing.assumptions standing.conflict kept standing.beginning keeps.stands line
      here
      ∙ ap (λ (s : Standing). left_of a.count line s.assumptions) is_now

  -- a set that takes some state away
  pub assumed_fits : (line : LineId) (to left cut : StateSet) → line.0 < line_count now.net → IsTold now line.0 → left ≡ get_or kept.left line.0 left
      → cut.0 ≡ bit_and left.0 to.0 → false ≡ nat_eq cut.0 left.0
      → IsListFrom a.count now.net (links_of now.rules) now.ends now.beginning (now.assumptions ++ Assumed line cut ∷ [])
  assumed_fits line to left cut within told seen cuts other =
      let T : Standing → Type 0 = λ s. IsTold s line.0 in
      let P : Standing → Type 0 = λ s. IsListFrom a.count s.net (links_of s.rules) s.ends s.beginning (s.assumptions ++ Assumed line cut ∷ []) in
      let Q : Standing → Type 0 = λ s. line.0 < line_count s.net in
      let R : Standing → Type 0 = λ s. left ≡ left_of a.count line s.assumptions in
      let from : left ≡ left_of a.count line standing.assumptions = subst R (sym is_now) (left_seen line within left seen) in
      let differs : left.0 ≢ cut.0 = λ e. eqb-false cut.0 left.0 (sym other) (sym e) in
      let S : StateSet → Type 0 = λ l. l.0 ≢ cut.0 in
      subst P is_now
      (set_from a standing.net standing.rules standing.ends standing.assumptions standing.conflict kept standing.beginning keeps.stands line to
      cut (subst Q (sym is_now) within) (subst T (sym is_now) told) (cuts ∙ ap (λ (s : StateSet). bit_and s.0 to.0) from) (subst S from differs))

  -- a pin on the last line
  pub entered_fits : (pin : PinRef) → IsPinOn now.net pin (end_of_scope now) → IsTold now (gate_line now.net pin.gate.0)
      → IsListFrom a.count now.net (links_of now.rules) now.ends now.beginning (now.assumptions ++ Entered pin ∷ [])
  entered_fits pin on told =
      let P : Standing → Type 0 = λ s. IsListFrom a.count s.net (links_of s.rules) s.ends s.beginning (s.assumptions ++ Entered pin ∷ []) in
      let Q : Standing → Type 0 = λ s. IsPinOn s.net pin (end_of_scope s) in
      let R : Standing → Type 0 = λ s. IsTold s (gate_line s.net pin.gate.0) in
      subst P is_now
      (pin_from a standing.net standing.rules standing.ends standing.assumptions standing.conflict kept standing.beginning keeps.stands pin
      (subst Q (sym is_now) on) (subst R (sym is_now) told))
