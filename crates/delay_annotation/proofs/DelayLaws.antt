-- Laws of delay files: a file that has delays is not refused, all its delays agree, and there is one reason at most to refuse it.
use Rattle.std.proofs.Common.{◌≡◌, ◌≢◌, inl, inr, ⊎_elim, ◌⊎◌, ℕ, ◌+◌, List, [], ◌∷◌, ◌++◌, length, refl, sym, ap, subst, ◌∙◌, arith, append_assoc, length-append}
use Rattle.pd_base.specs.Memory.{out_of_memory}
use Rattle.pd_base.specs.declared.fault.Direction.{Direction}
use Rattle.pd_base.specs.declared.fault.Direction.TheVariants.{Rise}
use Rattle.pd_base.specs.declared.ids.PinRef.{PinRef}
use Rattle.netlist.specs.Circuit.{Circuit}
use Rattle.netlist.specs.Lawful.{IsCircuit}
use Rattle.netlist.specs.Pins.{IsPinOn}
use Rattle.netlist.specs.Waves.{Delays}
use Rattle.delay_annotation.specs.Rows.{AreTitles, IsSetting}
use Rattle.delay_annotation.specs.declared.setting.Columns.{Columns}
use Rattle.delay_annotation.specs.declared.setting.Columns.TheVariants as column
use Rattle.delay_annotation.specs.declared.setting.Setting.{Setting}
use Rattle.delay_annotation.proofs.OneMeaning.{accepted_not_refused, refused_once, setting_once}
use Rattle.delay_annotation.specs.DelayFile.{AreAllRows, AreFirstRows, ArePassed, AreSettings, HasDelays, HasDelaysOn, RefusesDelays, RefusesFile, RefusesNext, Row, at_row, delay_on, delays_by}
use Rattle.delay_annotation.specs.DelayFile.RefusesFile.{no_row, row_refused, no_memory}
use Rattle.delay_annotation.specs.declared.fault.DelayFault.{DelayFault}
use Rattle.delay_annotation.specs.declared.fault.DelayFault.TheVariants as fault
use Rattle.delay_annotation.proofs.FirstRows.{all_rows_once, front_of_all, fronts}

-- Where a list begins with another one and an item behind it, and ends with a last item: either both items are that one, or
-- the first stands within the list before the last.
split_last : {X : Type 0} (front : List X) (item : X) (rest before : List X) (last : X) → front ++ item ∷ rest ≡ before ++ last ∷ []
    → ((rest ≡ []) × (front ≡ before) × (item ≡ last)) ⊎ ((more : List X) × (front ++ item ∷ more ≡ before))
split_last [] item rest [] last same = inl (cc same, refl, cc same)
split_last [] item rest (first ∷ before) last same =
    let heads : item ≡ first = cc same in inr (before, ap (λ x. x ∷ before) heads)
split_last (head ∷ front) item rest [] last same =
    let long = length-append front (item ∷ rest) in
    absurd (omega (arith, long, ap length same))
split_last (head ∷ front) item rest (first ∷ before) last same =
    let heads : head ≡ first = cc same in
    let tails : front ++ item ∷ rest ≡ before ++ last ∷ [] = cc same in
    ⊎_elim
    (λ (none, fronts_same, items). inl (none, ap (λ x. x ∷ front) heads ∙ ap (λ l. first ∷ l) fronts_same, items))
    (λ (more, within). inr (more, ap (λ x. x ∷ (front ++ item ∷ more)) heads ∙ ap (λ l. first ∷ l) within))
    (split_last front item rest before last tails)

-- a row with another behind it
followed : (before : List Row) (row : Row) (rest : List Row) → (before ++ row ∷ []) ++ rest ≡ before ++ row ∷ rest
followed before row rest = append_assoc before (row ∷ []) rest

-- among accepted rows each is
setting_at : (c : Circuit) (columns : Columns) (front : List Row) (row : Row) (rest : List Row) (settings : List Setting)
    → AreSettings c columns (front ++ row ∷ rest) settings → (setting : Setting) × IsSetting c columns row setting
setting_at c columns [] row rest [] accepted = absurd accepted
setting_at c columns [] row rest (setting ∷ settings) accepted = (setting, accepted.0)
setting_at c columns (first ∷ front) row rest [] accepted = absurd accepted
setting_at c columns (first ∷ front) row rest (setting ∷ settings) accepted = setting_at c columns front row rest settings accepted.1

module _ (c : Circuit) (columns : Columns) (circuit : IsCircuit c) where
  -- a row within rows that pass is not refused
  passed_not_refused : (front : List Row) (row : Row) (rest rows : List Row) (why : DelayFault) → front ++ row ∷ rest ≡ rows
      → ArePassed c columns rows → ¬ RefusesNext c columns front row why
  passed_not_refused [] row rest [] why same passed refuses = cc same
  passed_not_refused [] row rest (titles ∷ rows) why same passed refuses =
      let heads : titles ≡ row = cc same in
      refuses.1 (subst (AreTitles columns) heads passed.0)
  passed_not_refused (first ∷ front) row rest [] why same passed refuses = cc same
  passed_not_refused (first ∷ front) row rest (titles ∷ rows) why same passed (own, refused, is) =
      let tails : rows ≡ front ++ row ∷ rest = cc same in
      let accepted = setting_at c columns front row rest passed.1 (subst (λ all. AreSettings c columns all passed.1) tails passed.2) in
      accepted_not_refused c columns circuit row accepted.0 accepted.1 refused

  -- rows are accepted as the same settings each time
  settings_once : (rows : List Row) (a b : List Setting) → AreSettings c columns rows a → AreSettings c columns rows b → a ≡ b
  settings_once [] [] [] is other = refl
  settings_once [] [] (setting ∷ b) is other = absurd other
  settings_once [] (setting ∷ a) b is other = absurd is
  settings_once (row ∷ rows) [] b is other = absurd is
  settings_once (row ∷ rows) (setting ∷ a) [] is other = absurd other
  settings_once (row ∷ rows) (first ∷ a) (second ∷ b) is other =
      let heads = setting_once c columns circuit row first second is.0 other.0 in
      ap (λ s. s ∷ a) heads ∙ ap (λ rest. second ∷ rest) (settings_once rows a b is.1 other.1)

  -- a row is refused behind the same rows for one reason at most
  next_once : (before : List Row) (row : Row) (a b : DelayFault) → RefusesNext c columns before row a → RefusesNext c columns before row b
      → a ≡ b
  next_once [] row a b refuses other = refuses.0 ∙ sym other.0
  next_once (titles ∷ before) row a b (own, refused, is) (own', refused', is') =
      is ∙ ap (λ why. at_row why (length (titles ∷ before) + 1)) (refused_once c columns circuit row refused refused') ∙ sym is'

  -- a file that has delays is refused for no reason but want of memory
  pub file_not_refused : (direction : Direction) (bytes : List ℕ) (delays : Delays) (why : DelayFault)
      → HasDelaysOn c columns direction bytes delays → RefusesFile c columns bytes why → why ≡ fault.NoMemory out_of_memory
  file_not_refused direction bytes delays why has (no_memory is) = is
  file_not_refused direction bytes delays why has (no_row none is) =
      let same = all_rows_once bytes [] (has.titles ∷ has.rows) none has.all_rows in cc same
  file_not_refused direction bytes delays why has (row_refused before row first passed refuses) =
      let front = front_of_all bytes (before ++ row ∷ []) (has.titles ∷ has.rows) has.all_rows first in
      absurd (passed_not_refused before row front.0 (has.titles ∷ has.rows) why (sym (followed before row front.0) ∙ front.1)
      (has.are_titles, has.settings, has.accepted) refuses)

  -- two assignments of delays that a file has agree at each pin that reads a line
  pub delays_on_agree : (direction : Direction) (bytes : List ℕ) (a b : Delays) → HasDelaysOn c columns direction bytes a
      → HasDelaysOn c columns direction bytes b → (pin : PinRef) (line : ℕ)
      → IsPinOn c pin line → a pin ≡ b pin
  delays_on_agree direction bytes a b has other pin line on =
      let rows = all_rows_once bytes (has.titles ∷ has.rows) (other.titles ∷ other.rows) has.all_rows other.all_rows in
      let tails : other.rows ≡ has.rows = cc rows in
      let settings = settings_once has.rows has.settings other.settings has.accepted
      (subst (λ all. AreSettings c columns all other.settings) tails other.accepted) in
      has.each pin line on ∙ ap (λ all. delay_on direction (delays_by all pin)) settings ∙ sym (other.each pin line on)

  -- of two refusals whose rows are read one behind the other, both are at one row, for one reason
  refused_in_front : (before : List Row) (row : Row) (rest others : List Row) (other : Row) (a b : DelayFault)
      → (before ++ row ∷ []) ++ rest ≡ others ++ other ∷ [] → ArePassed c columns others → RefusesNext c columns before row a
      → RefusesNext c columns others other b → a ≡ b
  refused_in_front before row rest others other a b same passed refuses refuses' =
      ⊎_elim
      (λ (none, fronts_same, rows). next_once others other a b
      (subst (λ all. RefusesNext c columns all other a) fronts_same (subst (λ r. RefusesNext c columns before r a) rows refuses)) refuses')
      (λ (more, within). absurd (passed_not_refused before row more others a within passed refuses))
      (split_last before row rest others other (sym (followed before row rest) ∙ same))

  -- a file without rows has no first row
  no_front : (bytes : List ℕ) (before : List Row) (row : Row) → AreAllRows bytes [] → AreFirstRows bytes (before ++ row ∷ []) → ⊥
  no_front bytes before row none first =
      let front = front_of_all bytes (before ++ row ∷ []) [] none first in
      let long = length-append before (row ∷ []) in
      let total = length-append (before ++ row ∷ []) front.0 in
      absurd (omega (arith, long, total, ap length front.1))

  -- a file has one reason at most, beside want of memory, to be refused
  pub refused_once_only : (bytes : List ℕ) (a b : DelayFault) → a ≢ fault.NoMemory out_of_memory → b ≢ fault.NoMemory out_of_memory
      → RefusesFile c columns bytes a → RefusesFile c columns bytes b → a ≡ b
  refused_once_only bytes a b memory memory' (no_memory is) refuses = absurd (memory is)
  refused_once_only bytes a b memory memory' refuses (no_memory is) = absurd (memory' is)
  refused_once_only bytes a b memory memory' (no_row none is) (no_row none' is') = is ∙ sym is'
  refused_once_only bytes a b memory memory' (no_row none is) (row_refused before row first passed refuses) =
      absurd (no_front bytes before row none first)
  refused_once_only bytes a b memory memory' (row_refused before row first passed refuses) (no_row none is) =
      absurd (no_front bytes before row none first)
  refused_once_only bytes a b memory memory' (row_refused before row first passed refuses) (row_refused others other first' passed' refuses') =
      ⊎_elim
      (λ (rest, same). refused_in_front before row rest others other a b same passed' refuses refuses')
      (λ (rest, same). sym (refused_in_front others other rest before row b a same passed refuses' refuses))
      (fronts bytes (before ++ row ∷ []) (others ++ other ∷ []) first first')

module _ (c : Circuit) (circuit : IsCircuit c) where
  -- a file that has one delay for each pin is refused for no reason but want of memory
  pub delays_not_refused : (bytes : List ℕ) (delays : Delays) (why : DelayFault) → HasDelays c bytes delays
      → RefusesDelays c bytes why → why ≡ fault.NoMemory out_of_memory
  delays_not_refused = file_not_refused c column.Delay circuit Rise

  -- and its delays agree
  pub delays_agree : (bytes : List ℕ) (a b : Delays) → HasDelays c bytes a → HasDelays c bytes b → (pin : PinRef) (line : ℕ)
      → IsPinOn c pin line → a pin ≡ b pin
  delays_agree = delays_on_agree c column.Delay circuit Rise
