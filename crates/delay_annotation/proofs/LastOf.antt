-- The last setting that passes a test, as it is kept: one setting more, two tests at once, and its delays.
use Rattle.std.proofs.Common.{◌≡◌, ⊎_elim, ℕ, zero, suc, ◌+◌, ◌<◌, ◌≤◌, ◌||◌, Bool, true, false, cond, List, [], ◌∷◌, ◌++◌, length, map, filter, refl, sym, ap, ap₂, ◌∙◌, arith}
use Rattle.std.proofs.lemmas.Bool.{cases_lt, lt-ltb, le-ltb}
use Rattle.std.proofs.lemmas.List.{get_or_append_left, get_or_push, length_push}
use Rattle.delay_annotation.specs.declared.setting.EdgeDelays.{EdgeDelays}
use Rattle.delay_annotation.specs.declared.setting.Pins.{Pins}
use Rattle.delay_annotation.specs.declared.setting.Setting.{Setting}
use Rattle.delay_annotation.specs.DelayFile.{last_or, unit_delays}
use Rattle.delay_annotation.specs.LastRows.{IsLastRow, NonePassesFrom, first_number, later, no_setting, setting_in}
use Rattle.delay_annotation.specs.LastRows.IsLastRow.{none_passes, last_passes}
use Rattle.delay_annotation.specs.declared.last.KeptRow.{KeptRow}

-- a setting as it is kept
abbrev pub entry : ℕ → Setting → KeptRow
entry number setting = record { row = number; delays = setting.delays }

module _ (test : Pins → Bool) (settings : List Setting) (setting : Setting) where
  -- whether a setting passes
  abbrev passes_test : Setting → Bool
  passes_test s = test s.pins

  -- with one setting more the others stay where they are
  stays : (place : ℕ) → place < length settings → setting_in (settings ++ setting ∷ []) place ≡ setting_in settings place
  stays place within = get_or_append_left settings (setting ∷ []) no_setting place within

  -- and that one stands behind them
  is_behind : (place : ℕ) → length settings ≡ place → setting_in (settings ++ setting ∷ []) place ≡ setting
  is_behind place at = get_or_push settings setting no_setting place at

  -- where it fails too, none passes still
  none_more : (place : ℕ) → test setting.pins ≡ false → NonePassesFrom test settings place
      → NonePassesFrom test (settings ++ setting ∷ []) place
  none_more place fails none other from within =
      let long = length_push settings setting in
      ⊎_elim
      (λ below. ap passes_test (stays other below) ∙ none other from below)
      (λ past. ap passes_test (is_behind other (omega arith)) ∙ fails)
      (cases_lt other (length settings))

  -- where it fails, the last one that passes is the same
  pub last_row-kept : (kept : KeptRow) → test setting.pins ≡ false → IsLastRow test settings kept
      → IsLastRow test (settings ++ setting ∷ []) kept
  last_row-kept kept fails (none_passes is none) = none_passes is (none_more 0 fails none)
  last_row-kept kept fails (last_passes place within passes none is) =
      let long = length_push settings setting in
      last_passes place (omega arith) (ap passes_test (stays place within) ∙ passes) (none_more (place + 1) fails none)
      (is ∙ ap (entry (first_number + place)) (sym (stays place within)))

  -- where it passes, it is the last one
  pub last_row-push : (number : ℕ) → number ≡ first_number + length settings → test setting.pins ≡ true
      → IsLastRow test (settings ++ setting ∷ []) (entry number setting)
  last_row-push number is passes =
      let long = length_push settings setting in
      let here = is_behind (length settings) refl in
      last_passes (length settings) (omega arith) (ap passes_test here ∙ passes)
      (λ other from within. absurd (omega arith)) (ap₂ entry is (sym here))

-- tests that tell alike find the same
pub last_row-same : (p q : Pins → Bool) → ((pins : Pins) → p pins ≡ q pins) → (settings : List Setting) (kept : KeptRow)
    → IsLastRow p settings kept → IsLastRow q settings kept
last_row-same p q same settings kept (none_passes is none) =
    none_passes is (λ other from within. sym (same (setting_in settings other).pins) ∙ none other from within)
last_row-same p q same settings kept (last_passes place within passes none is) =
    last_passes place within (sym (same (setting_in settings place).pins) ∙ passes)
    (λ other from inside. sym (same (setting_in settings other).pins) ∙ none other from inside) is

-- the later of two is the second where that has the greater number, else the first
later_second : (a b : KeptRow) → a.row < b.row → later a b ≡ b
later_second a b less = ap (λ t. cond t b a) (lt-ltb a.row b.row less)

later_first : (a b : KeptRow) → b.row ≤ a.row → later a b ≡ a
later_first a b upto = ap (λ t. cond t b a) (le-ltb a.row b.row upto)

-- or is true where the second is
or_true : (a : Bool) → (a || true) ≡ true
or_true true = refl
or_true false = refl

-- none passes from a later place on
none_later : (test : Pins → Bool) (settings : List Setting) (from to : ℕ) → from ≤ to → NonePassesFrom test settings from
    → NonePassesFrom test settings to
none_later test settings from to upto none other behind within = none other (omega arith) within

module _ (p q : Pins → Bool) (settings : List Setting) where
  -- where none passes either test
  none_either : (place : ℕ) → NonePassesFrom p settings place → NonePassesFrom q settings place
      → NonePassesFrom (λ pins. p pins || q pins) settings place
  none_either place no_p no_q other from within = ap₂ (λ a b. a || b) (no_p other from within) (no_q other from within)

  -- a setting that passes one of two tests passes either
  by_first : (place : ℕ) → p (setting_in settings place).pins ≡ true
      → (p (setting_in settings place).pins || q (setting_in settings place).pins) ≡ true
  by_first place passes = ap (λ a. a || q (setting_in settings place).pins) passes

  by_second : (place : ℕ) → q (setting_in settings place).pins ≡ true
      → (p (setting_in settings place).pins || q (setting_in settings place).pins) ≡ true
  by_second place passes =
      ap (λ b. p (setting_in settings place).pins || b) passes ∙ or_true (p (setting_in settings place).pins)

  -- the later of the last rows by two tests is the last one that passes either
  pub last_row-joined : (a b : KeptRow) → IsLastRow p settings a → IsLastRow q settings b
      → IsLastRow (λ pins. p pins || q pins) settings (later a b)
  last_row-joined a b (none_passes is_a no_p) (none_passes is_b no_q) =
      none_passes (ap₂ later is_a is_b) (none_either 0 no_p no_q)
  last_row-joined a b (none_passes is_a no_p) (last_passes j within passes no_q is_b) =
      let row_a = ap (λ (e : KeptRow). e.row) is_a in
      let row_b = ap (λ (e : KeptRow). e.row) is_b in
      last_passes j within (by_second j passes) (none_either (j + 1) (none_later p settings 0 (j + 1) (omega arith) no_p) no_q)
      (later_second a b (omega arith) ∙ is_b)
  last_row-joined a b (last_passes i within passes no_p is_a) (none_passes is_b no_q) =
      let row_a = ap (λ (e : KeptRow). e.row) is_a in
      let row_b = ap (λ (e : KeptRow). e.row) is_b in
      last_passes i within (by_first i passes) (none_either (i + 1) no_p (none_later q settings 0 (i + 1) (omega arith) no_q))
      (later_first a b (omega arith) ∙ is_a)
  last_row-joined a b (last_passes i in_i p_i no_p is_a) (last_passes j in_j q_j no_q is_b) =
      let row_a = ap (λ (e : KeptRow). e.row) is_a in
      let row_b = ap (λ (e : KeptRow). e.row) is_b in
      ⊎_elim
      (λ less. last_passes j in_j (by_second j q_j)
      (none_either (j + 1) (none_later p settings (i + 1) (j + 1) (omega arith) no_p) no_q)
      (later_second a b (omega arith) ∙ is_b))
      (λ from. last_passes i in_i (by_first i p_i)
      (none_either (i + 1) no_p (none_later q settings (j + 1) (i + 1) (omega arith) no_q))
      (later_first a b (omega arith) ∙ is_a))
      (cases_lt i j)

-- the delays of the settings that pass
abbrev pub delays_of_passing : (Pins → Bool) → List Setting → List EdgeDelays
delays_of_passing test settings = map (λ setting. setting.delays) (filter (λ setting. test setting.pins) settings)

-- where none passes there are none
no_delays : (test : Pins → Bool) (settings : List Setting) → NonePassesFrom test settings 0 → delays_of_passing test settings ≡ []
no_delays test [] none = refl
no_delays test (setting ∷ settings) none =
    ap (λ b. map (λ (s : Setting). s.delays) (cond b (setting ∷ rest) rest)) (none 0 (omega arith) (omega arith))
    ∙ no_delays test settings (λ other from within. none (suc other) (omega arith) (omega arith))
  where
    rest : List Setting
    rest = filter (λ s. test s.pins) settings

-- and the last of them is that of the last setting that passes
last_given : (test : Pins → Bool) (settings : List Setting) (place : ℕ) (none : EdgeDelays) → place < length settings
    → test (setting_in settings place).pins ≡ true → NonePassesFrom test settings (place + 1)
    → last_or none (delays_of_passing test settings) ≡ (setting_in settings place).delays
last_given test [] place none within passes after = absurd (omega arith)
last_given test (setting ∷ settings) zero none within passes after =
    ap (λ b. last_or none (map (λ (s : Setting). s.delays) (cond b (setting ∷ rest) rest))) passes
    ∙ ap (last_or setting.delays) (no_delays test settings (λ other from inside. after (suc other) (omega arith) (omega arith)))
  where
    rest : List Setting
    rest = filter (λ s. test s.pins) settings
last_given test (setting ∷ settings) (suc place) none within passes after =
    by (test setting.pins) (λ before. last_given test settings place before (omega arith) passes
    (λ other from inside. after (suc other) (omega arith) (omega arith)))
  where
    rest : List Setting
    rest = filter (λ s. test s.pins) settings

    by : (b : Bool) → ((before : EdgeDelays) → last_or before (delays_of_passing test settings) ≡ (setting_in settings place).delays)
        → last_or none (map (λ (s : Setting). s.delays) (cond b (setting ∷ rest) rest)) ≡ (setting_in settings place).delays
    by true more = more setting.delays
    by false more = more none

-- so the delay that is kept is the last one that the settings give
pub last_row-delay : (test : Pins → Bool) (settings : List Setting) (kept : KeptRow) → IsLastRow test settings kept
    → kept.delays ≡ last_or unit_delays (delays_of_passing test settings)
last_row-delay test settings kept (none_passes is none) =
    ap (λ (e : KeptRow). e.delays) is ∙ ap (last_or unit_delays) (sym (no_delays test settings none))
last_row-delay test settings kept (last_passes place within passes none is) =
    ap (λ (e : KeptRow). e.delays) is ∙ sym (last_given test settings place unit_delays within passes none)
