-- Lines that differ, each from all behind it.
use Rattle.std.proofs.Common.{◌≡◌, ◌≢◌, ℕ, ◌+◌, ◌-◌, ◌<◌, ◌≤◌, ⊎_elim, List, length, drop, get_or, slice_get, Some, sym, ap, ◌∙◌, subst, arith}
use Rattle.std.specs.List.{Contains}
use Rattle.std.proofs.lemmas.Bool.{cases_eq, cases_lt}
use Rattle.std.proofs.lemmas.List.{get_or-drop, length-drop}
use Rattle.std.proofs.lemmas.Option.{same_Some, slice_get_within, get_or_from_slice_get}
use Rattle.pd_base.specs.declared.ids.LineId.{LineId}
use Rattle.hulls.specs.Settling.{AllDiffer}

-- each of the first lines differs from all behind it
abbrev pub DifferUpTo : List LineId → ℕ → Type 0
DifferUpTo lines place = (low other : ℕ) (line : LineId) → low < place → low < other → slice_get lines low ≡ Some line
    → ¬ (slice_get lines other ≡ Some line)

-- a line at a later place stands behind
stands_behind : (lines : List LineId) (place other : ℕ) (line : LineId) → place < other → slice_get lines other ≡ Some line
    → Contains (drop (place + 1) lines) line
stands_behind lines place other line before at =
    let within = slice_get_within lines other line at in
    let e : place + 1 + (other - (place + 1)) ≡ other = omega arith in (
      other - (place + 1),
      (let l = length-drop (place + 1) lines in omega arith),
      get_or-drop (place + 1) lines (other - (place + 1)) line ∙ ap (λ (n : ℕ). get_or lines n line) e
          ∙ get_or_from_slice_get lines other line line at,
    )

-- one place more
pub differ_more : (lines : List LineId) (place : ℕ) (this : LineId) → slice_get lines place ≡ Some this
    → ¬ Contains (drop (place + 1) lines) this → DifferUpTo lines place → DifferUpTo lines (place + 1)
differ_more lines place this at alone before low other line below behind at_low at_other = ⊎_elim
    (λ (here : low ≡ place).
    let same : this ≡ line = same_Some this line (sym at ∙ ap (slice_get lines) (sym here) ∙ at_low) in
    alone (subst (λ (l : LineId). Contains (drop (place + 1) lines) l) (sym same)
    (stands_behind lines place other line (omega arith) at_other)))
    (λ (away : low ≢ place). before low other line (omega arith) behind at_low at_other)
    (cases_eq low place)

pub all_differ : (lines : List LineId) (place : ℕ) → length lines ≤ place → DifferUpTo lines place → AllDiffer lines
all_differ lines place all up_to first second line at_first at_second =
    let within = slice_get_within lines first line at_first in let within_second = slice_get_within lines second line at_second in
    ⊎_elim
    (λ (same : first ≡ second). same)
    (λ (away : first ≢ second). ⊎_elim
    (λ (before : first < second). absurd (up_to first second line (omega arith) before at_first at_second))
    (λ (behind : second ≤ first). absurd (up_to second first line (omega arith) (omega arith) at_second at_first))
    (cases_lt first second))
    (cases_eq first second)

-- each of the first lines has a greater number than those before it
abbrev pub AscendUpTo : List LineId → ℕ → Type 0
AscendUpTo lines place = (low high : ℕ) (first second : LineId) → low < high → high < place → slice_get lines low ≡ Some first
    → slice_get lines high ≡ Some second → first.0 < second.0
