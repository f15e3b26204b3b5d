-- What is kept at a gate with one pin, two or three, as a list of what is kept at each pin, and that there is no condition where the code
-- is told that there is none.
use Rattle.std.proofs.Common.{◌≡◌, ℕ, zero, suc, ◌<◌, Bool, true, false, not, List, [], ◌∷◌, Option, Some, None, length, refl, ap, ◌∙◌, arith}
use Rattle.std.specs.Option.{is_some}
use Rattle.std.proofs.lemmas.Option.{slice_get_within}
use Rattle.pd_base.specs.declared.ids.LineId.{LineId}
use Rattle.state_sets.specs.declared.condition.Condition.{Condition}
use Rattle.state_sets.specs.declared.state.StateSet.{StateSet}
use Rattle.state_sets.specs.StateAlgebra.{StateAlgebra}
use Rattle.state_sets.specs.Narrowing.{GateSets, GivesAtPin}
use Rattle.hulls.specs.Sets.{Means, set_at}
use Rattle.hulls.specs.Settling.{AllDiffer}
use Rattle.hulls.specs.declared.few.KeptAtOne.{KeptAtOne}
use Rattle.hulls.specs.declared.few.KeptAtTwo.{KeptAtTwo}
use Rattle.hulls.specs.declared.three.KeptAtThree.{KeptAtThree}
use Rattle.hulls.specs.GateViews.{IsKeptAtOne, IsKeptAtThree, IsKeptAtTwo, three_kept}

-- what is kept at the only pin, pin by pin
abbrev pub one_kept : KeptAtOne → List StateSet
one_kept kept = kept.first ∷ []

pub each_of_one : (a : StateAlgebra) (sets : GateSets) (condition : Option Condition) (kept : KeptAtOne) → IsKeptAtOne a sets condition kept
    → (count : ℕ) → count ≡ 1 → (pin : ℕ) → pin < count → Means a.count (set_at (one_kept kept) pin) (GivesAtPin a sets condition pin)
each_of_one a sets condition kept is count one zero inside = is.first
each_of_one a sets condition kept is count one (suc pin) inside = absurd (omega (arith, one, inside))

-- the lines of one pin differ
pub one_differs : (lines : List LineId) → length lines ≡ 1 → AllDiffer lines
one_differs lines one first second line at_first at_second =
    let within = slice_get_within lines first line at_first in
    let within_second = slice_get_within lines second line at_second in omega arith

-- what is kept at two pins, pin by pin
abbrev pub two_kept : KeptAtTwo → List StateSet
two_kept kept = kept.first ∷ kept.second ∷ []

-- what is kept at two pins is kept at each of them
pub each_of_two : (a : StateAlgebra) (sets : GateSets) (condition : Option Condition) (kept : KeptAtTwo) → IsKeptAtTwo a sets condition kept
    → (count : ℕ) → count ≡ 2 → (pin : ℕ) → pin < count → Means a.count (set_at (two_kept kept) pin) (GivesAtPin a sets condition pin)
each_of_two a sets condition kept is count two zero inside = is.first
each_of_two a sets condition kept is count two (suc zero) inside = is.second
each_of_two a sets condition kept is count two (suc (suc pin)) inside = absurd (omega (arith, two, inside))

-- and so it is at three
pub each_of_three : (a : StateAlgebra) (sets : GateSets) (kept : KeptAtThree) → IsKeptAtThree a sets kept → (count : ℕ) → count ≡ 3
    → (pin : ℕ) → pin < count → Means a.count (set_at (three_kept kept) pin) (GivesAtPin a sets None pin)
each_of_three a sets kept is count three zero inside = is.first
each_of_three a sets kept is count three (suc zero) inside = is.second
each_of_three a sets kept is count three (suc (suc zero)) inside = is.third
each_of_three a sets kept is count three (suc (suc (suc pin))) inside = absurd (omega (arith, three, inside))

-- there is no condition where the code is told that there is none
pub none_there : (condition : Option Condition) (none : Bool) → is_some condition ≡ not none → none ≡ true → condition ≡ None
none_there None none is found = refl
none_there (Some condition) none is found = absurd (let never : true ≡ false = is ∙ ap not found in grind arith)
