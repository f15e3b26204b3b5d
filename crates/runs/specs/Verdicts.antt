-- The verdicts of a run, and of which sort each is (this project's own).
use Rattle.std.specs.Prelude.{Bool, true, false, List, [], ◌∷◌}
use Rattle.runs.specs.declared.run.Verdict.{Verdict}
use Rattle.runs.specs.declared.run.Verdict.TheVariants.{Robust, Nonrobust, Untestable, Aborted}
use Rattle.runs.specs.declared.run.ListedPath.{ListedPath}

-- the verdicts of all faults, path by path, the rising transition first
abbrev pub verdicts_of : List ListedPath → List Verdict
verdicts_of [] = []
verdicts_of (listed ∷ paths) = listed.rise ∷ listed.fall ∷ verdicts_of paths

-- whether the verdict is a robust test
abbrev pub is_robust : Verdict → Bool
is_robust (Robust test) = true
is_robust (Nonrobust test proof) = false
is_robust (Untestable proof) = false
is_robust (Aborted robust nonrobust) = false

-- whether the verdict is a nonrobust test
abbrev pub is_nonrobust : Verdict → Bool
is_nonrobust (Robust test) = false
is_nonrobust (Nonrobust test proof) = true
is_nonrobust (Untestable proof) = false
is_nonrobust (Aborted robust nonrobust) = false

-- whether the verdict excludes every test
abbrev pub is_untestable : Verdict → Bool
is_untestable (Robust test) = false
is_untestable (Nonrobust test proof) = false
is_untestable (Untestable proof) = true
is_untestable (Aborted robust nonrobust) = false

-- whether the budget was spent
abbrev pub is_aborted : Verdict → Bool
is_aborted (Robust test) = false
is_aborted (Nonrobust test proof) = false
is_aborted (Untestable proof) = false
is_aborted (Aborted robust nonrobust) = true
