-- How many of some verdicts are of each sort (this project's own).
use Rattle.std.specs.Prelude.{◌≡◌, ℕ, ◌+◌, List, count_by, if◌then◌else◌}
use Rattle.runs.specs.declared.run.Verdict.{Verdict}
use Rattle.runs.specs.Verdicts.{is_robust, is_nonrobust, is_untestable, is_aborted}
use Rattle.run_files.specs.declared.summary.Counts.{Counts}

-- how many verdicts were counted
abbrev pub verdict_total : Counts → ℕ
verdict_total counts = counts.robust + counts.nonrobust + counts.untestable + counts.aborted

-- the counts are those of these verdicts
pub record AreCountsOf (counts : Counts) (verdicts : List Verdict) : Type 0 where
  pub robust : counts.robust ≡ count_by is_robust verdicts
  pub nonrobust : counts.nonrobust ≡ count_by is_nonrobust verdicts
  pub untestable : counts.untestable ≡ count_by is_untestable verdicts
  pub aborted : counts.aborted ≡ count_by is_aborted verdicts

-- each count has risen by one where the verdict is of its sort, and is as before where it is not
pub record CountsOneMore (before after : Counts) (verdict : Verdict) : Type 0 where
  pub robust : after.robust ≡ before.robust + (if is_robust verdict then 1 else 0)
  pub nonrobust : after.nonrobust ≡ before.nonrobust + (if is_nonrobust verdict then 1 else 0)
  pub untestable : after.untestable ≡ before.untestable + (if is_untestable verdict then 1 else 0)
  pub aborted : after.aborted ≡ before.aborted + (if is_aborted verdict then 1 else 0)
