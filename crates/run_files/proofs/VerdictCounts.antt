-- Counting the verdicts path by path.
use Rattle.std.proofs.Common.{◌≡◌, ℕ, ◌+◌, ◌<◌, List, Bool, [], ◌∷◌, ◌++◌, length, get_or, take, cond, count_by, refl, ap, ◌∙◌, sym, arith}
use Rattle.std.proofs.lemmas.List.{take_more}
use Rattle.std.proofs.lemmas.List.Sums.{sum_by_push}
use Rattle.runs.specs.declared.run.ListedPath.{ListedPath}
use Rattle.runs.specs.declared.run.Verdict.{Verdict}
use Rattle.runs.specs.declared.run.Verdict.TheVariants.{Robust, Nonrobust, Untestable, Aborted}
use Rattle.runs.specs.Verdicts.{is_aborted, is_nonrobust, is_robust, is_untestable, verdicts_of}
use Rattle.run_files.specs.declared.summary.Counts.{Counts}
use Rattle.run_files.specs.VerdictCounts.{AreCountsOf, CountsOneMore, verdict_total}

-- a verdict is of one sort, so the total rises by one
pub total_rises : (before after : Counts) (verdict : Verdict) → CountsOneMore before after verdict → verdict_total after ≡ verdict_total before + 1
total_rises before after (Robust test) counted = omega (arith, counted.robust, counted.nonrobust, counted.untestable, counted.aborted)
total_rises before after (Nonrobust test proof) counted = omega (arith, counted.robust, counted.nonrobust, counted.untestable, counted.aborted)
total_rises before after (Untestable proof) counted = omega (arith, counted.robust, counted.nonrobust, counted.untestable, counted.aborted)
total_rises before after (Aborted robust nonrobust) counted = omega (arith, counted.robust, counted.nonrobust, counted.untestable, counted.aborted)

-- how many are counted with one item more
count_by_push : {X : Type 0} (p : X → Bool) (xs : List X) (y : X) → count_by p (xs ++ y ∷ []) ≡ count_by p xs + cond (p y) 1 0
count_by_push p xs y = sum_by_push (λ x. cond (p x) 1 0) xs y

-- one more verdict, counted
counts_push : (before after : Counts) (verdicts : List Verdict) (verdict : Verdict) → AreCountsOf before verdicts → CountsOneMore before after verdict
    → AreCountsOf after (verdicts ++ verdict ∷ [])
counts_push before after verdicts verdict are counted = record {
  robust = rw count_by_push (counted.robust ∙ ap (λ n. n + cond (is_robust verdict) 1 0) are.robust);
  nonrobust = rw count_by_push (counted.nonrobust ∙ ap (λ n. n + cond (is_nonrobust verdict) 1 0) are.nonrobust);
  untestable = rw count_by_push (counted.untestable ∙ ap (λ n. n + cond (is_untestable verdict) 1 0) are.untestable);
  aborted = rw count_by_push (counted.aborted ∙ ap (λ n. n + cond (is_aborted verdict) 1 0) are.aborted);
}

-- the verdicts of one path more
verdicts_of_push : (paths : List ListedPath) (listed : ListedPath)
    → verdicts_of (paths ++ listed ∷ []) ≡ (verdicts_of paths ++ listed.rise ∷ []) ++ listed.fall ∷ []
verdicts_of_push [] listed = refl
verdicts_of_push (first ∷ paths) listed = ap (λ (verdicts : List Verdict). first.rise ∷ first.fall ∷ verdicts) (verdicts_of_push paths listed)

-- both verdicts of the path at this place, counted
pub path_counted : (before between after : Counts) (paths : List ListedPath) (at : ℕ) (listed : ListedPath)
    → at < length paths → listed ≡ get_or paths at listed → AreCountsOf before (verdicts_of (take at paths))
    → CountsOneMore before between listed.rise → CountsOneMore between after listed.fall
    → AreCountsOf after (verdicts_of (take (at + 1) paths))
path_counted before between after paths at listed within is are rise fall =
    let front : take (at + 1) paths ≡ take at paths ++ listed ∷ [] =
    take_more paths at listed within ∙ ap (λ x. take at paths ++ x ∷ []) (sym is) in
    rw (front, verdicts_of_push) (counts_push between after _ listed.fall (counts_push before between _ listed.rise are rise) fall)
