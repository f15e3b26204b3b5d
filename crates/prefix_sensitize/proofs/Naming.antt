-- Verdicts one after another: what they name, and that they name it in order.
use Rattle.std.proofs.Common.{◌≡◌, ℕ, ◌+◌, max, cond, List, [], ◌∷◌, ◌++◌, map, refl, ap, ◌∙◌, arith}
use Rattle.std.specs.List.{count_by}
use Rattle.std.proofs.lemmas.List.Sums.{sum_by-cons}
use Rattle.netlist.specs.Greatest.{greatest}
use Rattle.runs.specs.declared.run.ListedPath.{ListedPath}
use Rattle.runs.specs.declared.run.Verdict.{Verdict}
use Rattle.runs.specs.declared.run.Verdict.TheVariants.{Robust, Nonrobust, Untestable, Aborted}
use Rattle.runs.specs.Lawful.{AreNumbered, Named, named_with}
use Rattle.runs.specs.Verdicts.{verdicts_of}
use Rattle.good_runs.specs.GoodRun.{is_tested, greatest_cited}
use Rattle.prefix_sensitize.specs.Listed.{named_after}

-- the verdicts of one path more
pub verdicts_more : (listed : List ListedPath) (entry : ListedPath)
    → verdicts_of (listed ++ entry ∷ []) ≡ verdicts_of listed ++ entry.rise ∷ entry.fall ∷ []
verdicts_more [] entry = refl
verdicts_more (first ∷ listed) entry = ap (λ (verdicts : List Verdict). first.rise ∷ first.fall ∷ verdicts) (verdicts_more listed entry)

-- what verdicts name, and then some more
pub named_after-append : (named : Named) (verdicts more : List Verdict)
    → named_after named (verdicts ++ more) ≡ named_after (named_after named verdicts) more
named_after-append named [] more = refl
named_after-append named (verdict ∷ verdicts) more = named_after-append (named_with named verdict) verdicts more

-- verdicts are numbered where those behind them go on from what they name
pub numbered_on : (named : Named) (verdicts more : List Verdict) → AreNumbered named verdicts
    → AreNumbered (named_after named verdicts) more → AreNumbered named (verdicts ++ more)
numbered_on named [] more numbered behind = behind
numbered_on named (verdict ∷ verdicts) more numbered behind =
    (numbered.0, numbered_on (named_with named verdict) verdicts more numbered.1 behind)

-- they name as many tests as are tested
pub tests_named : (named : Named) (verdicts : List Verdict)
    → (named_after named verdicts).tests ≡ named.tests + count_by is_tested verdicts
tests_named named [] = omega arith
tests_named named (verdict ∷ verdicts) =
    tests_named (named_with named verdict) verdicts
    ∙ ap (λ (tests : ℕ). tests + count_by is_tested verdicts) (one_named verdict)
    ∙ counted (cond (is_tested verdict) 1 0) (count_by is_tested verdicts) (count_by is_tested (verdict ∷ verdicts))
    (sum_by-cons (λ (v : Verdict). cond (is_tested v) 1 0) verdict verdicts)
  where
    one_named : (v : Verdict) → (named_with named v).tests ≡ named.tests + cond (is_tested v) 1 0
    one_named (Robust test) = refl
    one_named (Nonrobust test proof) = refl
    one_named (Untestable proof) = omega arith
    one_named (Aborted robust nonrobust) = omega arith

    counted : (one rest all : ℕ) → all ≡ one + rest → named.tests + one + rest ≡ named.tests + all
    counted one rest all is = omega arith

-- and proofs up to the greatest that is cited
pub proofs_named : (named : Named) (verdicts : List Verdict)
    → (named_after named verdicts).proofs ≡ max named.proofs (greatest (map greatest_cited verdicts))
proofs_named named [] = omega arith
proofs_named named (Robust test ∷ verdicts) = proofs_named (named_with named (Robust test)) verdicts ∙ omega arith
proofs_named named (Nonrobust test proof ∷ verdicts) = proofs_named (named_with named (Nonrobust test proof)) verdicts ∙ omega arith
proofs_named named (Untestable proof ∷ verdicts) = proofs_named (named_with named (Untestable proof)) verdicts ∙ omega arith
proofs_named named (Aborted robust nonrobust ∷ verdicts) =
    proofs_named (named_with named (Aborted robust nonrobust)) verdicts ∙ omega arith
