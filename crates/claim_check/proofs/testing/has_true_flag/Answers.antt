-- The flag is that of the verdict's test.
use Rattle.std.proofs.Common.{◌↔◌, IsTrue, sym, subst}
use Rattle.runs.specs.declared.run.Verdict.{Verdict}
use Rattle.claim_check.specs.FaultsInRows.{HasTrueFlag}
use Rattle.claim_check.proofs.testing.has_true_flag.Goals as goal

pub returns-in-Robust : goal.returns-in-Robust
returns-in-Robust c =
    let P : Verdict → Type 0 = λ verdict. IsTrue c.is_true_flag.result ↔ HasTrueFlag c.args.flags.now verdict in
    subst P (sym c.in-Robust.is) c.is_true_flag.ensures

pub returns-in-Nonrobust : goal.returns-in-Nonrobust
returns-in-Nonrobust c =
    let P : Verdict → Type 0 = λ verdict. IsTrue c.is_true_flag-in-Nonrobust.result ↔ HasTrueFlag c.args.flags.now verdict in
    subst P (sym c.in-Nonrobust.is) c.is_true_flag-in-Nonrobust.ensures
