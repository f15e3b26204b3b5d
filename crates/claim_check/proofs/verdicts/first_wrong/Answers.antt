-- Row by row, the rising transition first.
use Rattle.std.proofs.Common.{◌≡◌, ◌+◌, ◌*◌, ℕ, List, length, refl, sym, ap, subst, arith}
use Rattle.std.specs.Prelude.{slice_get, None, Some}
use Rattle.std.proofs.lemmas.List.{length-map}
use Rattle.std.proofs.lemmas.Option.{slice_get_read}
use Rattle.pd_base.specs.Route.{Route}
use Rattle.pd_base.specs.declared.fault.Direction.TheVariants.{Rise, Fall}
use Rattle.netlist.specs.Paths.{IsPath, IsPrefix}
use Rattle.runs.specs.declared.run.ListedPath.{ListedPath}
use Rattle.good_runs.proofs.Numbers.{all_at_number, number_of_place, number_within}
use Rattle.claim_check.specs.Flaws.{IsFirstFlaw}
use Rattle.claim_check.specs.Right.{IsFaultNumber, IsRightFaultAt}
use Rattle.claim_check.specs.Right.IsFaultNumber.{rise, fall}
use Rattle.claim_check.proofs.RowFaults.{fault_told, most_number, no_faults_yet}
use Rattle.claim_check.proofs.Telling.{IsRightUpTo, faults_only, first_at, right_more}
use Rattle.claim_check.proofs.verdicts.first_wrong.Goals as goal

pub loop-row-init : goal.loop-row-init
loop-row-init c = record { right = no_faults_yet c.args.net.now c.args.run.now; judge = c.requires.judge }

pub fault_in_row-rise-requires-clause-path : goal.fault_in_row-rise-requires-clause-path
fault_in_row-rise-requires-clause-path c =
    let paths = c.args.paths.now in
    let there = slice_get_read paths (length paths) c.loop-row.row c.index-paths-row.result refl (omega arith) c.index-paths-row.is in
    subst (λ (routes : List Route). slice_get routes c.loop-row.row ≡ Some c.index-paths-row.result) c.requires.routes there

pub fault_in_row-fall-requires-clause-path : goal.fault_in_row-fall-requires-clause-path
fault_in_row-fall-requires-clause-path c =
    let paths = c.args.paths.now in
    let path = c.index-paths-row-in-loop-row.result in
    let there = slice_get_read paths (length paths) c.loop-row.row path refl (omega arith) c.index-paths-row-in-loop-row.is in
    subst (λ (routes : List Route). slice_get routes c.loop-row.row ≡ Some path) c.requires.routes there

pub wrong_fault-requires-clause-prefix : goal.wrong_fault-requires-clause-prefix
wrong_fault-requires-clause-prefix c =
    let paths = c.args.paths.now in
    let net = c.args.net.now in
    let there = slice_get_read paths (length paths) c.loop-row.row c.index-paths-row.result refl (omega arith) c.index-paths-row.is in
    let is =
    all_at_number (IsPath net) paths (c.loop-row.row + 1) c.index-paths-row.result c.requires.paths
    (number_of_place paths c.loop-row.row c.index-paths-row.result there) in
    subst (IsPrefix net) (sym c.fault_in_row-rise.ensures.path) is.prefix

pub wrong_fault-requires-in-loop-row-clause-prefix : goal.wrong_fault-requires-in-loop-row-clause-prefix
wrong_fault-requires-in-loop-row-clause-prefix c =
    let paths = c.args.paths.now in
    let net = c.args.net.now in
    let path = c.index-paths-row-in-loop-row.result in
    let there = slice_get_read paths (length paths) c.loop-row.row path refl (omega arith) c.index-paths-row-in-loop-row.is in
    let is = all_at_number (IsPath net) paths (c.loop-row.row + 1) path c.requires.paths (number_of_place paths c.loop-row.row path there) in
    subst (IsPrefix net) (sym c.fault_in_row-fall.ensures.path) is.prefix

pub returns-in-Some : goal.returns-in-Some
returns-in-Some c =
    let net = c.args.net.now in
    let run = c.args.run.now in
    let row = c.loop-row.row in
    let at : 2 * row + 1 + 1 ≡ 2 * (row + 1) = omega arith in
    let number : IsFaultNumber (row + 1) Rise (2 * row + 1) = rise (2 * row + 1) at in
    first_at (IsRightFaultAt net run) 4 (faults_only net run) (2 * row) c.in-Some.reason c.loop-row.invariant.right
    (fault_told net run row Rise c.fault_in_row-rise.result c.fault_in_row-rise.ensures.fault (2 * row + 1) number (Some c.in-Some.reason)
    c.in-Some.ensures.wrong)

pub returns-in-Some-wrong_fault : goal.returns-in-Some-wrong_fault
returns-in-Some-wrong_fault c =
    let net = c.args.net.now in
    let run = c.args.run.now in
    let row = c.loop-row.row in
    let at : 2 * row + 1 + 1 ≡ 2 * (row + 1) = omega arith in
    let first : IsFaultNumber (row + 1) Rise (2 * row + 1) = rise (2 * row + 1) at in
    let second : IsFaultNumber (row + 1) Fall (2 * row + 1 + 1) = fall (2 * row + 1 + 1) at in
    let right =
    right_more (IsRightFaultAt net run) (2 * row) c.loop-row.invariant.right
    (fault_told net run row Rise c.fault_in_row-rise.result c.fault_in_row-rise.ensures.fault (2 * row + 1) first None
    c.in_default.ensures.wrong) in
    let same : 2 * row + 1 + 1 ≡ 2 * row + 2 = omega arith in
    subst (λ (item : ℕ). IsFirstFlaw (IsRightFaultAt net run) item c.in-Some-wrong_fault.reason) same
    (first_at (IsRightFaultAt net run) 4 (faults_only net run) (2 * row + 1) c.in-Some-wrong_fault.reason right
    (fault_told net run row Fall c.fault_in_row-fall.result c.fault_in_row-fall.ensures.fault (2 * row + 1 + 1) second
    (Some c.in-Some-wrong_fault.reason) c.in-Some-wrong_fault.ensures.wrong))

pub loop-row-preserved : goal.loop-row-preserved
loop-row-preserved c =
    let net = c.args.net.now in
    let run = c.args.run.now in
    let row = c.loop-row.row in
    let at : 2 * row + 1 + 1 ≡ 2 * (row + 1) = omega arith in
    let first : IsFaultNumber (row + 1) Rise (2 * row + 1) = rise (2 * row + 1) at in
    let second : IsFaultNumber (row + 1) Fall (2 * row + 1 + 1) = fall (2 * row + 1 + 1) at in
    let right =
    right_more (IsRightFaultAt net run) (2 * row) c.loop-row.invariant.right
    (fault_told net run row Rise c.fault_in_row-rise.result c.fault_in_row-rise.ensures.fault (2 * row + 1) first None
    c.in_default.ensures.wrong) in
    let both =
    right_more (IsRightFaultAt net run) (2 * row + 1) right
    (fault_told net run row Fall c.fault_in_row-fall.result c.fault_in_row-fall.ensures.fault (2 * row + 1 + 1) second None
    c.in_default-wrong_fault.ensures.wrong) in
    record {
      right = subst (IsRightUpTo (IsRightFaultAt net run)) at both;
      judge = c.wrong_fault-in-loop-row.ensures.judge;
    }

pub returns : goal.returns
returns c = λ item reason number listed direction is at.
    let few = number_within c.args.run.now.paths number listed is in
    let most = most_number at in
    let long = ap length c.requires.routes in
    let same = length-map c.args.run.now.paths (λ (l : ListedPath). l.path) in
    c.loop-row.invariant.right item reason (omega arith) number listed direction is at
