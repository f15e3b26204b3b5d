-- Part by part.
use Rattle.std.proofs.Common.{ℕ, List, length, get_or, refl, sym, ap, subst, ◌∙◌}
use Rattle.std.proofs.lemmas.Bool.{eqb-true}
use Rattle.std.proofs.lemmas.List.{nil_from_length}
use Rattle.std.proofs.lemmas.Result.{IfOk-weaker}
use Rattle.std.specs.List.{All}
use Rattle.pd_base.specs.Route.{Route}
use Rattle.delay_annotation.specs.Annotation.{delays_of}
use Rattle.path_laws.proofs.StepCounts.{prefix_has_few_steps}
use Rattle.runs.specs.declared.run.ListedPath.{ListedPath}
use Rattle.claim_check.specs.declared.claim.Reason.{Reason}
use Rattle.claim_check.specs.declared.claim.Reason.TheVariants.{WrongCount}
use Rattle.claim_check.specs.Flaws.{IsFirstFlaw, TellsOfItems}
use Rattle.claim_check.specs.Prefixes.{NamesPrefix}
use Rattle.claim_check.specs.Right.{IsRightAt, IsRightFaultAt, IsRightPathAt, IsRightProofAt}
use Rattle.claim_check.proofs.Claiming.{all_name_prefixes, right_if_none}
use Rattle.claim_check.proofs.Rightness.{routes_are}
use Rattle.claim_check.proofs.Telling.{tell_counts, tell_faults, tell_paths, tell_proofs}
use Rattle.claim_check.proofs.Unproved.{proofs_right}
use Rattle.claim_check.proofs.checking.first_flaw.Goals as goal

pub returns-in-Some : goal.returns-in-Some
returns-in-Some c =
    tell_counts c.args.net.now (delays_of c.args.net.now c.args.delays.now) c.args.budget c.args.first.now c.args.run.now c.in-Some.flaw.item
    c.in-Some.flaw.reason c.in-Some.ensures.counts

pub wrong_path-requires-clause-one_each : goal.wrong_path-requires-clause-one_each
wrong_path-requires-clause-one_each c = ap length c.as_slice.ensures ∙ (c.in_default.ensures.counts 1 WrongCount).paths refl

pub returns-in-Some-wrong_path : goal.returns-in-Some-wrong_path
returns-in-Some-wrong_path c =
    let delays = delays_of c.args.net.now c.args.delays.now in
    let first = c.args.first.now in
    let flaw = c.in-Some-wrong_path.flaw in
    let P : List ListedPath → Type 0 = λ paths. IsFirstFlaw (IsRightPathAt delays first paths) flaw.item flaw.reason in
    tell_paths c.args.net.now delays c.args.budget first c.args.run.now c.in_default.ensures.counts flaw.item flaw.reason
    (subst P c.as_slice.ensures c.in-Some-wrong_path.ensures)

pub wrong_without_proofs-requires-clause-routes : goal.wrong_without_proofs-requires-clause-routes
wrong_without_proofs-requires-clause-routes c =
    let delays = delays_of c.args.net.now c.args.delays.now in
    let first = c.args.first.now in
    let P : List ListedPath → Type 0 = λ paths. (item : ℕ) (reason : Reason) → IsRightPathAt delays first paths item reason in
    sym (routes_are delays c.args.run.now first c.in_default.ensures.counts (subst P c.as_slice.ensures c.in_default-wrong_path.ensures))

pub wrong_without_proofs-requires-clause-no_proofs : goal.wrong_without_proofs-requires-clause-no_proofs
wrong_without_proofs-requires-clause-no_proofs c =
    sym c.as_slice-2.ensures ∙ nil_from_length _ (eqb-true _ _ (sym c.is_empty.ensures ∙ c.if-is_empty.true))

pub wrong_without_proofs-requires-clause-lawful : goal.wrong_without_proofs-requires-clause-lawful
wrong_without_proofs-requires-clause-lawful c = c.requires.lawful.tests

pub returns-then-is_empty : goal.returns-then-is_empty
returns-then-is_empty c =
    let net = c.args.net.now in
    let run = c.args.run.now in
    let delays = delays_of c.args.net.now c.args.delays.now in
    let first = c.args.first.now in
    let P : List ListedPath → Type 0 = λ paths. (item : ℕ) (reason : Reason) → IsRightPathAt delays first paths item reason in
    let paths = subst P c.as_slice.ensures c.in_default-wrong_path.ensures in
    let none = sym c.as_slice-2.ensures ∙ nil_from_length _ (eqb-true _ _ (sym c.is_empty.ensures ∙ c.if-is_empty.true)) in
    IfOk-weaker c.wrong_without_proofs.result (TellsOfItems (IsRightFaultAt net run)) (TellsOfItems (IsRightAt net delays c.args.budget first run))
    (λ found is. tell_faults net delays c.args.budget first run c.in_default.ensures.counts paths (proofs_right run none net c.args.budget) found is)
    c.wrong_without_proofs.ensures

pub new-requires-clause-short : goal.new-requires-clause-short
new-requires-clause-short c = λ place d within.
    prefix_has_few_steps c.args.net.now c.sources.ensures.circuit (get_or c.args.first.now place d) (c.requires.paths place d within).prefix

pub wrong_proof-requires-clause-routes : goal.wrong_proof-requires-clause-routes
wrong_proof-requires-clause-routes c =
    let delays = delays_of c.args.net.now c.args.delays.now in
    let first = c.args.first.now in
    let P : List ListedPath → Type 0 = λ paths. (item : ℕ) (reason : Reason) → IsRightPathAt delays first paths item reason in
    sym (routes_are delays c.args.run.now first c.in_default.ensures.counts (subst P c.as_slice.ensures c.in_default-wrong_path.ensures))

pub returns-then-is_some : goal.returns-then-is_some
returns-then-is_some c =
    let delays = delays_of c.args.net.now c.args.delays.now in
    let first = c.args.first.now in
    let P : List ListedPath → Type 0 = λ paths. (item : ℕ) (reason : Reason) → IsRightPathAt delays first paths item reason in
    tell_proofs c.args.net.now delays c.args.budget first c.args.run.now c.in_default.ensures.counts
    (subst P c.as_slice.ensures c.in_default-wrong_path.ensures) c.in_ok-found.found c.in_ok-found.ensures
    (sym c.is_some.ensures ∙ c.if-is_some.true)

pub wrong_verdict-requires-clause-routes : goal.wrong_verdict-requires-clause-routes
wrong_verdict-requires-clause-routes c =
    let delays = delays_of c.args.net.now c.args.delays.now in
    let first = c.args.first.now in
    let P : List ListedPath → Type 0 = λ paths. (item : ℕ) (reason : Reason) → IsRightPathAt delays first paths item reason in
    sym (routes_are delays c.args.run.now first c.in_default.ensures.counts (subst P c.as_slice.ensures c.in_default-wrong_path.ensures))

pub wrong_verdict-requires-clause-lawful : goal.wrong_verdict-requires-clause-lawful
wrong_verdict-requires-clause-lawful c = c.requires.lawful.tests

pub wrong_verdict-requires-clause-names : goal.wrong_verdict-requires-clause-names
wrong_verdict-requires-clause-names c =
    let net = c.args.net.now in
    let run = c.args.run.now in
    let delays = delays_of c.args.net.now c.args.delays.now in
    let first = c.args.first.now in
    let P : List ListedPath → Type 0 = λ paths. (item : ℕ) (reason : Reason) → IsRightPathAt delays first paths item reason in
    let routes = routes_are delays run first c.in_default.ensures.counts (subst P c.as_slice.ensures c.in_default-wrong_path.ensures) in
    let right =
    right_if_none (IsRightProofAt net c.args.budget run) c.in_ok-found.found (sym c.is_some.ensures ∙ c.if-is_some.false) c.in_ok-found.ensures in
    let Q : List Route → Type 0 = λ all. All (NamesPrefix all) run.proofs in
    subst Q routes (all_name_prefixes net c.args.budget run right)

pub returns : goal.returns
returns c =
    let net = c.args.net.now in
    let run = c.args.run.now in
    let delays = delays_of c.args.net.now c.args.delays.now in
    let first = c.args.first.now in
    let P : List ListedPath → Type 0 = λ paths. (item : ℕ) (reason : Reason) → IsRightPathAt delays first paths item reason in
    let paths = subst P c.as_slice.ensures c.in_default-wrong_path.ensures in
    let right =
    right_if_none (IsRightProofAt net c.args.budget run) c.in_ok-found.found (sym c.is_some.ensures ∙ c.if-is_some.false) c.in_ok-found.ensures in
    IfOk-weaker c.wrong_verdict.result (TellsOfItems (IsRightFaultAt net run)) (TellsOfItems (IsRightAt net delays c.args.budget first run))
    (λ found is. tell_faults net delays c.args.budget first run c.in_default.ensures.counts paths right found is) c.wrong_verdict.ensures
