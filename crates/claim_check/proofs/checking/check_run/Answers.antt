-- What is found of the run is claimed of it.
use Rattle.std.proofs.Common.{◌≡◌, ◌↔◌, List, All, length, ap, sym, subst, ◌∙◌, arith}
use Rattle.std.specs.Prelude.{Ok, Result}
use Rattle.pd_base.specs.Route.{Route}
use Rattle.pd_base.specs.declared.memory.OutOfMemory.{OutOfMemory}
use Rattle.delay_annotation.specs.Annotation.{delays_of}
use Rattle.netlist.specs.Order.{AreFirst}
use Rattle.netlist.specs.Paths.{IsPath}
use Rattle.good_runs.specs.GoodRun.{IsGoodRun}
use Rattle.good_runs.proofs.FirstOnce.{few_first}
use Rattle.claim_check.specs.declared.claim.Claim.{Claim}
use Rattle.claim_check.specs.declared.claim.Claim.TheVariants.{Holds}
use Rattle.claim_check.specs.Claims.{TellsOfRun, claim_of}
use Rattle.claim_check.proofs.Claiming.{claim_exact, claim_promises, claim_tells}
use Rattle.claim_check.proofs.checking.check_run.Goals as goal

pub first_flaw-requires-clause-paths : goal.first_flaw-requires-clause-paths
first_flaw-requires-clause-paths c = subst (All (IsPath c.args.net.now)) (sym c.as_slice.ensures.value) c.in_ok-first.ensures.are_paths

pub first_flaw-requires-clause-few : goal.first_flaw-requires-clause-few
first_flaw-requires-clause-few c =
    let few = few_first c.args.net.now (delays_of c.args.net.now c.args.delays.now) c.args.count c.in_ok-first.first.items c.in_ok-first.ensures.full in
    let same = ap length c.as_slice.ensures.value in
    let most = c.requires.count in
    omega arith

pub returns-clause-exactly : goal.returns-clause-exactly
returns-clause-exactly c =
    let net = c.args.net.now in
    let delays = delays_of c.args.net.now c.args.delays.now in
    let P : List Route → Type 0 = λ first. AreFirst net delays c.args.count first in
    let Q : Claim → Type 0 = λ claim. (claim ≡ Holds) ↔ IsGoodRun net delays c.args.count c.args.budget c.args.run.now in
    subst Q (sym c.claim_of.ensures)
    (claim_exact net delays c.args.count c.args.budget c.args.run.now c.as_slice.result.now
    (subst P (sym c.as_slice.ensures.value) c.in_ok-first.ensures) c.requires.lawful c.in_ok-flaw.flaw c.in_ok-flaw.ensures)

pub returns-clause-tells : goal.returns-clause-tells
returns-clause-tells c =
    let net = c.args.net.now in
    let delays = delays_of c.args.net.now c.args.delays.now in
    let P : List Route → Type 0 = λ first. AreFirst net delays c.args.count first in
    subst (TellsOfRun net delays c.args.count c.args.budget c.args.run.now) (sym c.claim_of.ensures)
    (claim_tells net delays c.args.count c.args.budget c.args.run.now c.as_slice.result.now
    (subst P (sym c.as_slice.ensures.value) c.in_ok-first.ensures) c.requires.lawful c.in_ok-flaw.flaw c.in_ok-flaw.ensures)

pub returns-clause-promises : goal.returns-clause-promises
returns-clause-promises c holds =
    let net = c.args.net.now in
    let delays = delays_of c.args.net.now c.args.delays.now in
    let P : List Route → Type 0 = λ first. AreFirst net delays c.args.count first in
    let is : claim_of c.in_ok-flaw.flaw ≡ Holds = sym c.claim_of.ensures ∙ ok_same c.claim_of.result Holds holds in
    claim_promises net delays c.args.count c.args.budget c.args.run.now c.as_slice.result.now
    (subst P (sym c.as_slice.ensures.value) c.in_ok-first.ensures) c.requires.lawful c.sources.ensures.circuit c.requires.fit c.in_ok-flaw.flaw
    c.in_ok-flaw.ensures is
  where
    ok_same : (one other : Claim) → ◌≡◌ {A = Result Claim OutOfMemory} (Ok one) (Ok other) → one ≡ other
    ok_same one other same = cc
