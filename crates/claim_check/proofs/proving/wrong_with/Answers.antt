-- The judge is made for the ends of the listed paths.
use Rattle.std.proofs.Common.{◌<◌, All, IfOk, sym, ap, ◌∙◌, subst, List, Some, false, refl}
use Rattle.pd_base.specs.Links.{links_of}
use Rattle.pd_base.specs.declared.ids.LineId.{LineId}
use Rattle.netlist.specs.Circuit.{line_count}
use Rattle.implication.specs.Standing.{told_ends}
use Rattle.refutation_check.specs.Judges.{MadeFor}
use Rattle.claim_check.specs.JudgedPaths.{IsPathTold}
use Rattle.claim_check.specs.Flaws.{TellsOfItems}
use Rattle.claim_check.specs.Right.{IsRightProofAt}
use Rattle.claim_check.proofs.PathsTold.{paths_told}
use Rattle.claim_check.proofs.proving.wrong_with.Goals as goal

pub new-requires-clause-ends : goal.new-requires-clause-ends
new-requires-clause-ends g c =
    let P : List LineId → Type 0 = All (λ (end : LineId). end.0 < line_count c.args.net.now) in
    subst P (sym c.as_slice.ensures.value) c.in_ok-ends.ensures.lines

pub wrong_by-requires-clause-paths : goal.wrong_by-requires-clause-paths
wrong_by-requires-clause-paths g c =
    let net = c.args.net.now in let lines = c.as_slice.result.now in
    let P : MadeFor → Type 0 = λ made. All (IsPathTold made.net (links_of made.rules) made.ends) c.args.paths.now in
    let Q : List LineId → Type 0 = λ list. All (IsPathTold net (links_of c.args.run.now.rules) (Some (told_ends list false))) c.args.paths.now in
    subst P (sym c.in_ok-judge.ensures)
    (subst Q (sym (c.as_slice.ensures.value ∙ c.in_ok-ends.ensures.ends)) (paths_told net (links_of c.args.run.now.rules) c.args.paths.now c.requires.paths _ refl))

pub wrong_by-requires-clause-rules : goal.wrong_by-requires-clause-rules
wrong_by-requires-clause-rules g c = ap (λ (made : MadeFor). made.rules) c.in_ok-judge.ensures

pub returns : goal.returns
returns g c =
    let P : MadeFor → Type 0 = λ made. IfOk c.wrong_by.result (TellsOfItems (IsRightProofAt made.net c.args.budget c.args.run.now)) in
    subst P c.in_ok-judge.ensures c.wrong_by.ensures
