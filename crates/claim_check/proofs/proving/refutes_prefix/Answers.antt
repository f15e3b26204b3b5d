-- The first steps of a path make a prefix.
use Rattle.std.proofs.Common.{◌≡◌, take, sym, ap, subst, ◌∙◌}
use Rattle.pd_base.specs.Links.{links_of}
use Rattle.pd_base.specs.Route.{Route}
use Rattle.netlist.specs.Paths.{IsPrefix, end_of, prefix_of}
use Rattle.implication.specs.Standing.{IsToldBy}
use Rattle.path_laws.proofs.Prefixes.{prefix_is_prefix, prefix_of-is_prefix}
use Rattle.claim_check.proofs.PathsTold.{prefix_told}
use Rattle.claim_check.proofs.proving.refutes_prefix.Goals as goal

pub check_tree-requires-clause-prefix : goal.check_tree-requires-clause-prefix
check_tree-requires-clause-prefix g c =
    let net = c.args.judge.now.net in
    let path = c.args.path.now in
    let steps = c.args.proof.now.steps in
    let made = c.in_ok-prefix.ensures in
    let source = c.source.ensures in
    let taken = ap (take steps) c.steps.ensures in
    let own : Route = record { source = c.source.result; steps = take steps c.steps.result.now } in
    let parts : own ≡ prefix_of steps path =
    λ i. record { source = source i; steps = taken i } in
    let same : c.in_ok-prefix.prefix ≡ prefix_of steps path = made ∙ parts in
    subst (IsPrefix net) (sym same) (prefix_is_prefix net (prefix_of steps path) path (prefix_of-is_prefix steps path) c.requires.path.is_path.prefix)

pub check_tree-requires-clause-told : goal.check_tree-requires-clause-told
check_tree-requires-clause-told g c =
    let made = c.args.judge.now in
    let path = c.args.path.now in
    let steps = c.args.proof.now.steps in
    let source = c.source.ensures in
    let taken = ap (take steps) c.steps.ensures in
    let own : Route = record { source = c.source.result; steps = take steps c.steps.result.now } in
    let parts : own ≡ prefix_of steps path =
    λ i. record { source = source i; steps = taken i } in
    let same : c.in_ok-prefix.prefix ≡ prefix_of steps path = c.in_ok-prefix.ensures ∙ parts in
    let P : Route → Type 0 = λ route. IsToldBy made.net (links_of made.rules) made.ends (end_of made.net route) in
    subst P (sym same) (prefix_told made.net (links_of made.rules) made.ends path steps c.requires.path)
