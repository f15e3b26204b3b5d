-- The path is the one that is named, and its prefix is new exactly where the tree does not know it.
use Rattle.std.proofs.Common.{length, sym, ap, ◌∙◌, arith}
use Rattle.std.proofs.lemmas.Bool.{false≢true}
use Rattle.pd_base.specs.Route.{Route}
use Rattle.good_runs.proofs.Numbers.{number_same}
use Rattle.claim_check.proofs.NewPrefixes.{known_is_not_first, new_is_first, row_inside, steps_inside}
use Rattle.claim_check.proofs.proving.path_of_new_prefix.Goals as goal
use Rattle.claim_check.proofs.proving.path_of_new_prefix.Goals.{then-steps-via-then-steps, then-steps-via-else-steps+then-is_known}

pub returns-then-steps : goal.returns-then-steps
returns-then-steps c = λ path first.
    let routes = c.args.paths.now in
    let own = c.in_ok-path.path.now in
    let same = number_same routes c.args.proof.now.path path own first.is_listed c.in_ok-path.ensures in
    let long = ap length c.steps.ensures in
    let few = first.has_steps in
    let its = ap (λ (route : Route). length route.steps) same in
    elim c.then-steps.branch [
      | then-steps-via-then-steps w ↦ absurd (omega arith)
      | then-steps-via-else-steps+then-is_known w ↦
          known_is_not_first routes c.args.prefixes.now c.requires.nodes c.args.proof.now own c.in_ok-path.ensures (omega arith)
          (w.is_known.ensures.0 w.if-is_known.true) path first
    ]

pub returns : goal.returns
returns c =
    let long = ap length c.steps.ensures in
    new_is_first c.args.paths.now c.args.prefixes.now c.requires.nodes c.args.proof.now c.in_ok-path.path.now c.in_ok-path.ensures
    (omega arith) (λ known. false≢true (sym c.if-is_known.false ∙ c.is_known.ensures.1 known))

pub is_known-requires-clause-row : goal.is_known-requires-clause-row
is_known-requires-clause-row c =
    let each = c.requires.nodes.rows_each in
    let long = ap length c.steps.ensures in
    let inside =
    row_inside c.args.paths.now c.args.prefixes.now c.requires.nodes c.args.proof.now c.in_ok-path.path.now c.in_ok-path.ensures (omega arith) in
    omega arith

pub is_known-requires-clause-before : goal.is_known-requires-clause-before
is_known-requires-clause-before c =
    let each = c.requires.nodes.before_each in
    let long = ap length c.steps.ensures in
    let inside =
    row_inside c.args.paths.now c.args.prefixes.now c.requires.nodes c.args.proof.now c.in_ok-path.path.now c.in_ok-path.ensures (omega arith) in
    omega arith

pub is_known-requires-clause-steps : goal.is_known-requires-clause-steps
is_known-requires-clause-steps c =
    let long = ap length c.steps.ensures in
    steps_inside c.args.paths.now c.args.prefixes.now c.requires.nodes c.args.proof.now c.in_ok-path.path.now c.in_ok-path.ensures (omega arith)
