-- Each turn takes a line; a line that fails, or the end of the file, ends it.
use Rattle.std.proofs.Common.{IfOk, Result, Ok, Err}
use Rattle.std.proofs.lemmas.Result.{err_from_is_err_and, IfErr-weaker}
use Rattle.text_pieces.proofs.ReadLines.{none_left}
use Rattle.scan_order.proofs.ReadSoFar.{all_read, not_ended, not_taken}
use Rattle.scan_order.proofs.ScanLaws.{refused_names_flop}
use Rattle.scan_order.proofs.reading.read_scan.Goals as goal

-- what two clauses say of a value
both_ok : {T E : Type 0} (r : Result T E) (P Q R : T → Type 0) → IfOk r P → IfOk r Q → ((x : T) → P x → Q x → R x) → IfOk r R
both_ok (Ok x) P Q R p q step = step x p q
both_ok (Err e) P Q R p q step = tt

pub returns-in_err-rest-clause-refused : goal.returns-in_err-rest-clause-refused
returns-in_err-rest-clause-refused c =
    let answer = err_from_is_err_and c.from_residual-in_err-rest.result c.from_residual-in_err-rest.ensures.1 in
    rw (answer.1, answer.2) (not_taken c.args.net.now c.args.bytes.now c.loop-rest.growing c.loop-rest.number c.loop-rest.rest.now c.loop-rest.invariant
    c.in_err-rest.field-0.0 c.in_err-rest.ensures.fails)

pub returns-in_err-rest-clause-named : goal.returns-in_err-rest-clause-named
returns-in_err-rest-clause-named c =
    let answer = err_from_is_err_and c.from_residual-in_err-rest.result c.from_residual-in_err-rest.ensures.1 in
    rw (answer.1, answer.2) (refused_names_flop c.args.net.now c.loop-rest.invariant.grown.circuit c.args.bytes.now c.in_err-rest.field-0.0
    (not_taken c.args.net.now c.args.bytes.now c.loop-rest.growing c.loop-rest.number c.loop-rest.rest.now c.loop-rest.invariant
    c.in_err-rest.field-0.0 c.in_err-rest.ensures.fails))

pub returns-clause-named : goal.returns-clause-named
returns-clause-named c =
    let none = none_left _ _ c.is_empty.ensures c.loop-rest-test.false in
    IfErr-weaker c.into_chains.result _ _
    (λ why failure. refused_names_flop c.args.net.now c.loop-rest.invariant.grown.circuit c.args.bytes.now why
    (not_ended c.args.net.now c.args.bytes.now c.loop-rest.growing c.loop-rest.number c.loop-rest.rest.now c.loop-rest.invariant none why failure))
    c.into_chains.ensures.missing

pub returns-clause-chains : goal.returns-clause-chains
returns-clause-chains c =
    let none = none_left _ _ c.is_empty.ensures c.loop-rest-test.false in
    both_ok c.into_chains.result _ _ _ c.into_chains.ensures.chains c.into_chains.ensures.lines
    (λ chains are lines. all_read c.args.net.now c.args.bytes.now c.loop-rest.growing c.loop-rest.number c.loop-rest.rest.now c.loop-rest.invariant none chains are lines)

pub returns-clause-refused : goal.returns-clause-refused
returns-clause-refused c =
    let none = none_left _ _ c.is_empty.ensures c.loop-rest-test.false in
    IfErr-weaker c.into_chains.result _ _
    (λ why failure. not_ended c.args.net.now c.args.bytes.now c.loop-rest.growing c.loop-rest.number c.loop-rest.rest.now c.loop-rest.invariant none why failure)
    c.into_chains.ensures.missing
