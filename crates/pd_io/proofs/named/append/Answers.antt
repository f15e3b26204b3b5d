use Rattle.std.proofs.Common.{◌≡◌, ◌++◌, take, sym, rules}
use Rattle.std.proofs.lemmas.Result.{IfOk-weaker, on_err_weaker}
use Rattle.pd_io.proofs.NamedFiles.{contents_of-more, contents_of-same}
use Rattle.pd_io.proofs.named.append.Goals as goal

-- more bytes stand under a name that was there
pub returns-in-Some-clause-ok : goal.returns-in-Some-clause-ok
returns-in-Some-clause-ok c =
    let files = c.args.files.now in
    let from = c.in-Some.taken.now in
    let to = c.take_front.new.taken in
    IfOk-weaker c.take_front.result (λ count. to.items ≡ from.items ++ take count c.args.bytes.now) _
    (λ count e. contents_of-more files (c.get_mut.follows.lender to) c.args.name.now from to
    (sym c.in-Some.ensures.value) ((c.get_mut.follows.holds to).3 (search rules)) (take count c.args.bytes.now) e)
    c.take_front.ensures.ok

-- where memory ran out, the same bytes stand there
pub returns-in-Some-clause-err : goal.returns-in-Some-clause-err
returns-in-Some-clause-err c =
    let files = c.args.files.now in
    let from = c.in-Some.taken.now in
    let to = c.take_front.new.taken in
    on_err_weaker c.take_front.result
    (λ e. contents_of-same files (c.get_mut.follows.lender to) c.args.name.now from to
    (sym c.in-Some.ensures.value) ((c.get_mut.follows.holds to).3 (search rules)) e)
    c.take_front.ensures.err
