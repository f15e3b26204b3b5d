use Rattle.std.proofs.Common.{length, sym, ap, ◌∙◌, arith}
use Rattle.std.proofs.lemmas.Bool.{eqb-true, eqb-false}
use Rattle.std.proofs.lemmas.List.{nil_from_length, take_rest}
use Rattle.pd_io.proofs.Handing.{handed_all, handed_more, handed_part}
use Rattle.pd_io.proofs.Tellings.{on_err}
use Rattle.pd_io.proofs.sink.write_all.Goals as goal

-- what the loop keeps, after one more write
pub loop-rest-preserved : goal.loop-rest-preserved
loop-rest-preserved g c = record {
  handed = handed_more _ _ _ _ _ _ _ c.loop-rest.invariant.handed c.in_ok-count.ensures.told
      (take_rest c.loop-rest.rest.now c.in_ok-count.count);
  unchanged = c.in_ok-count.ensures.cause.only_then ∙ c.loop-rest.invariant.unchanged;
  counted = λ _. omega arith;
}

-- where a write failed, some bytes were left
pub returns-in_err-count-clause-err : goal.returns-in_err-count-clause-err
returns-in_err-count-clause-err g c =
    on_err c.from_residual.result
    (handed_part _ _ _ _ _ c.loop-rest.invariant.handed
    (λ none. eqb-false _ _ (sym c.is_empty.ensures ∙ c.loop-rest-test.true) (ap length none)) c.in_err-count.ensures.told)

-- in the end none is
pub returns-clause-ok : goal.returns-clause-ok
returns-clause-ok g c =
    handed_all _ _ _ _ c.loop-rest.invariant.handed
    (nil_from_length _ (eqb-true _ _ (sym c.is_empty.ensures ∙ c.loop-rest-test.false)))
