-- Each turn cuts off one row more.
use Rattle.std.proofs.Common.{List, codes, sym, subst, ◌∙◌}
use Rattle.std.proofs.lemmas.Bool.{eqb-true}
use Rattle.delay_bounds.specs.declared.log_row.LogRow.{LogRow}
use Rattle.delay_bounds.proofs.BareRows.{HasCut, behind_start, cut_all, cut_more, cut_titles}
use Rattle.delay_bounds.proofs.bare.bare_log.Goals as goal

pub loop-rest-init : goal.loop-rest-init
loop-rest-init c =
    let begins = c.in-Some.ensures.cases in record {
      has = subst (λ (items : List LogRow). HasCut c.args.tests c.args.bytes.now c.in-Some.rest.now items) (sym c.new-log.ensures.items)
          (cut_titles c.args.tests c.args.bytes.now c.in-Some.rest.now
          (behind_start (codes "test,time,result\n") c.args.bytes.now c.in-Some.rest.now begins.0 begins.1));
    }

pub loop-rest-preserved : goal.loop-rest-preserved
loop-rest-preserved c =
    let row = c.in-Some-bare_row.row in
    let cut = c.in-Some-bare_row.ensures in record {
      has = subst (λ (items : List LogRow). HasCut c.args.tests c.args.bytes.now row.behind.now items) (sym c.in_ok-push.ensures.items)
          (cut_more c.args.tests c.args.bytes.now c.loop-rest.rest.now c.loop-rest.log.items c.loop-rest.invariant.has
          row.test.now row.time.now row.result.now row.behind.now c.in-Ok.said cut.row cut.test cut.time cut.result c.in-Ok.ensures);
    }

pub returns : goal.returns
returns c =
    cut_all c.args.tests c.args.bytes.now c.loop-rest.rest.now c.loop-rest.log.items c.loop-rest.invariant.has
    (eqb-true _ _ (sym c.is_empty.ensures ∙ c.loop-rest-test.false))
