-- The judge is made for the end of the path.
use Rattle.refutation_check.proofs.Checking.{told_at_end}
use Rattle.refutation_check.proofs.single.spends_with.Goals as goal

pub check_spent-told-requires-clause-told : goal.check_spent-told-requires-clause-told
check_spent-told-requires-clause-told g c =
    told_at_end c.in_ok-judge.judge c.args.net.now c.args.rules.now c.end_of.result c.args.target.now.path.now c.in_ok-judge.ensures
    c.end_of.ensures.end
