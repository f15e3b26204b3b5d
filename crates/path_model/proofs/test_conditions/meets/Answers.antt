-- What a test shows is what the laws of the paths say of a pair that meets the conditions.
use Rattle.std.proofs.Common.{subst, rules}
use Rattle.pd_base.specs.Target.{target_of}
use Rattle.netlist.specs.Conditions.{Meets}
use Rattle.path_laws.proofs.Prefixes.{prefix_meets}
use Rattle.path_laws.proofs.RobustPath.{robust_holds_back, robust_detects}
use Rattle.path_laws.proofs.NonrobustPath.{test_is_nonrobust, nonrobust_detects, nonrobust_detects_along}
use Rattle.path_model.proofs.test_conditions.meets.Goals as goal

pub returns-clause-meets : goal.returns-clause-meets
returns-clause-meets c = search rules

pub returns-clause-robust_is_nonrobust : goal.returns-clause-robust_is_nonrobust
returns-clause-robust_is_nonrobust c is =
    test_is_nonrobust c.args.kind c.args.net.now c.args.path.now c.args.dir c.args.pair.now
    ((returns-clause-meets c).0 is)

-- under delays of 0 as under all others
pub returns-clause-prefixes_change : goal.returns-clause-prefixes_change
returns-clause-prefixes_change c is robust prefix of =
    let net = c.args.net.now in
    let path = c.args.path.now in
    let pair = c.args.pair.now in
    let holds = robust_holds_back net c.sources.ensures.circuit path c.args.dir pair c.requires.prefix
    (subst (λ kind. Meets net (target_of path c.args.dir kind) pair) robust ((returns-clause-meets c).0 is)) in
    (holds (λ pin. 0) prefix of).differs

pub returns-clause-prefixes_hold_back : goal.returns-clause-prefixes_hold_back
returns-clause-prefixes_hold_back c is robust delays prefix of =
    let net = c.args.net.now in
    let path = c.args.path.now in
    let pair = c.args.pair.now in
    let holds = robust_holds_back net c.sources.ensures.circuit path c.args.dir pair c.requires.prefix
    (subst (λ kind. Meets net (target_of path c.args.dir kind) pair) robust ((returns-clause-meets c).0 is)) in
    (holds delays prefix of).unchanged

pub returns-clause-late_is_wrong : goal.returns-clause-late_is_wrong
returns-clause-late_is_wrong c is robust =
    let net = c.args.net.now in
    let path = c.args.path.now in
    let pair = c.args.pair.now in
    robust_detects net c.sources.ensures.circuit path c.args.dir pair c.requires.prefix
    (subst (λ kind. Meets net (target_of path c.args.dir kind) pair) robust ((returns-clause-meets c).0 is))

pub returns-clause-late_is_wrong_where_settled : goal.returns-clause-late_is_wrong_where_settled
returns-clause-late_is_wrong_where_settled c is =
    nonrobust_detects c.args.net.now c.sources.ensures.circuit c.args.path.now c.args.dir c.args.pair.now c.requires.prefix
    (returns-clause-robust_is_nonrobust c is)

pub returns-clause-wrong_along_where_settled : goal.returns-clause-wrong_along_where_settled
returns-clause-wrong_along_where_settled c is =
    nonrobust_detects_along c.args.net.now c.sources.ensures.circuit c.args.path.now c.args.dir c.args.pair.now
    c.requires.prefix (returns-clause-robust_is_nonrobust c is)

pub returns-clause-prefix_meets : goal.returns-clause-prefix_meets
returns-clause-prefix_meets c is prefix of =
    prefix_meets c.args.net.now prefix c.args.path.now of c.args.kind c.args.dir c.args.pair.now
    ((returns-clause-meets c).0 is)
