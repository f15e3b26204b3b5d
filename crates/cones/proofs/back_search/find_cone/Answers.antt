-- What stands behind the one end is its support.
use Rattle.cones.proofs.Spreading.{behind_one}
use Rattle.cones.proofs.back_search.find_cone.Goals as goal

pub returns-clause-exactly : goal.returns-clause-exactly
returns-clause-exactly c = λ line.
    let both = behind_one c.args.net.now c.args.links.now c.args.end line in
    let found = c.find_back.ensures.exactly line in (
      λ has. both.0 (found.0 has),
      λ supported. found.1 (both.1 supported),
    )
