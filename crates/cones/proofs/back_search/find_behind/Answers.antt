-- What the gate reads was found, and then the one line to which it may be linked.
use Rattle.cones.proofs.Spreading.{finds_linked, finds_unlinked}
use Rattle.cones.proofs.back_search.find_behind.Goals as goal

pub returns-in-Some : goal.returns-in-Some
returns-in-Some c =
    finds_linked c.args.net.now c.args.links.now c.args.line.0 c.in-Some.other c.args.found.now c.find_reads.new.found c.add.new.self
    c.in-Some.ensures.linked c.in-Some.ensures.alone c.find_reads.ensures c.add.ensures

pub returns-in_default : goal.returns-in_default
returns-in_default c =
    finds_unlinked c.args.net.now c.args.links.now c.args.line.0 c.args.found.now c.find_reads.new.found c.in_default.ensures.free
    c.find_reads.ensures
