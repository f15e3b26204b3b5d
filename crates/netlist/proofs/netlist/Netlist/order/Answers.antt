use Rattle.std.proofs.Common.{subst, sym}
use Rattle.netlist.specs.Levels.{ReadsEarlier}
use Rattle.netlist.proofs.RankOrder.{reads_earlier}
use Rattle.netlist.proofs.StoredLists.{stored_of}
use Rattle.netlist.proofs.netlist.Netlist.order.Goals as goal

-- in the order that is stored each gate reads sources and earlier gates
pub returns-clause-reads : goal.returns-clause-reads
returns-clause-reads c =
    let stored = stored_of c.self.invariant c.self.view_is in
    subst (ReadsEarlier c.args.self.now) (sym c.as_slice.ensures.value)
    (reads_earlier c.args.self.now stored.circuit _ stored.order)
