use Rattle.std.proofs.Common.{subst, sym, arith}
use Rattle.netlist.specs.Pins.{IsFanout}
use Rattle.netlist.proofs.StoredLists.{stored_of}
use Rattle.netlist.proofs.netlist.Netlist.fanout.Goals as goal

-- there is a fan-out for each line
pub list-requires : goal.list-requires
list-requires c =
    let stored = stored_of c.self.invariant c.self.view_is in
    omega (arith, c.requires, stored.fanouts.one_each)

-- the list that is given is the fan-out of the line
pub returns : goal.returns
returns c =
    let stored = stored_of c.self.invariant c.self.view_is in
    subst (IsFanout c.args.self.now c.args.line.0) (sym c.list.ensures) (stored.fanouts.each c.args.line.0 c.requires)
