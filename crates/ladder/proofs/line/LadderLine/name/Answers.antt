-- A letter and a number of 32 bits make a name.
use Rattle.std.proofs.Common.{◌≡◌, rules, sym, subst, arith}
use Rattle.netlist.specs.Names.{IsName}
use Rattle.ladder.specs.Ladder.{ladder_name}
use Rattle.ladder.proofs.Names.{ladder_name_is}
use Rattle.ladder.proofs.line.LadderLine.name.Goals as goal

pub returns-clause-lawful : goal.returns-clause-lawful
returns-clause-lawful c =
    let bytes : c.push_decimal.new.out.items ≡ ladder_name c.args.self.letter c.args.self.stage = search rules in
    subst IsName (sym bytes) (ladder_name_is c.args.self.letter c.args.self.stage (omega arith))
