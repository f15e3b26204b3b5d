-- What is kept for the proof is its number; or there is none, and it gets the next.
use Rattle.std.proofs.Common.{sym, arith}
use Rattle.prefix_sensitize.proofs.Citing.{cites_again, cites_first, kept_on}
use Rattle.prefix_sensitize.proofs.numbering.Numbering.cite.Goals as goal

pub returns-in-Some-clause-cites : goal.returns-in-Some-clause-cites
returns-in-Some-clause-cites c =
    cites_again c.args.self.now c.self.inside.cited.items c.self.inside.numbers.items (sym c.self.view_is) c.args.index c.requires.found
    c.self.invariant c.index.result.now c.index.ensures c.in-Some.number (sym c.in-Some.is)

pub invariant_of-self-in-None : goal.invariant_of-self-in-None
invariant_of-self-in-None c =
    kept_on c.args.self.now c.self.inside.cited.items c.self.inside.numbers.items (sym c.self.view_is) c.args.index c.requires.found
    c.self.invariant c.index.result.now c.index.ensures (sym c.in-None.is) c.push.new.self.items c.in_ok-push-in-None.ensures.items
    c.len-number.result (omega (arith, c.len-number.ensures))

pub returns-in_ok-push-in-None-clause-cites : goal.returns-in_ok-push-in-None-clause-cites
returns-in_ok-push-in-None-clause-cites c =
    cites_first c.args.self.now c.self.inside.cited.items c.self.inside.numbers.items (sym c.self.view_is) c.args.index c.requires.found
    c.self.invariant c.index.result.now c.index.ensures (sym c.in-None.is) c.push.new.self.items c.in_ok-push-in-None.ensures.items
    c.len-number.result (omega (arith, c.len-number.ensures))
