use Rattle.netlist.specs.LinkedPairs.{AreLinksOf}
use Rattle.row_answers.proofs.rules.pairs_of.Given as goal

-- the links so far are links of the circuit
abbrev pub invariant-loop-part : goal.invariant-loop-part
invariant-loop-part l = AreLinksOf l.net l.pairs.items
