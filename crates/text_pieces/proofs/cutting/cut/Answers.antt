use Rattle.std.proofs.lemmas.List.{take_rest}
use Rattle.text_pieces.proofs.Cuts.{cut_at_first, lacks_all, lacks_first, one_piece}
use Rattle.text_pieces.proofs.cutting.cut.Goals as goal

pub returns-in-Some-clause-pieces : goal.returns-in-Some-clause-pieces
returns-in-Some-clause-pieces c = rw take_rest (cut_at_first c.args.byte c.args.text.now c.in-Some.index c.in-Some.ensures)

pub returns-in-Some-clause-lacks : goal.returns-in-Some-clause-lacks
returns-in-Some-clause-lacks c = lacks_first c.args.byte c.args.text.now c.in-Some.index c.in-Some.ensures

pub returns-in-None-clause-pieces : goal.returns-in-None-clause-pieces
returns-in-None-clause-pieces c = one_piece c.args.byte c.args.text.now (lacks_all c.args.byte c.args.text.now c.in-None.ensures)

pub returns-in-None-clause-lacks : goal.returns-in-None-clause-lacks
returns-in-None-clause-lacks c = lacks_all c.args.byte c.args.text.now c.in-None.ensures
