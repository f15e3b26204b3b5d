-- What is left where the start is stripped is what the text spells behind it.
use Rattle.text_pieces.proofs.Starts.{start_stripped}
use Rattle.text_pieces.proofs.cutting.text_behind.Goals as goal

pub returns : goal.returns
returns c = start_stripped c.args.start.now c.args.text.now c.strip_prefix.result c.strip_prefix.ensures.cases
