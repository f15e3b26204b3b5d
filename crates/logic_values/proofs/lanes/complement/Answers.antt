-- Each bit turns.
use Rattle.logic_values.proofs.LaneBits.{lane_of-not}
use Rattle.logic_values.proofs.lanes.complement.Goals as goal

pub returns : goal.returns
returns c lane within = lane_of-not c.args.word lane c.ranges.word.fits within
