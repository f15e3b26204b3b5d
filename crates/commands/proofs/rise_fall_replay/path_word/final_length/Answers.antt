-- The values of all lines are those under the second vector.
use Rattle.std.proofs.Common.{◌∙◌, arith}
use Rattle.commands.proofs.rise_fall_replay.path_word.final_length.Goals as goal

pub returns : goal.returns
returns c test under =
    c.length_rise_fall.ensures.length test.pair.second
    (record {
      one_each = omega arith;
      each = λ line within. c.final_values.ensures line (omega arith) ∙ under.values.each line within;
    })
