-- A line is a head where it is a numbered path, and a transition and a kind behind it.
use Rattle.text_pieces.specs.Cuts.{words_left, words_of}
use Rattle.run_files.proofs.TestHeads.{no_kinds, no_path, one_head}
use Rattle.run_files.proofs.test_line.read_head.Goals as goal

pub returns-in_err-path : goal.returns-in_err-path
returns-in_err-path c = rw c.from_residual.ensures (no_path c.args.number (words_of c.args.line.now) c.in_err-path.ensures)

pub returns-in_err-dir : goal.returns-in_err-dir
returns-in_err-dir c =
    rw c.from_residual-in_err-dir.ensures
    (no_kinds c.args.number (words_of c.args.line.now) c.in_ok-path.path (words_left c.in_ok-path.left) c.in_ok-path.ensures
    c.in_err-dir.ensures)

pub returns : goal.returns
returns c =
    one_head c.args.number (words_of c.args.line.now) c.in_ok-path.path (words_left c.in_ok-path.left) c.in_ok-path.ensures
    (c.in_ok-dir.dir, c.in_ok-dir.kind, words_left c.in_ok-dir.left) c.in_ok-dir.ensures
