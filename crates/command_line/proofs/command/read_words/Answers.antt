-- The first word is a command's own, and those behind it are read by the command's form.
use Rattle.command_line.proofs.Asking.{first_and_later}
use Rattle.command_line.proofs.command.read_words.Goals as goal

pub read_run-requires : goal.read_run-requires
read_run-requires c = first_and_later c.args.words.now c.in-len1-up.len_at_least

pub read_run-requires-then-eq-2 : goal.read_run-requires-then-eq-2
read_run-requires-then-eq-2 c = first_and_later c.args.words.now c.in-len1-up.len_at_least

pub read_replay-requires : goal.read_replay-requires
read_replay-requires c = first_and_later c.args.words.now c.in-len1-up.len_at_least

pub read_make-requires : goal.read_make-requires
read_make-requires c = first_and_later c.args.words.now c.in-len1-up.len_at_least

pub read_rise_fall_replay-requires : goal.read_rise_fall_replay-requires
read_rise_fall_replay-requires c = first_and_later c.args.words.now c.in-len1-up.len_at_least

pub read_compact-requires : goal.read_compact-requires
read_compact-requires c = first_and_later c.args.words.now c.in-len1-up.len_at_least

pub read_bounds-requires : goal.read_bounds-requires
read_bounds-requires c = first_and_later c.args.words.now c.in-len1-up.len_at_least

pub read_scan-requires : goal.read_scan-requires
read_scan-requires c = first_and_later c.args.words.now c.in-len1-up.len_at_least
