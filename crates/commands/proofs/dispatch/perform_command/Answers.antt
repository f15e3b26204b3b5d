-- The work of the command is that of its case.
use Rattle.pd_io.specs.Seen.{files_seen}
use Rattle.commands.proofs.dispatch.perform_command.Goals as goal

pub returns-in-Gen : goal.returns-in-Gen
returns-in-Gen g c = rw c.in-Gen.is c.generate.ensures

pub returns-in-Check : goal.returns-in-Check
returns-in-Check g c = rw c.in-Check.is c.check.ensures

pub returns-in-Replay : goal.returns-in-Replay
returns-in-Replay g c = rw c.in-Replay.is c.replay.ensures

pub returns-in-RiseFallReplay : goal.returns-in-RiseFallReplay
returns-in-RiseFallReplay g c = rw c.in-RiseFallReplay.is c.rise_fall_replay.ensures

pub returns-in-Compact : goal.returns-in-Compact
returns-in-Compact g c = rw c.in-Compact.is c.compact.ensures

pub returns-in-Bounds : goal.returns-in-Bounds
returns-in-Bounds g c = rw c.in-Bounds.is c.bounds.ensures

pub returns-in-Make : goal.returns-in-Make
returns-in-Make g c = rw c.in-Make.is (c.make.ensures (files_seen g.F.Files c.args.files.now))

pub returns-in-Scan : goal.returns-in-Scan
returns-in-Scan g c = rw c.in-Scan.is c.scan.ensures
