use Rattle.std.proofs.Common.{◌<◌, length}
use Rattle.netlist.specs.Circuit.{line_count}
use Rattle.netlist.specs.Pins.{IsPin}
use Rattle.text_pieces.specs.Cuts.{words_left, words_of}
use Rattle.text_pieces.proofs.Listing.{IsListed}
use Rattle.run_files.specs.ReportText.{step_text}
use Rattle.run_files.proofs.report_paths.read_steps.Given as goal

-- the words spell the steps so far, and then those of the words left
abbrev pub invariant-loop-word : goal.invariant-loop-word
invariant-loop-word l = record {
  listed : IsListed (step_text l.net) (IsPin l.net) (words_of l.fn.field) l.steps.items (words_left l.rest);
  there : l.line.0 < line_count l.net;
}

abbrev pub decreases-loop-word : goal.decreases-loop-word
decreases-loop-word l = length (words_left l.rest)
