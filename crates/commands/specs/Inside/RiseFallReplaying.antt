-- What the functions of `rfreplay` take and find (this project's own).
use Rattle.std.specs.Prelude.{◌≤◌, All}
use Rattle.delay_annotation.specs.RiseFall.{BothFit, rise_fall_of}
use Rattle.runs.specs.Lawful.{IsNameable}
use Rattle.command_line.specs.declared.time.TheConstants.{MOST_TIME}
use Rattle.commands.specs.RiseFallReplayText.{RiseFallSampling}
use Rattle.commands.specs.TestChanges.{PairWaves}
use Rattle.commands.specs.declared.rise_fall_replay.sampling.Sampling.{Sampling}
use Rattle.rise_fall.specs.Waves.{rise_fall_wave}

-- what tests are replayed with, as contracts see it
abbrev pub sampling_of : Sampling → RiseFallSampling
sampling_of at = record {
  circuit = at.net.now;
  delays = rise_fall_of at.net.now at.delays.now;
  paths = at.paths.now;
  time = at.time;
}

-- the waves that a pair gives the lines
abbrev pub sampled_waves : Sampling → PairWaves
sampled_waves at pair = rise_fall_wave at.net.now pair (rise_fall_of at.net.now at.delays.now)

-- both delays of each pin are there, the listed paths can be named in a report, and the time is one that words may ask for
pub record CanSample (at : Sampling) : Type 0 where
  pub fits : BothFit at.net.now at.delays.now
  pub nameable : All (λ listed. IsNameable at.net.now listed.path) at.paths.now
  pub small_time : at.time ≤ MOST_TIME
