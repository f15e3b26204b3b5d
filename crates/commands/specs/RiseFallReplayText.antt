-- The text that `rfreplay` prints: for each test what `replay` says of it, where each pin has a rise and a fall delay, and then whether the
-- path that the test is for is late at the time of sampling (this project's own format). How long a path is, is told by the values to which
-- its lines go: a step counts its pin's rise delay where the pin's line ends at 1, and else its fall delay.
use Rattle.std.specs.Prelude.{◌≡◌, ℕ, ◌<◌, ◌≤◌, pos, Bool, List, ◌++◌, codes, map, Some, slice_get, All}
use Rattle.pd_base.specs.declared.fault.Direction.{Direction}
use Rattle.pd_base.specs.declared.fault.Kind.TheVariants.{Robust}
use Rattle.pd_base.specs.declared.test.Test.{Test}
use Rattle.pd_base.specs.Route.{Route}
use Rattle.pd_base.specs.Target.{target_of}
use Rattle.netlist.specs.Circuit.{Circuit, observed_lines}
use Rattle.netlist.specs.Conditions.{Meets}
use Rattle.netlist.specs.Paths.{IsPath, IsPrefix, end_of}
use Rattle.netlist.specs.Values.{value}
use Rattle.delay_replay.specs.Settling.{observed_under}
use Rattle.rise_fall.specs.Showing.{IsLateAt}
use Rattle.rise_fall.specs.Waves.{DetectsRiseFall, RiseFallDelays, final_length, rise_fall_wave}
use Rattle.runs.specs.declared.run.ListedPath.{ListedPath}
use Rattle.good_runs.specs.Faults.{IsNumber}
use Rattle.text_pieces.specs.Tokens.{after_space, line}
use Rattle.commands.specs.ReplayText.{agreement_word, numbered_lines, sample_words}
use Rattle.commands.specs.declared.rise_fall_replay.path_word.PathWord.{PathWord}
use Rattle.commands.specs.declared.rise_fall_replay.path_word.PathWord.TheVariants.{Late, Met, NotRobust}

-- what tests are replayed with: a circuit, the rise and fall delays of its pins, the listed paths, and the time of sampling
pub record RiseFallSampling : Type 0 where
  pub circuit : Circuit
  pub delays : RiseFallDelays
  pub paths : List ListedPath
  pub time : ℕ

-- The path that is listed under the number of a test is one of the circuit, and the test's pair meets the robust conditions for it and the
-- test's transition. Of which kind the test is said to be doesn't matter.
pub record IsRobustFor (at : RiseFallSampling) (test : Test) (listed : ListedPath) : Type 0 where
  pub is_listed : IsNumber at.paths test.path listed
  pub is_path : IsPath at.circuit listed.path
  pub meets : Meets at.circuit (target_of listed.path test.dir Robust) test.pair

-- how long a listed path is for the values to which its lines go under the pair of a test
abbrev pub length_under : RiseFallSampling → Test → ListedPath → ℕ
length_under at test listed = final_length at.delays at.circuit test.pair.second listed.path

-- this holds of the listed path of a test, for which it is a robust one, and of that path's length for the values to which its lines go
pub record HasPathLength (at : RiseFallSampling) (test : Test) (Holds : ℕ → Type 0) : Type 0 where
  pub listed : ListedPath
  pub robust : IsRobustFor at test listed
  pub holds : Holds (length_under at test listed)

-- the word on a test: its path is late, or isn't, or it is a robust test for no listed path
abbrev pub IsWordOn : RiseFallSampling → Test → PathWord → Type 0
IsWordOn at test Late = HasPathLength at test (λ length. at.time < length)
IsWordOn at test Met = HasPathLength at test (λ length. length ≤ at.time)
IsWordOn at test NotRobust = (listed : ListedPath) → ¬ IsRobustFor at test listed

-- how it is spelled
abbrev pub path_word : PathWord → List ℕ
path_word Late = codes "late"
path_word Met = codes "met"
path_word NotRobust = codes "none"

-- a test, and the word on it
pub record JudgedTest : Type 0 where
  pub test : Test
  pub word : PathWord

-- what the observed lines have at the time of sampling under the pair of a test
abbrev pub samples_of : RiseFallSampling → Test → List Bool
samples_of at test = observed_under at.circuit (rise_fall_wave at.circuit test.pair at.delays) (pos at.time)

-- the line of a test: what every replay says of it, and the word on it
abbrev pub judged_line : RiseFallSampling → ℕ → JudgedTest → List ℕ
judged_line at number judged =
    line (sample_words number (samples_of at judged.test) judged.test.expected ++ after_space (path_word judged.word))

-- the text has one line for each of the tests, numbered from 1, with the word on it
pub record IsRiseFallText (at : RiseFallSampling) (tests : List Test) (text : List ℕ) : Type 0 where
  pub judged : List JudgedTest
  pub of_tests : map (λ own. own.test) judged ≡ tests
  pub words : All (λ own. IsWordOn at own.test own.word) judged
  pub is_text : text ≡ numbered_lines (judged_line at) 1 judged

-- A line that says `late` is right: what is sampled at the end of the test's path isn't the value to which the second vector leads, and
-- where the test expects that value there, the line says `differs`.
pub record IsShownLate (at : RiseFallSampling) (test : Test) : Type 0 where
  pub listed : ListedPath
  pub robust : IsRobustFor at test listed
  pub wrong : IsLateAt at.circuit test.pair at.delays listed.path (pos at.time)
  pub differs : (place : ℕ) → slice_get (observed_lines at.circuit) place ≡ Some (record { 0 = end_of at.circuit listed.path })
      → slice_get test.expected place ≡ Some (value at.circuit test.pair.second (end_of at.circuit listed.path))
      → agreement_word (samples_of at test) test.expected ≡ codes "differs"

-- What a line promises: where it says `late`, that; and each path for which the test's pair meets the robust conditions is shown late by it,
-- under whatever rise and fall delays of the pins, at each time below the path's length for the final values.
pub record KeepsLatePromises (at : RiseFallSampling) (own : JudgedTest) : Type 0 where
  pub shown : own.word ≡ Late → IsShownLate at own.test
  pub always : (path : Route) (direction : Direction) → IsPrefix at.circuit path → Meets at.circuit (target_of path direction Robust) own.test.pair
      → DetectsRiseFall at.circuit path own.test.pair
