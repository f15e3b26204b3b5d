-- The text that `replay` prints: for each test what its observed lines have at a time, and whether these are the bits that it expects
-- (this project's own format).
use Rattle.std.specs.Prelude.{ℕ, ◌+◌, ℤ, Bool, List, [], ◌∷◌, ◌++◌, codes, decimal, if◌then◌else◌}
use Rattle.std.specs.Bool.{beq}
use Rattle.std.specs.Cmp.Lexicographic.{pointwise}
use Rattle.pd_base.specs.declared.test.Test.{Test}
use Rattle.netlist.specs.Circuit.{Circuit}
use Rattle.netlist.specs.Waves.{Delays}
use Rattle.delay_replay.specs.Settling.{observed_at}
use Rattle.text_pieces.specs.Tokens.{after_space, digits, line}

-- `same` where the bits are those that are expected, else `differs`
abbrev pub agreement_word : List Bool → List Bool → List ℕ
agreement_word sampled expected = if pointwise beq sampled expected then codes "same" else codes "differs"

-- what every replay says of a test: its number, the bits that were sampled, and whether they are the expected ones
abbrev pub sample_words : ℕ → List Bool → List Bool → List ℕ
sample_words number sampled expected =
    decimal number ++ after_space (digits sampled) ++ after_space (agreement_word sampled expected)

-- the line of a test whose observed lines are sampled at a time, under its pair and these delays
abbrev pub replayed_line : Circuit → Delays → ℤ → ℕ → Test → List ℕ
replayed_line c delays time number test = line (sample_words number (observed_at c test.pair delays time) test.expected)

-- the lines of items that are numbered on from this number
abbrev pub numbered_lines : {A : Type 0} → (ℕ → A → List ℕ) → ℕ → List A → List ℕ
numbered_lines line_for number [] = []
numbered_lines line_for number (item ∷ items) = line_for number item ++ numbered_lines line_for (number + 1) items

-- the lines of tests that are numbered on from this number
abbrev pub replayed_lines : Circuit → Delays → ℤ → ℕ → List Test → List ℕ
replayed_lines c delays time = numbered_lines (replayed_line c delays time)

-- the lines of all tests, numbered from 1
abbrev pub replay_text : Circuit → Delays → List Test → ℤ → List ℕ
replay_text c delays tests time = replayed_lines c delays time 1 tests
