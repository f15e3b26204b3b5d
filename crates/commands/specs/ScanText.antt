-- The text that `scan` prints: for each test the bits that are shifted into each chain (this project's own format).
use Rattle.std.specs.Prelude.{ℕ, List, ◌++◌, decimal, flat_map}
use Rattle.pd_base.specs.Pair.{Vectors}
use Rattle.pd_base.specs.declared.ids.LineId.{LineId}
use Rattle.pd_base.specs.declared.test.Test.{Test}
use Rattle.scan_load.specs.Shifting.{load_bits}
use Rattle.text_pieces.specs.Tokens.{after_space, digits, line}
use Rattle.commands.specs.ReplayText.{numbered_lines}

-- the bits for a pair, chain by chain, each behind a space
abbrev pub load_words : List (List LineId) → Vectors → List ℕ
load_words chains pair = flat_map (λ chain. after_space (digits (load_bits chain pair))) chains

-- the line of a test: its number, and the bits for its pair
abbrev pub load_line : List (List LineId) → ℕ → Test → List ℕ
load_line chains number test = line (decimal number ++ load_words chains test.pair)

-- the lines of all tests, numbered from 1
abbrev pub load_text : List (List LineId) → List Test → List ℕ
load_text chains tests = numbered_lines (load_line chains) 1 tests
