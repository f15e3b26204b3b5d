-- Names of lines (ISCAS .bench: lines are known by name).
use Rattle.std.specs.Prelude.{◌≡◌, ◌≢◌, ℕ, ◌<◌, ◌≤◌, List, [], map, length, slice_index_or, All, Contains}
use Rattle.std.specs.Cmp.Lexicographic.{slice_cmp}
use Rattle.std.specs.List.Sorted.{IsSortedByKey}
use Rattle.std.specs.Ordering.{nat_cmp}
use Rattle.std.specs.declared.cmp.Ordering.{Ordering}
use Rattle.pd_base.specs.declared.ids.LineId.{LineId}
use Rattle.netlist.specs.declared.limits.TheConstants.{MOST_NAME_BYTES}
use Rattle.netlist.specs.Circuit.{Circuit, line_names}
use Rattle.netlist.specs.Greatest.{greatest}

-- a byte that a name may have: 33 to 126, but the double quote and those with a meaning of their own
pub record IsNameByte (byte : ℕ) : Type 0 where
  pub above_space : 32 < byte
  pub below_delete : byte < 127
  pub no_quote : byte ≢ 34
  pub no_hash : byte ≢ 35
  pub no_open : byte ≢ 40
  pub no_close : byte ≢ 41
  pub no_comma : byte ≢ 44
  pub no_equals : byte ≢ 61

-- a name: 1 to 255 such bytes
pub record IsName (name : List ℕ) : Type 0 where
  pub some_byte : 1 ≤ length name
  pub few_bytes : length name ≤ MOST_NAME_BYTES
  pub bytes : All IsNameByte name

-- the name of a line
abbrev pub name_at : Circuit → ℕ → List ℕ
name_at c line = slice_index_or (line_names c) line []

-- the length of the longest name, 0 where there are no lines
abbrev pub longest_name : Circuit → ℕ
longest_name c = greatest (map length (line_names c))

-- how a line's name compares with this name, byte by byte, where the lines are named so; a line past the last has no bytes
abbrev pub compared : List (List ℕ) → List ℕ → LineId → Ordering
compared names name line = slice_cmp nat_cmp (slice_index_or names line.0 []) name

-- the lines of a circuit whose lines are named so, each once, in the order of their names' bytes
pub record IsByName (names : List (List ℕ)) (lines : List LineId) : Type 0 where
  pub sorted : IsSortedByKey (λ line. slice_index_or names line.0 []) (slice_cmp nat_cmp) lines
  pub one_each : length lines ≡ length names
  pub in_range : All (λ line. line.0 < length names) lines
  pub whole : (line : ℕ) → line < length names → Contains lines (record { 0 = line })
