-- Texts that csv writes as they are, without quotes (this project's own words for csv's rule).
use Rattle.std.specs.Prelude.{◌≢◌, ℕ, List, All}
use Rattle.netlist.specs.Circuit.{Circuit, line_names}
use Rattle.runs.specs.declared.run.ListedPath.{ListedPath}
use Rattle.runs.specs.Lawful.{IsLawfulReport}
use Rattle.text_pieces.specs.Tokens.{comma, line_feed}

-- the byte of a double quote
abbrev pub double_quote : ℕ
double_quote = 34

-- the byte CR
abbrev pub carriage_return : ℕ
carriage_return = 13

-- not a comma, a double quote, CR or LF
pub record IsPlainByte (byte : ℕ) : Type 0 where
  pub no_comma : byte ≢ comma
  pub no_quote : byte ≢ double_quote
  pub no_return : byte ≢ carriage_return
  pub no_feed : byte ≢ line_feed

-- a text that calls for no quotes
abbrev pub IsPlain : List ℕ → Type 0
IsPlain text = All IsPlainByte text

-- no line's name calls for quotes
abbrev pub HasPlainNames : Circuit → Type 0
HasPlainNames c = All IsPlain (line_names c)

-- a report of this circuit that is lawful, and calls for no quotes
pub record IsPlainReport (c : Circuit) (paths : List ListedPath) : Type 0 where
  pub lawful : IsLawfulReport c paths
  pub names : HasPlainNames c
