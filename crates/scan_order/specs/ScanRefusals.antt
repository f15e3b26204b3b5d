-- Why a text is refused as a scan file: at the first line that fails, or else for the first flip-flop that stands nowhere (this project's
-- own format).
use Rattle.std.specs.Prelude.{◌≡◌, ◌≢◌, ⊤, ℕ, ◌+◌, ◌<◌, List, [], ◌∷◌, ◌++◌, length, All, Contains, None}
use Rattle.pd_base.specs.Memory.{out_of_memory}
use Rattle.pd_base.specs.declared.ids.LineId.{LineId}
use Rattle.netlist.specs.Circuit.{Circuit, line_count}
use Rattle.netlist.specs.Names.{name_at}
use Rattle.text_pieces.specs.Cuts.{Lacks}
use Rattle.text_pieces.specs.Reads.{Reads}
use Rattle.text_pieces.specs.Tokens.{line, line_feed}
use Rattle.scan_order.specs.Chains.{AreChainsOf, IsFlop, flop_lines}
use Rattle.scan_order.specs.ScanFile.{scan_text, text_of_lines}
use Rattle.scan_order.specs.declared.scan_fault.ScanFault.{ScanFault}
use Rattle.scan_order.specs.declared.scan_fault.ScanFault.TheVariants as fault

-- An empty line parts no two chains where it stands between these lines and this text: it is the first line, it stands right behind an
-- empty one, or it is the last.
pub data IsMisplaced (before : List (List ℕ)) (behind : List ℕ) : Type 0 where
  first : before ≡ [] → IsMisplaced before behind
  behind_empty : (others : List (List ℕ)) → before ≡ others ++ [] ∷ [] → IsMisplaced before behind
  last : behind ≡ [] → IsMisplaced before behind

-- Behind these lines the text goes on with a line that passes: a flip-flop's name that is none of them, or an empty line that parts two
-- chains.
pub data LinePasses (c : Circuit) (before : List (List ℕ)) (text : List ℕ) : Type 0 where
  names : (flop : LineId) (behind : List ℕ) → IsFlop c flop → text ≡ line (name_at c flop.0) ++ behind
      → ¬ Contains before (name_at c flop.0) → LinePasses c before text
  parts : (behind : List ℕ) → text ≡ line [] ++ behind → ¬ IsMisplaced before behind → LinePasses c before text

-- Behind these lines the text goes on, and with neither a flip-flop's name nor an empty line that parts two chains. Bytes without an LF
-- behind them count as a line, and are neither.
pub record IsUnknownLine (c : Circuit) (before : List (List ℕ)) (text : List ℕ) : Type 0 where
  pub goes_on : text ≢ []
  pub no_name : (flop : LineId) (behind : List ℕ) → IsFlop c flop → text ≢ line (name_at c flop.0) ++ behind
  pub no_parting : (behind : List ℕ) → text ≡ line [] ++ behind → IsMisplaced before behind

-- behind these lines the text goes on with the name of a flip-flop that is one of them
pub record IsRepeatedLine (c : Circuit) (before : List (List ℕ)) (text : List ℕ) : Type 0 where
  pub flop : LineId
  pub behind : List ℕ
  pub is_flop : IsFlop c flop
  pub named : text ≡ line (name_at c flop.0) ++ behind
  pub stood : Contains before (name_at c flop.0)

-- this is the first flip-flop of the circuit whose name is none of the lines
pub record IsMissingFlop (c : Circuit) (lines : List (List ℕ)) (flop : LineId) : Type 0 where
  pub before : List LineId
  pub behind : List LineId
  pub place : flop_lines c ≡ before ++ flop ∷ behind
  pub others : All (λ other. Contains lines (name_at c other.0)) before
  pub nowhere : ¬ Contains lines (name_at c flop.0)

-- the text begins with these lines, each of which passes behind those before it, and then goes on with the rest
pub record HavePassed (c : Circuit) (text : List ℕ) (lines : List (List ℕ)) (rest : List ℕ) : Type 0 where
  pub whole : text ≡ text_of_lines lines ++ rest
  pub lines_alone : All (Lacks line_feed) lines
  pub each : (before : List (List ℕ)) (said : List ℕ) (others : List (List ℕ)) → lines ≡ before ++ said ∷ others
      → LinePasses c before (text_of_lines (said ∷ others) ++ rest)

-- The text fails so: the lines before some line pass, and that one is unknown, or stands a second time; or all lines pass, and a flip-flop
-- is missing.
pub data FailsAs (c : Circuit) (text : List ℕ) : ScanFault → Type 0 where
  unknown : (lines : List (List ℕ)) (rest : List ℕ) → HavePassed c text lines rest → IsUnknownLine c lines rest
      → FailsAs c text (fault.Unknown (length lines + 1))
  twice : (lines : List (List ℕ)) (rest : List ℕ) → HavePassed c text lines rest → IsRepeatedLine c lines rest
      → FailsAs c text (fault.Twice (length lines + 1))
  missing : (lines : List (List ℕ)) (flop : LineId) → HavePassed c text lines [] → IsMissingFlop c lines flop
      → FailsAs c text (fault.Missing flop)

-- Why the text is refused: it fails so, and no chains of the circuit have it as their file; or, with no claim on it, memory ran out.
pub data RefusesScan (c : Circuit) (text : List ℕ) (why : ScanFault) : Type 0 where
  fails : FailsAs c text why → Reads (scan_text c) (AreChainsOf c) text None → RefusesScan c text why
  no_memory : why ≡ fault.NoMemory out_of_memory → RefusesScan c text why

-- a fault names a line of the circuit, if it names a flip-flop
abbrev pub NamesFlop : Circuit → ScanFault → Type 0
NamesFlop c (fault.Missing flop) = flop.0 < line_count c
NamesFlop c why = ⊤
