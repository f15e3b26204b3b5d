-- The statements of a text, or why it is refused (ISCAS .bench).
use Rattle.std.specs.Prelude.{◌≡◌, ⊤, ℕ, ◌+◌, List, [], ◌∷◌, ◌++◌, Some, None, Result, Ok, Err}
use Rattle.netlist.specs.Statements.{Numbered, numbered}
use Rattle.bench_reader.specs.declared.line_fault.LineFault.{LineFault}
use Rattle.bench_reader.specs.declared.line_fault.LineFault.TheVariants as line
use Rattle.bench_reader.specs.Statements.{Reading, line_reading}
use Rattle.bench_reader.specs.declared.fault.BenchFault.{BenchFault}
use Rattle.bench_reader.specs.declared.fault.BenchFault.TheVariants.{BadByte, NameTooLong, Syntax, UnknownKind, FanIn, NoMemory}
use Rattle.bench_reader.specs.Lines.{lines_of}

-- a line's fault, with the number of the line
abbrev pub at_line : LineFault → ℕ → BenchFault
at_line line.BadByte number = BadByte number
at_line line.NameTooLong number = NameTooLong number
at_line line.Syntax number = Syntax number
at_line line.UnknownKind number = UnknownKind number
at_line line.FanIn number = FanIn number
at_line (line.NoMemory refused) number = NoMemory refused

-- the statements of a text, or why it is refused
abbrev pub Statements : Type 0
Statements = Result (List Numbered) BenchFault

-- these statements before the others, if none of those is refused
abbrev pub put_first : List Numbered → Statements → Statements
put_first front (Ok rest) = Ok (front ++ rest)
put_first front (Err fault) = Err fault

-- a line of this number that says this, before the statements of the lines behind it
abbrev pub with_line : ℕ → Reading → Statements → Statements
with_line number (Ok None) rest = rest
with_line number (Ok (Some statement)) rest = put_first (numbered number statement ∷ []) rest
with_line number (Err fault) rest = Err (at_line fault number)

-- the statements of these lines, of which the first has this number; or the first line that is refused
abbrev pub statements_from : ℕ → List (List ℕ) → Statements
statements_from number [] = Ok []
statements_from number (line ∷ lines) = with_line number (line_reading line) (statements_from (number + 1) lines)

-- the statements of a text, whose lines are numbered from 1
abbrev pub statements_of : List ℕ → Statements
statements_of text = statements_from 1 (lines_of text)

-- the answer is this, or memory ran out
abbrev pub IsAnswer : Statements → Statements → Type 0
IsAnswer (Ok statements) expected = expected ≡ Ok statements
IsAnswer (Err (NoMemory _)) expected = ⊤
IsAnswer (Err fault) expected = expected ≡ Err fault

-- the statement of a line of this number is put last, if it has one
abbrev pub AddsLine : ℕ → Reading → List Numbered → List Numbered → Type 0
AddsLine number (Ok None) before after = after ≡ before
AddsLine number (Ok (Some statement)) before after = after ≡ before ++ numbered number statement ∷ []
AddsLine number (Err fault) before after = ⊥

-- a line of this number is refused so, or memory ran out
abbrev pub RefusesLine : ℕ → Reading → BenchFault → Type 0
RefusesLine number reading (NoMemory _) = ⊤
RefusesLine number (Err fault) answer = answer ≡ at_line fault number
RefusesLine number (Ok found) answer = ⊥
