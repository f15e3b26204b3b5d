-- The statement of a line (ISCAS .bench).
use Rattle.std.specs.Prelude.{ℕ, Bool, false, if◌then◌else◌, not, nat_le, List, [], ◌∷◌, length, Option, Some, None, Result, Ok, Err, codes}
use Rattle.std.specs.List.{list_any}
use Rattle.std.specs.Str.{str_eq_ignore_ascii_case}
use Rattle.netlist.specs.declared.kind.GateKind.{GateKind}
use Rattle.netlist.specs.declared.kind.GateKind.TheVariants as gate
use Rattle.netlist.specs.declared.raw_net.RawStmt.{RawStmt}
use Rattle.netlist.specs.declared.raw_net.RawStmt.TheVariants.{Input, Output, Gate, Flop}
use Rattle.netlist.specs.declared.limits.TheConstants.{MOST_NAME_BYTES}
use Rattle.bench_reader.specs.declared.line_fault.LineFault.{LineFault}
use Rattle.bench_reader.specs.declared.line_fault.LineFault.TheVariants.{BadByte, NameTooLong, Syntax, UnknownKind, FanIn}
use Rattle.bench_reader.specs.declared.kind.KindWord.{KindWord}
use Rattle.bench_reader.specs.declared.kind.KindWord.TheVariants.{And, Nand, Or, Nor, Xor, Xnor, Not, Inv, Buff, Buf, Dff}
use Rattle.bench_reader.specs.declared.byte.Mark.TheVariants.{Open, Close, Comma, Equals}
use Rattle.bench_reader.specs.Bytes.{code_of, has_bad_byte}
use Rattle.bench_reader.specs.Kinds.{kind_word_of, may_have}
use Rattle.bench_reader.specs.Tokens.{Token, name, mark, tokens_of}

-- what a line says: nothing, or one statement, or why it is refused
abbrev pub Reading : Type 0
Reading = Result (Option RawStmt) LineFault

-- a line that says this statement
abbrev pub says : RawStmt → Reading
says statement = Ok (Some statement)

-- a line with this word before the one name in its brackets
abbrev pub word_reading : List ℕ → List ℕ → Reading
word_reading word port =
    if str_eq_ignore_ascii_case word (codes "INPUT") then says (Input port)
    else if str_eq_ignore_ascii_case word (codes "OUTPUT") then says (Output port)
    else Err Syntax

-- a line with this word, and with one name in its brackets if there is one
abbrev pub only_name_reading : List ℕ → Option (List ℕ) → Reading
only_name_reading word None = Err Syntax
only_name_reading word (Some port) = word_reading word port

-- the one name between brackets
abbrev pub only_name_of : List Token → Option (List ℕ)
only_name_of (mark Open ∷ name port ∷ mark Close ∷ []) = Some port
only_name_of _ = None

-- a line with these tokens behind a word, of which the first is not `=`
abbrev pub port_reading : List ℕ → List Token → Reading
port_reading word tokens = only_name_reading word (only_name_of tokens)

-- a line that defines a gate of this kind
abbrev pub gate_reading : List ℕ → GateKind → List (List ℕ) → Reading
gate_reading target kind arguments =
    if may_have kind (length arguments) then says (Gate target kind arguments) else Err FanIn

-- a line that defines a flip-flop
abbrev pub flop_reading : List ℕ → List (List ℕ) → Reading
flop_reading target (line ∷ []) = says (Flop target line)
flop_reading target _ = Err FanIn

-- a line with this word for the kind
abbrev pub kind_reading : List ℕ → List (List ℕ) → Option KindWord → Reading
kind_reading target arguments None = Err UnknownKind
kind_reading target arguments (Some And) = gate_reading target gate.And arguments
kind_reading target arguments (Some Nand) = gate_reading target gate.Nand arguments
kind_reading target arguments (Some Or) = gate_reading target gate.Or arguments
kind_reading target arguments (Some Nor) = gate_reading target gate.Nor arguments
kind_reading target arguments (Some Xor) = gate_reading target gate.Xor arguments
kind_reading target arguments (Some Xnor) = gate_reading target gate.Xnor arguments
kind_reading target arguments (Some Not) = gate_reading target gate.Not arguments
kind_reading target arguments (Some Inv) = gate_reading target gate.Not arguments
kind_reading target arguments (Some Buff) = gate_reading target gate.Buff arguments
kind_reading target arguments (Some Buf) = gate_reading target gate.Buff arguments
kind_reading target arguments (Some Dff) = flop_reading target arguments

-- this name before the others, if these are names
abbrev pub with_first : List ℕ → Option (List (List ℕ)) → Option (List (List ℕ))
with_first first None = None
with_first first (Some others) = Some (first ∷ others)

-- the names, one or more, with commas between them and a closing bracket at the end
abbrev pub names_of : List Token → Option (List (List ℕ))
names_of (name first ∷ mark Close ∷ []) = Some (first ∷ [])
names_of (name first ∷ mark Comma ∷ tokens) = with_first first (names_of tokens)
names_of _ = None

-- the arguments behind an opening bracket: none, or such names
abbrev pub arguments_of : List Token → Option (List (List ℕ))
arguments_of (mark Close ∷ []) = Some []
arguments_of tokens = names_of tokens

-- a line that defines a name by these arguments, if they are some
abbrev pub defined_reading : List ℕ → List ℕ → Option (List (List ℕ)) → Reading
defined_reading target word None = Err Syntax
defined_reading target word (Some arguments) = kind_reading target arguments (kind_word_of word)

-- a line with these tokens behind a name and `=`
abbrev pub definition_reading : List ℕ → List Token → Reading
definition_reading target (name word ∷ mark Open ∷ tokens) = defined_reading target word (arguments_of tokens)
definition_reading target _ = Err Syntax

-- what a line with these tokens says
abbrev pub tokens_reading : List Token → Reading
tokens_reading [] = Ok None
tokens_reading (name first ∷ mark Equals ∷ tokens) = definition_reading first tokens
tokens_reading (name first ∷ tokens) = port_reading first tokens
tokens_reading _ = Err Syntax

-- whether a token is a name that is too long
abbrev pub is_too_long : Token → Bool
is_too_long (name bytes) = not (nat_le (length bytes) MOST_NAME_BYTES)
is_too_long _ = false

-- what the part of a line before its comment says
abbrev pub code_reading : List ℕ → Reading
code_reading code =
    if has_bad_byte code then Err BadByte
    else if list_any is_too_long (tokens_of code) then Err NameTooLong
    else tokens_reading (tokens_of code)

-- what a line says
abbrev pub line_reading : List ℕ → Reading
line_reading line = code_reading (code_of line)
