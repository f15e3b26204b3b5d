-- The circuit of a text keeps all rules of circuits, since each of its statements is lawful.
use Rattle.std.proofs.Common.{◌≡◌, ℕ, ◌+◌, ◌≤◌, List, [], ◌∷◌, Some, None, Ok, Err, Bool, true, false, if◌then◌else◌, refl, sym, subst}
use Rattle.std.specs.Prelude.{⊤, All}
use Rattle.std.specs.List.{list_any}
use Rattle.std.proofs.lemmas.List.Elements.{All-cons, All-nil}
use Rattle.netlist.specs.Circuit.{Circuit}
use Rattle.netlist.specs.declared.limits.TheConstants.{MOST_LEVELS}
use Rattle.netlist.specs.Lawful.{IsCircuit, IsLoopFree}
use Rattle.netlist.specs.Levels.{greatest_level}
use Rattle.netlist.specs.Statements.{IsStatement, Numbered, numbered}
use Rattle.net_builder.proofs.Circuits.{described_IsCircuit}
use Rattle.bench_reader.specs.Bytes.{code_of, has_bad_byte}
use Rattle.bench_reader.specs.Tokens.{tokens_of}
use Rattle.bench_reader.specs.declared.line_fault.LineFault.TheVariants as line
use Rattle.bench_reader.specs.Statements.{Reading, code_reading, is_too_long, line_reading, tokens_reading}
use Rattle.bench_reader.proofs.Lawful.{IsLawful, lawful_tokens}
use Rattle.bench_reader.specs.Circuits.{HasCircuit}
use Rattle.bench_reader.specs.Lines.{lines_of}
use Rattle.bench_reader.specs.Texts.{Statements, statements_from, with_line}

-- each of these statements is lawful, if no line is refused
abbrev AreLawful : Statements → Type 0
AreLawful (Ok statements) = All (λ s. IsStatement s.statement) statements
AreLawful (Err fault) = ⊤

-- what a line says is lawful
lawful_code : (code : List ℕ) → IsLawful (code_reading code)
lawful_code code =
    let long_or_read : Bool → Reading = λ long. if long then Err line.NameTooLong else tokens_reading (tokens_of code) in
    elim (has_bad_byte code) as (λ bad.
    IsLawful (if bad then Err line.BadByte else long_or_read (list_any is_too_long (tokens_of code)))) [
      | true ↦ tt
      | false ↦ elim (list_any is_too_long (tokens_of code)) as (λ long. list_any is_too_long (tokens_of code) ≡ long
          → IsLawful (long_or_read long)) [
            | true ↦ λ is. tt
            | false ↦ λ is. lawful_tokens code is
          ] refl
    ]

-- so are the statements of a line and of the lines behind it
lawful_more : (number : ℕ) (reading : Reading) (rest : Statements) → IsLawful reading → AreLawful rest
    → AreLawful (with_line number reading rest)
lawful_more number (Ok None) rest lawful others = others
lawful_more number (Ok (Some statement)) (Ok statements) lawful others =
    All-cons (λ (s : Numbered). IsStatement s.statement) (numbered number statement) statements lawful others
lawful_more number (Ok (Some statement)) (Err fault) lawful others = tt
lawful_more number (Err fault) rest lawful others = tt

-- so are those of all lines
lawful_lines : (number : ℕ) (lines : List (List ℕ)) → AreLawful (statements_from number lines)
lawful_lines number [] = All-nil (λ (s : Numbered). IsStatement s.statement)
lawful_lines number (line ∷ lines) =
    lawful_more number (line_reading line) (statements_from (number + 1) lines) (lawful_code (code_of line))
    (lawful_lines (number + 1) lines)

-- the circuit of a text is one
pub is_circuit : (text : List ℕ) (c : Circuit) → HasCircuit text c → IsCircuit c
is_circuit text c has =
    subst IsCircuit (sym has.described.is)
    (described_IsCircuit has.statements has.described.named
    (subst AreLawful has.read (lawful_lines 1 (lines_of text)))
    (subst IsLoopFree has.described.is has.described.loop_free)
    (subst (λ (d : Circuit). greatest_level d ≤ MOST_LEVELS) has.described.is has.described.few_levels))
