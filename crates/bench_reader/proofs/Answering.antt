-- Which answers tell why a text has no circuit, and that a text has one circuit at most.
use Rattle.std.proofs.Common.{◌≡◌, ℕ, ◌+◌, List, [], ◌∷◌, Some, None, Ok, Err, ap, sym, ◌∙◌, subst, arith}
use Rattle.netlist.specs.Circuit.{Circuit}
use Rattle.netlist.specs.Description.{described}
use Rattle.netlist.specs.Statements.{Numbered}
use Rattle.bench_reader.specs.declared.line_fault.LineFault.{LineFault}
use Rattle.bench_reader.specs.declared.line_fault.LineFault.TheVariants as line
use Rattle.bench_reader.specs.Statements.{Reading, line_reading}
use Rattle.net_builder.specs.declared.fault.BuildFault.{BuildFault}
use Rattle.net_builder.specs.Refusals.{Refuses}
use Rattle.net_builder.proofs.Exclusive.{refuses_none}
use Rattle.bench_reader.specs.declared.fault.BenchFault.{BenchFault}
use Rattle.bench_reader.specs.declared.fault.BenchFault.TheVariants.{BadByte, NameTooLong, Syntax, UnknownKind, FanIn, Build, NoMemory}
use Rattle.bench_reader.specs.Circuits.{HasCircuit}
use Rattle.bench_reader.specs.Lines.{lines_of}
use Rattle.bench_reader.specs.Refusals.{MayRefuseText, RefusesText}
use Rattle.bench_reader.specs.Texts.{IsAnswer, Statements, at_line, statements_from, statements_of, with_line}

-- a line's own fault is none of the statements' together
line_alone : (fault : LineFault) (number : ℕ) (reason : BuildFault) → ¬ (at_line fault number ≡ Build reason)
line_alone line.BadByte number reason same = cc
line_alone line.NameTooLong number reason same = cc
line_alone line.Syntax number reason same = cc
line_alone line.UnknownKind number reason same = cc
line_alone line.FanIn number reason same = cc
line_alone (line.NoMemory _) number reason same = cc

-- nor is that of a line and the lines behind it
line_before : (number : ℕ) (reading : Reading) (rest : Statements) (reason : BuildFault) → ¬ (rest ≡ Err (Build reason))
    → ¬ (with_line number reading rest ≡ Err (Build reason))
line_before number (Ok None) rest reason behind same = behind same
line_before number (Ok (Some statement)) (Ok more) reason behind same = cc
line_before number (Ok (Some statement)) (Err fault) reason behind same = behind same
line_before number (Err fault) rest reason behind same =
    let alone = line_alone fault number reason in
    grind (arith, alone)

-- nor is that of any lines
lines_alone : (number : ℕ) (lines : List (List ℕ)) (reason : BuildFault) → ¬ (statements_from number lines ≡ Err (Build reason))
lines_alone number [] reason same = cc
lines_alone number (line ∷ lines) reason same =
    line_before number (line_reading line) (statements_from (number + 1) lines) reason (lines_alone (number + 1) lines reason) same

-- where a line is refused, or memory ran out, the text is
pub answers_refusal : (text : List ℕ) (fault : BenchFault) → IsAnswer (Err fault) (statements_of text) → MayRefuseText text fault
answers_refusal text (BadByte number) answer = answer
answers_refusal text (NameTooLong number) answer = answer
answers_refusal text (Syntax number) answer = answer
answers_refusal text (UnknownKind number) answer = answer
answers_refusal text (FanIn number) answer = answer
answers_refusal text (Build reason) answer = absurd (lines_alone 1 (lines_of text) reason answer)
answers_refusal text (NoMemory _) answer = tt

-- a text has one list of statements at most
same_statements : (text : List ℕ) (a b : List Numbered) → statements_of text ≡ Ok a → statements_of text ≡ Ok b → a ≡ b
same_statements text a b first second = cc

-- a text has one circuit at most
pub one_circuit : (text : List ℕ) (c d : Circuit) → HasCircuit text c → HasCircuit text d → c ≡ d
one_circuit text c d first second =
    let statements = same_statements text first.statements second.statements first.read second.read in
    first.described.is ∙ ap described statements ∙ sym second.described.is

-- a text that has a circuit is refused for no reason
pub circuit_not_refused : (text : List ℕ) (c : Circuit) (fault : BenchFault) → HasCircuit text c → ¬ RefusesText text fault
circuit_not_refused text c (BadByte number) has refused = let read = has.read in cc
circuit_not_refused text c (NameTooLong number) has refused = let read = has.read in cc
circuit_not_refused text c (Syntax number) has refused = let read = has.read in cc
circuit_not_refused text c (UnknownKind number) has refused = let read = has.read in cc
circuit_not_refused text c (FanIn number) has refused = let read = has.read in cc
circuit_not_refused text c (Build reason) has refused =
    let same = same_statements text has.statements refused.statements has.read refused.read in
    refuses_none has.statements c reason has.described (subst (λ statements. Refuses statements reason) (sym same) refused.refused)
circuit_not_refused text c (NoMemory _) has refused = refused
