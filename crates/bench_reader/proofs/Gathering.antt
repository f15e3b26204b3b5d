-- The statements of a text, gathered line by line.
use Rattle.std.proofs.Common.{◌≡◌, ℕ, ◌+◌, ◌<◌, ◌≤◌, List, [], ◌∷◌, length, Some, None, Ok, Err, refl, ap, sym, ◌∙◌, arith, append_assoc, append-nil, length-append}
use Rattle.std.proofs.lemmas.Grind.{common_steps}
use Rattle.netlist.specs.Statements.{Numbered, numbered}
use Rattle.bench_reader.specs.Statements.{Reading, line_reading}
use Rattle.bench_reader.specs.declared.fault.BenchFault.{BenchFault}
use Rattle.bench_reader.specs.declared.fault.BenchFault.TheVariants.{BadByte, NameTooLong, Syntax, UnknownKind, FanIn, Build, NoMemory}
use Rattle.bench_reader.specs.Lines.{lines_of}
use Rattle.bench_reader.specs.Texts.{AddsLine, IsAnswer, RefusesLine, Statements, put_first, statements_from, statements_of, with_line}

-- these statements were gathered, and the rest of the text begins with the line of this number
pub record IsGathered (text : List ℕ) (gathered : List Numbered) (number : ℕ) (rest : List ℕ) : Type 0 where
  pub statements : statements_of text ≡ put_first gathered (statements_from number (lines_of rest))
  pub numbers : number + length rest ≤ length text + 1
  pub few : length gathered + length rest ≤ length text

-- no statements before others
put_first_none : (statements : Statements) → put_first [] statements ≡ statements
put_first_none (Ok rest) = refl
put_first_none (Err fault) = refl

-- no statements are gathered at first
pub gathers_none : (text : List ℕ) → IsGathered text [] 1 text
gathers_none text = record {
  statements = sym (put_first_none (statements_of text));
  numbers = omega arith;
  few = omega arith;
}

-- one line is read
adds_line : (number : ℕ) (reading : Reading) (before after : List Numbered) (rest : Statements)
    → AddsLine number reading before after → put_first before (with_line number reading rest) ≡ put_first after rest
adds_line number (Ok None) before after rest adds = ap (λ all. put_first all rest) (sym adds)
adds_line number (Ok (Some statement)) before after (Ok rest) adds =
    ap Ok (sym (append_assoc before (numbered number statement ∷ []) rest)) ∙ ap (λ all. put_first all (Ok rest)) (sym adds)
adds_line number (Ok (Some statement)) before after (Err fault) adds = refl
adds_line number (Err fault) before after rest adds = absurd adds

-- the answer where a line is refused
refuses_line : (number : ℕ) (reading : Reading) (fault : BenchFault) (before : List Numbered) (rest expected : Statements)
    → expected ≡ put_first before (with_line number reading rest) → RefusesLine number reading fault → IsAnswer (Err fault) expected
refuses_line number reading (NoMemory _) before rest expected is refuses = tt
refuses_line number (Err line) (BadByte at) before rest expected is refuses = is ∙ ap Err (sym refuses)
refuses_line number (Err line) (NameTooLong at) before rest expected is refuses = is ∙ ap Err (sym refuses)
refuses_line number (Err line) (Syntax at) before rest expected is refuses = is ∙ ap Err (sym refuses)
refuses_line number (Err line) (UnknownKind at) before rest expected is refuses = is ∙ ap Err (sym refuses)
refuses_line number (Err line) (FanIn at) before rest expected is refuses = is ∙ ap Err (sym refuses)
refuses_line number (Err line) (Build reason) before rest expected is refuses = is ∙ ap Err (sym refuses)
refuses_line number (Ok found) (BadByte at) before rest expected is refuses = absurd refuses
refuses_line number (Ok found) (NameTooLong at) before rest expected is refuses = absurd refuses
refuses_line number (Ok found) (Syntax at) before rest expected is refuses = absurd refuses
refuses_line number (Ok found) (UnknownKind at) before rest expected is refuses = absurd refuses
refuses_line number (Ok found) (FanIn at) before rest expected is refuses = absurd refuses
refuses_line number (Ok found) (Build reason) before rest expected is refuses = absurd refuses

-- at most one statement is put last
adds_one : (number : ℕ) (reading : Reading) (before after : List Numbered) → AddsLine number reading before after
    → length after ≤ length before + 1
adds_one number (Ok None) before after adds = grind (arith, common_steps)
adds_one number (Ok (Some statement)) before after adds = rw adds (omega (arith, length-append before (numbered number statement ∷ [])))
adds_one number (Err fault) before after adds = absurd adds

-- the next line is gathered
pub gathers_line : (text line behind rest : List ℕ) (number : ℕ) (before after : List Numbered) → IsGathered text before number rest
    → lines_of rest ≡ line ∷ lines_of behind → AddsLine number (line_reading line) before after
    → length behind < length rest → IsGathered text after (number + 1) behind
gathers_line text line behind rest number before after gathered lines adds shorter = record {
  statements =
      gathered.statements ∙ ap (λ all. put_first before (statements_from number all)) lines
      ∙ adds_line number (line_reading line) before after (statements_from (number + 1) (lines_of behind)) adds;
  numbers = let numbers = gathered.numbers in omega arith;
  few = let few = gathered.few in omega (arith, adds_one number (line_reading line) before after adds);
}

-- the next line is refused
pub gathers_refusal : (text line behind rest : List ℕ) (number : ℕ) (before : List Numbered) (fault : BenchFault)
    → IsGathered text before number rest → lines_of rest ≡ line ∷ lines_of behind → RefusesLine number (line_reading line) fault
    → IsAnswer (Err fault) (statements_of text)
gathers_refusal text line behind rest number before fault gathered lines refuses =
    refuses_line number (line_reading line) fault before (statements_from (number + 1) (lines_of behind)) (statements_of text)
    (gathered.statements ∙ ap (λ all. put_first before (statements_from number all)) lines) refuses

-- all lines are gathered
pub gathers_all : (text rest : List ℕ) (number : ℕ) (all : List Numbered) → IsGathered text all number rest → rest ≡ []
    → statements_of text ≡ Ok all
gathers_all text rest number all gathered none =
    gathered.statements ∙ ap (λ some. put_first all (statements_from number (lines_of some))) none ∙ ap Ok (append-nil all)
