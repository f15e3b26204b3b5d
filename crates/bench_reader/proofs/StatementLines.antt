-- The text of lawful statements has exactly these statements, one on each line.
use Rattle.std.proofs.Common.{◌≡◌, ℕ, ◌+◌, List, [], ◌∷◌, Ok, codes, refl, ap, ◌∙◌, append_assoc}
use Rattle.std.specs.List.{AllByRecursion}
use Rattle.netlist.specs.declared.raw_net.RawStmt.{RawStmt}
use Rattle.netlist.specs.Statements.{IsStatement, Numbered, numbered}
use Rattle.bench_reader.specs.Canonical.{statement_text, statements_text}
use Rattle.bench_reader.specs.Lines.{lines_of}
use Rattle.bench_reader.specs.Texts.{put_first, statements_from, statements_of, with_line}
use Rattle.bench_reader.proofs.LawfulBytes.{line_of_code}
use Rattle.bench_reader.proofs.StatementTexts.{code_of_statement, statement_again}

-- statements, of which the first stands on the line of this number, and each other on the next line
abbrev pub numbered_from : ℕ → List RawStmt → List Numbered
numbered_from line [] = []
numbered_from line (statement ∷ statements) = numbered line statement ∷ numbered_from (line + 1) statements

-- the first line of such a text
first_line : (statement : RawStmt) (statements : List RawStmt) → IsStatement statement
    → lines_of (statements_text (statement ∷ statements)) ≡ statement_text statement ∷ lines_of (statements_text statements)
first_line statement statements is =
    ap lines_of (append_assoc (statement_text statement) (codes "\n") (statements_text statements))
    ∙ line_of_code (statement_text statement) (statements_text statements) (code_of_statement statement is)

lines_again : (line : ℕ) (statements : List RawStmt) → AllByRecursion IsStatement statements
    → statements_from line (lines_of (statements_text statements)) ≡ Ok (numbered_from line statements)
lines_again line [] lawful = refl
lines_again line (statement ∷ statements) lawful =
    let rest = statements_from (line + 1) (lines_of (statements_text statements)) in
    ap (statements_from line) (first_line statement statements lawful.0)
    ∙ ap (λ reading. with_line line reading rest) (statement_again statement lawful.0)
    ∙ ap (put_first (numbered line statement ∷ [])) (lines_again (line + 1) statements lawful.1)

-- the text of lawful statements has these statements
pub statements_again : (statements : List RawStmt) → AllByRecursion IsStatement statements
    → statements_of (statements_text statements) ≡ Ok (numbered_from 1 statements)
statements_again statements lawful = lines_again 1 statements lawful
