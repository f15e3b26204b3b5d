-- What a line says, by what its tokens are.
use Rattle.std.proofs.Common.{◌≡◌, ℕ, Bool, true, false, ◌||◌, cond, List, [], ◌∷◌, Some, None, Ok, Err, Option, Result, refl, ap, sym, ◌∙◌, subst}
use Rattle.std.specs.Borrow.{Bor}
use Rattle.std.specs.List.{list_any}
use Rattle.bench_reader.specs.declared.line_fault.LineFault.{LineFault}
use Rattle.bench_reader.specs.declared.line_fault.LineFault.TheVariants.{BadByte, NameTooLong}
use Rattle.bench_reader.specs.declared.token.Token.{Token as Borrowed}
use Rattle.bench_reader.specs.declared.statement.Statement.{Statement as BorrowedStatement}
use Rattle.bench_reader.specs.Bytes.{code_of, has_bad_byte}
use Rattle.bench_reader.specs.Seen.{IsLawfulAnswer, IsReading, token_seen, tokens_seen}
use Rattle.bench_reader.specs.Statements.{Reading, is_too_long, line_reading, tokens_reading}
use Rattle.bench_reader.specs.Tokens.{Token, tokens_of}
use Rattle.bench_reader.proofs.Lawful.{IsLawful, lawful_tokens}

-- a test of the tokens that borrowed ones stand for
any_seen : (test : Token → Bool) (tokens : List Borrowed)
    → list_any (λ token. test (token_seen token)) tokens ≡ list_any test (tokens_seen tokens)
any_seen test [] = refl
any_seen test (token ∷ tokens) = ap (λ rest. test (token_seen token) || rest) (any_seen test tokens)

-- a line with a byte that may not stand there
pub bad_line : (line : List ℕ) → has_bad_byte (code_of line) ≡ true → line_reading line ≡ Err BadByte
bad_line line bad = ap (λ is. cond is (Err BadByte) (cond (list_any is_too_long (tokens_of (code_of line))) (Err NameTooLong) (tokens_reading (tokens_of (code_of line))))) bad

-- a line whose bytes may all stand there
good_line : (line : List ℕ) (long : Bool) → has_bad_byte (code_of line) ≡ false → list_any is_too_long (tokens_of (code_of line)) ≡ long
    → line_reading line ≡ cond long (Err NameTooLong) (tokens_reading (tokens_of (code_of line)))
good_line line long good is =
    ap (λ bad. cond bad (Err BadByte) (cond (list_any is_too_long (tokens_of (code_of line))) (Err NameTooLong) (tokens_reading (tokens_of (code_of line))))) good
    ∙ ap (λ some. cond some (Err NameTooLong) (tokens_reading (tokens_of (code_of line)))) is

-- the line of these tokens, where some name is too long or none is
pub listed_line : (line : List ℕ) (tokens : List Borrowed) (long : Bool) → has_bad_byte (code_of line) ≡ false
    → tokens_seen tokens ≡ tokens_of (code_of line) → long ≡ list_any (λ token. is_too_long (token_seen token)) tokens
    → line_reading line ≡ cond long (Err NameTooLong) (tokens_reading (tokens_seen tokens))
listed_line line tokens long good listed is =
    good_line line long good (ap (list_any is_too_long) (sym listed) ∙ sym (any_seen is_too_long tokens) ∙ sym is)
    ∙ ap (λ some. cond long (Err NameTooLong) (tokens_reading some)) (sym listed)

-- an answer for a line that states nothing unlawful is lawful
pub lawful_answer : (arguments : List (Bor (List ℕ))) (answer : Result (Option BorrowedStatement) LineFault) (reading : Reading)
    → IsReading arguments answer reading → IsLawful reading
    → IsLawfulAnswer arguments answer
lawful_answer arguments (Ok None) reading is lawful = tt
lawful_answer arguments (Ok (Some statement)) reading is lawful = subst IsLawful is lawful
lawful_answer arguments (Err fault) reading is lawful = tt

-- and so is one for a line of these tokens, where no name is too long
pub lawful_listed : (line : List ℕ) (tokens : List Borrowed) (arguments : List (Bor (List ℕ)))
    (answer : Result (Option BorrowedStatement) LineFault) → tokens_seen tokens ≡ tokens_of (code_of line)
    → false ≡ list_any (λ token. is_too_long (token_seen token)) tokens → IsReading arguments answer (tokens_reading (tokens_seen tokens))
    → IsLawfulAnswer arguments answer
lawful_listed line tokens arguments answer listed is reading =
    let fit : list_any is_too_long (tokens_of (code_of line)) ≡ false =
    ap (list_any is_too_long) (sym listed) ∙ sym (any_seen is_too_long tokens) ∙ sym is in
    lawful_answer arguments answer (tokens_reading (tokens_seen tokens)) reading
    (let P : List Token → Type 0 = λ some. IsLawful (tokens_reading some) in subst P (sym listed) (lawful_tokens (code_of line) fit))
