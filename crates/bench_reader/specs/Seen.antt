-- What the code's tokens stand for (this project's own).
use Rattle.std.specs.Prelude.{◌≡◌, ◌≢◌, ⊤, ℕ, suc, ◌<◌, ◌≤◌, true, false, List, [], ◌∷◌, length, map, Option, Some, None, Result, Ok, Err}
use Rattle.std.specs.Borrow.{Bor}
use Rattle.netlist.specs.declared.raw_net.RawStmt.{RawStmt}
use Rattle.netlist.specs.declared.raw_net.RawStmt.TheVariants.{Input, Output, Gate, Flop}
use Rattle.netlist.specs.NameTexts.{bytes_of}
use Rattle.netlist.specs.Statements.{IsStatement}
use Rattle.bench_reader.specs.declared.token.Token.{Token as Borrowed}
use Rattle.bench_reader.specs.declared.token.Token.TheVariants.{Name, Mark}
use Rattle.bench_reader.specs.declared.byte.Mark.{Mark as MarkByte}
use Rattle.bench_reader.specs.declared.line_fault.LineFault.{LineFault}
use Rattle.bench_reader.specs.declared.line_fault.LineFault.TheVariants.{BadByte, Syntax, NoMemory}
use Rattle.bench_reader.specs.declared.statement.Statement.{Statement as BorrowedStatement}
use Rattle.bench_reader.specs.declared.statement.Statement.TheVariants as seen
use Rattle.bench_reader.specs.Bytes.{has_bad_byte}
use Rattle.bench_reader.specs.Statements.{Reading, says, arguments_of, names_of}
use Rattle.bench_reader.specs.Tokens.{Token, name, mark, tokens_of}

-- the token that a borrowed one stands for
abbrev pub token_seen : Borrowed → Token
token_seen (Name bytes) = name bytes.now
token_seen (Mark is) = mark is

-- what stands before a comment begins with this token, and the rest stands behind it
pub record BeginsWith (code : List ℕ) (token : Token) (rest : List ℕ) : Type 0 where
  pub tokens : tokens_of code ≡ token ∷ tokens_of rest
  pub bad_bytes : has_bad_byte code ≡ has_bad_byte rest
  pub shorter : length rest < length code

-- there is no token, and no byte that may not stand there
pub record IsEmptyCode (code : List ℕ) : Type 0 where
  pub tokens : tokens_of code ≡ []
  pub bad_bytes : has_bad_byte code ≡ false

-- the rest stands behind bytes that are no part of a token, and may stand there
pub record IsBlankBefore (code rest : List ℕ) : Type 0 where
  pub tokens : tokens_of code ≡ tokens_of rest
  pub bad_bytes : has_bad_byte code ≡ has_bad_byte rest
  pub no_longer : length rest ≤ length code

-- the tokens that borrowed ones stand for
abbrev pub tokens_seen : List Borrowed → List Token
tokens_seen tokens = map token_seen tokens

-- no name stands first
abbrev pub LacksName : List Token → Type 0
LacksName (name bytes ∷ tokens) = ⊥
LacksName _ = ⊤

-- this mark does not stand first
abbrev pub LacksMark : MarkByte → List Token → Type 0
LacksMark is [] = ⊤
LacksMark is (token ∷ tokens) = token ≢ mark is

-- the statement that a borrowed one stands for, with the names of a gate's arguments beside it
abbrev pub statement_seen : List (Bor (List ℕ)) → BorrowedStatement → RawStmt
statement_seen arguments (seen.Input port) = Input port.now
statement_seen arguments (seen.Output port) = Output port.now
statement_seen arguments (seen.Gate target kind) = Gate target.now kind (bytes_of arguments)
statement_seen arguments (seen.Flop target line) = Flop target.now line.now

-- the answer is what a line says, or memory ran out
abbrev pub IsReading : List (Bor (List ℕ)) → Result (Option BorrowedStatement) LineFault → Reading → Type 0
IsReading arguments (Ok None) reading = reading ≡ Ok None
IsReading arguments (Ok (Some statement)) reading = reading ≡ says (statement_seen arguments statement)
IsReading arguments (Err (NoMemory _)) reading = ⊤
IsReading arguments (Err fault) reading = reading ≡ Err fault

-- the statement of an answer is lawful, if it has one
abbrev pub IsLawfulAnswer : List (Bor (List ℕ)) → Result (Option BorrowedStatement) LineFault → Type 0
IsLawfulAnswer arguments (Ok None) = ⊤
IsLawfulAnswer arguments (Ok (Some statement)) = IsStatement (statement_seen arguments statement)
IsLawfulAnswer arguments (Err fault) = ⊤

-- the same of an answer that is a statement
abbrev pub IsStatementReading : List (Bor (List ℕ)) → Result BorrowedStatement LineFault → Reading → Type 0
IsStatementReading arguments (Ok statement) reading = reading ≡ says (statement_seen arguments statement)
IsStatementReading arguments (Err (NoMemory _)) reading = ⊤
IsStatementReading arguments (Err fault) reading = reading ≡ Err fault

-- the names of the arguments that these tokens spell, none where no tokens are left
abbrev pub names_left : Option (Bor (List Borrowed)) → Option (List (List ℕ))
names_left None = Some []
names_left (Some tokens) = names_of (tokens_seen tokens.now)

-- how many tokens are left, and one more where some are
abbrev pub tokens_left : Option (Bor (List Borrowed)) → ℕ
tokens_left None = 0
tokens_left (Some tokens) = suc (length tokens.now)

-- why the tokens were not listed
abbrev pub ListingFails : List ℕ → LineFault → Type 0
ListingFails code BadByte = has_bad_byte code ≡ true
ListingFails code (NoMemory _) = ⊤
ListingFails code _ = ⊥

-- why the arguments were not listed
abbrev pub ArgumentsFail : List Token → LineFault → Type 0
ArgumentsFail tokens Syntax = arguments_of tokens ≡ None
ArgumentsFail tokens (NoMemory _) = ⊤
ArgumentsFail tokens _ = ⊥
