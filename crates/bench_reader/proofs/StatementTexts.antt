-- The line of a lawful statement says that statement again.
use Rattle.std.proofs.Common.{◌≡◌, ℕ, ◌≤◌, Bool, true, false, ◌||◌, ◌&&◌, not, cond, List, [], ◌∷◌, ◌++◌, length, Some, Err, codes, refl, ap, sym, ◌∙◌, subst, arith, append_assoc}
use Rattle.std.proofs.lemmas.Bool.Decides.{nat_tests}
use Rattle.std.proofs.lemmas.List.Elements.{recursion_from_All}
use Rattle.std.specs.List.{AllByRecursion, list_all, list_any}
use Rattle.netlist.specs.declared.kind.GateKind.{GateKind}
use Rattle.netlist.specs.declared.kind.GateKind.TheVariants.{And, Nand, Or, Nor, Xor, Xnor, Not, Buff}
use Rattle.netlist.specs.declared.raw_net.RawStmt.{RawStmt}
use Rattle.netlist.specs.declared.raw_net.RawStmt.TheVariants.{Input, Output, Gate, Flop}
use Rattle.netlist.specs.Lawful.{IsFanIn}
use Rattle.netlist.specs.Names.{IsName, IsNameByte}
use Rattle.netlist.specs.Statements.{IsStatement}
use Rattle.bench_reader.specs.declared.byte.Mark.TheVariants.{Open, Close, Comma, Equals}
use Rattle.bench_reader.specs.declared.line_fault.LineFault.TheVariants.{BadByte, NameTooLong, FanIn}
use Rattle.bench_reader.specs.Bytes.{begins_comment, class_of, is_bad, is_name_part}
use Rattle.bench_reader.specs.Kinds.{is_many, kind_word_of, may_have}
use Rattle.bench_reader.specs.Statements.{arguments_of, code_reading, defined_reading, gate_reading, is_too_long, kind_reading, line_reading, names_of, says, tokens_reading, with_first}
use Rattle.bench_reader.specs.Tokens.{Token, begins_name, mark, name, tokens_of}
use Rattle.bench_reader.proofs.Scanning.{AreParts, tokens_of_name}
use Rattle.bench_reader.specs.Canonical.{arguments_text, kind_text, more_arguments, statement_text}
use Rattle.bench_reader.specs.Lines.{ends_line}
use Rattle.bench_reader.proofs.LawfulBytes.{AreCode, class_of_name_byte, code_append, code_of_code, name_byte_is_code, no_bad_byte}

-- the bytes of a name are parts of names
parts : (bytes : List ℕ) → AllByRecursion IsNameByte bytes → AreParts bytes
parts [] each = tt
parts (byte ∷ bytes) each = (ap is_name_part (class_of_name_byte byte each.0), parts bytes each.1)

-- and may stand in a line
name_code : (bytes : List ℕ) → AllByRecursion IsNameByte bytes → AreCode bytes
name_code [] each = tt
name_code (byte ∷ bytes) each = (name_byte_is_code byte each.0, name_code bytes each.1)

-- a name before a text that does not go on with it is its first token
first_token : (bytes rest : List ℕ) → IsName bytes → begins_name rest ≡ false → tokens_of (bytes ++ rest) ≡ name bytes ∷ tokens_of rest
first_token [] rest is ends = let some = is.some_byte in absurd (omega arith)
first_token (byte ∷ part) rest is ends =
    tokens_of_name byte part rest (parts (byte ∷ part) (recursion_from_All IsNameByte (byte ∷ part) is.bytes)) ends

-- the tokens of further arguments, each behind a comma, and a closing bracket
abbrev more_tokens : List (List ℕ) → List Token
more_tokens [] = mark Close ∷ []
more_tokens (argument ∷ arguments) = mark Comma ∷ name argument ∷ more_tokens arguments

-- the tokens of arguments and a closing bracket
abbrev argument_tokens : List (List ℕ) → List Token
argument_tokens [] = mark Close ∷ []
argument_tokens (argument ∷ arguments) = name argument ∷ more_tokens arguments

-- no name goes on behind an argument
more_ends : (arguments : List (List ℕ)) → begins_name (more_arguments arguments ++ codes ")") ≡ false
more_ends [] = refl
more_ends (argument ∷ arguments) = refl

-- further arguments and a closing bracket have these tokens
tokens_of_more : (arguments : List (List ℕ)) → AllByRecursion IsName arguments
    → tokens_of (more_arguments arguments ++ codes ")") ≡ more_tokens arguments
tokens_of_more [] names = refl
tokens_of_more (argument ∷ arguments) names =
    ap (λ tokens. mark Comma ∷ tokens)
    (ap tokens_of (append_assoc argument (more_arguments arguments) (codes ")"))
    ∙ first_token argument (more_arguments arguments ++ codes ")") names.0 (more_ends arguments)
    ∙ ap (λ tokens. name argument ∷ tokens) (tokens_of_more arguments names.1))

-- and so have all arguments
tokens_of_arguments : (arguments : List (List ℕ)) → AllByRecursion IsName arguments
    → tokens_of (arguments_text arguments ++ codes ")") ≡ argument_tokens arguments
tokens_of_arguments [] names = refl
tokens_of_arguments (argument ∷ arguments) names =
    ap tokens_of (append_assoc argument (more_arguments arguments) (codes ")"))
    ∙ first_token argument (more_arguments arguments ++ codes ")") names.0 (more_ends arguments)
    ∙ ap (λ tokens. name argument ∷ tokens) (tokens_of_more arguments names.1)

-- these tokens are the arguments
names_of_more : (argument : List ℕ) (arguments : List (List ℕ)) → names_of (name argument ∷ more_tokens arguments) ≡ Some (argument ∷ arguments)
names_of_more argument [] = refl
names_of_more argument (next ∷ arguments) = ap (with_first argument) (names_of_more next arguments)

arguments_again : (arguments : List (List ℕ)) → arguments_of (argument_tokens arguments) ≡ Some arguments
arguments_again [] = refl
arguments_again (argument ∷ arguments) = names_of_more argument arguments

-- the tokens of a kind and an opening bracket
tokens_of_kind : (kind : GateKind) (rest : List ℕ) → tokens_of (kind_text kind ++ (codes "(" ++ rest)) ≡ name (kind_text kind) ∷ mark Open ∷ tokens_of rest
tokens_of_kind And rest = refl
tokens_of_kind Nand rest = refl
tokens_of_kind Or rest = refl
tokens_of_kind Nor rest = refl
tokens_of_kind Xor rest = refl
tokens_of_kind Xnor rest = refl
tokens_of_kind Not rest = refl
tokens_of_kind Buff rest = refl

-- the word of a kind is that kind
kind_again : (target : List ℕ) (kind : GateKind) (arguments : List (List ℕ))
    → kind_reading target arguments (kind_word_of (kind_text kind)) ≡ gate_reading target kind arguments
kind_again target And arguments = refl
kind_again target Nand arguments = refl
kind_again target Or arguments = refl
kind_again target Nor arguments = refl
kind_again target Xor arguments = refl
kind_again target Xnor arguments = refl
kind_again target Not arguments = refl
kind_again target Buff arguments = refl

-- a lawful number of arguments may stand there
many : (count : ℕ) → 1 ≤ count → count ≤ 1024 → is_many count ≡ true
many count some few = grind (arith, nat_tests)

fits : (kind : GateKind) (count : ℕ) → IsFanIn kind count → may_have kind count ≡ true
fits And count is = many count is.some is.few
fits Nand count is = many count is.some is.few
fits Or count is = many count is.some is.few
fits Nor count is = many count is.some is.few
fits Xor count is = many count is.some is.few
fits Xnor count is = many count is.some is.few
fits Not count is = grind (arith, nat_tests)
fits Buff count is = grind (arith, nat_tests)

-- the tokens of a lawful statement's line
abbrev spelled : RawStmt → List Token
spelled (Input port) = name (codes "INPUT") ∷ mark Open ∷ name port ∷ mark Close ∷ []
spelled (Output port) = name (codes "OUTPUT") ∷ mark Open ∷ name port ∷ mark Close ∷ []
spelled (Gate target kind arguments) = name target ∷ mark Equals ∷ name (kind_text kind) ∷ mark Open ∷ argument_tokens arguments
spelled (Flop target line) = name target ∷ mark Equals ∷ name (codes "DFF") ∷ mark Open ∷ name line ∷ mark Close ∷ []

-- a name and a closing bracket
closed_name : (bytes : List ℕ) → IsName bytes → tokens_of (bytes ++ codes ")") ≡ name bytes ∷ mark Close ∷ []
closed_name bytes is = first_token bytes (codes ")") is refl

-- the text of a gate's line, cut behind its name, behind its kind and before its arguments
gate_pieces : (target kind arguments : List ℕ) → target ++ codes " = " ++ kind ++ codes "(" ++ arguments ++ codes ")"
    ≡ target ++ (codes " = " ++ (kind ++ (codes "(" ++ (arguments ++ codes ")"))))
gate_pieces target kind arguments = simp append_assoc

-- the text of a flip-flop's line, cut behind its name
flop_pieces : (target line : List ℕ) → target ++ codes " = DFF(" ++ line ++ codes ")" ≡ target ++ (codes " = DFF(" ++ (line ++ codes ")"))
flop_pieces target line = simp append_assoc

tokens_of_statement : (statement : RawStmt) → IsStatement statement → tokens_of (statement_text statement) ≡ spelled statement
tokens_of_statement (Input port) is = ap (λ tokens. name (codes "INPUT") ∷ mark Open ∷ tokens) (closed_name port is)
tokens_of_statement (Output port) is = ap (λ tokens. name (codes "OUTPUT") ∷ mark Open ∷ tokens) (closed_name port is)
tokens_of_statement (Gate target kind arguments) is =
    ap tokens_of (gate_pieces target (kind_text kind) (arguments_text arguments))
    ∙ first_token target (codes " = " ++ (kind_text kind ++ (codes "(" ++ (arguments_text arguments ++ codes ")")))) is.own_name refl
    ∙ ap (λ tokens. name target ∷ mark Equals ∷ tokens)
    (tokens_of_kind kind (arguments_text arguments ++ codes ")")
    ∙ ap (λ tokens. name (kind_text kind) ∷ mark Open ∷ tokens)
    (tokens_of_arguments arguments (recursion_from_All IsName arguments is.names)))
tokens_of_statement (Flop target line) is =
    ap tokens_of (flop_pieces target line)
    ∙ first_token target (codes " = DFF(" ++ (line ++ codes ")")) is.own_name refl
    ∙ ap (λ tokens. name target ∷ mark Equals ∷ name (codes "DFF") ∷ mark Open ∷ tokens) (closed_name line is.data_name)

-- what these tokens say
spelled_says : (statement : RawStmt) → IsStatement statement → tokens_reading (spelled statement) ≡ says statement
spelled_says (Input port) is = refl
spelled_says (Output port) is = refl
spelled_says (Gate target kind arguments) is =
    ap (λ found. defined_reading target (kind_text kind) found) (arguments_again arguments)
    ∙ kind_again target kind arguments
    ∙ ap (λ may. cond may (says (Gate target kind arguments)) (Err FanIn)) (fits kind (length arguments) is.fan_in)
spelled_says (Flop target line) is = refl

-- a name is not too long
short : (bytes : List ℕ) → IsName bytes → is_too_long (name bytes) ≡ false
short bytes is = let few = is.few_bytes in grind (arith, nat_tests)

-- no argument is too long
short_more : (arguments : List (List ℕ)) → AllByRecursion IsName arguments → list_any is_too_long (more_tokens arguments) ≡ false
short_more [] names = refl
short_more (argument ∷ arguments) names =
    ap (λ long. long || list_any is_too_long (more_tokens arguments)) (short argument names.0) ∙ short_more arguments names.1

short_arguments : (arguments : List (List ℕ)) → AllByRecursion IsName arguments → list_any is_too_long (argument_tokens arguments) ≡ false
short_arguments [] names = refl
short_arguments (argument ∷ arguments) names =
    ap (λ long. long || list_any is_too_long (more_tokens arguments)) (short argument names.0) ∙ short_more arguments names.1

-- the word of a kind is not too long
short_kind : (kind : GateKind) → is_too_long (name (kind_text kind)) ≡ false
short_kind And = refl
short_kind Nand = refl
short_kind Or = refl
short_kind Nor = refl
short_kind Xor = refl
short_kind Xnor = refl
short_kind Not = refl
short_kind Buff = refl

-- no name of a lawful statement's line is too long
spelled_short : (statement : RawStmt) → IsStatement statement → list_any is_too_long (spelled statement) ≡ false
spelled_short (Input port) is = ap (λ long. long || false) (short port is)
spelled_short (Output port) is = ap (λ long. long || false) (short port is)
spelled_short (Gate target kind arguments) is =
    ap (λ long. long || (is_too_long (name (kind_text kind)) || list_any is_too_long (argument_tokens arguments))) (short target is.own_name)
    ∙ ap (λ long. long || list_any is_too_long (argument_tokens arguments)) (short_kind kind)
    ∙ short_arguments arguments (recursion_from_All IsName arguments is.names)
spelled_short (Flop target line) is =
    ap (λ long. long || (is_too_long (name line) || false)) (short target is.own_name) ∙ ap (λ long. long || false) (short line is.data_name)

-- the bytes of a name
text_of_name : (bytes : List ℕ) → IsName bytes → AreCode bytes
text_of_name bytes is = name_code bytes (recursion_from_All IsNameByte bytes is.bytes)

-- whether a byte may stand in a line, begins no comment and ends no line
abbrev is_code : ℕ → Bool
is_code byte = not (is_bad (class_of byte)) && (not (begins_comment byte) && not (ends_line byte))

-- a byte that passes the three tests
code_tests : (bad begins ends : Bool) → (not bad && (not begins && not ends)) ≡ true → (bad ≡ false) × (begins ≡ false) × (ends ≡ false)
code_tests true begins ends passes = cc
code_tests false true ends passes = cc
code_tests false false true passes = cc
code_tests false false false passes = (refl, refl, refl)

-- where two tests pass together, each passes
and_tests : (a b : Bool) → (a && b) ≡ true → (a ≡ true) × (b ≡ true)
and_tests true b passes = (refl, passes)
and_tests false b passes = cc

-- a text of bytes that each pass
literal_code : (bytes : List ℕ) → list_all is_code bytes ≡ true → AreCode bytes
literal_code [] passes = tt
literal_code (byte ∷ bytes) passes =
    let both = and_tests (is_code byte) (list_all is_code bytes) passes in
    let tests = code_tests (is_bad (class_of byte)) (begins_comment byte) (ends_line byte) both.0 in
    (record { good = tests.0; no_comment = tests.1; no_end = tests.2 }, literal_code bytes both.1)

-- the text of further arguments
code_of_more : (arguments : List (List ℕ)) → AllByRecursion IsName arguments → AreCode (more_arguments arguments)
code_of_more [] names = tt
code_of_more (argument ∷ arguments) names =
    code_append (codes ", ") (argument ++ more_arguments arguments) (literal_code (codes ", ") refl)
    (code_append argument (more_arguments arguments) (text_of_name argument names.0) (code_of_more arguments names.1))

code_of_arguments : (arguments : List (List ℕ)) → AllByRecursion IsName arguments → AreCode (arguments_text arguments)
code_of_arguments [] names = tt
code_of_arguments (argument ∷ arguments) names =
    code_append argument (more_arguments arguments) (text_of_name argument names.0) (code_of_more arguments names.1)

-- the text of a kind
code_of_kind : (kind : GateKind) → AreCode (kind_text kind)
code_of_kind And = literal_code (codes "AND") refl
code_of_kind Nand = literal_code (codes "NAND") refl
code_of_kind Or = literal_code (codes "OR") refl
code_of_kind Nor = literal_code (codes "NOR") refl
code_of_kind Xor = literal_code (codes "XOR") refl
code_of_kind Xnor = literal_code (codes "XNOR") refl
code_of_kind Not = literal_code (codes "NOT") refl
code_of_kind Buff = literal_code (codes "BUFF") refl

-- a name and a closing bracket
code_of_closed : (bytes : List ℕ) → IsName bytes → AreCode (bytes ++ codes ")")
code_of_closed bytes is = code_append bytes (codes ")") (text_of_name bytes is) (literal_code (codes ")") refl)

-- the bytes of a lawful statement's line may stand in a line
pub code_of_statement : (statement : RawStmt) → IsStatement statement → AreCode (statement_text statement)
code_of_statement (Input port) is = code_append (codes "INPUT(") (port ++ codes ")") (literal_code (codes "INPUT(") refl) (code_of_closed port is)
code_of_statement (Output port) is = code_append (codes "OUTPUT(") (port ++ codes ")") (literal_code (codes "OUTPUT(") refl) (code_of_closed port is)
code_of_statement (Gate target kind arguments) is =
    subst AreCode (sym (gate_pieces target (kind_text kind) (arguments_text arguments)))
    (code_append target (codes " = " ++ (kind_text kind ++ (codes "(" ++ (arguments_text arguments ++ codes ")")))) (text_of_name target is.own_name)
    (code_append (codes " = ") (kind_text kind ++ (codes "(" ++ (arguments_text arguments ++ codes ")"))) (literal_code (codes " = ") refl)
    (code_append (kind_text kind) (codes "(" ++ (arguments_text arguments ++ codes ")")) (code_of_kind kind)
    (code_append (codes "(") (arguments_text arguments ++ codes ")") (literal_code (codes "(") refl)
    (code_append (arguments_text arguments) (codes ")") (code_of_arguments arguments (recursion_from_All IsName arguments is.names)) (literal_code (codes ")") refl))))))
code_of_statement (Flop target line) is =
    subst AreCode (sym (flop_pieces target line))
    (code_append target (codes " = DFF(" ++ (line ++ codes ")")) (text_of_name target is.own_name)
    (code_append (codes " = DFF(") (line ++ codes ")") (literal_code (codes " = DFF(") refl) (code_of_closed line is.data_name)))

-- the line of a lawful statement says that statement
pub statement_again : (statement : RawStmt) → IsStatement statement → line_reading (statement_text statement) ≡ says statement
statement_again statement is =
    let text = statement_text statement in
    let tokens = tokens_of_statement statement is in
    ap code_reading (code_of_code text (code_of_statement statement is))
    ∙ ap (λ bad. cond bad (Err BadByte) (cond (list_any is_too_long (tokens_of text)) (Err NameTooLong) (tokens_reading (tokens_of text))))
    (no_bad_byte text (code_of_statement statement is))
    ∙ ap (λ found. cond (list_any is_too_long found) (Err NameTooLong) (tokens_reading found)) tokens
    ∙ ap (λ long. cond long (Err NameTooLong) (tokens_reading (spelled statement))) (spelled_short statement is)
    ∙ spelled_says statement is
