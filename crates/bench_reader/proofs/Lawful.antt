-- The names in a line whose bytes may all stand there are names, where none is too long; so what such a line states is
-- a lawful statement.
use Rattle.std.proofs.Common.{◌≡◌, ℕ, ◌≤◌, Bool, true, false, ◌&&◌, ◌||◌, cond, not, nat_le, ◌==◌, List, [], ◌∷◌, length, Some, None, Ok, Err, Option, refl, arith, lit≤}
use Rattle.std.proofs.lemmas.Bool.Decides.{nat_tests}
use Rattle.std.proofs.lemmas.List.Elements.{All-from_recursion}
use Rattle.std.specs.Prelude.{⊤, codes}
use Rattle.std.specs.Str.{str_eq_ignore_ascii_case}
use Rattle.std.specs.List.{AllByRecursion, list_any}
use Rattle.netlist.specs.declared.kind.GateKind.{GateKind}
use Rattle.netlist.specs.declared.kind.GateKind.TheVariants as gate
use Rattle.netlist.specs.Names.{IsName, IsNameByte}
use Rattle.netlist.specs.Lawful.{IsFanIn, IsManyPins}
use Rattle.netlist.specs.Statements.{IsStatement}
use Rattle.bench_reader.specs.declared.byte.ByteClass.{ByteClass}
use Rattle.bench_reader.specs.declared.byte.ByteClass.TheVariants.{Blank, Mark, NamePart, Bad}
use Rattle.bench_reader.specs.declared.byte.Mark.TheVariants.{Open, Close, Comma, Equals}
use Rattle.bench_reader.specs.Bytes.{class_of, is_name_part, is_part}
use Rattle.netlist.specs.declared.raw_net.RawStmt.TheVariants.{Input, Output, Gate}
use Rattle.bench_reader.specs.declared.line_fault.LineFault.TheVariants.{FanIn, Syntax}
use Rattle.bench_reader.specs.declared.kind.KindWord.{KindWord}
use Rattle.bench_reader.specs.declared.kind.KindWord.TheVariants.{And, Nand, Or, Nor, Xor, Xnor, Not, Inv, Buff, Buf, Dff}
use Rattle.bench_reader.specs.Kinds.{is_many, kind_word_of, may_have}
use Rattle.bench_reader.specs.Statements.{Reading, arguments_of, defined_reading, definition_reading, flop_reading, gate_reading, is_too_long, kind_reading, names_of, port_reading, says, tokens_reading, with_first, word_reading}
use Rattle.bench_reader.specs.Tokens.{Token, begins_name, mark, name, tokens_of, with_byte, with_name_byte}

-- of the tests for the class of a byte, the part of a name fails all but the last
part_tests : (blank opens closes comma equal allowed : Bool)
    → is_name_part (cond blank Blank (cond opens (Mark Open) (cond closes (Mark Close) (cond comma (Mark Comma)
    (cond equal (Mark Equals) (cond allowed NamePart Bad)))))) ≡ true
    → (opens ≡ false) × (closes ≡ false) × (comma ≡ false) × (equal ≡ false) × (allowed ≡ true)
part_tests true opens closes comma equal allowed is = cc
part_tests false true closes comma equal allowed is = cc
part_tests false false true comma equal allowed is = cc
part_tests false false false true equal allowed is = cc
part_tests false false false false true allowed is = cc
part_tests false false false false false true is = (refl, refl, refl, refl, refl)
part_tests false false false false false false is = cc

-- of the tests whether a byte is allowed, each passes
allowed_tests : (above below quote hash : Bool) → (above && (below && (not quote && not hash))) ≡ true
    → (above ≡ true) × (below ≡ true) × (quote ≡ false) × (hash ≡ false)
allowed_tests false below quote hash is = cc
allowed_tests true false quote hash is = cc
allowed_tests true true true hash is = cc
allowed_tests true true false true is = cc
allowed_tests true true false false is = (refl, refl, refl, refl)

-- a part of a name is a byte that a name may have
part_is_name_byte : (byte : ℕ) → is_part byte ≡ true → IsNameByte byte
part_is_name_byte byte is =
    let tests = part_tests _ _ _ _ _ _ is in
    let allowed = allowed_tests (nat_le 33 byte) (nat_le byte 126) (byte == 34) (byte == 35) tests.4 in
    record {
      above_space = grind (arith, nat_tests);
      below_delete = grind (arith, nat_tests);
      no_quote = grind (arith, nat_tests);
      no_hash = grind (arith, nat_tests);
      no_open = grind (arith, nat_tests);
      no_close = grind (arith, nat_tests);
      no_comma = grind (arith, nat_tests);
      no_equals = grind (arith, nat_tests);
    }

-- where neither of two tests passes, each fails
neither : (a b : Bool) → (a || b) ≡ false → (a ≡ false) × (b ≡ false)
neither true b is = cc
neither false b is = (refl, is)

-- a name of some bytes that a name may have, or a mark
abbrev IsWordToken : Token → Type 0
IsWordToken (name bytes) = (1 ≤ length bytes) × AllByRecursion IsNameByte bytes
IsWordToken (mark which) = ⊤

-- a name, or a mark
abbrev pub IsLawfulToken : Token → Type 0
IsLawfulToken (name bytes) = IsName bytes
IsLawfulToken (mark which) = ⊤

-- a byte of a name before such tokens
words_after_name_byte : (byte : ℕ) (goes_on : Bool) (tokens : List Token) → IsNameByte byte → AllByRecursion IsWordToken tokens
    → AllByRecursion IsWordToken (with_name_byte byte goes_on tokens)
words_after_name_byte byte true [] is words = ((lit≤ tt, (is, tt)), words)
words_after_name_byte byte true (name bytes ∷ tokens) is words = ((omega arith, (is, words.0.1)), words.1)
words_after_name_byte byte true (mark which ∷ tokens) is words = ((lit≤ tt, (is, tt)), words)
words_after_name_byte byte false tokens is words = ((lit≤ tt, (is, tt)), words)

-- a byte before such tokens
words_after_byte : (class : ByteClass) (byte : ℕ) (goes_on : Bool) (tokens : List Token)
    → (is_name_part class ≡ true → IsNameByte byte) → AllByRecursion IsWordToken tokens
    → AllByRecursion IsWordToken (with_byte class byte goes_on tokens)
words_after_byte Blank byte goes_on tokens part words = words
words_after_byte (Mark which) byte goes_on tokens part words = (tt, words)
words_after_byte NamePart byte goes_on tokens part words = words_after_name_byte byte goes_on tokens (part refl) words
words_after_byte Bad byte goes_on tokens part words = words

-- the tokens of a text are such tokens
words_of : (code : List ℕ) → AllByRecursion IsWordToken (tokens_of code)
words_of [] = tt
words_of (byte ∷ bytes) =
    words_after_byte (class_of byte) byte (begins_name bytes) (tokens_of bytes) (part_is_name_byte byte) (words_of bytes)

-- such a token is lawful, where it is no name that is too long
lawful_token : (token : Token) → IsWordToken token → is_too_long token ≡ false → IsLawfulToken token
lawful_token (name bytes) word fits =
    record { some_byte = word.0; few_bytes = grind (arith, nat_tests); bytes = All-from_recursion IsNameByte bytes word.1 }
lawful_token (mark which) word fits = tt

-- and so are all, where none is a name that is too long
lawful_words : (tokens : List Token) → AllByRecursion IsWordToken tokens → list_any is_too_long tokens ≡ false
    → AllByRecursion IsLawfulToken tokens
lawful_words [] words fit = tt
lawful_words (token ∷ tokens) words fit =
    let each = neither (is_too_long token) (list_any is_too_long tokens) fit in
    (lawful_token token words.0 each.0, lawful_words tokens words.1 each.1)

-- where a gate may have so many arguments, its fan-in is lawful
many : (count : ℕ) → is_many count ≡ true → IsManyPins count
many count is = record { some = grind (arith, nat_tests); few = grind (arith, nat_tests) }

fan_in : (kind : GateKind) (count : ℕ) → may_have kind count ≡ true → IsFanIn kind count
fan_in gate.And count may = many count may
fan_in gate.Nand count may = many count may
fan_in gate.Or count may = many count may
fan_in gate.Nor count may = many count may
fan_in gate.Xor count may = many count may
fan_in gate.Xnor count may = many count may
fan_in gate.Not count may = grind (arith, nat_tests)
fan_in gate.Buff count may = grind (arith, nat_tests)

-- what a line states is lawful, if it states something
abbrev pub IsLawful : Reading → Type 0
IsLawful (Ok (Some statement)) = IsStatement statement
IsLawful (Ok None) = ⊤
IsLawful (Err fault) = ⊤

-- these are names, if they are some
abbrev AreNames : Option (List (List ℕ)) → Type 0
AreNames None = ⊤
AreNames (Some names) = AllByRecursion IsName names

lawful_gate : (target : List ℕ) (kind : GateKind) (arguments : List (List ℕ)) → IsName target → AllByRecursion IsName arguments
    → IsLawful (gate_reading target kind arguments)
lawful_gate target kind arguments own names =
    let statement = gate_reading target kind arguments in
    elim (may_have kind (length arguments)) as (λ may. may_have kind (length arguments) ≡ may
    → IsLawful (cond may (says (Gate target kind arguments)) (Err FanIn))) [
      | true ↦ λ may. record { own_name = own; names = All-from_recursion IsName arguments names; fan_in = fan_in kind (length arguments) may }
      | false ↦ λ may. tt
    ] refl

lawful_flop : (target : List ℕ) (arguments : List (List ℕ)) → IsName target → AllByRecursion IsName arguments
    → IsLawful (flop_reading target arguments)
lawful_flop target [] own names = tt
lawful_flop target (line ∷ []) own names = record { own_name = own; data_name = names.0 }
lawful_flop target (line ∷ other ∷ more) own names = tt

lawful_kind : (target : List ℕ) (arguments : List (List ℕ)) (known : Option KindWord) → IsName target
    → AllByRecursion IsName arguments → IsLawful (kind_reading target arguments known)
lawful_kind target arguments None own names = tt
lawful_kind target arguments (Some And) own names = lawful_gate target gate.And arguments own names
lawful_kind target arguments (Some Nand) own names = lawful_gate target gate.Nand arguments own names
lawful_kind target arguments (Some Or) own names = lawful_gate target gate.Or arguments own names
lawful_kind target arguments (Some Nor) own names = lawful_gate target gate.Nor arguments own names
lawful_kind target arguments (Some Xor) own names = lawful_gate target gate.Xor arguments own names
lawful_kind target arguments (Some Xnor) own names = lawful_gate target gate.Xnor arguments own names
lawful_kind target arguments (Some Not) own names = lawful_gate target gate.Not arguments own names
lawful_kind target arguments (Some Inv) own names = lawful_gate target gate.Not arguments own names
lawful_kind target arguments (Some Buff) own names = lawful_gate target gate.Buff arguments own names
lawful_kind target arguments (Some Buf) own names = lawful_gate target gate.Buff arguments own names
lawful_kind target arguments (Some Dff) own names = lawful_flop target arguments own names

lawful_defined : (target word : List ℕ) (arguments : Option (List (List ℕ))) → IsName target → AreNames arguments
    → IsLawful (defined_reading target word arguments)
lawful_defined target word None own names = tt
lawful_defined target word (Some arguments) own names = lawful_kind target arguments (kind_word_of word) own names

-- the arguments among lawful tokens are names
with_first_names : (first : List ℕ) (others : Option (List (List ℕ))) → IsName first → AreNames others → AreNames (with_first first others)
with_first_names first None is names = tt
with_first_names first (Some others) is names = (is, names)

names_of_names : (tokens : List Token) → AllByRecursion IsLawfulToken tokens → AreNames (names_of tokens)
names_of_names [] lawful = tt
names_of_names (mark which ∷ tokens) lawful = tt
names_of_names (name first ∷ []) lawful = tt
names_of_names (name first ∷ name second ∷ tokens) lawful = tt
names_of_names (name first ∷ mark Open ∷ tokens) lawful = tt
names_of_names (name first ∷ mark Equals ∷ tokens) lawful = tt
names_of_names (name first ∷ mark Close ∷ []) lawful = (lawful.0, tt)
names_of_names (name first ∷ mark Close ∷ token ∷ tokens) lawful = tt
names_of_names (name first ∷ mark Comma ∷ tokens) lawful =
    with_first_names first (names_of tokens) lawful.0 (names_of_names tokens lawful.1.1)

arguments_of_names : (tokens : List Token) → AllByRecursion IsLawfulToken tokens → AreNames (arguments_of tokens)
arguments_of_names [] lawful = tt
arguments_of_names (name first ∷ tokens) lawful = names_of_names (name first ∷ tokens) lawful
arguments_of_names (mark Open ∷ tokens) lawful = tt
arguments_of_names (mark Comma ∷ tokens) lawful = tt
arguments_of_names (mark Equals ∷ tokens) lawful = tt
arguments_of_names (mark Close ∷ []) lawful = tt
arguments_of_names (mark Close ∷ token ∷ tokens) lawful = tt

lawful_definition : (target : List ℕ) (tokens : List Token) → IsName target → AllByRecursion IsLawfulToken tokens
    → IsLawful (definition_reading target tokens)
lawful_definition target [] own lawful = tt
lawful_definition target (mark which ∷ tokens) own lawful = tt
lawful_definition target (name word ∷ []) own lawful = tt
lawful_definition target (name word ∷ name second ∷ tokens) own lawful = tt
lawful_definition target (name word ∷ mark Close ∷ tokens) own lawful = tt
lawful_definition target (name word ∷ mark Comma ∷ tokens) own lawful = tt
lawful_definition target (name word ∷ mark Equals ∷ tokens) own lawful = tt
lawful_definition target (name word ∷ mark Open ∷ tokens) own lawful =
    lawful_defined target word (arguments_of tokens) own (arguments_of_names tokens lawful.1.1)

lawful_word : (word port : List ℕ) → IsName port → IsLawful (word_reading word port)
lawful_word word port is =
    elim (str_eq_ignore_ascii_case word (codes "INPUT")) as (λ input. IsLawful (cond input (says (Input port))
    (cond (str_eq_ignore_ascii_case word (codes "OUTPUT")) (says (Output port)) (Err Syntax)))) [
      | true ↦ is
      | false ↦ elim (str_eq_ignore_ascii_case word (codes "OUTPUT"))
          as (λ output. IsLawful (cond output (says (Output port)) (Err Syntax))) [ true ↦ is | false ↦ tt ]
    ]

lawful_port : (word : List ℕ) (tokens : List Token) → AllByRecursion IsLawfulToken tokens → IsLawful (port_reading word tokens)
lawful_port word [] lawful = tt
lawful_port word (name first ∷ tokens) lawful = tt
lawful_port word (mark Close ∷ tokens) lawful = tt
lawful_port word (mark Comma ∷ tokens) lawful = tt
lawful_port word (mark Equals ∷ tokens) lawful = tt
lawful_port word (mark Open ∷ []) lawful = tt
lawful_port word (mark Open ∷ mark which ∷ tokens) lawful = tt
lawful_port word (mark Open ∷ name port ∷ []) lawful = tt
lawful_port word (mark Open ∷ name port ∷ name other ∷ tokens) lawful = tt
lawful_port word (mark Open ∷ name port ∷ mark Open ∷ tokens) lawful = tt
lawful_port word (mark Open ∷ name port ∷ mark Comma ∷ tokens) lawful = tt
lawful_port word (mark Open ∷ name port ∷ mark Equals ∷ tokens) lawful = tt
lawful_port word (mark Open ∷ name port ∷ mark Close ∷ []) lawful = lawful_word word port lawful.1.0
lawful_port word (mark Open ∷ name port ∷ mark Close ∷ token ∷ tokens) lawful = tt

lawful_line : (tokens : List Token) → AllByRecursion IsLawfulToken tokens → IsLawful (tokens_reading tokens)
lawful_line [] lawful = tt
lawful_line (mark which ∷ tokens) lawful = tt
lawful_line (name first ∷ []) lawful = lawful_port first [] tt
lawful_line (name first ∷ name second ∷ tokens) lawful = lawful_port first (name second ∷ tokens) lawful.1
lawful_line (name first ∷ mark Open ∷ tokens) lawful = lawful_port first (mark Open ∷ tokens) lawful.1
lawful_line (name first ∷ mark Close ∷ tokens) lawful = lawful_port first (mark Close ∷ tokens) lawful.1
lawful_line (name first ∷ mark Comma ∷ tokens) lawful = lawful_port first (mark Comma ∷ tokens) lawful.1
lawful_line (name first ∷ mark Equals ∷ tokens) lawful = lawful_definition first tokens lawful.0 lawful.1.1

-- what a text without too long names states is lawful
pub lawful_tokens : (code : List ℕ) → list_any is_too_long (tokens_of code) ≡ false → IsLawful (tokens_reading (tokens_of code))
lawful_tokens code fit = lawful_line (tokens_of code) (lawful_words (tokens_of code) (words_of code) fit)
