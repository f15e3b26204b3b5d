-- The words for the kinds of a netlist (ISCAS .bench: INV is another word for NOT, and BUF for BUFF).
use Rattle.std.specs.Prelude.{ℕ, Bool, ◌&&◌, ◌==◌, nat_le, List, [], ◌∷◌, Option, find, codes}
use Rattle.std.specs.Str.{str_eq_ignore_ascii_case}
use Rattle.netlist.specs.declared.kind.GateKind.{GateKind}
use Rattle.netlist.specs.declared.kind.GateKind.TheVariants as gate
use Rattle.netlist.specs.declared.limits.TheConstants.{MOST_FAN_IN}
use Rattle.bench_reader.specs.declared.kind.KindWord.{KindWord}
use Rattle.bench_reader.specs.declared.kind.KindWord.TheVariants.{And, Nand, Or, Nor, Xor, Xnor, Not, Inv, Buff, Buf, Dff}

-- how a word is spelled
abbrev pub spelling : KindWord → List ℕ
spelling And = codes "AND"
spelling Nand = codes "NAND"
spelling Or = codes "OR"
spelling Nor = codes "NOR"
spelling Xor = codes "XOR"
spelling Xnor = codes "XNOR"
spelling Not = codes "NOT"
spelling Inv = codes "INV"
spelling Buff = codes "BUFF"
spelling Buf = codes "BUF"
spelling Dff = codes "DFF"

-- all words
abbrev pub kind_words : List KindWord
kind_words = And ∷ Nand ∷ Or ∷ Nor ∷ Xor ∷ Xnor ∷ Not ∷ Inv ∷ Buff ∷ Buf ∷ Dff ∷ []

-- the word that is spelled so, in any mixture of upper and lower case
abbrev pub kind_word_of : List ℕ → Option KindWord
kind_word_of word = find (λ known. str_eq_ignore_ascii_case word (spelling known)) kind_words

-- whether there are as many arguments as a gate of any kind but NOT and BUFF may have
abbrev pub is_many : ℕ → Bool
is_many count = nat_le 1 count && nat_le count MOST_FAN_IN

-- whether a gate of this kind may have so many arguments
abbrev pub may_have : GateKind → ℕ → Bool
may_have gate.And count = is_many count
may_have gate.Nand count = is_many count
may_have gate.Or count = is_many count
may_have gate.Nor count = is_many count
may_have gate.Xor count = is_many count
may_have gate.Xnor count = is_many count
may_have gate.Not count = count == 1
may_have gate.Buff count = count == 1
