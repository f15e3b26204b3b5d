-- What the texts of a run ask of its circuit.
use Rattle.std.proofs.Common.{ℕ, List, arith}
use Rattle.netlist.specs.Circuit.{Circuit}
use Rattle.netlist.specs.Lawful.{IsCircuit}
use Rattle.netlist.specs.Names.{IsName, IsNameByte}
use Rattle.run_files.specs.PlainTexts.{HasPlainNames, IsPlain, IsPlainByte}

-- a byte that a name may have is none of those that call for quotes
plain_byte : (byte : ℕ) → IsNameByte byte → IsPlainByte byte
plain_byte byte is = record {
  no_comma = is.no_comma;
  no_quote = is.no_quote;
  no_return = λ same. let above = is.above_space in omega arith;
  no_feed = λ same. let above = is.above_space in omega arith;
}

-- nor has a name such a byte
plain_name : (name : List ℕ) → IsName name → IsPlain name
plain_name name is k d within = plain_byte _ (is.bytes k d within)

-- the names of a circuit call for no quotes
pub has_plain_names : (c : Circuit) → IsCircuit c → HasPlainNames c
has_plain_names c is k d within = plain_name _ (is.names k d within)
