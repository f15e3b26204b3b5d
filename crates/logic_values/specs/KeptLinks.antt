-- Links whose sources have the bits of their lines in a lane (this project's own).
use Rattle.std.specs.Prelude.{◌≡◌, ℕ, Bool, List, All}
use Rattle.pd_base.specs.Links.{LinkList}
use Rattle.pd_base.specs.declared.ids.LineId.{LineId}
use Rattle.netlist.specs.Values.{bit_of}
use Rattle.logic_values.specs.Lanes.{lane_bit}

-- the linked source has in the vector the bit of its line in this lane
abbrev pub HasLinkBit : List Bool → List ℕ → ℕ → LineId × LineId → Type 0
HasLinkBit vector words lane link = bit_of vector link.0.0 ≡ lane_bit words lane link.1.0

-- each of them has
abbrev pub HasLinkBits : LinkList → List Bool → List ℕ → ℕ → Type 0
HasLinkBits links vector words lane = All (HasLinkBit vector words lane) links
