-- A text that is the scan file of chains is refused only for want of memory, and is that of no other chains; a flip-flop that is missing in
-- one is a line of the circuit.
use Rattle.std.proofs.Common.{◌≡◌, ◌<◌, ℕ, List, ◌∷◌, Contains, refl, sym, subst, arith}
use Rattle.std.proofs.lemmas.List.Elements.{Contains-append_right}
use Rattle.std.proofs.lemmas.Option.{none-some, same_Some}
use Rattle.pd_base.specs.Memory.{out_of_memory}
use Rattle.pd_base.specs.declared.ids.LineId.{LineId}
use Rattle.netlist.specs.Circuit.{Circuit, line_count}
use Rattle.netlist.specs.Lawful.{IsCircuit}
use Rattle.scan_order.specs.ScanFile.{HasChains}
use Rattle.scan_order.specs.ScanRefusals.{FailsAs, IsMissingFlop, NamesFlop, RefusesScan}
use Rattle.scan_order.specs.ScanRefusals.FailsAs.{missing, twice, unknown}
use Rattle.scan_order.specs.ScanRefusals.RefusesScan.{fails, no_memory}
use Rattle.scan_order.specs.declared.scan_fault.ScanFault.{ScanFault}
use Rattle.scan_order.specs.declared.scan_fault.ScanFault.TheVariants as fault
use Rattle.scan_order.proofs.FlopNames.{flop_in_circuit}
use Rattle.scan_order.proofs.Refused.{chains_read}

-- it is refused for want of memory alone
pub scan_not_refused : (c : Circuit) (text : List ℕ) (chains : List (List LineId)) (why : ScanFault) → HasChains c text chains
    → RefusesScan c text why → why ≡ fault.NoMemory out_of_memory
scan_not_refused c text chains why has (fails failing reads) = absurd (none-some chains (reads.only chains has.are has.is_text))
scan_not_refused c text chains why has (no_memory none) = none

-- its chains are its only ones
pub chains_once : (c : Circuit) → IsCircuit c → (text : List ℕ) (chains others : List (List LineId)) → HasChains c text chains
    → HasChains c text others → chains ≡ others
chains_once c is text chains others has also =
    same_Some _ _ ((chains_read c is text chains has.are has.is_text).only others also.are also.is_text)

-- a missing flip-flop is one of the circuit
missing_flop_in_circuit : (c : Circuit) → IsCircuit c → (lines : List (List ℕ)) (flop : LineId) → IsMissingFlop c lines flop
    → flop.0 < line_count c
missing_flop_in_circuit c is lines flop bad =
    flop_in_circuit c is flop
    (subst (λ (flops : List LineId). Contains flops flop) (sym bad.place)
    (Contains-append_right bad.before (flop ∷ bad.behind) flop (0, omega arith, refl)))

names_flop : (c : Circuit) → IsCircuit c → (text : List ℕ) (why : ScanFault) → FailsAs c text why → NamesFlop c why
names_flop c is text why (unknown lines rest have bad) = tt
names_flop c is text why (twice lines rest have bad) = tt
names_flop c is text why (missing lines flop have bad) = missing_flop_in_circuit c is lines flop bad

pub refused_names_flop : (c : Circuit) → IsCircuit c → (text : List ℕ) (why : ScanFault) → RefusesScan c text why → NamesFlop c why
refused_names_flop c is text why (fails failing reads) = names_flop c is text why failing
refused_names_flop c is text why (no_memory none) = subst (NamesFlop c) (sym none) tt
