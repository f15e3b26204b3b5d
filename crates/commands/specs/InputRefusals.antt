-- The refusals of inputs that commands read alike, each for its reason: the cause, and what the line on err says (this project's own).
use Rattle.std.specs.Prelude.{ℕ, List, ◌++◌, codes, decimal}
use Rattle.net_builder.specs.declared.fault.BuildFault.{BuildFault}
use Rattle.net_builder.specs.declared.fault.BuildFault.TheVariants as build
use Rattle.bench_reader.specs.declared.fault.BenchFault.{BenchFault}
use Rattle.bench_reader.specs.declared.fault.BenchFault.TheVariants as bench
use Rattle.delay_annotation.specs.declared.fault.DelayFault.{DelayFault}
use Rattle.delay_annotation.specs.declared.fault.DelayFault.TheVariants as delay
use Rattle.netlist.specs.Circuit.{Circuit}
use Rattle.netlist.specs.Names.{name_at}
use Rattle.scan_order.specs.declared.scan_fault.ScanFault.{ScanFault}
use Rattle.scan_order.specs.declared.scan_fault.ScanFault.TheVariants as scan
use Rattle.calls.specs.CauseAndText.{refusal_for}
use Rattle.calls.specs.Lines.{role_word}
use Rattle.calls.specs.declared.cause.Cause.TheVariants as cause
use Rattle.calls.specs.declared.ending.Ending.{Ending}
use Rattle.calls.specs.declared.ending.Ending.TheVariants.{Refused, NoMemory}
use Rattle.calls.specs.declared.refusal.Refusal.{Refusal}
use Rattle.calls.specs.declared.role.Role.{Role}

-- the input of this role has more bytes than are read of it
abbrev pub too_long : Role → Refusal
too_long role = refusal_for cause.Size (codes "size: " ++ role_word role)

-- a line of NET, and what is wrong there
abbrev pub wrong_at : ℕ → List ℕ → Ending
wrong_at place reason = Refused (refusal_for cause.Netlist (codes "netlist: line " ++ decimal place ++ reason))

-- what NET has too many of
abbrev pub too_many : List ℕ → ℕ → Ending
too_many what count = Refused (refusal_for cause.Netlist (codes "netlist: " ++ what ++ decimal count))

-- how a call ends for which NET's statements describe no circuit
abbrev pub build_ending : BuildFault → Ending
build_ending (build.TooManyLines count) = too_many (codes "too many lines ") count
build_ending (build.TooManyPins count) = too_many (codes "too many pins ") count
build_ending (build.Twice place name) = wrong_at place (codes " twice " ++ name)
build_ending (build.Undefined place name) = wrong_at place (codes " undefined " ++ name)
build_ending (build.Loop place name) = wrong_at place (codes " loop " ++ name)
build_ending (build.TooDeep place name) = wrong_at place (codes " too deep " ++ name)
build_ending (build.NoMemory refused) = NoMemory refused

-- how one ends for which NET has no circuit
abbrev pub netlist_ending : BenchFault → Ending
netlist_ending (bench.BadByte place) = wrong_at place (codes " bad byte")
netlist_ending (bench.NameTooLong place) = wrong_at place (codes " name too long")
netlist_ending (bench.Syntax place) = wrong_at place (codes " syntax")
netlist_ending (bench.UnknownKind place) = wrong_at place (codes " unknown kind")
netlist_ending (bench.FanIn place) = wrong_at place (codes " fan-in")
netlist_ending (bench.Build fault) = build_ending fault
netlist_ending (bench.NoMemory refused) = NoMemory refused

-- a row of DELAYS, and what is wrong there
abbrev pub wrong_in : ℕ → List ℕ → Ending
wrong_in row reason = Refused (refusal_for cause.Delays (codes "delays: row " ++ decimal row ++ reason))

-- how a call ends for which DELAYS gives no delays
abbrev pub delays_ending : DelayFault → Ending
delays_ending delay.Header = Refused (refusal_for cause.Delays (codes "delays: header"))
delays_ending (delay.Fields row) = wrong_in row (codes " fields")
delays_ending (delay.UnknownGate row) = wrong_in row (codes " unknown gate")
delays_ending (delay.BadPin row) = wrong_in row (codes " bad pin")
delays_ending (delay.BadNumber row) = wrong_in row (codes " bad number")
delays_ending (delay.NoMemory refused) = NoMemory refused

-- a line of SCAN, and what is wrong there
abbrev pub wrong_scan_line : ℕ → List ℕ → Ending
wrong_scan_line place reason = Refused (refusal_for cause.Scan (codes "scan: line " ++ decimal place ++ reason))

-- the flip-flop of this name stands on no line of SCAN
abbrev pub missing_flop : List ℕ → Refusal
missing_flop name = refusal_for cause.Scan (codes "scan: missing " ++ name)

-- how a call ends for which SCAN gives no chains of this circuit
abbrev pub scan_ending : Circuit → ScanFault → Ending
scan_ending c (scan.Unknown place) = wrong_scan_line place (codes " unknown")
scan_ending c (scan.Twice place) = wrong_scan_line place (codes " twice")
scan_ending c (scan.Missing flop) = Refused (missing_flop (name_at c flop.0))
scan_ending c (scan.NoMemory refused) = NoMemory refused

-- the texts of the paths may be too long: the product that bounds them
abbrev pub long_path_text : ℕ → Refusal
long_path_text product = refusal_for cause.Size (codes "size: path text " ++ decimal product)

-- the texts of the tests may be
abbrev pub long_test_text : ℕ → Refusal
long_test_text product = refusal_for cause.Size (codes "size: test text " ++ decimal product)

-- the claim file of this role lacks its form at this line, as the command of this word says
abbrev pub malformed : List ℕ → Role → ℕ → Refusal
malformed command role place =
    refusal_for cause.Claims (command ++ codes ": " ++ role_word role ++ codes " line " ++ decimal place ++ codes " malformed")
