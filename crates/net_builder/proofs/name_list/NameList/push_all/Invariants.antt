use Rattle.std.proofs.Common.{◌≡◌, ◌++◌, take}
use Rattle.netlist.specs.NameTexts.{bytes_of}
use Rattle.net_builder.proofs.name_list.NameList.push_all.Given as goal

abbrev pub invariant-loop-name : goal.invariant-loop-name
invariant-loop-name l = l.self ≡ l.initial.self ++ bytes_of (take l.name-index l.names)
