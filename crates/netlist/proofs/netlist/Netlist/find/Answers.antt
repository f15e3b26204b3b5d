-- A binary search among the lines by name ends at a line that bears the name, or where none does.
use Rattle.std.proofs.Common.{◌<◌, get_or, sym, subst, rules}
use Rattle.std.proofs.lemmas.Fn.{always_returns_same}
use Rattle.pd_base.specs.declared.ids.LineId.{LineId}
use Rattle.netlist.specs.Circuit.{line_names}
use Rattle.netlist.specs.Names.{compared, IsByName}
use Rattle.netlist.proofs.ByName.{compared_rise, bears, none_bears}
use Rattle.netlist.proofs.CircuitLines.{line_names-length}
use Rattle.netlist.proofs.StoredLists.{stored_of}
use Rattle.netlist.proofs.netlist.Netlist.find.Goals as goal

pub returns-in-Ok : goal.returns-in-Ok
returns-in-Ok c =
    let stored = stored_of c.self.invariant c.self.view_is in
    let names = line_names c.args.self.now in
    let lines = c.as_slice-by_name.result.now in
    let none : LineId = record { 0 = 0 } in
    let by_name = subst (IsByName names) (sym c.as_slice-by_name.ensures.value) stored.by_name in
    let equal = c.in-Ok.ensures.position (compared names c.args.name.now) (always_returns_same _ _ _ (λ a r g called. search rules)) in
    let found = bears names c.args.name.now lines by_name c.in-Ok.at none c.in-Ok.ensures.bound equal in
    (subst (λ n. (get_or lines c.in-Ok.at none).0 < n) (line_names-length c.args.self.now) found.0, found.1)

pub returns-in-Err : goal.returns-in-Err
returns-in-Err c =
    let stored = stored_of c.self.invariant c.self.view_is in
    let names = line_names c.args.self.now in
    let lines = c.as_slice-by_name.result.now in
    let by_name = subst (IsByName names) (sym c.as_slice-by_name.ensures.value) stored.by_name in
    let parted = c.in-Err.ensures.position (compared names c.args.name.now) (always_returns_same _ _ _ (λ a r g called. search rules)) in
    none_bears names c.args.name.now lines by_name c.in-Err.field-0 (parted (compared_rise names c.args.name.now lines by_name))
