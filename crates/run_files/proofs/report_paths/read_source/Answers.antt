-- A name that no line bears is that of no source.
use Rattle.std.proofs.Common.{◌<◌, Contains, sym, subst}
use Rattle.pd_base.specs.declared.ids.LineId.{LineId}
use Rattle.netlist.specs.Circuit.{line_names, source_count}
use Rattle.netlist.specs.Names.{name_at}
use Rattle.text_pieces.proofs.Spelled.{none_spelled}
use Rattle.run_files.proofs.ReportNames.{has_source_name}
use Rattle.run_files.proofs.report_paths.read_source.Goals as goal

pub returns-in_err-line : goal.returns-in_err-line
returns-in_err-line c =
    let net = c.args.net.now in
    rw c.from_residual.ensures
    (none_spelled (λ (source : LineId). name_at net source.0) (λ (source : LineId). source.0 < source_count net) c.args.name.now
    (λ source within same.
    c.in_err-line.ensures (subst (Contains (line_names net)) (sym same) (has_source_name net source.0 within))))
