-- The marks are those of the fan-in of the engine's one end, so each marked line is told.
use Rattle.std.proofs.Common.{◌<◌, ap, sym, subst}
use Rattle.netlist.specs.Circuit.{Circuit, line_count}
use Rattle.netlist.specs.Pins.{IsInFanIn}
use Rattle.hulls.proofs.Flags.{inside_within}
use Rattle.implication.specs.Standing.{Standing}
use Rattle.search_answers.proofs.Told.{cone_told}
use Rattle.search_answers.proofs.scopes.cone_alike.Goals as goal

pub prefixes_alike-requires-clause-told : goal.prefixes_alike-requires-clause-told
prefixes_alike-requires-clause-told c =
    let marks = c.support.new.cone in
    let end = c.args.end in
    let net = ap (λ (s : Standing). s.net) c.in_ok-engine.ensures in
    cone_told c.in_ok-engine.engine end marks (ap (λ (s : Standing). s.ends) c.in_ok-engine.ensures)
    (λ line marked.
    let within : line < line_count c.args.net.now = subst (λ n. line < n) c.support.ensures.places (inside_within marks line marked) in
    subst (λ (circuit : Circuit). IsInFanIn circuit end.0 line) (sym net) ((c.support.ensures.exactly line within).0 marked))
