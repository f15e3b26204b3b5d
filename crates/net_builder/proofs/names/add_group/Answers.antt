-- A name that is repeated among those of the statements so far is repeated among all.
use Rattle.std.proofs.Common.{arith}
use Rattle.std.proofs.lemmas.Result.{err_from_is_err_and}
use Rattle.netlist.specs.Statements.{Numbered}
use Rattle.net_builder.specs.Groups.{group_in}
use Rattle.net_builder.specs.KnownNames.{known_names}
use Rattle.net_builder.specs.Reading.{no_statement}
use Rattle.net_builder.proofs.ByLine.{pieces_repeated}
use Rattle.net_builder.proofs.NameFaults.{tells_less}
use Rattle.net_builder.proofs.names.add_group.Goals as goal

pub returns-in_err-add_member-clause-repeated : goal.returns-in_err-add_member-clause-repeated
returns-in_err-add_member-clause-repeated c =
    let p = err_from_is_err_and c.from_residual.result c.from_residual.ensures.1 in
    let raw = c.args.raw.now in
    let group = c.args.group in
    rw (p.1, p.2) (tells_less
    (pieces_repeated (λ (s : Numbered). group_in group s.statement) raw c.loop-place.place no_statement (omega arith)
    (known_names c.args.names.now) (known_names c.loop-place.names) c.loop-place.invariant.0)
    _ c.in_err-add_member.ensures.repeated)
