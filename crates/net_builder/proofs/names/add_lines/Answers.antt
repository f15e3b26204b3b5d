-- The groups one behind another are all lines, and a name that is repeated among them is defined twice.
use Rattle.std.proofs.Common.{subst}
use Rattle.std.proofs.lemmas.Result.{err_from_is_err_and}
use Rattle.net_builder.proofs.ByLine.{Differ, all_lines, first_repeated, lines_distinct, second_repeated, third_repeated}
use Rattle.net_builder.proofs.NameFaults.{tells_less}
use Rattle.net_builder.proofs.names.add_lines.Goals as goal
use Rattle.net_builder.specs.KnownNames.{known_names}

pub returns-clause-names : goal.returns-clause-names
returns-clause-names c =
    all_lines c.args.raw.now _ (known_names c.add_group.new.names) (known_names c.add_group-2.new.names) (known_names c.add_group-3.new.names)
    c.requires c.in_ok-add_group.ensures.names c.in_ok-add_group-2.ensures.names
    c.in_ok-add_group-3.ensures.names

pub returns-clause-distinct : goal.returns-clause-distinct
returns-clause-distinct c =
    lines_distinct c.args.raw.now (subst Differ
    (all_lines c.args.raw.now _ (known_names c.add_group.new.names) (known_names c.add_group-2.new.names) (known_names c.add_group-3.new.names)
    c.requires c.in_ok-add_group.ensures.names c.in_ok-add_group-2.ensures.names
    c.in_ok-add_group-3.ensures.names) c.in_ok-add_group-3.ensures.distinct)

pub returns-in_err-add_group-clause-repeated : goal.returns-in_err-add_group-clause-repeated
returns-in_err-add_group-clause-repeated c =
    let p = err_from_is_err_and c.from_residual.result c.from_residual.ensures.1 in
    rw (p.1, p.2) (tells_less (first_repeated c.args.raw.now _ c.requires) _ c.in_err-add_group.ensures.repeated)

pub returns-in_err-add_group-2-clause-repeated : goal.returns-in_err-add_group-2-clause-repeated
returns-in_err-add_group-2-clause-repeated c =
    let p = err_from_is_err_and c.from_residual-in_err-add_group-2.result c.from_residual-in_err-add_group-2.ensures.1 in
    rw (p.1, p.2) (tells_less
    (second_repeated c.args.raw.now _ c.requires (known_names c.add_group.new.names) c.in_ok-add_group.ensures.names)
    _ c.in_err-add_group-2.ensures.repeated)

pub returns-in_err-add_group-3-clause-repeated : goal.returns-in_err-add_group-3-clause-repeated
returns-in_err-add_group-3-clause-repeated c =
    let p = err_from_is_err_and c.from_residual-in_err-add_group-3.result c.from_residual-in_err-add_group-3.ensures.1 in
    rw (p.1, p.2) (tells_less
    (third_repeated c.args.raw.now _ c.requires (known_names c.add_group.new.names) c.in_ok-add_group.ensures.names
    (known_names c.add_group-2.new.names) c.in_ok-add_group-2.ensures.names)
    _ c.in_err-add_group-3.ensures.repeated)
