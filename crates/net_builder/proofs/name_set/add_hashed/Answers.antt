-- What was new is none of the names before, and what was not is one of them.
use Rattle.std.proofs.Common.{◌∙◌, ap, sym}
use Rattle.net_builder.proofs.Inserting.{insert_fresh, listed, not_listed}
use Rattle.net_builder.proofs.name_set.add_hashed.Goals as goal
use Rattle.net_builder.specs.KeyNames.{key_names}

pub returns-then-branch-clause-fresh : goal.returns-then-branch-clause-fresh
returns-then-branch-clause-fresh c =
    not_listed c.args.names.now.keys c.in_ok-from_slice.field-0 c.args.name.now c.in_ok-from_slice.ensures.items
    (sym c.if-branch.true ∙ c.in_ok-insert.ensures.added)

pub returns-then-branch-clause-names : goal.returns-then-branch-clause-names
returns-then-branch-clause-names c =
    ap key_names c.in_ok-insert.ensures.keys
    ∙ insert_fresh _ _ _ c.in_ok-from_slice.ensures.items
    (not_listed c.args.names.now.keys c.in_ok-from_slice.field-0 c.args.name.now c.in_ok-from_slice.ensures.items
    (sym c.if-branch.true ∙ c.in_ok-insert.ensures.added))

pub returns-clause-repeated : goal.returns-clause-repeated
returns-clause-repeated c =
    listed c.args.names.now.keys c.in_ok-from_slice.field-0 c.args.name.now c.in_ok-from_slice.ensures.items
    (sym c.if-branch.false ∙ c.in_ok-insert.ensures.added)
