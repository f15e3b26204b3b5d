-- The joins, or their inversions.
use Rattle.std.proofs.Common.{sym, ◌∙◌, subst}
use Rattle.netlist.specs.declared.op.Op.{Op}
use Rattle.hulls.specs.Joins.{Folds}
use Rattle.hulls.specs.Sets.{Means}
use Rattle.implication.proofs.Joining.{sets_of, image_plain, image_inverted}
use Rattle.implication.proofs.images.image.Goals as goal

pub returns-then-inverts-clause-image : goal.returns-then-inverts-clause-image
returns-then-inverts-clause-image g c =
    let a = g.A.Algebra.algebra in let joined = c.join_lines-joined.result in let sets = sets_of c.args.labels.now c.args.pins.now in
    image_inverted a g.met.A.Algebra.laws c.args.kind sets joined
    (subst (λ (op : Op). Means a.count joined (Folds a op sets)) c.operation.ensures c.join_lines-joined.ensures.folds)
    (sym c.if-inverts.true ∙ c.inverts.ensures) c.invert_set.result c.invert_set.ensures.inverts

pub returns-else-inverts-clause-image : goal.returns-else-inverts-clause-image
returns-else-inverts-clause-image g c =
    let a = g.A.Algebra.algebra in let joined = c.join_lines-joined.result in let sets = sets_of c.args.labels.now c.args.pins.now in
    image_plain a g.met.A.Algebra.laws c.args.kind sets joined
    (subst (λ (op : Op). Means a.count joined (Folds a op sets)) c.operation.ensures c.join_lines-joined.ensures.folds)
    (sym c.if-inverts.false ∙ c.inverts.ensures)
