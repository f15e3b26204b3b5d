-- What the scope answers for the source contains its states in the hull.
use Rattle.std.proofs.Common.{sym, ◌∙◌}
use Rattle.std.proofs.lemmas.Bool.{eqb-true}
use Rattle.implication.specs.Scopes.{standing}
use Rattle.hulls.proofs.Sets.{has_both, only_this}
use Rattle.justify.proofs.HeldSources.{label_contains}
use Rattle.justify.proofs.entering.is_held.Goals as goal

pub returns-then-eq : goal.returns-then-eq
returns-then-eq g c = λ yes labels is state has in_set.
    only_this g.A.Algebra.algebra.count c.intersect.result c.args.entry.state state ((c.has_only.ensures.0 yes).1)
    (has_both g.A.Algebra.algebra.count c.label-label.result c.args.place.now.set state c.intersect.result c.intersect.ensures
    (label_contains g.A.Algebra.algebra (standing c.args.scope.now) c.requires.begun c.args.entry.source.0 c.label-label.result
    (c.label-label.ensures.told c.requires.free) labels is state has)
    (in_set (eqb-true c.args.entry.source.0 c.args.place.now.source.0 (sym c.eq.ensures ∙ c.if-eq.true))))

pub returns-else-eq : goal.returns-else-eq
returns-else-eq g c = λ yes labels is state has in_set.
    only_this g.A.Algebra.algebra.count c.label-label.result c.args.entry.state state ((c.has_only-else-eq.ensures.0 yes).1)
    (label_contains g.A.Algebra.algebra (standing c.args.scope.now) c.requires.begun c.args.entry.source.0 c.label-label.result
    (c.label-label.ensures.told c.requires.free) labels is state has)
