-- The cut is no greater than the set was, and another one exactly where the comparison says so.
use Rattle.std.proofs.Common.{◌≤◌, subst, sym}
use Rattle.std.proofs.lemmas.Nat.{and_le_l}
use Rattle.state_sets.specs.Labellings.{label_at}
use Rattle.hulls.proofs.Sets.{ne_tells, eq_tells}
use Rattle.hulls.proofs.Cuts.{lessens_one}
use Rattle.hulls.proofs.cutting.cut_line.Goals as goal

pub returns-clause-lessens : goal.returns-clause-lessens
returns-clause-lessens c =
    let old = label_at c.args.labels.now c.args.line.0 in let new = c.intersect-new.result in
    lessens_one c.args.labels.now c.args.line.0 c.requires new c.ne.result
    (subst (λ n. n ≤ old.0) (sym c.intersect-new.ensures) (and_le_l old.0 c.args.to.0))
    (eq_tells c.ne.result new.0 old.0 c.ne.ensures) (ne_tells c.ne.result new.0 old.0 c.ne.ensures)
