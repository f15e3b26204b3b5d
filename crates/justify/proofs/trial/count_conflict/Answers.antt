-- A source without a state leaves a conflict.
use Rattle.std.proofs.Common.{refl, sym, ◌∙◌}
use Rattle.implication.specs.Scopes.{standing}
use Rattle.justify.proofs.HeldSources.{none_assumed}
use Rattle.justify.proofs.trial.count_conflict.Goals as goal

pub unreachable-requires : goal.unreachable-requires
unreachable-requires g c =
    none_assumed g.A.Algebra.algebra (standing c.args.scope.now) (standing c.assume.new.self) c.args.source c.requires.source c.requires.begun _ refl
    c.assume.result (sym c.is_ok.ensures.value ∙ c.if-is_ok.true) c.assume.ensures.tells.ok c.assume.ensures.tells.left_open
