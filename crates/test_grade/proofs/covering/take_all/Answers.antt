-- No list changes its length.
use Rattle.std.proofs.Common.{length, sym, subst, ◌∙◌}
use Rattle.test_grade.specs.Compact.{HasWords}
use Rattle.test_grade.proofs.covering.take_all.Goals as goal

pub take-requires-clause-words : goal.take-requires-clause-words
take-requires-clause-words c =
    subst (λ t. HasWords c.args.words.now t (length c.loop.covered)) (sym (c.loop.auto.gains ∙ c.count_gains.auto.gains))
    (subst (HasWords c.args.words.now (length c.args.gains.now)) (sym c.loop.auto.covered) c.requires.words)
