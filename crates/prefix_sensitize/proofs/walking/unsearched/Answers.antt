-- One more is listed.
use Rattle.std.proofs.Common.{◌∷◌, ◌++◌, [], List, ap, ◌∙◌}
use Rattle.std.proofs.lemmas.List.{replicate_more}
use Rattle.prefix_sensitize.specs.declared.outcome.RowOutcome.{RowOutcome}
use Rattle.prefix_sensitize.specs.declared.outcome.RowOutcome.TheVariants.{Unsearched}
use Rattle.prefix_sensitize.proofs.walking.unsearched.Goals as goal

pub loop-preserved : goal.loop-preserved
loop-preserved c =
    c.in_ok-push.ensures.items ∙ ap (λ (outcomes : List RowOutcome). outcomes ++ Unsearched ∷ []) c.loop.invariant
    ∙ replicate_more c.loop.counter Unsearched
