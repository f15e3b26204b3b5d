-- Whether one path more has no test is told.
use Rattle.std.proofs.Common.{◌∷◌, ◌++◌, [], Bool, List, ap, map, not, sym, take, ◌∙◌}
use Rattle.std.proofs.lemmas.List.{map_more, take_all}
use Rattle.prefix_sensitize.specs.declared.outcome.RowOutcome.{RowOutcome}
use Rattle.prefix_sensitize.specs.Searches.{is_test}
use Rattle.prefix_sensitize.proofs.sensitizing.untested.Goals as goal

pub loop-outcome-preserved : goal.loop-outcome-preserved
loop-outcome-preserved c =
    let outcomes = c.args.outcomes.now in
    let outcome = c.outcome-item.result in
    let lacks : RowOutcome → Bool = λ outcome. not (is_test outcome) in
    c.in_ok-push.ensures.items
    ∙ ap (λ (bits : List Bool). bits ++ not c.is_test.result ∷ []) c.loop-outcome.invariant
    ∙ ap (λ (bit : Bool). map lacks (take c.loop-outcome.outcome-index outcomes) ++ bit ∷ [])
    (ap not c.is_test.ensures ∙ ap lacks c.outcome-item.is)
    ∙ sym (map_more lacks outcomes c.loop-outcome.outcome-index outcome c.loop-outcome-test.true)

pub returns : goal.returns
returns c =
    c.loop-outcome.invariant
    ∙ ap (map (λ (outcome : RowOutcome). not (is_test outcome)))
    (take_all c.loop-outcome.outcome-index c.args.outcomes.now c.loop-outcome-test.false)
