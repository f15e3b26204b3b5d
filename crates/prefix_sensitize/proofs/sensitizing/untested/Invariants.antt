use Rattle.std.proofs.Common.{◌≡◌, map, not, take}
use Rattle.prefix_sensitize.specs.Searches.{is_test}
use Rattle.prefix_sensitize.proofs.sensitizing.untested.Given as goal

-- those of the outcomes so far
abbrev pub invariant-loop-outcome : goal.invariant-loop-outcome
invariant-loop-outcome l = l.untested.items ≡ map (λ outcome. not (is_test outcome)) (take l.outcome-index l.outcomes)
