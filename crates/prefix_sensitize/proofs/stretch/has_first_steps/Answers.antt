-- The test tells whether the steps begin so.
use Rattle.std.proofs.Common.{◌≡◌, eqb-true, sym, ap, ◌∙◌}
use Rattle.prefix_sensitize.proofs.PathOrderShares.{first_steps_tell}
use Rattle.prefix_sensitize.proofs.stretch.has_first_steps.Goals as goal

pub returns-then-eq : goal.returns-then-eq
returns-then-eq c =
    let number = eqb-true c.source.result.0 c.source-2.result.0 (sym c.eq.ensures ∙ c.if-eq.true) in
    let line : c.source.result ≡ c.source-2.result = ap (λ n. record { 0 = n }) number in
    first_steps_tell c.args.path.now c.args.other.now c.args.steps c.steps.result.now c.steps-then-eq.result.now c.starts_with.result
    c.steps.ensures c.steps-then-eq.ensures (sym c.source.ensures ∙ line ∙ c.source-2.ensures) c.starts_with.ensures.value
