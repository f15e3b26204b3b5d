-- Routes are equal where their sources and their steps are.
use Rattle.std.proofs.Common.{◌≡◌, eqb-true, sym, ap, ◌∙◌}
use Rattle.pd_base.specs.Route.{Route}
use Rattle.claim_check.proofs.SamePaths.{same_steps}
use Rattle.claim_check.proofs.listed.is_same_path.Goals as goal

pub returns-then-eq : goal.returns-then-eq
returns-then-eq c =
    let number = eqb-true c.source.result.0 c.source-2.result.0 (sym c.eq.ensures ∙ c.if-eq.true) in
    let line : c.source.result ≡ c.source-2.result = ap (λ n. record { 0 = n }) number in
    let source = sym c.source.ensures ∙ line ∙ c.source-2.ensures in
    let decided = same_steps c.steps.result.now c.steps-then-eq.result.now c.eq-then-eq.result c.eq-then-eq.ensures in (
      λ is. let steps = sym c.steps.ensures ∙ decided.0 is ∙ c.steps-then-eq.ensures in λ i. record { source = source i; steps = steps i },
      λ same. decided.1 (c.steps.ensures ∙ ap (λ (route : Route). route.steps) same ∙ sym c.steps-then-eq.ensures),
    )
