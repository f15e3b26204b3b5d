-- Where the sources are one the paths share what their steps do, and else nothing.
use Rattle.std.proofs.Common.{◌≡◌, eqb-true, eq-eqb, true≢false, sym, ap, subst₂, ◌∙◌}
use Rattle.pd_base.specs.declared.ids.LineId.{LineId}
use Rattle.prefix_sensitize.specs.PathOrder.{ShareSteps}
use Rattle.prefix_sensitize.proofs.PathOrderShares.{share_from_source, share_nothing}
use Rattle.prefix_sensitize.proofs.sharing.shared_prefix.Goals as goal

pub returns-then-eq : goal.returns-then-eq
returns-then-eq c =
    let other = c.args.other.now in
    let path = c.args.path.now in
    let number = eqb-true c.source.result.0 c.source-2.result.0 (sym c.eq.ensures ∙ c.if-eq.true) in
    let line : c.source.result ≡ c.source-2.result = ap (λ n. record { 0 = n }) number in
    share_from_source other path (sym c.source.ensures ∙ line ∙ c.source-2.ensures) c.shared_steps.result
    (subst₂ (λ p q. ShareSteps p q c.shared_steps.result) c.steps.ensures c.steps-then-eq.ensures c.shared_steps.ensures)

pub returns-else-eq : goal.returns-else-eq
returns-else-eq c =
    share_nothing c.args.other.now c.args.path.now
    (λ same. true≢false
    (sym (eq-eqb c.source.result.0 c.source-2.result.0
    (ap (λ (line : LineId). line.0) (c.source.ensures ∙ same ∙ sym c.source-2.ensures)))
    ∙ sym c.eq.ensures ∙ c.if-eq.false))
