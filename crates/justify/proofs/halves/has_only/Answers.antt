-- A set is that of the state alone where its number is that of the state's bit.
use Rattle.std.proofs.Common.{sym, ◌∙◌, arith}
use Rattle.std.proofs.lemmas.Bool.{eqb-true, eq-eqb}
use Rattle.justify.proofs.halves.has_only.Goals as goal

pub returns-then-state-count_states : goal.returns-then-state-count_states
returns-then-state-count_states g c =
    let below = c.if-state-count_states.true in let count = c.count_states.ensures.count in (
      λ yes. (omega (arith, below, count), eqb-true c.args.set.0 c.only.result.0 (sym c.eq.ensures ∙ yes) ∙ c.only.ensures),
      λ both. c.eq.ensures ∙ eq-eqb c.args.set.0 c.only.result.0 (both.1 ∙ sym c.only.ensures),
    )
