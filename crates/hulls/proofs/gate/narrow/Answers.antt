-- A narrowing keeps states that agree at the gate.
use Rattle.std.proofs.Common.{List, sym, subst, arith}
use Rattle.std.proofs.lemmas.Grind.{common_steps}
use Rattle.state_sets.specs.declared.state.StateSet.{StateSet}
use Rattle.state_sets.specs.Narrowing.{IsNarrowing, KeepsAgreeing}
use Rattle.state_laws.proofs.Narrowing.{keeps_agreeing}
use Rattle.hulls.proofs.Whole.{lent_back}
use Rattle.hulls.proofs.gate.narrow.Goals as goal

pub returns-clause-agreeing : goal.returns-clause-agreeing
returns-clause-agreeing g c =
    let a = g.A.Algebra.algebra in let old = c.args.labels.now in let new = c.narrow_sets.new.labels in
    let narrowed : IsNarrowing a c.args.net.now c.args.gate.0 c.args.condition old new =
    subst (λ (o : List StateSet). IsNarrowing a c.args.net.now c.args.gate.0 c.args.condition o new) c.as_mut_slice.ensures.value
    c.narrow_sets.ensures.narrowed in
    subst (KeepsAgreeing a c.args.net.now c.args.gate.0 c.args.condition old) (sym (lent_back old new narrowed.lines))
    (keeps_agreeing a c.args.net.now c.args.gate.0 c.args.condition old new narrowed)

pub returns-clause-answer : goal.returns-clause-answer
returns-clause-answer g c = grind (arith, common_steps)

pub returns-clause-narrowed : goal.returns-clause-narrowed
returns-clause-narrowed g c = grind (arith, common_steps)

pub returns-clause-within : goal.returns-clause-within
returns-clause-within g c = grind (arith, common_steps)
