-- An engine of near gates stands beside another one: it is made for the same, and stays so.
use Rattle.std.proofs.Common.{◌≡◌, Option, Some, None, sym, ap, ◌∙◌}
use Rattle.std.specs.Prelude.{IfSome}
use Rattle.pd_base.specs.declared.rules.Rules.{Rules}
use Rattle.netlist.specs.Circuit.{Circuit}
use Rattle.implication.specs.Standing.{Standing, ToldEnds, idle_on}
use Rattle.refutation_check.specs.Answers.{IsIdleOn}
use Rattle.refutation_check.specs.Judges.{IsReadyBeside}

pub made_beside : (net : Circuit) (rules : Rules) (ends ends_near : Option ToldEnds) (engine : Standing) (near : Option Standing)
    → engine ≡ idle_on net rules ends → IfSome near (λ other. other ≡ idle_on net rules ends_near) → IfSome near (IsReadyBeside engine)
made_beside net rules ends ends_near engine None made none = tt
made_beside net rules ends ends_near engine (Some near) made is = record {
  idle = ap (λ (s : Standing). s.beginning) is;
  net = ap (λ (s : Standing). s.net) is ∙ sym (ap (λ (s : Standing). s.net) made);
  rules = ap (λ (s : Standing). s.rules) is ∙ sym (ap (λ (s : Standing). s.rules) made);
}

pub stays_beside : (engine old new : Standing) → IsReadyBeside engine old → IsIdleOn old new → IsReadyBeside engine new
stays_beside engine old new ready after = record {
  idle = after.idle;
  net = after.setting.net ∙ ready.net;
  rules = after.setting.rules ∙ ready.rules;
}
