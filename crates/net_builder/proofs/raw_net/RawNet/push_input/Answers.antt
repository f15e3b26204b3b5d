use Rattle.std.proofs.Common.{ap, refl, ◌∙◌, ◌++◌, [], ◌∷◌}
use Rattle.netlist.specs.declared.raw_net.RawStmt.TheVariants.{Input}
use Rattle.netlist.specs.Statements.{numbered}
use Rattle.net_builder.proofs.RawStatements.{raw_grown, raw_kept, raw_pushed, raw_same}
use Rattle.net_builder.proofs.Results.{on_err}
use Rattle.net_builder.proofs.raw_net.RawNet.push_input.Goals as goal

-- where there is no memory for the statement, its name alone stands behind the others
pub invariant_of-self-in_err-push-2 : goal.invariant_of-self-in_err-push-2
invariant_of-self-in_err-push-2 c =
    raw_kept c.self.inside c.self.invariant _ (c.args.name.now ∷ []) _ c.in_ok-push.ensures.pushed c.in_err-push-2.ensures.items

pub returns-in_err-push-2-clause-kept : goal.returns-in_err-push-2-clause-kept
returns-in_err-push-2-clause-kept c =
    on_err _
    (raw_same c.self.inside c.self.invariant c.push.new.self (c.args.name.now ∷ []) c.push-2.new.self c.in_ok-push.ensures.pushed
    c.in_err-push-2.ensures.items
    ∙ c.self.view_is)

-- else the statement has it
pub invariant_of-self-2 : goal.invariant_of-self-2
invariant_of-self-2 c =
    raw_grown c.self.inside c.self.invariant _ (c.args.name.now ∷ []) _ c.in_ok-push.ensures.pushed c.args.line
    (Input c.args.name.now) _ c.in_ok-push-2.ensures.items c.len-first.ensures refl refl _ c.self.view_is c.requires.name
    c.requires.few

pub returns-clause-pushed : goal.returns-clause-pushed
returns-clause-pushed c =
    raw_pushed c.self.inside c.self.invariant c.push.new.self (c.args.name.now ∷ []) c.push-2.new.self
    c.in_ok-push.ensures.pushed c.args.line (Input c.args.name.now) _ c.in_ok-push-2.ensures.items c.len-first.ensures refl refl
    ∙ ap (λ statements. statements ++ numbered c.args.line (Input c.args.name.now) ∷ []) c.self.view_is
