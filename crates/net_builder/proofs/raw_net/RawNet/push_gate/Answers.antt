use Rattle.std.proofs.Common.{ap, refl, sym, ◌∙◌, ◌++◌, [], ◌∷◌, arith, subst}
use Rattle.std.proofs.lemmas.List.{length-map}
use Rattle.netlist.specs.declared.raw_net.RawStmt.TheVariants.{Gate}
use Rattle.netlist.specs.NameTexts.{bytes_of}
use Rattle.netlist.specs.Lawful.{IsFanIn}
use Rattle.netlist.specs.Statements.{numbered}
use Rattle.net_builder.proofs.RawStatements.{names_behind, raw_grown, raw_kept, raw_pushed, raw_same}
use Rattle.net_builder.proofs.Results.{on_err}
use Rattle.net_builder.proofs.raw_net.RawNet.push_gate.Goals as goal

-- where there is no memory for an argument, some of the names stand behind the others
pub invariant_of-self-in_err-push_all : goal.invariant_of-self-in_err-push_all
invariant_of-self-in_err-push_all c =
    raw_kept c.self.inside c.self.invariant _ (c.args.name.now ∷ c.in_err-push_all.ensures.grown.more) _
    (names_behind _ _ _ _ _ c.in_ok-push.ensures.pushed c.in_err-push_all.ensures.grown.is) refl

pub returns-in_err-push_all-clause-kept : goal.returns-in_err-push_all-clause-kept
returns-in_err-push_all-clause-kept c =
    on_err _
    (raw_same c.self.inside c.self.invariant c.push_all.new.self (c.args.name.now ∷ c.in_err-push_all.ensures.grown.more)
    c.self.inside.statements
    (names_behind _ _ _ _ _ c.in_ok-push.ensures.pushed c.in_err-push_all.ensures.grown.is) refl
    ∙ c.self.view_is)

-- where there is none for the statement, all do
pub invariant_of-self-in_err-push-2 : goal.invariant_of-self-in_err-push-2
invariant_of-self-in_err-push-2 c =
    raw_kept c.self.inside c.self.invariant _ (c.args.name.now ∷ bytes_of c.args.arguments.now) _
    (names_behind _ _ _ _ _ c.in_ok-push.ensures.pushed c.in_ok-push_all.ensures.pushed) c.in_err-push-2.ensures.items

pub returns-in_err-push-2-clause-kept : goal.returns-in_err-push-2-clause-kept
returns-in_err-push-2-clause-kept c =
    on_err _
    (raw_same c.self.inside c.self.invariant c.push_all.new.self (c.args.name.now ∷ bytes_of c.args.arguments.now) c.push-2.new.self
    (names_behind _ _ _ _ _ c.in_ok-push.ensures.pushed c.in_ok-push_all.ensures.pushed) c.in_err-push-2.ensures.items
    ∙ c.self.view_is)

-- else the statement has them
pub invariant_of-self-2 : goal.invariant_of-self-2
invariant_of-self-2 c =
    raw_grown c.self.inside c.self.invariant _ (c.args.name.now ∷ bytes_of c.args.arguments.now) _
    (names_behind _ _ _ _ _ c.in_ok-push.ensures.pushed c.in_ok-push_all.ensures.pushed) c.args.line
    (Gate c.args.name.now c.args.kind (bytes_of c.args.arguments.now)) _ c.in_ok-push-2.ensures.items c.len-first.ensures
    (omega (arith, length-map c.args.arguments.now (λ name. name.now)))
    refl _ c.self.view_is
    (record { own_name = c.requires.name; names = c.requires.arguments; fan_in = subst (IsFanIn c.args.kind) (sym (length-map c.args.arguments.now (λ name. name.now))) c.requires.fan_in })
    c.requires.few

pub returns-clause-pushed : goal.returns-clause-pushed
returns-clause-pushed c =
    raw_pushed c.self.inside c.self.invariant c.push_all.new.self (c.args.name.now ∷ bytes_of c.args.arguments.now) c.push-2.new.self
    (names_behind _ _ _ _ _ c.in_ok-push.ensures.pushed c.in_ok-push_all.ensures.pushed) c.args.line
    (Gate c.args.name.now c.args.kind (bytes_of c.args.arguments.now)) _ c.in_ok-push-2.ensures.items c.len-first.ensures
    (omega (arith, length-map c.args.arguments.now (λ name. name.now))) refl
    ∙ ap (λ statements. statements ++ numbered c.args.line (Gate c.args.name.now c.args.kind (bytes_of c.args.arguments.now)) ∷ [])
    c.self.view_is
