-- The text was read, and spells tests or none.
use Rattle.std.proofs.Common.{ℕ, List}
use Rattle.std.proofs.lemmas.Result.{err_from_is_err_and}
use Rattle.std.specs.Prelude.{Vec}
use Rattle.std.specs.declared.alloc.Global.{Global}
use Rattle.pd_base.specs.declared.test.Test.{Test}
use Rattle.calls.specs.declared.role.Role.TheVariants as role
use Rattle.commands.specs.Inside.InputJudging as judging
use Rattle.commands.specs.Inside.InputJudging.{FailsTests}
use Rattle.commands.specs.SpelledTests.{SpellsTests}
use Rattle.commands.proofs.InputsJudged.{gives_from, fails_from}
use Rattle.commands.proofs.inputs.claims.tests_from.Goals as goal

pub returns-in_err-text-clause-fails : goal.returns-in_err-text-clause-fails
returns-in_err-text-clause-fails g c =
    let p = err_from_is_err_and c.from_residual.result c.from_residual.ensures.1 in
    rw (p.1, p.2) (judging.not_read c.in_err-text.ensures.failed)

pub returns-clause-gives : goal.returns-clause-gives
returns-clause-gives g c =
    gives_from role.Tests c.args.name.now (λ (text : List ℕ) (tests : Vec Test Global). SpellsTests c.args.net.now text tests.items)
    c.in_ok-text.text _ _ _ c.as_slice.ensures.value c.in_ok-text.ensures.read c.tests_in.result c.tests_in.ensures.spells

pub returns-clause-fails : goal.returns-clause-fails
returns-clause-fails g c =
    fails_from role.Tests c.args.name.now (FailsTests c.args.command.now c.args.net.now) c.in_ok-text.text _ _ _
    c.as_slice.ensures.value c.in_ok-text.ensures.read c.tests_in.result c.tests_in.ensures.fails
