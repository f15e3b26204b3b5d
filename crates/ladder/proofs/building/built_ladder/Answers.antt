-- The statements describe the ladder, and so no other circuit.
use Rattle.std.proofs.Common.{List, subst, ◌≡◌}
use Rattle.std.specs.Prelude.{IfErr, IfOk}
use Rattle.std.proofs.lemmas.Result.{IfErr-weaker, IfOk-weaker}
use Rattle.netlist.specs.Circuit.{Circuit}
use Rattle.netlist.specs.Description.{Describes}
use Rattle.netlist.specs.Statements.{Numbered}
use Rattle.net_builder.specs.Refusals.{MayRefuse}
use Rattle.net_builder.specs.declared.fault.BuildFault.{BuildFault}
use Rattle.net_builder.specs.declared.fault.BuildFault.TheVariants.{NoMemory}
use Rattle.net_builder.proofs.Exclusive.{describes_one}
use Rattle.pd_base.specs.Memory.{out_of_memory}
use Rattle.ladder.specs.Ladder.{ladder_circuit}
use Rattle.ladder.specs.Statements.{ladder_statements}
use Rattle.ladder.proofs.Described.{describes, only_memory}
use Rattle.ladder.proofs.building.built_ladder.Goals as goal

pub returns-clause-memory : goal.returns-clause-memory
returns-clause-memory c =
    let stages = c.args.stages in
    IfErr-weaker c.build.result (MayRefuse (ladder_statements stages)) (λ (fault : BuildFault). fault ≡ NoMemory out_of_memory)
    (only_memory (ladder_statements stages) (ladder_circuit stages) (describes stages c.requires.some c.requires.few))
    (subst (λ (statements : List Numbered). IfErr c.build.result (MayRefuse statements)) c.in_ok-raw.ensures c.build.ensures.refused)

pub returns-clause-circuit : goal.returns-clause-circuit
returns-clause-circuit c =
    let stages = c.args.stages in
    IfOk-weaker c.build.result (Describes (ladder_statements stages)) (λ (net : Circuit). net ≡ ladder_circuit stages)
    (λ net is. describes_one (ladder_statements stages) net (ladder_circuit stages) is (describes stages c.requires.some c.requires.few))
    (subst (λ (statements : List Numbered). IfOk c.build.result (Describes statements)) c.in_ok-raw.ensures c.build.ensures.circuit)
