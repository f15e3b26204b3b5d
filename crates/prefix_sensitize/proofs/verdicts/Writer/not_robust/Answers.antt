-- The proof of each search is among those that were found, and each verdict has what it asks for.
use Rattle.std.proofs.Common.{◌+◌, ◌-◌, ◌<◌, length, ap, subst, ◌∙◌, arith}
use Rattle.pd_base.specs.Target.{Target, target_of}
use Rattle.pd_base.specs.declared.fault.Kind.TheVariants.{Robust, Nonrobust}
use Rattle.good_runs.specs.Faults.{HasProof}
use Rattle.prefix_sensitize.specs.declared.outcome.RowOutcome.{RowOutcome}
use Rattle.prefix_sensitize.specs.Answers.{written_by}
use Rattle.prefix_sensitize.specs.Outcomes.{IsOutcome}
use Rattle.prefix_sensitize.proofs.Answered.{aborted_answers, outcome_proof, proof_within, read_proof, untestable_answers}
use Rattle.prefix_sensitize.proofs.Citing.{few_more}
use Rattle.prefix_sensitize.proofs.verdicts.Writer.not_robust.Given.{Over}
use Rattle.prefix_sensitize.proofs.verdicts.Writer.not_robust.Goals.{In-Proved}
use Rattle.prefix_sensitize.proofs.verdicts.Writer.not_robust.Goals as goal

-- where the nonrobust search gave no test
module _ (g : Over) (c : In-Proved g) where
  abbrev nonrobust : Target
  nonrobust = target_of c.args.fault.now.path.now c.args.fault.now.direction Nonrobust

  -- its proof is one of the fault
  proved : HasProof g.searches.routes g.searches.proofs c.args.fault.now.number nonrobust (c.in-Proved.index + 1)
  proved =
      let asked = c.requires.0 in
      outcome_proof c.args.net.now g.searches asked.are_searches c.args.fault.now.number c.args.fault.now.path.now asked.is_listed c.args.fault.now.direction
      Nonrobust c.args.nonrobust c.in-Proved.index c.in-Proved.is c.requires.1.1

  within : c.in-Proved.index < length g.searches.proofs
  within = proof_within g.searches c.args.fault.now.number nonrobust c.in-Proved.index proved

pub by_pair-requires : goal.by_pair-requires
by_pair-requires g c =
    let nonrobust = target_of c.args.fault.now.path.now c.args.fault.now.direction Nonrobust in
    let P : RowOutcome → Type 0 = IsOutcome c.args.net.now g.searches.rules g.searches.routes g.searches.proofs (c.args.fault.now.number - 1) nonrobust in
    (c.requires.0, (c.requires.1.0, subst P c.in-Tested.is c.requires.1.1))

pub cite-requires-clause-found : goal.cite-requires-clause-found
cite-requires-clause-found g c =
    let within = proof_within g.searches c.args.fault.now.number (target_of c.args.fault.now.path.now c.args.fault.now.direction Robust) c.args.proof c.requires.1.0 in
    let numbers = c.requires.0.is_writer.numbers in
    omega (arith, within, numbers)

pub returns-in_ok-nonrobust-in-Proved-clause-writer : goal.returns-in_ok-nonrobust-in-Proved-clause-writer
returns-in_ok-nonrobust-in-Proved-clause-writer g c =
    let writer = c.requires.0.is_writer in
    record {
      judge = writer.judge;
      found = writer.found;
      numbers = c.cite-then-index.ensures.found ∙ c.cite.ensures.found ∙ writer.numbers;
    }

pub returns-in_ok-proof-in-Proved-clause-writer : goal.returns-in_ok-proof-in-Proved-clause-writer
returns-in_ok-proof-in-Proved-clause-writer g c =
    let writer = c.requires.0.is_writer in
    record { judge = writer.judge; found = writer.found; numbers = c.cite-else-index.ensures.found ∙ writer.numbers }

pub returns-in_ok-nonrobust-in-Proved-clause-answered : goal.returns-in_ok-nonrobust-in-Proved-clause-answered
returns-in_ok-nonrobust-in-Proved-clause-answered g c =
    let asked = c.requires.0 in
    let in_arm = (goal.at.returns-in_ok-nonrobust-in-Proved-clause-answered g c).In-Proved in
    aborted_answers c.args.net.now g.searches asked.are_searches c.args.fault.now.number c.args.fault.now.path.now asked.is_listed c.args.fault.now.direction
    (written_by c.args.self.now) asked.are_written c.cite.new.self.cited c.cite-then-index.new.self.cited c.args.proof c.in-Proved.index
    c.in_ok-robust-in-Proved.robust c.in_ok-nonrobust-in-Proved.nonrobust c.index.result.now c.requires.1.0 (proved g in_arm)
    (read_proof g.searches c.args.fault.now.number (nonrobust g in_arm) c.in-Proved.index (proved g in_arm) c.args.self.now.found.items
    asked.is_writer.found c.index.result.now c.index.ensures)
    c.if-index.true c.in_ok-robust-in-Proved.ensures.cites c.in_ok-nonrobust-in-Proved.ensures.cites

pub returns-in_ok-proof-in-Proved-clause-answered : goal.returns-in_ok-proof-in-Proved-clause-answered
returns-in_ok-proof-in-Proved-clause-answered g c =
    let asked = c.requires.0 in
    let in_arm = (goal.at.returns-in_ok-proof-in-Proved-clause-answered g c).In-Proved in
    untestable_answers c.args.net.now g.searches asked.are_searches c.args.fault.now.number c.args.fault.now.path.now asked.is_listed c.args.fault.now.direction
    (written_by c.args.self.now) asked.are_written c.cite-else-index.new.self.cited c.in-Proved.index c.in_ok-proof-in-Proved.proof
    c.index.result.now (proved g in_arm)
    (read_proof g.searches c.args.fault.now.number (nonrobust g in_arm) c.in-Proved.index (proved g in_arm) c.args.self.now.found.items
    asked.is_writer.found c.index.result.now c.index.ensures)
    c.if-index.false c.in_ok-proof-in-Proved.ensures.cites

pub index-requires : goal.index-requires
index-requires g c =
    let in_arm = (goal.at.index-requires g c).In-Proved in
    omega (arith, within g in_arm, ap length c.requires.0.is_writer.found, c.args.self.now.found.ok.0)

pub cite-requires-clause-few : goal.cite-requires-clause-few
cite-requires-clause-few g c = let few = c.requires.0.few_proofs in omega (arith, few)

pub cite-requires-then-index-clause-found : goal.cite-requires-then-index-clause-found
cite-requires-then-index-clause-found g c =
    let in_arm = (goal.at.cite-requires-then-index-clause-found g c).In-Proved in
    omega (arith, within g in_arm, c.requires.0.is_writer.numbers, c.cite.ensures.found)

pub cite-requires-then-index-clause-few : goal.cite-requires-then-index-clause-few
cite-requires-then-index-clause-few g c =
    let few = c.requires.0.few_proofs in
    let more = few_more c.args.self.now.numbering.cited c.cite.new.self.cited c.args.proof c.in_ok-robust-in-Proved.robust
    c.in_ok-robust-in-Proved.ensures.cites in
    omega (arith, few, more)

pub cite-requires-else-index-clause-found : goal.cite-requires-else-index-clause-found
cite-requires-else-index-clause-found g c =
    let in_arm = (goal.at.cite-requires-else-index-clause-found g c).In-Proved in
    omega (arith, within g in_arm, c.requires.0.is_writer.numbers)

pub cite-requires-else-index-clause-few : goal.cite-requires-else-index-clause-few
cite-requires-else-index-clause-few g c = let few = c.requires.0.few_proofs in omega (arith, few)
