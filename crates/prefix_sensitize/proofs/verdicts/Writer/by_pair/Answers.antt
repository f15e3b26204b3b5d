-- Where the robust conditions are refuted no pair meets them; and the test that is added is one of the fault.
use Rattle.std.proofs.Common.{true≢false, length, sym, ap, ◌∙◌, arith}
use Rattle.pd_base.specs.Target.{target_of}
use Rattle.pd_base.specs.declared.fault.Kind.TheVariants.{Robust}
use Rattle.prefix_sensitize.specs.Answers.{written_by}
use Rattle.prefix_sensitize.proofs.Answered.{cleared, listed_path, nonrobust_answers, proof_within, read_excludes, robust_answers}
use Rattle.prefix_sensitize.proofs.verdicts.Writer.by_pair.Goals as goal

pub is_robust-requires-clause-refuted : goal.is_robust-requires-clause-refuted
is_robust-requires-clause-refuted g c =
    let asked = c.requires.0 in
    let writer = asked.is_writer in
    let robust = target_of c.args.fault.now.path.now c.args.fault.now.direction Robust in
    let has = c.requires.1.0 in
    λ set.
    read_excludes g.searches c.args.fault.now.number robust c.args.proof has c.args.self.now.found.items writer.found c.index.result.now
    c.index.ensures c.args.net.now c.sources.ensures.circuit asked.are_searches
    (listed_path c.args.net.now g.searches asked.are_searches c.args.fault.now.number c.args.fault.now.path.now asked.is_listed c.args.fault.now.direction)
    (cleared c.index.result.now.spent set) c.args.pair c.requires.1.1.of_rules

pub cite-requires-clause-found : goal.cite-requires-clause-found
cite-requires-clause-found g c =
    let asked = c.requires.0 in
    let writer = asked.is_writer in
    let robust = target_of c.args.fault.now.path.now c.args.fault.now.direction Robust in
    let has = c.requires.1.0 in
    let within = proof_within g.searches c.args.fault.now.number robust c.args.proof has in
    let numbers = writer.numbers in
    omega arith

pub returns-then-is_robust-clause-writer : goal.returns-then-is_robust-clause-writer
returns-then-is_robust-clause-writer g c =
    let writer = c.requires.0.is_writer in
    record { judge = c.is_robust.ensures.judge; found = writer.found; numbers = writer.numbers }

pub returns-clause-writer : goal.returns-clause-writer
returns-clause-writer g c =
    let writer = c.requires.0.is_writer in
    record { judge = c.is_robust.ensures.judge; found = writer.found; numbers = c.cite.ensures.found ∙ writer.numbers }

pub returns-then-is_robust-clause-answered : goal.returns-then-is_robust-clause-answered
returns-then-is_robust-clause-answered g c =
    let asked = c.requires.0 in
    let writer = asked.is_writer in
    let test = c.requires.1.1 in
    robust_answers c.args.net.now g.searches asked.are_searches c.args.fault.now.number c.args.fault.now.path.now asked.is_listed c.args.fault.now.direction
    (written_by c.args.self.now) asked.are_written c.add_test.new.tests.items c.args.pair c.in_ok-test.test
    (record {
      first_fits = test.first_fits;
      second_fits = test.second_fits;
      of_rules = test.of_rules;
      meets = c.is_robust.ensures.robust.0 c.if-is_robust.true;
      zero_outside = test.zero_outside;
    })
    c.in_ok-test.ensures

pub returns-clause-answered : goal.returns-clause-answered
returns-clause-answered g c =
    let asked = c.requires.0 in
    let writer = asked.is_writer in
    let robust = target_of c.args.fault.now.path.now c.args.fault.now.direction Robust in
    let has = c.requires.1.0 in
    let test = c.requires.1.1 in
    nonrobust_answers c.args.net.now g.searches asked.are_searches c.args.fault.now.number c.args.fault.now.path.now asked.is_listed c.args.fault.now.direction
    (written_by c.args.self.now) asked.are_written c.cite.new.self.cited c.add_test-2.new.tests.items c.args.proof c.in_ok-proof.proof
    c.args.pair c.in_ok-test-2.test has c.in_ok-proof.ensures.cites test
    (λ meets. absurd (true≢false (sym (c.is_robust.ensures.robust.1 meets) ∙ c.if-is_robust.false))) c.in_ok-test-2.ensures

pub index-requires : goal.index-requires
index-requires g c =
    let within = proof_within g.searches c.args.fault.now.number (target_of c.args.fault.now.path.now c.args.fault.now.direction Robust) c.args.proof c.requires.1.0 in
    omega (arith, within, ap length c.requires.0.is_writer.found, c.args.self.now.found.ok.0)

pub is_robust-requires-clause-bits : goal.is_robust-requires-clause-bits
is_robust-requires-clause-bits g c = c.requires.1.1.first_fits

pub is_robust-requires-clause-judge : goal.is_robust-requires-clause-judge
is_robust-requires-clause-judge g c = c.requires.0.is_writer.judge

pub add_test-requires : goal.add_test-requires
add_test-requires g c = c.requires.0.few_tests

pub add_test-requires-2 : goal.add_test-requires-2
add_test-requires-2 g c = c.requires.0.few_tests

pub cite-requires-clause-few : goal.cite-requires-clause-few
cite-requires-clause-few g c = let few = c.requires.0.few_proofs in omega (arith, few)
