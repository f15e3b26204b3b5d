-- The listed paths with what is written of them make a good run, each refutation of which stands at its shortest, and each test of which
-- leaves the sources outside the support of its path at 0.
use Rattle.std.proofs.Common.{◌≡◌, ℕ, ◌+◌, ◌<◌, max, true, false, List, length, map, get_or, refl, sym, ap, subst, ◌∙◌, arith}
use Rattle.std.specs.List.{All, count_by}
use Rattle.std.specs.Prelude.{Contains}
use Rattle.std.proofs.lemmas.List.{length-map}
use Rattle.std.proofs.lemmas.List.Elements.{All-map}
use Rattle.std.proofs.lemmas.Option.{slice_get-get_or}
use Rattle.netlist.specs.LinkedPairs.{IsOfRules}
use Rattle.pd_base.specs.Route.{Route}
use Rattle.pd_base.specs.Target.{Target, target_of}
use Rattle.pd_base.specs.declared.test.Test.{Test}
use Rattle.pd_base.specs.declared.fault.Direction.{Direction}
use Rattle.pd_base.specs.declared.fault.Kind.TheVariants as kinds
use Rattle.pd_base.specs.declared.rules.Rules.{Rules}
use Rattle.netlist.specs.Circuit.{Circuit}
use Rattle.netlist.specs.Greatest.{greatest}
use Rattle.netlist.specs.Order.{AreFirst}
use Rattle.netlist.specs.Paths.{length_of}
use Rattle.netlist.specs.Values.{observed_values}
use Rattle.netlist.specs.Waves.{Delays}
use Rattle.runs.specs.declared.run.ListedPath.{ListedPath}
use Rattle.runs.specs.declared.run.Proof.{Proof}
use Rattle.runs.specs.declared.run.Run.{Run}
use Rattle.runs.specs.declared.run.Verdict.{Verdict}
use Rattle.runs.specs.declared.run.Verdict.TheVariants.{Robust, Nonrobust, Untestable, Aborted}
use Rattle.runs.specs.Lawful.{Named, none_named}
use Rattle.runs.specs.Verdicts.{verdicts_of}
use Rattle.good_runs.specs.Faults.{CitesRefutation, CitesSpent, HasProof, IsNumber, NoneApplies, routes_of, verdict_for}
use Rattle.good_runs.specs.GoodRun.{HasNonrobustTest, HasTest, IsGoodRun, IsVerdict, greatest_cited, is_tested}
use Rattle.good_runs.specs.Shortest.{IsShortestRun}
use Rattle.good_runs.specs.ZeroOutside.{LeavesZeroOutside}
use Rattle.trees.specs.ZeroOutside.{IsZeroOutside}
use Rattle.good_runs.proofs.Numbers.{all_at_number, number_in_map, number_of_place}
use Rattle.prefix_sensitize.specs.Answers.{HasCited, IsBackedVerdict, Written}
use Rattle.logic_values.specs.Expected.{expecting}
use Rattle.prefix_sensitize.specs.Listed.{ArePathsAnswered, IsRunWith}
use Rattle.prefix_sensitize.specs.Outcomes.{IsFoundProof}
use Rattle.prefix_sensitize.specs.Searches.{AreSearches, Searches}
use Rattle.prefix_sensitize.proofs.Naming.{proofs_named, tests_named}
use Rattle.prefix_sensitize.proofs.Renumbering.{cited_proof, number_is_contained, proof_written, refutation_cited, spent_cited}

module _ (c : Circuit) (delays : Delays) (searches : Searches) (are : AreSearches c searches) (listed : List ListedPath)
    (written : Written) (all : ArePathsAnswered c delays searches searches.routes listed written) (run : Run)
    (is : IsRunWith c searches listed written run) where
  -- the run lists the paths of the searches
  pub routes_are : routes_of run ≡ searches.routes
  routes_are = ap (map (λ (l : ListedPath). l.path)) is.paths ∙ all.are_routes

  -- each proof of the run was found
  is_found : (number : ℕ) (proof : Proof) → IsNumber run.proofs number proof
      → IsFoundProof c searches.rules searches.budget searches.routes proof
  is_found number proof numbered =
      let of = cited_proof searches.routes searches.proofs are.found.apart written.cited all.are_written.found all.are_written.once
      run.proofs is.proofs number proof numbered in
      all_at_number (IsFoundProof c searches.rules searches.budget searches.routes) searches.proofs (of.index + 1) proof are.found.each
      of.is_found

  pub is_found_proof : (number : ℕ) (proof : Proof) → IsNumber run.proofs number proof
      → IsFoundProof c run.rules searches.budget (routes_of run) proof
  is_found_proof number proof numbered =
      let P : Rules → Type 0 = λ rules. IsFoundProof c rules searches.budget (routes_of run) proof in
      let Q : List Route → Type 0 = λ routes. IsFoundProof c searches.rules searches.budget routes proof in
      subst P (sym is.rules) (subst Q (sym routes_are) (is_found number proof numbered))

  found_at : (place : ℕ) (d : Proof) → place < length run.proofs
      → IsFoundProof c run.rules searches.budget (routes_of run) (get_or run.proofs place d)
  found_at place d within =
      is_found_proof (place + 1) (get_or run.proofs place d)
      (number_of_place run.proofs place (get_or run.proofs place d) (slice_get-get_or run.proofs place d within))

  -- a test that was written is one of the run, with the bits that it expects
  test_of_run : (number : ℕ) (test : Test) → IsNumber written.tests number test → IsNumber run.tests number (expecting c test)
  test_of_run number test numbered =
      let P : List Test → Type 0 = λ tests. IsNumber tests number (expecting c test) in
      subst P (sym is.tests) (number_in_map (expecting c) written.tests number test numbered)

  has_test : (path_number : ℕ) (target : Target) (number : ℕ) → HasTest c written.tests path_number target number
      → HasTest c run.tests path_number target number
  has_test path_number target number has = record {
    test = expecting c has.test;
    is_test = test_of_run number has.test has.is_test;
    of_fault = record {
      of_path = has.of_fault.of_path;
      of_direction = has.of_fault.of_direction;
      of_kind = has.of_fault.of_kind;
      first_fits = has.of_fault.first_fits;
      second_fits = has.of_fault.second_fits;
      meets = has.of_fault.meets;
    };
  }

  has_nonrobust_test : (path_number : ℕ) (direction : Direction) (path : Route) (number : ℕ)
      → HasNonrobustTest c written.tests path_number direction path number
      → HasNonrobustTest c run.tests path_number direction path number
  has_nonrobust_test path_number direction path number has =
      record {
        test = expecting c has.test;
        is_test = test_of_run number has.test has.is_test;
        of_fault = record {
          of_path = has.of_fault.of_path;
          of_direction = has.of_fault.of_direction;
          of_kind = has.of_fault.of_kind;
          first_fits = has.of_fault.first_fits;
          second_fits = has.of_fault.second_fits;
          meets = has.of_fault.meets;
        };
        not_robust = has.not_robust;
      }

  module _ (path_number : ℕ) (target : Target) (is_listed : Contains searches.routes target.path) (number : ℕ)
      (has : HasCited searches written.cited path_number target number) where
    -- a proof of a fault, as the run has it
    by_proof : HasProof (routes_of run) run.proofs path_number target number
    by_proof =
        let P : List Route → Type 0 = λ routes. HasProof routes run.proofs path_number target number in
        subst P (sym routes_are)
        (proof_written searches.routes searches.proofs are.found.apart written.cited all.are_written.found all.are_written.once run.proofs
        is.proofs target is_listed path_number number has.index has.is_cited has.has_proof)

    by_refutation : has.proof.spent ≡ false → CitesRefutation (routes_of run) run.proofs target number
    by_refutation refutes =
        let P : List Route → Type 0 = λ routes. CitesRefutation routes run.proofs target number in
        subst P (sym routes_are)
        (refutation_cited searches.routes searches.proofs are.found.apart written.cited all.are_written.found all.are_written.once
        run.proofs is.proofs target is_listed path_number number has.index has.is_cited has.has_proof has.proof has.is_found refutes)

    by_spent : has.proof.spent ≡ true
        → NoneApplies (routes_of run) run.proofs target × CitesSpent run.proofs target.kind target.direction path_number number
    by_spent spends =
        let P : List Route → Type 0 =
        λ routes. NoneApplies routes run.proofs target × CitesSpent run.proofs target.kind target.direction path_number number in
        subst P (sym routes_are)
        (spent_cited searches.routes searches.proofs are.found.apart written.cited all.are_written.found all.are_written.once run.proofs
        is.proofs target is_listed path_number number has.index has.is_cited has.has_proof has.proof has.is_found spends)

  -- an answer is a verdict
  answer_is_verdict : (path_number : ℕ) (direction : Direction) (path : Route) → Contains searches.routes path → (verdict : Verdict)
      → IsBackedVerdict c searches written path_number direction path verdict → IsVerdict c run path_number direction path verdict
  answer_is_verdict path_number direction path is_listed (Robust number) answer =
      has_test path_number (target_of path direction kinds.Robust) number answer
  answer_is_verdict path_number direction path is_listed (Nonrobust number proof) answer = (
    has_nonrobust_test path_number direction path number answer.0,
    by_proof path_number (target_of path direction kinds.Robust) is_listed proof answer.1,
  )
  answer_is_verdict path_number direction path is_listed (Untestable proof) answer =
      by_refutation path_number (target_of path direction kinds.Nonrobust) is_listed proof answer.has answer.refutes
  answer_is_verdict path_number direction path is_listed (Aborted robust nonrobust) answer =
      let spends = by_spent path_number (target_of path direction kinds.Nonrobust) is_listed nonrobust answer.1.has answer.1.spent in (
        by_proof path_number (target_of path direction kinds.Robust) is_listed robust answer.0,
        record { none_applies = spends.0; cites = spends.1 },
      )

  -- the run is good
  pub run_is_good : (count : ℕ) → AreFirst c delays count searches.routes → IsGoodRun c delays count searches.budget run
  run_is_good count first =
      let verdicts_are = ap verdicts_of is.paths in
      let named = all.named in
      record {
        first = subst (AreFirst c delays count) (sym routes_are) first;
        lengths = subst (All (λ (l : ListedPath). l.length ≡ length_of delays l.path)) (sym is.paths) all.lengths;
        tests_cited =
            ap length is.tests ∙ length-map written.tests (expecting c)
            ∙ sym (ap (λ (n : Named). n.tests) named) ∙ tests_named none_named (verdicts_of listed)
            ∙ zero_more (count_by is_tested (verdicts_of listed))
            ∙ ap (count_by is_tested) (sym verdicts_are);
        proofs_cited =
            is.proofs.one_each ∙ sym (ap (λ (n : Named). n.proofs) named) ∙ proofs_named none_named (verdicts_of listed)
            ∙ zero_or (greatest (map greatest_cited (verdicts_of listed)))
            ∙ ap (λ (verdicts : List Verdict). greatest (map greatest_cited verdicts)) (sym verdicts_are);
        refutations = λ place d within refutes. ((found_at place d within).refutes refutes).0;
        spent = λ place d within spends. (found_at place d within).spent spends;
        verdicts = λ number entry direction verdict fault.
            (let Q : List ListedPath → Type 0 = λ entries. IsNumber entries number entry in
            let P : List Route → Type 0 = λ routes. IsNumber routes number entry.path in
            let route : IsNumber searches.routes number entry.path =
            subst P routes_are (number_in_map (λ (l : ListedPath). l.path) run.paths number entry fault.is_listed) in
            let answer = all.answers number entry direction (subst Q is.paths fault.is_listed) in
            let R : Verdict → Type 0 = λ v. IsVerdict c run number direction entry.path v in
            subst R (sym fault.is_verdict)
            (answer_is_verdict number direction entry.path (number_is_contained searches.routes number entry.path route)
            (verdict_for entry direction) answer));
        of_rules =
            let P : Rules → Type 0 = λ rules. All (λ (test : Test). IsOfRules c rules test.pair) run.tests in
            subst P (sym is.rules)
            (subst (All (λ (test : Test). IsOfRules c searches.rules test.pair)) (sym is.tests)
            (All-map (λ (test : Test). IsOfRules c searches.rules test.pair) (expecting c) written.tests
            (λ place d within. (all.are_written.tests place d within).of_rules)));
        expected = subst (All (λ (test : Test). test.expected ≡ observed_values c test.pair.second)) (sym is.tests)
            (All-map (λ (test : Test). test.expected ≡ observed_values c test.pair.second) (expecting c) written.tests
            (λ place d within. refl));
      }
    where
      zero_more : (n : ℕ) → 0 + n ≡ n
      zero_more n = omega arith

      zero_or : (n : ℕ) → max 0 n ≡ n
      zero_or n = omega arith

  -- and each of its refutations stands at its shortest
  pub run_is_shortest : IsShortestRun c run
  run_is_shortest place d within refutes = ((found_at place d within).refutes refutes).1

  -- and its tests leave the sources outside the supports at 0
  pub run_leaves_zero : LeavesZeroOutside c run
  run_leaves_zero =
      let Leaves : Rules → List Route → Test → Type 0 =
      λ rules routes test. (path : Route) → IsNumber routes test.path path → IsZeroOutside c rules path test.pair in
      let P : Rules → Type 0 = λ rules. All (Leaves rules (routes_of run)) run.tests in
      let Q : List Route → Type 0 = λ routes. All (Leaves searches.rules routes) run.tests in
      subst P (sym is.rules) (subst Q (sym routes_are)
      (subst (All (Leaves searches.rules searches.routes)) (sym is.tests)
      (All-map (Leaves searches.rules searches.routes) (expecting c) written.tests
      (λ place d within. (all.are_written.tests place d within).zero_outside))))
