-- What each verdict of a good run tells of its fault.
use Rattle.std.proofs.Common.{◌≡◌, ◌⊎◌, inl, inr, ℕ, true, false, subst}
use Rattle.pd_base.specs.Target.{target_of}
use Rattle.pd_base.specs.Route.{Route}
use Rattle.pd_base.specs.declared.test.Test.{Test}
use Rattle.pd_base.specs.declared.fault.Direction.{Direction}
use Rattle.pd_base.specs.declared.fault.Kind.{Kind}
use Rattle.pd_base.specs.declared.fault.Kind.TheVariants as kinds
use Rattle.netlist.specs.Circuit.{Circuit}
use Rattle.netlist.specs.Lawful.{IsCircuit}
use Rattle.netlist.specs.LinkedPairs.{FitRules, IsOfRules}
use Rattle.netlist.specs.Meaning.{Detects, DetectsSettled}
use Rattle.netlist.specs.Paths.{IsPath}
use Rattle.netlist.specs.Values.{observed_values}
use Rattle.netlist.specs.Waves.{Delays}
use Rattle.path_laws.proofs.NonrobustPath.{nonrobust_detects, nonrobust_detects_along, test_is_nonrobust}
use Rattle.path_laws.proofs.RobustPath.{robust_detects, robust_holds_back}
use Rattle.runs.specs.declared.run.ListedPath.{ListedPath}
use Rattle.runs.specs.declared.run.Proof.{Proof}
use Rattle.runs.specs.declared.run.Run.{Run}
use Rattle.runs.specs.declared.run.Verdict.TheVariants.{Robust, Nonrobust, Untestable, Aborted}
use Rattle.trees.specs.Spent.{IsSpent}
use Rattle.trees.proofs.Refuting.{refutation_excludes_path}
use Rattle.trees.proofs.Tried.{spent_shows}
use Rattle.good_runs.specs.Faults.{CitesRefutation, CitesSpent, IsFault, IsNumber, routes_of}
use Rattle.good_runs.specs.Faults.HasProof.{refuted, spent}
use Rattle.good_runs.specs.GoodRun.{HasRobustProof, IsGoodRefutation, IsGoodRun, IsGoodSpent}
use Rattle.good_runs.specs.Promises.{ExcludesPairs, RefutesOnPrefix, ShowsByTest, ShowsLate, ShowsLateSettled, SpendsBudget}
use Rattle.good_runs.proofs.Applying.{refutes_on_prefix}
use Rattle.good_runs.proofs.Numbers.{all_at_number, number_in_map, number_same}

module _ (c : Circuit) (circuit : IsCircuit c) (delays : Delays) (count budget : ℕ) (run : Run)
    (fit : FitRules c run.rules) (good : IsGoodRun c delays count budget run) where
  -- what holds of all proofs holds of that of a number
  good_refutation : (number : ℕ) (proof : Proof) → IsNumber run.proofs number proof → proof.spent ≡ false
      → IsGoodRefutation c run.rules budget (routes_of run) proof
  good_refutation number proof =
      all_at_number (λ (p : Proof). p.spent ≡ false → IsGoodRefutation c run.rules budget (routes_of run) p) run.proofs number proof
      good.refutations

  good_spent : (number : ℕ) (proof : Proof) → IsNumber run.proofs number proof → proof.spent ≡ true
      → IsGoodSpent c run.rules budget (routes_of run) proof
  good_spent number proof =
      all_at_number (λ (p : Proof). p.spent ≡ true → IsGoodSpent c run.rules budget (routes_of run) p) run.proofs number proof good.spent

  -- each test of the run expects what the observed lines have under its second vector
  expects : (test_number : ℕ) (test : Test) → IsNumber run.tests test_number test
      → test.expected ≡ observed_values c test.pair.second
  expects test_number test is =
      all_at_number (λ (t : Test). t.expected ≡ observed_values c t.pair.second) run.tests test_number test good.expected is

  -- and its pair is one of the rules
  pub of_rules : (test_number : ℕ) (test : Test) → IsNumber run.tests test_number test → IsOfRules c run.rules test.pair
  of_rules test_number test is =
      all_at_number (λ (t : Test). IsOfRules c run.rules t.pair) run.tests test_number test good.of_rules is

  module _ (number : ℕ) (listed : ListedPath) (is_listed : IsNumber run.paths number listed) (direction : Direction) where
    -- it is the route of this number
    listed_route : IsNumber (routes_of run) number listed.path
    listed_route = number_in_map (λ (l : ListedPath). l.path) run.paths number listed is_listed

    -- a listed path is one of the circuit
    pub listed_is_path : IsPath c listed.path
    listed_is_path = all_at_number (IsPath c) (routes_of run) number listed.path good.first.are_paths listed_route

    -- a refutation that is cited refutes a prefix of the path
    pub cited_refutes : (kind : Kind) (proof_number : ℕ)
        → CitesRefutation (routes_of run) run.proofs (target_of listed.path direction kind) proof_number
        → RefutesOnPrefix c run (target_of listed.path direction kind) proof_number
    cited_refutes kind proof_number cites =
        let proof = cites.proof in
        let on_prefix = refutes_on_prefix c run.rules budget (routes_of run) (target_of listed.path direction kind) proof
        (good_refutation proof_number proof cites.is_proof cites.applies.refutes) cites.applies in
        record {
          proof = proof;
          is_proof = cites.is_proof;
          prefix = on_prefix.prefix;
          is_prefix = on_prefix.is_prefix;
          refutes = on_prefix.refutes;
        }

    -- a spent proof that is cited spent the budget on the path
    pub cited_spent : (kind : Kind) (proof_number : ℕ) → CitesSpent run.proofs kind direction number proof_number
        → SpendsBudget c budget run (target_of listed.path direction kind) proof_number
    cited_spent kind proof_number cites =
        let proof = cites.proof in
        let is_good = good_spent proof_number proof cites.is_proof cites.spent in
        let At : ℕ → Type 0 = λ n. IsNumber (routes_of run) n is_good.listed in
        let same = number_same (routes_of run) number is_good.listed listed.path (subst At cites.of_path is_good.is_listed) listed_route in
        let OfPath : Route → Type 0 = λ route. IsSpent c run.rules (target_of route proof.dir proof.kind) budget proof.tree in
        let OfKind : Kind → Type 0 = λ k. IsSpent c run.rules (target_of listed.path proof.dir k) budget proof.tree in
        let OfDirection : Direction → Type 0 = λ d. IsSpent c run.rules (target_of listed.path d kind) budget proof.tree in
        let is_spent = subst OfDirection cites.is_about.of_direction
        (subst OfKind cites.is_about.of_kind (subst OfPath same is_good.is_spent)) in
        record {
          proof = proof;
          is_proof = cites.is_proof;
          is_spent = is_spent;
          shows = spent_shows c circuit run.rules fit (target_of listed.path direction kind) listed_is_path.prefix budget proof.tree is_spent;
        }

    -- no pair of the rules is a test of a kind that a cited refutation excludes
    pub cited_excludes : (kind : Kind) (proof_number : ℕ)
        → CitesRefutation (routes_of run) run.proofs (target_of listed.path direction kind) proof_number
        → ExcludesPairs c run (target_of listed.path direction kind)
    cited_excludes kind proof_number cites =
        let has = cited_refutes kind proof_number cites in
        refutation_excludes_path c circuit run.rules fit kind has.prefix listed.path listed_is_path.prefix has.is_prefix direction has.proof.tree
        has.refutes

    -- the robust proof: a refutation of the robust conditions, or a spent budget
    pub robust_proof_tells : (proof_number : ℕ) → HasRobustProof run number direction listed.path proof_number
        → RefutesOnPrefix c run (target_of listed.path direction kinds.Robust) proof_number
        ⊎ SpendsBudget c budget run (target_of listed.path direction kinds.Robust) proof_number
    robust_proof_tells proof_number (refuted cites) = inl (cited_refutes kinds.Robust proof_number cites)
    robust_proof_tells proof_number (spent none cites) = inr (cited_spent kinds.Robust proof_number cites)

  module _ (number : ℕ) (listed : ListedPath) (direction : Direction) where
    -- a robust verdict's test shows its path late whenever it is
    pub robust_test_shows : (test_number : ℕ) → IsFault run number listed direction (Robust test_number)
        → ShowsByTest c run number (target_of listed.path direction kinds.Robust) (ShowsLate c listed.path) test_number
    robust_test_shows test_number fault =
        let has = good.verdicts number listed direction (Robust test_number) fault in
        let is = (listed_is_path number listed fault.is_listed direction).prefix in
        record {
          test = has.test;
          is_test = has.is_test;
          of_fault = has.of_fault;
          of_rules = of_rules test_number has.test has.is_test;
          expects = expects test_number has.test has.is_test;
          shows = record {
            holds_back = robust_holds_back c circuit listed.path direction has.test.pair is has.of_fault.meets;
            detects = robust_detects c circuit listed.path direction has.test.pair is has.of_fault.meets;
          };
        }

    -- a nonrobust verdict's test does so where the path's sides have settled too
    pub nonrobust_test_shows : (test_number proof_number : ℕ)
        → IsFault run number listed direction (Nonrobust test_number proof_number)
        → ShowsByTest c run number (target_of listed.path direction kinds.Nonrobust) (ShowsLateSettled c listed.path) test_number
    nonrobust_test_shows test_number proof_number fault =
        let has = (good.verdicts number listed direction (Nonrobust test_number proof_number) fault).0 in
        let is = (listed_is_path number listed fault.is_listed direction).prefix in
        record {
          test = has.test;
          is_test = has.is_test;
          of_fault = has.of_fault;
          of_rules = of_rules test_number has.test has.is_test;
          expects = expects test_number has.test has.is_test;
          shows = record {
            along = nonrobust_detects_along c circuit listed.path direction has.test.pair is has.of_fault.meets;
            detects = nonrobust_detects c circuit listed.path direction has.test.pair is has.of_fault.meets;
          };
        }

    -- a robust verdict's test samples a wrong value at the path's end, under each delay assignment that makes the path late
    pub robust_test_detects : (test_number : ℕ) → IsFault run number listed direction (Robust test_number) → (test : Test)
        → IsNumber run.tests test_number test → Detects c listed.path test.pair
    robust_test_detects test_number fault test numbered =
        let has = robust_test_shows test_number fault in
        let P : Test → Type 0 = λ t. Detects c listed.path t.pair in
        subst P (number_same run.tests test_number has.test test has.is_test numbered) has.shows.detects

    -- a nonrobust verdict's test does so where the path's sides have settled too
    pub nonrobust_test_detects_settled : (test_number proof_number : ℕ)
        → IsFault run number listed direction (Nonrobust test_number proof_number) → (test : Test)
        → IsNumber run.tests test_number test → DetectsSettled c listed.path test.pair
    nonrobust_test_detects_settled test_number proof_number fault test numbered =
        let has = nonrobust_test_shows test_number proof_number fault in
        let P : Test → Type 0 = λ t. DetectsSettled c listed.path t.pair in
        subst P (number_same run.tests test_number has.test test has.is_test numbered) has.shows.detects

    -- an untestable verdict excludes every pair of the rules: none meets the nonrobust conditions, and so none the robust ones
    pub untestable_excludes_every_pair : (proof_number : ℕ) → IsFault run number listed direction (Untestable proof_number)
        → (kind : Kind) → ExcludesPairs c run (target_of listed.path direction kind)
    untestable_excludes_every_pair proof_number fault kind pair of_pair meets =
        let cites = good.verdicts number listed direction (Untestable proof_number) fault in
        let has = cited_refutes number listed fault.is_listed direction kinds.Nonrobust proof_number cites in
        refutation_excludes_path c circuit run.rules fit kinds.Nonrobust has.prefix listed.path
        (listed_is_path number listed fault.is_listed direction).prefix has.is_prefix direction has.proof.tree has.refutes pair of_pair
        (test_is_nonrobust kind c listed.path direction pair meets)

    -- an aborted verdict spent its budget on a nonrobust test, and has no robust one: by a refutation, or by a spent budget
    pub aborted_spent_its_budget : (robust nonrobust : ℕ) → IsFault run number listed direction (Aborted robust nonrobust)
        → SpendsBudget c budget run (target_of listed.path direction kinds.Nonrobust) nonrobust
        × (RefutesOnPrefix c run (target_of listed.path direction kinds.Robust) robust
        ⊎ SpendsBudget c budget run (target_of listed.path direction kinds.Robust) robust)
    aborted_spent_its_budget robust nonrobust fault =
        let has = good.verdicts number listed direction (Aborted robust nonrobust) fault in (
          cited_spent number listed fault.is_listed direction kinds.Nonrobust nonrobust has.1.cites,
          robust_proof_tells number listed fault.is_listed direction robust has.0,
        )
