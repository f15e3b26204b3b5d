-- The listed paths with what is written of them can be spelled by the three files.
use Rattle.std.proofs.Common.{◌≡◌, ℕ, ◌+◌, ◌<◌, ◌≤◌, Bool, true, false, List, [], ◌∷◌, ◌++◌, length, map, get_or, refl, sym, ap, subst, arith}
use Rattle.std.specs.List.{All}
use Rattle.std.proofs.lemmas.List.{get_or-map, length-map}
use Rattle.std.proofs.lemmas.List.Elements.{All-append, All-cons, All-map, All-nil, All-weaker}
use Rattle.std.proofs.lemmas.Option.{slice_get-get_or}
use Rattle.pd_base.specs.declared.limits.TheConstants.{MOST_PATHS}
use Rattle.pd_base.specs.Route.{Route}
use Rattle.pd_base.specs.Target.{Target}
use Rattle.pd_base.specs.declared.test.Test.{Test}
use Rattle.pd_base.specs.declared.rules.Rules.{Rules}
use Rattle.netlist.specs.Circuit.{Circuit, observed_lines}
use Rattle.netlist.specs.Lawful.{IsCircuit}
use Rattle.netlist.specs.Paths.{IsPath}
use Rattle.netlist.specs.Values.{value}
use Rattle.netlist.specs.Waves.{Delays}
use Rattle.state_laws.specs.declared.split.Split.{Split as CaseSplit}
use Rattle.state_laws.specs.declared.split.Half.{Half}
use Rattle.path_laws.proofs.StepCounts.{prefix_has_few_steps}
use Rattle.runs.specs.declared.run.ListedPath.{ListedPath}
use Rattle.runs.specs.declared.run.Proof.{Proof}
use Rattle.runs.specs.declared.run.Run.{Run}
use Rattle.trees.specs.declared.tree.Node.TheVariants.{Closed, Waiting, Split}
use Rattle.runs.specs.Lawful.{AreNumbered, IsLawfulProof, IsLawfulRun, IsLawfulTest, IsNodeOf, none_named}
use Rattle.trees.specs.Trees.{Cases, preorder}
use Rattle.trees.specs.Trees.Cases.{closed, waiting, split_at}
use Rattle.runs.specs.Verdicts.{verdicts_of}
use Rattle.runs.proofs.Nameable.{path_is_nameable}
use Rattle.trees.specs.Refutations.{IsSplitOf, RefutesBelow, below}
use Rattle.trees.specs.Spent.{IsSpentBelow}
use Rattle.trees.proofs.SourceSplits.{due_split}
use Rattle.good_runs.specs.Faults.{IsNumber, routes_of}
use Rattle.good_runs.proofs.Numbers.{all_at_number, number_of_place, number_within}
use Rattle.prefix_sensitize.specs.Answers.{IsNumberedTest, Written}
use Rattle.logic_values.specs.Expected.{expecting}
use Rattle.prefix_sensitize.specs.Listed.{ArePathsAnswered, IsRunWith}
use Rattle.prefix_sensitize.specs.Outcomes.{IsFoundProof}
use Rattle.prefix_sensitize.specs.Searches.{AreSearches, Searches}
use Rattle.prefix_sensitize.proofs.GoodRuns.{is_found_proof, routes_are}

module _ (c : Circuit) where
  module _ (rules : Rules) where
    -- a split that a refutation may have, and the nodes of its halves
    split_of_rules : (split : CaseSplit) (first second : Cases) → IsSplitOf c rules split → All (IsNodeOf c rules) (preorder first)
        → All (IsNodeOf c rules) (preorder second) → All (IsNodeOf c rules) (preorder (split_at split first second))
    split_of_rules split first second is left right =
        All-cons (IsNodeOf c rules) (Split split) (preorder first ++ preorder second) is
        (All-append (IsNodeOf c rules) (preorder first) (preorder second) left right)

    -- the nodes of a refutation are nodes of its rules
    refutes_of_rules : (target : Target) (halves : List Half) (cases : Cases)
        → RefutesBelow c rules target halves cases → All (IsNodeOf c rules) (preorder cases)
    refutes_of_rules target halves closed refutes = All-cons (IsNodeOf c rules) Closed [] tt (All-nil (IsNodeOf c rules))
    refutes_of_rules target halves waiting refutes = absurd refutes
    refutes_of_rules target halves (split_at split first second) refutes =
        split_of_rules split first second refutes.0
        (refutes_of_rules target (below halves split false) first refutes.1)
        (refutes_of_rules target (below halves split true) second refutes.2)

    -- and so are those of a spent tree
    spent_of_rules : (target : Target) (halves : List Half) (cases : Cases)
        → IsSpentBelow c rules target halves cases → All (IsNodeOf c rules) (preorder cases)
    spent_of_rules target halves closed spends = All-cons (IsNodeOf c rules) Closed [] tt (All-nil (IsNodeOf c rules))
    spent_of_rules target halves waiting spends = All-cons (IsNodeOf c rules) Waiting [] tt (All-nil (IsNodeOf c rules))
    spent_of_rules target halves (split_at split first second) spends =
        split_of_rules split first second (due_split c rules target halves split spends.0)
        (spent_of_rules target (below halves split false) first spends.1)
        (spent_of_rules target (below halves split true) second spends.2)

  module _ (circuit : IsCircuit c) (routes : List Route) (are_paths : All (IsPath c) routes) (few : length routes ≤ MOST_PATHS)
      (rules : Rules) (budget : ℕ) where
    -- a proof that names a listed path, and no more steps than it has
    names_listed : (proof : Proof) (listed : Route) → IsNumber routes proof.path listed → proof.steps ≤ length listed.steps
        → IsLawfulProof proof
    names_listed proof listed numbered within =
        let some = numbered.positive in
        let last = number_within routes proof.path listed numbered in
        let is = all_at_number (IsPath c) routes proof.path listed are_paths numbered in
        let steps = prefix_has_few_steps c circuit listed is.prefix in
        record {
          path = record { positive = some; within = omega arith };
          steps = omega arith;
        }

    -- each proof that was found is lawful, and its nodes are nodes of the rules
    pub found_is_lawful : (proof : Proof) → IsFoundProof c rules budget routes proof → IsLawfulProof proof × All (IsNodeOf c rules) proof.tree
    found_is_lawful proof found = by proof.spent refl
      where
        by : (spends : Bool) → proof.spent ≡ spends → IsLawfulProof proof × All (IsNodeOf c rules) proof.tree
        by true is =
            let good = found.spent is in
            let whole = good.whole in (
              names_listed proof good.listed good.is_listed (omega arith),
              subst (All (IsNodeOf c rules)) (sym good.is_spent.tree) (spent_of_rules rules _ [] good.is_spent.cases good.is_spent.spent),
            )
        by false is =
            let good = (found.refutes is).0 in (
              names_listed proof good.listed good.is_listed good.has_steps,
              subst (All (IsNodeOf c rules)) (sym good.refutation.tree)
                  (refutes_of_rules rules _ [] good.refutation.cases good.refutation.refutes),
            )

  -- a test that was written is lawful with the bits that it expects
  test_is_lawful : (searches : Searches) (test : Test) → IsNumberedTest c searches test → IsLawfulTest c (expecting c test)
  test_is_lawful searches test is = record {
    path = is.path;
    first = is.first;
    second = is.second;
    expected = length-map (observed_lines c) (λ line. value c test.pair.second line.0);
    some_source = is.some_source;
    some_observed = is.some_observed;
  }

module _ (c : Circuit) (circuit : IsCircuit c) (delays : Delays) (searches : Searches) (are : AreSearches c searches)
    (listed : List ListedPath) (written : Written) (all : ArePathsAnswered c delays searches searches.routes listed written) (run : Run)
    (is : IsRunWith c searches listed written run) where
  -- what holds of all routes of paths holds of these paths
  All-from_map : (P : Route → Type 0) (entries : List ListedPath) → All P (map (λ (l : ListedPath). l.path) entries)
      → All (λ (l : ListedPath). P l.path) entries
  All-from_map P entries holds place d within =
      let same = length-map entries (λ (l : ListedPath). l.path) in
      let inside : place < length (map (λ (l : ListedPath). l.path) entries) = omega arith in
      subst P (get_or-map (λ (l : ListedPath). l.path) entries place d d.path within) (holds place d.path inside)

  route_is_path : All (IsPath c) (routes_of run)
  route_is_path =
      subst (All (IsPath c)) (sym (routes_are c delays searches are listed written all run is)) are.are_paths

  few_routes : length (routes_of run) ≤ MOST_PATHS
  few_routes =
      let same = ap length (routes_are c delays searches are listed written all run is) in let few = are.few in omega arith

  -- both laws of proofs
  abbrev Both : Proof → Type 0
  Both proof = IsLawfulProof proof × All (IsNodeOf c run.rules) proof.tree

  proofs_are_lawful : All Both run.proofs
  proofs_are_lawful place d within =
      found_is_lawful c circuit (routes_of run) route_is_path few_routes run.rules searches.budget (get_or run.proofs place d)
      (is_found_proof c delays searches are listed written all run is (place + 1) (get_or run.proofs place d)
      (number_of_place run.proofs place (get_or run.proofs place d) (slice_get-get_or run.proofs place d within)))

  -- the run can be spelled
  pub run_is_lawful : IsLawfulRun c run
  run_is_lawful = record {
    tests = subst (All (IsLawfulTest c)) (sym is.tests)
        (All-map (IsLawfulTest c) (expecting c) written.tests
        (λ place d within. test_is_lawful c searches (get_or written.tests place d) (all.are_written.tests place d within)));
    report = record {
      nameable = λ place d within.
          path_is_nameable c (get_or run.paths place d).path (All-from_map (IsPath c) run.paths route_is_path place d within);
      numbered = subst (λ (entries : List ListedPath). AreNumbered none_named (verdicts_of entries)) (sym is.paths) all.numbered;
    };
    proofs = record {
      lawful = All-weaker Both IsLawfulProof (λ proof has. has.0) run.proofs proofs_are_lawful;
      nodes = All-weaker Both (λ (proof : Proof). All (IsNodeOf c run.rules) proof.tree) (λ proof has. has.1) run.proofs proofs_are_lawful;
    };
  }
