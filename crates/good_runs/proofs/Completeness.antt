-- What a verdict is bound to be: by the pairs of the rules that there are, where the budget is great enough for the support of the path; and
-- at every budget where the start decides.
use Rattle.std.proofs.Common.{◌≡◌, ⊎_elim, ℕ, ◌-◌, ◌^◌, ◌≤◌, true, List, [], ◌∷◌, length, refl, subst, arith}
use Rattle.std.specs.List.{Contains}
use Rattle.std.proofs.lemmas.Bool.{cases_Bool, false≢true}
use Rattle.std.proofs.lemmas.List.Elements.{All-cons, All-contains, All-nil}
use Rattle.pd_base.specs.Target.{Target, target_of}
use Rattle.pd_base.specs.declared.rules.Rules.{Rules}
use Rattle.pd_base.specs.Links.{IsLink, links_of}
use Rattle.pd_base.specs.Pair.{Vectors}
use Rattle.pd_base.specs.declared.fault.Direction.{Direction}
use Rattle.pd_base.specs.declared.fault.Kind.{Kind}
use Rattle.pd_base.specs.declared.fault.Kind.TheVariants as kinds
use Rattle.netlist.specs.Circuit.{Circuit}
use Rattle.netlist.specs.Conditions.{Meets}
use Rattle.netlist.specs.Lawful.{IsCircuit}
use Rattle.netlist.specs.LinkedPairs.{FitRules, IsSupported}
use Rattle.netlist.specs.Paths.{IsPrefix, end_of}
use Rattle.netlist.specs.Waves.{Delays}
use Rattle.path_laws.proofs.NonrobustPath.{robust_is_nonrobust}
use Rattle.state_sets.specs.declared.state.StateSet.{StateSet}
use Rattle.state_sets.specs.Hulls.{Closes, HasNoEmptySet, IsNarrowingOf}
use Rattle.state_sets.specs.LineStates.{state_under}
use Rattle.state_laws.specs.Nodes.{ClosesAtNode, IsNodeHull, MayBe}
use Rattle.state_laws.proofs.Hulls.{hull_once, not_closing}
use Rattle.state_laws.proofs.LinkedTrials.{closes_unless_linked}
use Rattle.state_laws.proofs.SourceStates.{launched}
use Rattle.runs.specs.declared.run.ListedPath.{ListedPath}
use Rattle.runs.specs.declared.run.Run.{Run}
use Rattle.runs.specs.declared.run.Verdict.{Verdict}
use Rattle.runs.specs.declared.run.Verdict.TheVariants.{Robust, Nonrobust, Untestable, Aborted}
use Rattle.trees.specs.declared.tree.Node.{Node}
use Rattle.trees.specs.declared.tree.Node.TheVariants.{Closed, Waiting}
use Rattle.trees.specs.Trees.{Cases, preorder}
use Rattle.trees.specs.Trees.Cases.{closed, waiting, split_at}
use Rattle.runs.specs.Verdicts.{is_robust, is_untestable}
use Rattle.trees.specs.Algebras.{algebra_of}
use Rattle.trees.specs.Bounds.{AreSupport, states_of_source}
use Rattle.trees.specs.Refutations.{IsRefutation}
use Rattle.trees.specs.Spent.{IsOpen, IsSpent, IsSpentBelow, MayTry}
use Rattle.trees.proofs.Bound.{own_in_support, spent_below_bound}
use Rattle.trees.specs.Tried.{TakesLeast}
use Rattle.trees.proofs.Refuting.{laws_of, refutation_excludes, refutation_excludes_path}
use Rattle.trees.proofs.Trials.{only_least, trial_closes}
use Rattle.good_runs.specs.Faults.{IsFault}
use Rattle.good_runs.specs.GoodRun.{HasRobustProof, IsGoodRun, IsVerdict}
use Rattle.good_runs.specs.Truth.{HasSomeTest, IsTruth}
use Rattle.trees.proofs.LeastPairs.{is_of_rules, of_rules_takes, pair_of_rules, unlinked_pair, unlinked_takes}
use Rattle.good_runs.specs.Promises.{ExcludesPairs, RefutesOnPrefix, SpendsBudget}
use Rattle.good_runs.proofs.Verdicts.{cited_spent, listed_is_path, of_rules, robust_proof_tells, untestable_excludes_every_pair}

-- a closed leaf alone has no open one
none_waits : Contains (Closed ∷ []) Waiting → ⊥
none_waits waits =
    let IsClosed : Node → Type 0 = λ node. node ≡ Closed in
    let same : Waiting ≡ Closed =
    All-contains IsClosed (Closed ∷ []) Waiting (All-cons IsClosed Closed [] refl (All-nil IsClosed)) waits in
    cc

-- the root of a spent tree does not close, and its trial does
pub root_is_open : (c : Circuit) (rules : Rules) (target : Target) (budget : ℕ) (nodes : List Node)
    → IsSpent c rules target budget nodes → (hull : List StateSet) × IsOpen c rules target [] hull
root_is_open c rules target budget nodes spent = by spent.cases spent.tree spent.spent
  where
    by : (cases : Cases) → nodes ≡ preorder cases → IsSpentBelow c rules target [] cases
        → (hull : List StateSet) × IsOpen c rules target [] hull
    by closed tree below =
        let P : List Node → Type 0 = λ all. Contains all Waiting in absurd (none_waits (subst P tree spent.waits))
    by waiting tree below = below
    by (split_at split first second) tree below = (below.0.hull, below.0.is_open)

-- a start that closes is refuted by a closed leaf alone
closed_refutes : (c : Circuit) (rules : Rules) (target : Target) → ClosesAtNode (algebra_of rules) c rules target []
    → IsRefutation c rules target (Closed ∷ [])
closed_refutes c rules target closes = record { cases = closed; tree = refl; refutes = closes }

module _ (c : Circuit) (circuit : IsCircuit c) (delays : Delays) (count budget : ℕ) (run : Run)
    (fit : FitRules c run.rules) (good : IsGoodRun c delays count budget run) (number : ℕ) (listed : ListedPath) (direction : Direction) (verdict : Verdict)
    (fault : IsFault run number listed direction verdict) where
  is_prefix : IsPrefix c listed.path
  is_prefix = (listed_is_path c circuit delays count budget run fit good number listed fault.is_listed direction).prefix

  -- the proof that there is no robust test, where none spent the budget
  no_robust_test : (proof : ℕ) → HasRobustProof run number direction listed.path proof
      → (SpendsBudget c budget run (target_of listed.path direction kinds.Robust) proof → ⊥)
      → ExcludesPairs c run (target_of listed.path direction kinds.Robust)
  no_robust_test proof has no_spent =
      ⊎_elim
      (λ (refutes : RefutesOnPrefix c run (target_of listed.path direction kinds.Robust) proof).
      refutation_excludes_path c circuit run.rules fit kinds.Robust refutes.prefix listed.path is_prefix refutes.is_prefix direction
      refutes.proof.tree refutes.refutes)
      (λ (spent : SpendsBudget c budget run (target_of listed.path direction kinds.Robust) proof). absurd (no_spent spent))
      (robust_proof_tells c circuit delays count budget run fit good number listed fault.is_listed direction proof has)

  -- with a budget that no spent tree reaches, the verdict tells what there is
  module _ (no_spent : (kind : Kind) (nodes : List Node) → IsSpent c run.rules (target_of listed.path direction kind) budget nodes → ⊥) where
    truth_of : (own : Verdict) → IsFault run number listed direction own
        → IsVerdict c run number direction listed.path own → IsTruth c run.rules listed.path direction own
    truth_of (Robust test) of is =
        let some : HasSomeTest c run.rules (target_of listed.path direction kinds.Robust) = record {
          pair = is.test.pair;
          first_fits = is.of_fault.first_fits;
          second_fits = is.of_fault.second_fits;
          of_rules = of_rules c circuit delays count budget run fit good test is.test is.is_test;
          meets = is.of_fault.meets;
        } in
        let weaker : HasSomeTest c run.rules (target_of listed.path direction kinds.Nonrobust) = record {
          pair = is.test.pair;
          first_fits = is.of_fault.first_fits;
          second_fits = is.of_fault.second_fits;
          of_rules = some.of_rules;
          meets = robust_is_nonrobust c listed.path direction is.test.pair is.of_fault.meets;
        } in
        record {
          robust = (λ _. some, λ _. refl);
          nonrobust = (λ no. absurd (false≢true no), λ none. absurd (none.0 some));
          untestable = (λ no. absurd (false≢true no), λ none. absurd (none weaker));
          decided = refl;
        }
    truth_of (Nonrobust test proof) of is =
        let weaker : HasSomeTest c run.rules (target_of listed.path direction kinds.Nonrobust) = record {
          pair = is.0.test.pair;
          first_fits = is.0.of_fault.first_fits;
          second_fits = is.0.of_fault.second_fits;
          of_rules = of_rules c circuit delays count budget run fit good test is.0.test is.0.is_test;
          meets = is.0.of_fault.meets;
        } in
        let none : HasSomeTest c run.rules (target_of listed.path direction kinds.Robust) → ⊥ =
        λ some. no_robust_test proof is.1 (λ spent. no_spent kinds.Robust spent.proof.tree spent.is_spent) some.pair some.of_rules some.meets in
        record {
          robust = (λ no. absurd (false≢true no), λ some. absurd (none some));
          nonrobust = (λ _. (none, weaker), λ _. refl);
          untestable = (λ no. absurd (false≢true no), λ nothing. absurd (nothing weaker));
          decided = refl;
        }
    truth_of (Untestable proof) of is =
        let excludes = untestable_excludes_every_pair c circuit delays count budget run fit good number listed direction proof of in
        let none : (kind : Kind) → HasSomeTest c run.rules (target_of listed.path direction kind) → ⊥ = λ kind some. excludes kind some.pair some.of_rules some.meets in
        record {
          robust = (λ no. absurd (false≢true no), λ some. absurd (none kinds.Robust some));
          nonrobust = (λ no. absurd (false≢true no), λ both. absurd (none kinds.Nonrobust both.1));
          untestable = (λ _. none kinds.Nonrobust, λ _. refl);
          decided = refl;
        }
    truth_of (Aborted robust nonrobust) of is =
        let spent = cited_spent c circuit delays count budget run fit good number listed of.is_listed direction kinds.Nonrobust nonrobust
        is.1.cites in
        absurd (no_spent kinds.Nonrobust spent.proof.tree spent.is_spent)

  -- with a budget of at least the number of states that the rules leave a source to the power of the number of sources in the support,
  -- the path's own not counted, the verdict tells what there is, and is not aborted
  pub great_budget_decides : (sources : List ℕ) → AreSupport c run.rules listed.path sources
      → states_of_source run.rules ^ (length sources - 1) ≤ budget
      → IsTruth c run.rules listed.path direction verdict
  great_budget_decides sources support great =
      truth_of
      (λ kind nodes spent.
      let below = spent_below_bound c run.rules (target_of listed.path direction kind) budget nodes is_prefix spent sources support in omega arith)
      verdict fault (good.verdicts number listed direction verdict fault)

  -- where the start closes for the nonrobust kind the fault is untestable, whatever the budget
  pub closed_start_is_untestable : ClosesAtNode (algebra_of run.rules) c run.rules (target_of listed.path direction kinds.Nonrobust) [] → is_untestable verdict ≡ true
  closed_start_is_untestable closes = by verdict fault (good.verdicts number listed direction verdict fault)
    where
      none : ExcludesPairs c run (target_of listed.path direction kinds.Nonrobust)
      none = refutation_excludes c circuit run.rules fit (target_of listed.path direction kinds.Nonrobust) is_prefix (Closed ∷ [])
          (closed_refutes c run.rules (target_of listed.path direction kinds.Nonrobust) closes)

      by : (own : Verdict) → IsFault run number listed direction own → IsVerdict c run number direction listed.path own
          → is_untestable own ≡ true
      by (Robust test) of is =
          absurd (none is.test.pair (of_rules c circuit delays count budget run fit good test is.test is.is_test) (robust_is_nonrobust c listed.path direction is.test.pair is.of_fault.meets))
      by (Nonrobust test proof) of is = absurd (none is.0.test.pair (of_rules c circuit delays count budget run fit good test is.0.test is.0.is_test) is.0.of_fault.meets)
      by (Untestable proof) of is = refl
      by (Aborted robust nonrobust) of is =
          let spent = cited_spent c circuit delays count budget run fit good number listed of.is_listed direction kinds.Nonrobust
          nonrobust is.1.cites in
          let root = root_is_open c run.rules (target_of listed.path direction kinds.Nonrobust) budget spent.proof.tree spent.is_spent in
          absurd (not_closing (algebra_of run.rules) c (IsNarrowingOf c (links_of run.rules) kinds.Nonrobust listed.path.steps)
          (MayBe (algebra_of run.rules) c run.rules (target_of listed.path direction kinds.Nonrobust) []) root.0 root.1.is_hull root.1.none_empty closes)

  -- where the start does not close for the robust kind, and neither does the trial there, the fault is robust, whatever the budget
  module _ (hull : List StateSet)
      (is_hull : IsNodeHull (algebra_of run.rules) c run.rules (target_of listed.path direction kinds.Robust) [] hull)
      (none_empty : HasNoEmptySet c hull)
      (passes_trial : ¬ Closes (algebra_of run.rules) c (IsNarrowingOf c (links_of run.rules) kinds.Robust listed.path.steps)
      (MayTry c run.rules (target_of listed.path direction kinds.Robust) [] hull)) where
    abbrev robust : Target
    robust = target_of listed.path direction kinds.Robust

    -- the pair that takes the least states at all sources, whatever the links
    abbrev free : Vectors
    free = unlinked_pair c run.rules hull

    -- no link of the support fails under it, since the trial would close
    all_linked : (source line : ℕ) → IsSupported c (links_of run.rules) (end_of c listed.path) source → IsLink (links_of run.rules) source line
        → (algebra_of run.rules).link (state_under (algebra_of run.rules) c free source) (state_under (algebra_of run.rules) c free line) ≡ true
    all_linked source line supported link = ⊎_elim (λ is. is)
        (λ fails. absurd (passes_trial
        (closes_unless_linked (algebra_of run.rules) (laws_of run.rules) c circuit (links_of run.rules) fit (end_of c listed.path) kinds.Robust
        listed.path.steps free (MayTry c run.rules robust [] hull)
        (λ other within in_support. only_least c circuit run.rules fit robust is_prefix [] hull
        free
        (unlinked_takes c run.rules robust [] hull is_hull none_empty) other
        (record { is_source = within; supported = in_support }))
        source line supported link fails)))
        (cases_Bool ((algebra_of run.rules).link (state_under (algebra_of run.rules) c free source)
        (state_under (algebra_of run.rules) c free line)))

    -- so the pair of the rules takes the least states there
    abbrev pair : Vectors
    pair = pair_of_rules c run.rules hull

    takes : TakesLeast c run.rules listed.path hull pair
    takes = of_rules_takes c run.rules robust [] hull is_hull none_empty circuit all_linked

    -- it cannot be that it is no robust test
    some_robust : ¬ (¬ Meets c robust pair)
    some_robust none =
        let source = listed.path.source.0 in
        let least = takes source (own_in_support c run.rules listed.path is_prefix) in
        let may = is_hull.rest.among source _ least.has in
        let launches = launched (algebra_of run.rules) (laws_of run.rules) c pair source is_prefix.source direction (may.start.own refl) in
        passes_trial (trial_closes c circuit run.rules fit robust is_prefix [] hull pair takes
        (λ sides. none (record { launches = launches; sides = sides })))

    -- no budget was spent on a robust test
    none_spent : (nodes : List Node) → IsSpent c run.rules (target_of listed.path direction kinds.Robust) budget nodes → ⊥
    none_spent nodes spent =
        let root = root_is_open c run.rules (target_of listed.path direction kinds.Robust) budget nodes spent in
        let same = hull_once (algebra_of run.rules) c (IsNarrowingOf c (links_of run.rules) kinds.Robust listed.path.steps)
        (MayBe (algebra_of run.rules) c run.rules (target_of listed.path direction kinds.Robust) []) root.0 root.1.is_hull hull is_hull in
        let P : List StateSet → Type 0 = λ labels. Closes (algebra_of run.rules) c (IsNarrowingOf c (links_of run.rules) kinds.Robust listed.path.steps)
        (MayTry c run.rules (target_of listed.path direction kinds.Robust) [] labels) in
        passes_trial (subst P same root.1.trial)

    no_robust_proof : (proof : ℕ) → HasRobustProof run number direction listed.path proof → ⊥
    no_robust_proof proof has =
        some_robust (no_robust_test proof has (λ spent. none_spent spent.proof.tree spent.is_spent) pair
        (is_of_rules c run.rules hull fit))

    pub passed_trial_is_robust : is_robust verdict ≡ true
    passed_trial_is_robust = by verdict fault (good.verdicts number listed direction verdict fault)
      where
        by : (own : Verdict) → IsFault run number listed direction own → IsVerdict c run number direction listed.path own
            → is_robust own ≡ true
        by (Robust test) of is = refl
        by (Nonrobust test proof) of is = absurd (no_robust_proof proof is.1)
        by (Untestable proof) of is =
            absurd (some_robust (untestable_excludes_every_pair c circuit delays count budget run fit good number listed direction proof
            of kinds.Robust pair (is_of_rules c run.rules hull fit)))
        by (Aborted robust nonrobust) of is = absurd (no_robust_proof robust is.0)
