-- A fault is answered: each sort of verdict has what it asks for.
use Rattle.std.proofs.Common.{◌≡◌, ℕ, ◌+◌, ◌-◌, ◌<◌, max, Bool, true, false, not, List, [], ◌∷◌, length, get_or, Some, refl, sym, ap, subst, ◌∙◌, arith, All}
use Rattle.std.specs.Prelude.{IsTrue}
use Rattle.std.specs.List.{slice_get}
use Rattle.std.proofs.lemmas.Bool.{false≢true}
use Rattle.std.proofs.lemmas.List.{length_push}
use Rattle.std.proofs.lemmas.List.Elements.{All-push}
use Rattle.std.proofs.lemmas.Option.{slice_get-get_or, slice_get_within}
use Rattle.netlist.specs.LinkedPairs.{IsOfRules}
use Rattle.pd_base.specs.Pair.{Vectors}
use Rattle.pd_base.specs.Route.{Route}
use Rattle.pd_base.specs.Target.{Target, target_of}
use Rattle.pd_base.specs.declared.test.Test.{Test}
use Rattle.pd_base.specs.declared.fault.Direction.{Direction}
use Rattle.pd_base.specs.declared.fault.Kind.{Kind}
use Rattle.pd_base.specs.declared.fault.Kind.TheVariants as kinds
use Rattle.netlist.specs.Circuit.{Circuit}
use Rattle.netlist.specs.Conditions.{Meets}
use Rattle.netlist.specs.Lawful.{IsCircuit}
use Rattle.netlist.specs.Paths.{IsPath}
use Rattle.runs.specs.declared.run.Proof.{Proof}
use Rattle.runs.specs.declared.run.Verdict.TheVariants.{Robust, Nonrobust, Untestable, Aborted}
use Rattle.good_runs.specs.Faults.{HasProof, IsNumber}
use Rattle.justify.specs.Tests.{IsFitTest}
use Rattle.trees.specs.ZeroOutside.{IsZeroOutside}
use Rattle.good_runs.specs.Faults.HasProof.{refuted, spent}
use Rattle.good_runs.specs.GoodRun.{HasTest}
use Rattle.good_runs.proofs.Applying.{applying_excludes}
use Rattle.good_runs.proofs.Numbers.{all_at_number, number_kept, number_new, number_of_place, number_same, number_within}
use Rattle.prefix_sensitize.specs.Answers.{AddsTest, AreWritten, HasCited, IsAnswered, IsNumberedTest, Written}
use Rattle.prefix_sensitize.specs.declared.outcome.RowOutcome.{RowOutcome}
use Rattle.prefix_sensitize.specs.declared.outcome.RowOutcome.TheVariants.{Proved}
use Rattle.prefix_sensitize.specs.Numbering.{Cites}
use Rattle.prefix_sensitize.specs.Outcomes.{IsFoundProof, IsOutcome}
use Rattle.prefix_sensitize.specs.Searches.{AreSearches, Searches}
use Rattle.prefix_sensitize.proofs.Citing.{IsCitedOn, citation}

-- a bit whose negation is set is not
pub cleared : (bit : Bool) → IsTrue (not bit) → bit ≡ false
cleared true set = absurd (false≢true set)
cleared false set = refl

module _ (searches : Searches) (path_number : ℕ) (target : Target) (index : ℕ)
    (has : HasProof searches.routes searches.proofs path_number target (index + 1)) where
  -- the proof of a fault was found
  found_proof : (proof : Proof) × (slice_get searches.proofs index ≡ Some proof)
  found_proof = by has
    where
      at : (proof : Proof) → IsNumber searches.proofs (index + 1) proof → slice_get searches.proofs index ≡ Some proof
      at proof is =
          subst (λ (place : ℕ). slice_get searches.proofs place ≡ Some proof) (let e : index + 1 - 1 ≡ index = omega arith in e) is.found

      by : HasProof searches.routes searches.proofs path_number target (index + 1)
          → (proof : Proof) × (slice_get searches.proofs index ≡ Some proof)
      by (refuted cites) = (cites.proof, at cites.proof cites.is_proof)
      by (spent none cites) = (cites.proof, at cites.proof cites.is_proof)

  pub proof_within : index < length searches.proofs
  proof_within = slice_get_within searches.proofs index found_proof.0 found_proof.1

  -- what is read at its index is this proof
  module _ (found : List Proof) (same : found ≡ searches.proofs) (read : Proof) (at : read ≡ get_or found index read) where
    pub read_proof : slice_get searches.proofs index ≡ Some read
    read_proof =
        let is : read ≡ get_or searches.proofs index read = at ∙ ap (λ (list : List Proof). get_or list index read) same in
        slice_get-get_or searches.proofs index read proof_within ∙ ap Some (sym is)

    -- where it is no spent one, no pair meets the conditions
    pub read_excludes : (c : Circuit) → IsCircuit c → AreSearches c searches → IsPath c target.path → read.spent ≡ false
        → (pair : Vectors) → IsOfRules c searches.rules pair → ¬ Meets c target pair
    read_excludes c circuit are is_path refutes = by has
      where
        numbered : IsNumber searches.proofs (index + 1) read
        numbered = number_of_place searches.proofs index read read_proof

        by : HasProof searches.routes searches.proofs path_number target (index + 1) → (pair : Vectors) → IsOfRules c searches.rules pair
            → ¬ Meets c target pair
        by (refuted cites) =
            applying_excludes c searches.rules searches.budget searches.routes target cites.proof
            ((all_at_number (IsFoundProof c searches.rules searches.budget searches.routes) searches.proofs (index + 1) cites.proof
            are.found.each cites.is_proof).refutes cites.applies.refutes).0
            cites.applies circuit are.fit is_path.prefix
        by (spent none cites) =
            absurd (false≢true (sym refutes
            ∙ ap (λ (proof : Proof). proof.spent) (number_same searches.proofs (index + 1) read cites.proof numbered cites.is_proof)
            ∙ cites.spent))

module _ (c : Circuit) (searches : Searches) (are : AreSearches c searches) (path_number : ℕ) (path : Route)
    (listed : IsNumber searches.routes path_number path) (direction : Direction) where
  -- the path is one of the circuit
  pub listed_path : IsPath c path
  listed_path = all_at_number (IsPath c) searches.routes path_number path are.are_paths listed

  -- the proof that an outcome of its row names is one of the fault
  pub outcome_proof : (kind : Kind) (outcome : RowOutcome) (index : ℕ) → outcome ≡ Proved index
      → IsOutcome c searches.rules searches.routes searches.proofs (path_number - 1) (target_of path direction kind) outcome
      → HasProof searches.routes searches.proofs path_number (target_of path direction kind) (index + 1)
  outcome_proof kind outcome index proves is =
      let target = target_of path direction kind in
      let P : ℕ → Type 0 = λ number. HasProof searches.routes searches.proofs number target (index + 1) in
      let some = listed.positive in
      subst P (let e : path_number - 1 + 1 ≡ path_number = omega arith in e)
      (subst (IsOutcome c searches.rules searches.routes searches.proofs (path_number - 1) target) proves is)

  -- a test that is added for the path is one of the fault
  record HasAdded (kind : Kind) (pair : Vectors) (old new : List Test) (number : ℕ) : Type 0 where
    pub has : HasTest c new path_number (target_of path direction kind) number
    pub of_pair : has.test.pair ≡ pair
    pub tests : All (IsNumberedTest c searches) new
    pub keeps : (own : ℕ) (test : Test) → IsNumber old own test → IsNumber new own test
    pub grown : length new ≡ length old + 1

  test_is_added : (kind : Kind) (pair : Vectors) (old new : List Test) (number : ℕ) → All (IsNumberedTest c searches) old
      → IsFitTest c searches.rules (target_of path direction kind) pair → AddsTest old new path_number direction kind pair number
      → HasAdded kind pair old new number
  test_is_added kind pair old new number all for adds =
      let some = listed.positive in
      let within = number_within searches.routes path_number path listed in
      let few = are.few in
      let same = adds.of_path in
      let test = adds.test in
      let first = ap (λ (p : Vectors). length p.first) adds.of_pair ∙ for.first_fits in
      let second = ap (λ (p : Vectors). length p.second) adds.of_pair ∙ for.second_fits in
      let P : List Test → Type 0 = λ list. HasAdded kind pair old list number in
      subst P (sym adds.adds) (record {
        has = record {
          test = test;
          is_test = number_new old number test adds.next;
          of_fault = record {
            of_path = adds.of_path;
            of_direction = adds.of_direction;
            of_kind = adds.of_kind;
            first_fits = first;
            second_fits = second;
            meets = subst (Meets c (target_of path direction kind)) (sym adds.of_pair) for.meets;
          };
        };
        of_pair = adds.of_pair;
        tests = All-push (IsNumberedTest c searches) old test all (record {
          path = record { positive = omega arith; within = omega arith };
          first = first;
          second = second;
          of_rules = subst (IsOfRules c searches.rules) (sym adds.of_pair) for.of_rules;
          some_source = omega (arith, listed_path.prefix.source);
          some_observed = omega (arith, listed_path.observed.1);
          zero_outside = λ route its.
              (let N : ℕ → Type 0 = λ n. IsNumber searches.routes n route in
              let own : path ≡ route = number_same searches.routes path_number path route listed (subst N same its) in
              let Z : Route → Type 0 = λ r. IsZeroOutside c searches.rules r test.pair in
              subst Z own (subst (IsZeroOutside c searches.rules path) (sym adds.of_pair) for.zero_outside));
        });
        keeps = λ own other is. number_kept old (test ∷ []) own other is;
        grown = length_push old test;
      })

  -- a proof that is cited for the fault is
  has_cited : (kind : Kind) (index : ℕ) (proof : Proof) → slice_get searches.proofs index ≡ Some proof
      → HasProof searches.routes searches.proofs path_number (target_of path direction kind) (index + 1) → (cited : List ℕ) (number : ℕ)
      → IsNumber cited number index → HasCited searches cited path_number (target_of path direction kind) number
  has_cited kind index proof found has cited number is =
      record { index = index; is_cited = is; proof = proof; is_found = found; has_proof = has }

  module _ (old : Written) (is : AreWritten c searches old) where
    -- by a robust test
    pub robust_answers : (tests : List Test) (pair : Vectors) (number : ℕ) → IsFitTest c searches.rules (target_of path direction kinds.Robust) pair
        → AddsTest old.tests tests path_number direction kinds.Robust pair number
        → IsAnswered c searches path_number direction path old (record { tests = tests; cited = old.cited }) (Robust number)
    robust_answers tests pair number for adds =
        let added = test_is_added kinds.Robust pair old.tests tests number is.tests for adds in
        let grown = added.grown in
        record {
          written = record { found = is.found; once = is.once; tests = added.tests };
          keeps = record { tests = added.keeps; proofs = λ own index its. its };
          answer = added.has;
          names = adds.next;
          named = λ i. record { tests = sym grown i; proofs = length old.cited };
          few_tests = omega arith;
          few_proofs = omega arith;
        }

    -- a proof that is cited
    cites_on : (index : ℕ) → index < length searches.proofs → (cited : List ℕ) (number : ℕ) → Cites old.cited cited index number
        → IsCitedOn (length searches.proofs) old.cited cited index number
    cites_on index within = citation (length searches.proofs) old.cited is.found is.once index within

    -- by a nonrobust test, and the proof that there is no robust one
    pub nonrobust_answers : (cited : List ℕ) (tests : List Test) (index proof : ℕ) (pair : Vectors) (number : ℕ)
        → HasProof searches.routes searches.proofs path_number (target_of path direction kinds.Robust) (index + 1)
        → Cites old.cited cited index proof → IsFitTest c searches.rules (target_of path direction kinds.Nonrobust) pair
        → ¬ Meets c (target_of path direction kinds.Robust) pair
        → AddsTest old.tests tests path_number direction kinds.Nonrobust pair number
        → IsAnswered c searches path_number direction path old (record { tests = tests; cited = cited }) (Nonrobust number proof)
    nonrobust_answers cited tests index proof pair number has cites for not_robust adds =
        let target = target_of path direction kinds.Robust in
        let found = found_proof searches path_number target index has in
        let on = cites_on index (proof_within searches path_number target index has) cited proof cites in
        let added = test_is_added kinds.Nonrobust pair old.tests tests number is.tests for adds in
        let grown = added.grown in
        let few = on.few in
        record {
          written = record { found = on.found; once = on.once; tests = added.tests };
          keeps = record { tests = added.keeps; proofs = on.keeps };
          answer = (
            record {
              test = added.has.test;
              is_test = added.has.is_test;
              of_fault = added.has.of_fault;
              not_robust = λ meets. not_robust (subst (Meets c target) added.of_pair meets);
            },
            has_cited kinds.Robust index found.0 found.1 has cited proof on.is_cited,
          );
          names = (adds.next, on.names);
          named = λ i. record { tests = sym grown i; proofs = on.named i };
          few_tests = omega arith;
          few_proofs = omega arith;
        }

    -- by a refutation of the nonrobust conditions
    pub untestable_answers : (cited : List ℕ) (index number : ℕ) (proof : Proof)
        → HasProof searches.routes searches.proofs path_number (target_of path direction kinds.Nonrobust) (index + 1)
        → slice_get searches.proofs index ≡ Some proof → proof.spent ≡ false → Cites old.cited cited index number
        → IsAnswered c searches path_number direction path old (record { tests = old.tests; cited = cited }) (Untestable number)
    unfolding has_cited
    untestable_answers cited index number proof has found refutes cites =
        let on = cites_on index (slice_get_within searches.proofs index proof found) cited number cites in
        let few = on.few in
        record {
          written = record { found = on.found; once = on.once; tests = is.tests };
          keeps = record { tests = λ own test its. its; proofs = on.keeps };
          answer = record { has = has_cited kinds.Nonrobust index proof found has cited number on.is_cited; refutes = refutes };
          names = on.names;
          named = λ i. record { tests = length old.tests; proofs = on.named i };
          few_tests = omega arith;
          few_proofs = omega arith;
        }

    -- by a budget that was spent on the nonrobust search, and the proof that there is no robust test
    pub aborted_answers : (middle cited : List ℕ) (robust index robust_number number : ℕ) (proof : Proof)
        → HasProof searches.routes searches.proofs path_number (target_of path direction kinds.Robust) (robust + 1)
        → HasProof searches.routes searches.proofs path_number (target_of path direction kinds.Nonrobust) (index + 1)
        → slice_get searches.proofs index ≡ Some proof → proof.spent ≡ true → Cites old.cited middle robust robust_number
        → Cites middle cited index number
        → IsAnswered c searches path_number direction path old (record { tests = old.tests; cited = cited }) (Aborted robust_number number)
    unfolding has_cited
    aborted_answers middle cited robust index robust_number number proof has_robust has found spends cites_robust cites =
        let target = target_of path direction kinds.Robust in
        let robust_found = found_proof searches path_number target robust has_robust in
        let first = cites_on robust (proof_within searches path_number target robust has_robust) middle robust_number cites_robust in
        let last = citation (length searches.proofs) middle first.found first.once index
        (slice_get_within searches.proofs index proof found) cited number cites in
        let few = first.few in
        let few_more = last.few in
        let named = first.named in
        let named_more = last.named in
        let all : max (max (length old.cited) robust_number) number ≡ length cited = ap (λ (n : ℕ). max n number) named ∙ named_more in
        record {
          written = record { found = last.found; once = last.once; tests = is.tests };
          keeps = record { tests = λ own test its. its; proofs = λ own other its. last.keeps own other (first.keeps own other its) };
          answer = (
            has_cited kinds.Robust robust robust_found.0 robust_found.1 has_robust cited robust_number
                (last.keeps robust_number robust first.is_cited),
            record { has = has_cited kinds.Nonrobust index proof found has cited number last.is_cited; spent = spends },
          );
          names = (
            first.names,
            record { positive = last.names.positive; within = omega (arith, last.names.within) },
          );
          named = λ i. record { tests = length old.tests; proofs = all i };
          few_tests = omega arith;
          few_proofs = omega arith;
        }
