-- The cited proofs among those that were found: what a fault was told of a proof that was found it can be told of the written one.
use Rattle.std.proofs.Common.{◌≡◌, ⊎_elim, ℕ, ◌+◌, ◌-◌, ◌<◌, true, false, List, length, get_or, Some, sym, ap, subst, ◌∙◌, arith, All}
use Rattle.std.specs.Prelude.{slice_get, Contains}
use Rattle.std.proofs.lemmas.Bool.{false≢true}
use Rattle.std.proofs.lemmas.Option.{get_or_from_slice_get, slice_get_cases, slice_get_within}
use Rattle.pd_base.specs.Route.{Route}
use Rattle.pd_base.specs.Target.{Target}
use Rattle.pd_base.specs.declared.fault.Direction.{Direction}
use Rattle.pd_base.specs.declared.fault.Kind.{Kind}
use Rattle.runs.specs.declared.run.Proof.{Proof}
use Rattle.good_runs.specs.Faults.{CitesRefutation, CitesSpent, HasProof, IsNumber, NoneApplies}
use Rattle.good_runs.specs.Faults.HasProof.{refuted, spent}
use Rattle.good_runs.proofs.Numbers.{number_of_place, number_same, number_within}
use Rattle.prefix_sensitize.specs.Numbering.{AreCited, HaveOneNumber}
use Rattle.prefix_sensitize.specs.Outcomes.{AreApart}

-- an item with a number is in the list
pub number_is_contained : {T : Type 0} (items : List T) (number : ℕ) (item : T) → IsNumber items number item → Contains items item
number_is_contained items number item is =
    (number - 1, slice_get_within items (number - 1) item is.found, get_or_from_slice_get items (number - 1) item item is.found)

module _ (routes : List Route) (found : List Proof) (apart : AreApart routes found) (cited : List ℕ)
    (all_found : All (λ index. index < length found) cited) (once : HaveOneNumber cited) (written : List Proof)
    (are : AreCited cited found written) where
  -- a written proof is a cited one that was found
  pub record IsCitedProof (number : ℕ) (proof : Proof) : Type 0 where
    pub index : ℕ
    pub is_cited : IsNumber cited number index
    pub is_found : IsNumber found (index + 1) proof

  pub cited_proof : (number : ℕ) (proof : Proof) → IsNumber written number proof → IsCitedProof number proof
  cited_proof number proof is =
      ⊎_elim
      (λ at.
      let numbered : IsNumber cited number at.0 = record { positive = is.positive; found = at.2 } in
      let within = all_found (number - 1) at.0 at.1 in
      let here : get_or cited (number - 1) at.0 < length found = within in
      let inside : at.0 < length found = subst (λ (index : ℕ). index < length found) at.3 here in
      ⊎_elim
      (λ (there : (p : Proof) × (at.0 < length found) × (slice_get found at.0 ≡ Some p) × (get_or found at.0 p ≡ p)).
      let own = are.each number at.0 there.0 numbered there.2 in
      let same = number_same written number there.0 proof own is in
      record {
        index = at.0;
        is_cited = numbered;
        is_found = subst (IsNumber found (at.0 + 1)) same (number_of_place found at.0 there.0 there.2);
      })
      (λ past. let short = past.0 in absurd (omega arith))
      (slice_get_cases found at.0).1)
      (λ past.
      let short = past.0 in
      let within = number_within written number proof is in
      let some = is.positive in
      let same = are.one_each in
      absurd (omega arith))
      (slice_get_cases cited (number - 1)).1

  -- a cited proof is written under its number
  is_written : (number index : ℕ) (proof : Proof) → IsNumber cited number index → IsNumber found (index + 1) proof
      → IsNumber written number proof
  is_written number index proof is at =
      are.each number index proof is
      (subst (λ (place : ℕ). slice_get found place ≡ Some proof) (let e : index + 1 - 1 ≡ index = omega arith in e) at.found)

  -- where none that was found applies, none that is written does
  none_written_applies : (target : Target) → NoneApplies routes found target → NoneApplies routes written target
  none_written_applies target none number proof is applies =
      let of = cited_proof number proof is in none (of.index + 1) proof of.is_found applies

  -- the refutation is the only one that applies
  refutation_written : (target : Target) → Contains routes target.path → (number index : ℕ) → IsNumber cited number index
      → CitesRefutation routes found target (index + 1) → CitesRefutation routes written target number
  refutation_written target listed number index is cites = record {
    proof = cites.proof;
    is_proof = is_written number index cites.proof is cites.is_proof;
    applies = cites.applies;
    least = λ other other_proof numbered applies.
        (let of = cited_proof other other_proof numbered in
        let same = apart (of.index + 1) (index + 1) other_proof cites.proof target of.is_found cites.is_proof listed applies cites.applies in
        let P : ℕ → Type 0 = λ i. IsNumber cited other i in
        let own = once other number index (subst P (let e : of.index ≡ index = omega arith in e) of.is_cited) is in
        omega arith);
  }

  spent_written : (kind : Kind) (direction : Direction) (path_number number index : ℕ) → IsNumber cited number index
      → CitesSpent found kind direction path_number (index + 1) → CitesSpent written kind direction path_number number
  spent_written kind direction path_number number index is cites = record {
    proof = cites.proof;
    is_proof = is_written number index cites.proof is cites.is_proof;
    spent = cites.spent;
    is_about = cites.is_about;
    of_path = cites.of_path;
  }

  pub proof_written : (target : Target) → Contains routes target.path → (path_number number index : ℕ) → IsNumber cited number index
      → HasProof routes found path_number target (index + 1) → HasProof routes written path_number target number
  proof_written target listed path_number number index is (refuted cites) =
      refuted (refutation_written target listed number index is cites)
  proof_written target listed path_number number index is (spent none cites) =
      spent (none_written_applies target none)
      (spent_written target.kind target.direction path_number number index is cites)

  -- a proof that is no spent one is the refutation
  module _ (target : Target) (listed : Contains routes target.path) (path_number number index : ℕ) (is : IsNumber cited number index)
      (has : HasProof routes found path_number target (index + 1)) (proof : Proof) (there : slice_get found index ≡ Some proof) where
    same_proof : (own : Proof) → IsNumber found (index + 1) own → proof ≡ own
    same_proof own = number_same found (index + 1) proof own (number_of_place found index proof there)

    pub refutation_cited : proof.spent ≡ false → CitesRefutation routes written target number
    refutation_cited refutes = by has
      where
        by : HasProof routes found path_number target (index + 1) → CitesRefutation routes written target number
        by (refuted cites) = refutation_written target listed number index is cites
        by (spent none cites) =
            absurd (false≢true (sym refutes ∙ ap (λ (p : Proof). p.spent) (same_proof cites.proof cites.is_proof) ∙ cites.spent))

    -- and a spent one shows that none applies
    pub spent_cited : proof.spent ≡ true
        → NoneApplies routes written target × CitesSpent written target.kind target.direction path_number number
    spent_cited spends = by has
      where
        by : HasProof routes found path_number target (index + 1)
            → NoneApplies routes written target × CitesSpent written target.kind target.direction path_number number
        by (refuted cites) =
            absurd (false≢true (sym cites.applies.refutes ∙ sym (ap (λ (p : Proof). p.spent) (same_proof cites.proof cites.is_proof)) ∙ spends))
        by (spent none cites) =
            (none_written_applies target none, spent_written target.kind target.direction path_number number index is cites)
