-- What a fault cites, by the refutation of the least number that applies to it.
use Rattle.std.proofs.Common.{◌≡◌, ℕ, true, eqb-true, eq-eqb, List, sym, ap, subst, arith}
use Rattle.std.specs.Prelude.{nat_eq, Option, Some, None}
use Rattle.pd_base.specs.Route.{Route}
use Rattle.pd_base.specs.Target.{Target}
use Rattle.runs.specs.declared.run.Proof.{Proof}
use Rattle.good_runs.specs.Faults.{CitesRefutation, HasProof}
use Rattle.good_runs.specs.Faults.HasProof.{refuted, spent}
use Rattle.claim_check.specs.Prefixes.{IsLeastRefutation}

module _ (routes : List Route) (proofs : List Proof) (target : Target) where
  -- one number is the least
  cites_once : (number other : ℕ) → CitesRefutation routes proofs target number → CitesRefutation routes proofs target other → number ≡ other
  cites_once number other one two =
      let low = one.least other two.proof two.is_proof two.applies in
      let high = two.least number one.proof one.is_proof one.applies in
      omega arith

  -- a refutation is cited exactly by the least number that was found
  pub cited_by_least : (found : Option ℕ) → IsLeastRefutation routes proofs target found → (proof : ℕ)
      → (found ≡ Some proof → CitesRefutation routes proofs target proof) × (CitesRefutation routes proofs target proof → found ≡ Some proof)
  cited_by_least None none proof = (
    λ (same : None ≡ Some proof). let impossible : ⊥ = cc in absurd impossible,
    λ cites. absurd (none proof cites.proof cites.is_proof cites.applies),
  )
  cited_by_least (Some least) its proof = (
    λ (same : Some least ≡ Some proof). let one : least ≡ proof = cc in subst (CitesRefutation routes proofs target) one its,
    λ cites. ap Some (cites_once least proof its cites),
  )

  -- where one applies, a fault has no other proof
  pub robust_by_least : (path_number least : ℕ) (found : Option ℕ) → found ≡ Some least → IsLeastRefutation routes proofs target found
      → (proof : ℕ) → (nat_eq proof least ≡ true → HasProof routes proofs path_number target proof)
      × (HasProof routes proofs path_number target proof → nat_eq proof least ≡ true)
  robust_by_least path_number least found is least_is proof =
      let P : Option ℕ → Type 0 = λ its. IsLeastRefutation routes proofs target its in
      let cites : CitesRefutation routes proofs target least = subst P is least_is in (
        λ same. refuted (subst (CitesRefutation routes proofs target) (sym (eqb-true proof least same)) cites),
        λ has. by cites has,
      )
    where
      by : CitesRefutation routes proofs target least → HasProof routes proofs path_number target proof → nat_eq proof least ≡ true
      by cites (refuted its) = eq-eqb proof least (cites_once proof least its cites)
      by cites (spent none its) = absurd (none least cites.proof cites.is_proof cites.applies)
