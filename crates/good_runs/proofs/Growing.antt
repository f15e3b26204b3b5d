-- What a fault was told of its proof stays as more proofs are found that do not apply to it.
use Rattle.std.proofs.Common.{⊎_elim, ℕ, List, ◌++◌}
use Rattle.pd_base.specs.Route.{Route}
use Rattle.pd_base.specs.Target.{Target}
use Rattle.pd_base.specs.declared.fault.Direction.{Direction}
use Rattle.pd_base.specs.declared.fault.Kind.{Kind}
use Rattle.runs.specs.declared.run.Proof.{Proof}
use Rattle.good_runs.specs.Faults.{CitesRefutation, CitesSpent, HasProof, NoneApplies}
use Rattle.good_runs.specs.Faults.HasProof.{refuted, spent}
use Rattle.good_runs.proofs.Numbers.{number_kept, number_of_append}

-- a spent proof keeps its number
pub spent_kept : (old more : List Proof) (kind : Kind) (direction : Direction) (path_number number : ℕ)
    → CitesSpent old kind direction path_number number → CitesSpent (old ++ more) kind direction path_number number
spent_kept old more kind direction path_number number cites = record {
  proof = cites.proof;
  is_proof = number_kept old more number cites.proof cites.is_proof;
  spent = cites.spent;
  is_about = cites.is_about;
  of_path = cites.of_path;
}

module _ (routes : List Route) (old more : List Proof) (target : Target) (none_more : NoneApplies routes more target) where
  -- no refutation applies to the target, where none did
  pub none_applies_kept : NoneApplies routes old target → NoneApplies routes (old ++ more) target
  none_applies_kept none number proof is applies =
      ⊎_elim (λ before. none number proof before applies) (λ behind. none_more behind.0 proof behind.2 applies)
      (number_of_append old more number proof is)

  -- the refutation of the least number is the same
  pub refutation_kept : (number : ℕ) → CitesRefutation routes old target number → CitesRefutation routes (old ++ more) target number
  refutation_kept number cites = record {
    proof = cites.proof;
    is_proof = number_kept old more number cites.proof cites.is_proof;
    applies = cites.applies;
    least = λ other other_proof is applies.
        ⊎_elim (λ before. cites.least other other_proof before applies)
        (λ behind. absurd (none_more behind.0 other_proof behind.2 applies))
        (number_of_append old more other other_proof is);
  }

  -- and so is the proof
  pub proof_kept : (path_number number : ℕ) → HasProof routes old path_number target number
      → HasProof routes (old ++ more) path_number target number
  proof_kept path_number number (refuted cites) = refuted (refutation_kept number cites)
  proof_kept path_number number (spent none cites) =
      spent (none_applies_kept none) (spent_kept old more target.kind target.direction path_number number cites)
