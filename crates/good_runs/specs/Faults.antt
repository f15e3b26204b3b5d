-- The faults of a run, and which proofs speak of a fault of listed paths (this project's own).
use Rattle.std.specs.Prelude.{◌≡◌, ℕ, ◌-◌, ◌≤◌, true, false, List, map, slice_get, Some}
use Rattle.pd_base.specs.Route.{Route}
use Rattle.pd_base.specs.Target.{Target}
use Rattle.pd_base.specs.declared.fault.Direction.{Direction}
use Rattle.pd_base.specs.declared.fault.Direction.TheVariants.{Rise, Fall}
use Rattle.pd_base.specs.declared.fault.Kind.{Kind}
use Rattle.netlist.specs.Paths.{IsPrefixOf, prefix_of}
use Rattle.runs.specs.declared.run.ListedPath.{ListedPath}
use Rattle.runs.specs.declared.run.Proof.{Proof}
use Rattle.runs.specs.declared.run.Run.{Run}
use Rattle.runs.specs.declared.run.Verdict.{Verdict}

-- the item of this number, from 1
pub record IsNumber {T : Type 0} (items : List T) (number : ℕ) (item : T) : Type 0 where
  pub positive : 1 ≤ number
  pub found : slice_get items (number - 1) ≡ Some item

-- the paths that a run lists
abbrev pub routes_of : Run → List Route
routes_of run = map (λ listed. listed.path) run.paths

-- the verdict of a listed path for a direction
abbrev pub verdict_for : ListedPath → Direction → Verdict
verdict_for listed Rise = listed.rise
verdict_for listed Fall = listed.fall

-- a fault of the run: the listed path of this number, and a direction; and the verdict on it
pub record IsFault (run : Run) (number : ℕ) (listed : ListedPath) (direction : Direction) (verdict : Verdict) : Type 0 where
  pub is_listed : IsNumber run.paths number listed
  pub is_verdict : verdict ≡ verdict_for listed direction

-- a proof speaks of the conditions of a kind of test and of a direction
pub record IsAbout (kind : Kind) (direction : Direction) (proof : Proof) : Type 0 where
  pub of_kind : proof.kind ≡ kind
  pub of_direction : proof.dir ≡ direction

-- a refutation applies to a target: it is of its kind and direction, and its prefix, so many steps of a listed path, is one of the
-- target's path
pub record Applies (routes : List Route) (target : Target) (proof : Proof) : Type 0 where
  pub refutes : proof.spent ≡ false
  pub is_about : IsAbout target.kind target.direction proof
  pub listed : Route
  pub is_listed : IsNumber routes proof.path listed
  pub has_prefix : IsPrefixOf (prefix_of proof.steps listed) target.path

-- no refutation among the proofs applies to the target
abbrev pub NoneApplies : List Route → List Proof → Target → Type 0
NoneApplies routes proofs target = (number : ℕ) (proof : Proof) → IsNumber proofs number proof → ¬ Applies routes target proof

-- the proof of this number is the refutation of the least number that applies to the target
pub record CitesRefutation (routes : List Route) (proofs : List Proof) (target : Target) (number : ℕ) : Type 0 where
  pub proof : Proof
  pub is_proof : IsNumber proofs number proof
  pub applies : Applies routes target proof
  pub least : (other : ℕ) (other_proof : Proof) → IsNumber proofs other other_proof
      → Applies routes target other_proof → number ≤ other

-- the proof of this number shows that the budget was spent on the listed path of this number
pub record CitesSpent (proofs : List Proof) (kind : Kind) (direction : Direction) (path_number number : ℕ) : Type 0 where
  pub proof : Proof
  pub is_proof : IsNumber proofs number proof
  pub spent : proof.spent ≡ true
  pub is_about : IsAbout kind direction proof
  pub of_path : proof.path ≡ path_number

-- the proof that a target, whose path has this number, was given no test: the refutation of the least number that applies; or, where
-- none applies, that the budget was spent on it
pub data HasProof (routes : List Route) (proofs : List Proof) (path_number : ℕ) (target : Target) (number : ℕ) : Type 0 where
  refuted : CitesRefutation routes proofs target number → HasProof routes proofs path_number target number
  spent : NoneApplies routes proofs target → CitesSpent proofs target.kind target.direction path_number number
      → HasProof routes proofs path_number target number
