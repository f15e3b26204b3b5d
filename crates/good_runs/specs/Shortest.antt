-- Refutations that stand as near to the source as they can (this project's own).
use Rattle.std.specs.Prelude.{◌≡◌, ℕ, ◌<◌, false, List, [], ◌∷◌, All}
use Rattle.pd_base.specs.Route.{Route}
use Rattle.pd_base.specs.Target.{Target, target_of}
use Rattle.pd_base.specs.declared.rules.Rules.{Rules}
use Rattle.netlist.specs.Circuit.{Circuit}
use Rattle.netlist.specs.Paths.{prefix_of}
use Rattle.runs.specs.declared.run.Proof.{Proof}
use Rattle.runs.specs.declared.run.Run.{Run}
use Rattle.trees.specs.declared.tree.Node.TheVariants.{Closed}
use Rattle.state_laws.specs.Nodes.{ClosesAtNode}
use Rattle.trees.specs.Algebras.{algebra_of}
use Rattle.good_runs.specs.Faults.{IsNumber, routes_of}

-- the conditions at the steps leave some line no state, with no case split
abbrev pub ClosesAtStart : Circuit → Rules → Target → Type 0
ClosesAtStart c rules target = ClosesAtNode (algebra_of rules) c rules target []

-- the target of a proof, cut to so many steps of the listed path that it names
abbrev pub target_within : Proof → Route → ℕ → Target
target_within proof listed steps = target_of (prefix_of steps listed) proof.dir proof.kind

-- Where the start of its prefix closes, the refutation is one closed leaf, and the start of no shorter prefix closes.
abbrev pub IsShortest : Circuit → Rules → List Route → Proof → Type 0
IsShortest c rules routes proof =
    (listed : Route) → IsNumber routes proof.path listed → ClosesAtStart c rules (target_within proof listed proof.steps)
    → (proof.tree ≡ Closed ∷ []) × ((fewer : ℕ) → fewer < proof.steps → ¬ ClosesAtStart c rules (target_within proof listed fewer))

-- so does each refutation of a run
abbrev pub IsShortestRun : Circuit → Run → Type 0
IsShortestRun c run = All (λ proof. proof.spent ≡ false → IsShortest c run.rules (routes_of run) proof) run.proofs
