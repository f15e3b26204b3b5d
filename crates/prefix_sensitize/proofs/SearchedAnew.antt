-- A search that begins anew at the source of a path whose pins were entered: the start of no prefix closes, so that they can be entered
-- again.
use Rattle.std.proofs.Common.{◌≡◌, ℕ, ◌≤◌, List, length, refl, sym, ap, subst, subst₂, ◌∙◌, arith}
use Rattle.pd_base.specs.Target.{Target}
use Rattle.pd_base.specs.declared.ids.PinRef.{PinRef}
use Rattle.pd_base.specs.declared.rules.Rules.{Rules}
use Rattle.pd_base.specs.Route.{Route}
use Rattle.netlist.specs.Circuit.{Circuit}
use Rattle.netlist.specs.Paths.{IsPath, end_of, line_after}
use Rattle.state_sets.specs.StateAlgebra.{StateAlgebra}
use Rattle.trees.specs.Algebras.{algebra_of}
use Rattle.implication.specs.Assumptions.{entered_pins}
use Rattle.implication.specs.Clients.{IsRestored}
use Rattle.implication.specs.Standing.{Standing, end_from, end_of_scope}
use Rattle.implication.proofs.Entered.{pins_of_entered}
use Rattle.justify.specs.Scoping.{IsStart}
use Rattle.prefix_sensitize.specs.declared.outcome.Aim.{Aim}
use Rattle.prefix_sensitize.specs.AlongPaths.{IsAtPin}
use Rattle.prefix_sensitize.specs.Anew.{CanBeEntered}
use Rattle.prefix_sensitize.specs.Entering.{HasGone, IsSameBeginning}
use Rattle.prefix_sensitize.proofs.AlongPaths.{open_at}

-- where a search can start the scope's last line is the path's end
pub last_at_start : (target : Target) (standing : Standing) → IsStart target standing → end_of_scope standing ≡ end_of standing.net target.path
last_at_start target standing start =
    ap (λ o. end_from standing.net o standing.assumptions) start.beginning
    ∙ ap (λ (steps : List PinRef). line_after standing.net target.path.source.0 steps)
    (ap entered_pins start.entered ∙ pins_of_entered target.path.steps)

-- and so it is after a search
pub start_again : (target : Target) (first last : Standing) → IsRestored first last → IsStart target first → IsStart target last
start_again target first last restored start = record {
  beginning = restored.beginning ∙ start.beginning;
  entered = restored.assumptions ∙ start.entered;
  free = restored.conflict ∙ start.free;
}

-- a path whose pins are all entered can be entered again
pub entered_again : (a : StateAlgebra) (old last : Standing) (path : Route) (aim : Aim) (pins left : List PinRef) → HasGone old path aim pins
    → a ≡ algebra_of old.rules → IsPath old.net path → IsSameBeginning old last → (kept : ℕ) → IsAtPin a last left path kept
    → length path.steps ≤ kept → CanBeEntered last.net last.rules aim path
entered_again a old last path aim pins left gone of_rules is same kept at all = record {
  is_path = let P : Circuit → Type 0 = λ c. IsPath c path in subst P (sym same.net) is;
  left_open = λ steps few.
      open_at a last left path kept steps (record { source = path.source; direction = aim.direction; kind = aim.kind })
      (same.beginning ∙ gone.beginning) refl (of_rules ∙ ap algebra_of (sym same.rules)) at (omega (arith, few, all));
}

-- and under the same rules
pub entered_there : (c d : Circuit) (r s : Rules) (aim : Aim) (path : Route) → c ≡ d → r ≡ s → CanBeEntered c r aim path
    → CanBeEntered d s aim path
entered_there c d r s aim path same_net same_rules can =
    let P : Circuit → Rules → Type 0 = λ n rules. CanBeEntered n rules aim path in subst₂ P same_net same_rules can
