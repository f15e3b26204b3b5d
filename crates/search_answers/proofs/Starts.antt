-- A scope that began at the source of a path and has entered its pins.
use Rattle.std.proofs.Common.{◌≡◌, ◌++◌, List, map, None, Some, sym, ap, subst, ◌∙◌}
use Rattle.pd_base.specs.declared.ids.LineId.{LineId}
use Rattle.pd_base.specs.declared.fault.Direction.{Direction}
use Rattle.pd_base.specs.declared.fault.Kind.{Kind}
use Rattle.pd_base.specs.Route.{Route}
use Rattle.pd_base.specs.Target.{target_of}
use Rattle.netlist.specs.Circuit.{Circuit}
use Rattle.netlist.specs.Paths.{IsPath, IsPrefix}
use Rattle.implication.specs.declared.assumption.Assumption.{Assumption}
use Rattle.implication.specs.declared.assumption.Assumption.TheVariants.{Entered}
use Rattle.implication.specs.Moves.{grown, HasBegun}
use Rattle.implication.specs.Standing.{Standing}
use Rattle.justify.specs.Scoping.{IsStart}

-- it stands at the start of a search
pub at_start : (old begun now : Standing) (source : LineId) (path : Route) (direction : Direction) (kind : Kind)
    → HasBegun (record { source = source; direction = direction; kind = kind }) old begun → source ≡ path.source
    → begun.conflict ≡ None → now ≡ grown begun (begun.assumptions ++ map Entered path.steps) → IsStart (target_of path direction kind) now
at_start old begun now source path direction kind has same free entered = record {
  beginning =
      ap (λ (s : Standing). s.beginning) entered
      ∙ has.beginning
      ∙ (λ i. Some (record { source = same i; direction = direction; kind = kind }));
  entered =
      ap (λ (s : Standing). s.assumptions) entered
      ∙ ap (λ (list : List Assumption). list ++ map Entered path.steps) has.nothing;
  free = ap (λ (s : Standing). s.conflict) entered ∙ free;
}

-- the path is one of its circuit
pub at_path : (old begun now : Standing) (source : LineId) (path : Route) (direction : Direction) (kind : Kind)
    → HasBegun (record { source = source; direction = direction; kind = kind }) old begun
    → now ≡ grown begun (begun.assumptions ++ map Entered path.steps) → IsPath old.net path → IsPrefix now.net path
at_path old begun now source path direction kind has entered is =
    let P : Circuit → Type 0 = λ c. IsPrefix c path in
    subst P (sym (ap (λ (s : Standing). s.net) entered ∙ has.net)) is.prefix
