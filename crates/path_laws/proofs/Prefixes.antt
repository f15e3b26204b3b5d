-- The prefixes of a path: they connect where the path does, and a pair meets a kind's conditions on them where it does on the
-- path.
use Rattle.std.proofs.Common.{◌≡◌, ℕ, ◌<◌, List, [], ◌∷◌, ◌++◌, length, take, drop, refl, sym, ap, subst, subst₂, ◌∙◌, append-nil}
use Rattle.std.proofs.Math.Seq.{take-append_seam}
use Rattle.std.proofs.lemmas.List.{take-append-drop}
use Rattle.pd_base.specs.declared.ids.LineId.{LineId}
use Rattle.pd_base.specs.declared.ids.PinRef.{PinRef}
use Rattle.pd_base.specs.declared.fault.Direction.{Direction}
use Rattle.pd_base.specs.declared.fault.Kind.{Kind}
use Rattle.pd_base.specs.Pair.{Vectors}
use Rattle.pd_base.specs.Route.{Route}
use Rattle.pd_base.specs.Target.{target_of}
use Rattle.netlist.specs.Circuit.{Circuit, source_count, gate_line}
use Rattle.netlist.specs.Paths.{Connects, IsPrefix, IsPrefixOf, prefix_of}
use Rattle.netlist.specs.Conditions.{Launches, SidesMeet, Meets}

-- a path is a prefix of itself
pub own_prefix : (path : Route) → IsPrefixOf path path
own_prefix path = record { source = refl; rest = []; steps = append-nil path.steps }

-- the prefix of so many steps is one
pub prefix_of-is_prefix : (count : ℕ) (path : Route) → IsPrefixOf (prefix_of count path) path
prefix_of-is_prefix count path = record {
  source = refl;
  rest = drop count path.steps;
  steps = take-append-drop count path.steps;
}

-- and each prefix is that of its steps
pub is_prefix_of : (prefix path : Route) → IsPrefixOf prefix path → prefix ≡ prefix_of (length prefix.steps) path
is_prefix_of prefix path of =
    let steps = sym (take-append_seam prefix.steps of.rest) ∙ ap (take (length prefix.steps)) of.steps in
    λ i. record { source = of.source i; steps = steps i }

-- of steps that connect the first ones do
connects_front : (c : Circuit) (line : ℕ) (steps rest : List PinRef) → Connects c line (steps ++ rest)
    → Connects c line steps
connects_front c line [] rest connects = tt
connects_front c line (step ∷ steps) rest connects =
    (connects.0, connects_front c (gate_line c step.gate.0) steps rest connects.1)

-- sides of all steps that meet the conditions meet them at the first ones
sides_front : (kind : Kind) (c : Circuit) (pair : Vectors) (line : ℕ) (steps rest : List PinRef)
    → SidesMeet c kind pair line (steps ++ rest) → SidesMeet c kind pair line steps
sides_front kind c pair line [] rest meet = tt
sides_front kind c pair line (step ∷ steps) rest meet =
    (meet.0, sides_front kind c pair (gate_line c step.gate.0) steps rest meet.1)

module _ (c : Circuit) (prefix path : Route) (of : IsPrefixOf prefix path) where
  -- what holds of the source and the steps of a path holds of those of a prefix and the rest
  at_prefix : (P : ℕ → List PinRef → Type 0) → P path.source.0 path.steps
      → P prefix.source.0 (prefix.steps ++ of.rest)
  at_prefix P is = subst₂ P (ap (λ (source : LineId). source.0) (sym of.source)) (sym of.steps) is

  -- a route with the prefix of a path connects
  pub prefix_is_prefix : IsPrefix c path → IsPrefix c prefix
  prefix_is_prefix is = record {
    source = subst (λ (source : LineId). source.0 < source_count c) (sym of.source) is.source;
    connects = connects_front c prefix.source.0 prefix.steps of.rest (at_prefix (Connects c) is.connects);
  }

  -- the conditions of both kinds hold for each prefix
  pub prefix_meets : (kind : Kind) (direction : Direction) (pair : Vectors) → Meets c (target_of path direction kind) pair
      → Meets c (target_of prefix direction kind) pair
  prefix_meets kind direction pair meets = record {
    launches = subst (λ (source : LineId). Launches pair direction source.0) (sym of.source) meets.launches;
    sides = sides_front kind c pair prefix.source.0 prefix.steps of.rest (at_prefix (SidesMeet c kind pair) meets.sides);
  }
