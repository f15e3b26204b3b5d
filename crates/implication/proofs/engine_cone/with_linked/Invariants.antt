-- The lines given, and those to which the first links go.
use Rattle.std.proofs.Common.{◌≡◌, ◌++◌, map, take}
use Rattle.pd_base.specs.declared.ids.LineId.{LineId}
use Rattle.implication.proofs.engine_cone.with_linked.Given as goal

abbrev pub invariant-loop-link : goal.invariant-loop-link
invariant-loop-link l = l.lines.items ≡ l.ends ++ map (λ (link : LineId × LineId). link.1) (take l.link-index l.links)
