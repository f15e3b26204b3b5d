-- The links of the first ones whose sources are marked.
use Rattle.std.proofs.Common.{◌≡◌, take}
use Rattle.std.specs.List.{filter}
use Rattle.pd_base.specs.declared.ids.LineId.{LineId}
use Rattle.hulls.specs.Awaiting.{is_inside}
use Rattle.implication.proofs.engine_cone.marked_links.Given as goal

abbrev pub invariant-loop-link : goal.invariant-loop-link
invariant-loop-link l = l.inner.items ≡ filter (λ (link : LineId × LineId). is_inside l.marks link.0.0) (take l.link-index l.links)
