use Rattle.std.proofs.Common.{◌≡◌}
use Rattle.std.specs.Prelude.{vec_capacity}
use Rattle.cones.proofs.ConeScans.{AreScanned}
use Rattle.cones.proofs.cone_lists.scan_sources.Given as goal

-- the sources before this one that have marks
abbrev pub invariant-loop-source : goal.invariant-loop-source
invariant-loop-source l = record {
  capacity : vec_capacity l.list ≡ vec_capacity l.initial.list;
  scanned : AreScanned l.marks l.source l.list.items;
}
