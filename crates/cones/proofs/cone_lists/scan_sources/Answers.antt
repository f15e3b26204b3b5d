-- The next source is pushed if it has a mark.
use Rattle.std.proofs.Common.{◌+◌, refl, sym, subst, ◌∙◌, arith}
use Rattle.std.proofs.lemmas.Bool.{false≢true}
use Rattle.cones.proofs.ConeScans.{AreScanned, scanned_none, scanned_more, scanned_same}
use Rattle.cones.proofs.cone_lists.scan_sources.Goals as goal
use Rattle.cones.proofs.cone_lists.scan_sources.Goals.{then-marks-source, else-marks-source}

pub loop-source-init : goal.loop-source-init
loop-source-init c = record {
  capacity = refl;
  scanned = subst (AreScanned c.args.marks.now 0) (sym c.clear.ensures.items) (scanned_none c.args.marks.now);
}

pub push_reserved-requires : goal.push_reserved-requires
push_reserved-requires c =
    omega (arith, c.loop-source.list.ok.0, c.loop-source.invariant.scanned.few, c.loop-source.invariant.capacity, c.clear.ensures.capacity, c.requires.room, c.loop-source-test.true)

pub loop-source-preserved : goal.loop-source-preserved
loop-source-preserved c =
    let marks = c.args.marks.now in
    let count = c.loop-source.source in
    let list = c.loop-source.list.items in
    elim c.if-marks-source.branch [
      | then-marks-source w ↦ rw w.list-is (record {
        capacity = w.push_reserved.ensures.capacity ∙ c.loop-source.invariant.capacity;
        scanned = subst (AreScanned marks (count + 1)) (sym w.push_reserved.ensures.items)
            (scanned_more marks count list c.loop-source.invariant.scanned w.if-marks-source.true);
      })
      | else-marks-source w ↦ rw w.list-is (record {
        capacity = c.loop-source.invariant.capacity;
        scanned = scanned_same marks count list c.loop-source.invariant.scanned (λ yes. false≢true (sym w.if-marks-source.false ∙ yes));
      })
    ]

pub returns : goal.returns
returns c =
    let all = subst (λ n. AreScanned c.args.marks.now n c.loop-source.list.items) (omega (arith, c.loop-source.auto.source-end, c.loop-source-test.false))
    c.loop-source.invariant.scanned in
    record {
      capacity = c.loop-source.invariant.capacity ∙ c.clear.ensures.capacity;
      rising = all.rising;
      exactly = all.exactly;
    }
