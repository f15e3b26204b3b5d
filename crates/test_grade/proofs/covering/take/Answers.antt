-- Neither list changes its length.
use Rattle.std.proofs.Common.{◌≡◌, ◌+◌, ◌*◌, ◌/◌, ◌<◌, true, length, set, length-set, sym, subst, ◌∙◌, arith}
use Rattle.test_grade.specs.Compact.{HasWords}
use Rattle.test_grade.proofs.covering.take.Goals as goal

pub serves-requires : goal.serves-requires
serves-requires c =
    subst (λ faults. c.args.test / 64 * faults + c.loop-fault.fault < length c.args.words.now) (sym c.loop-fault.auto.covered)
    (c.requires.words c.args.test c.loop-fault.fault c.requires.test (omega arith))

pub lose-requires-clause-words : goal.lose-requires-clause-words
lose-requires-clause-words c =
    let words = c.args.words.now in
    let marked = set c.loop-fault.covered c.loop-fault.fault true in
    let covered : length marked ≡ length c.args.covered.now =
    length-set c.loop-fault.covered c.loop-fault.fault true ∙ c.loop-fault.auto.covered in
    subst (λ t. HasWords words t (length marked)) (sym c.loop-fault.auto.gains)
    (subst (HasWords words (length c.args.gains.now)) (sym covered) c.requires.words)
