-- All kept sets are known from the labels as they are, and then the lines are cut.
use Rattle.std.proofs.Common.{◌+◌, refl, ap, arith}
use Rattle.std.proofs.lemmas.Grind.{common_steps}
use Rattle.hulls.proofs.Cuts.{lessened_within, lessens_on}
use Rattle.hulls.proofs.Whole.{narrowed_as}
use Rattle.hulls.proofs.gate.narrow_sets.Goals as goal

pub returns-clause-narrowed : goal.returns-clause-narrowed
returns-clause-narrowed g c =
    narrowed_as g.A.Algebra.algebra c.args.net.now c.args.gate.0 c.args.condition c.args.labels.now
    c.cut_pins-changed.new.labels c.scratch.inside.kept c.cut_line-own_changed.new.labels c.kept_at-given.result
    c.pins-pins.result.now (c.sources.result + c.args.gate.0) c.pins-pins.ensures.pins
    (ap (λ n. n + c.args.gate.0) c.sources.ensures.count)
    c.cut_pins-changed.ensures.lessens.one_each
    (let e = c.sources.ensures.count in let f = c.requires.lines in let h = c.requires.gate in omega arith)
    (rw c.scratch.view_is c.kept_at-given.ensures.at_pins) c.kept_at-given.ensures.at_gate
    (c.cut_pins-changed.ensures.kept g.A.Algebra.algebra.count) c.cut_line-own_changed.ensures.labels

pub returns-clause-within : goal.returns-clause-within
returns-clause-within g c =
    lessened_within g.A.Algebra.algebra.count c.args.labels.now c.cut_line-own_changed.new.labels _
    (lessens_on c.args.labels.now c.cut_pins-changed.new.labels c.cut_line-own_changed.new.labels
    c.cut_pins-changed.result c.cut_line-own_changed.result _ refl
    c.cut_pins-changed.ensures.lessens c.cut_line-own_changed.ensures.lessens)

pub kept_at-given-requires-clause-lines : goal.kept_at-given-requires-clause-lines
kept_at-given-requires-clause-lines g c = grind (arith, common_steps)

pub kept_at-given-requires-clause-pin : goal.kept_at-given-requires-clause-pin
kept_at-given-requires-clause-pin g c = grind (arith, common_steps)
