-- The places of the pins are the first ones.
use Rattle.std.proofs.Common.{◌≤◌, List, length, drop, sym, subst, arith}
use Rattle.std.proofs.lemmas.List.{get_or_append_left, length-take-le}
use Rattle.state_sets.specs.declared.state.StateSet.{StateSet}
use Rattle.state_sets.specs.States.{no_states}
use Rattle.state_sets.specs.Narrowing.{GivesAtPin}
use Rattle.hulls.specs.Sets.{Means}
use Rattle.hulls.specs.GateViews.{sets_seen}
use Rattle.hulls.proofs.collecting.write_kept_at_all.Goals as goal

pub returns-clause-at_pins : goal.returns-clause-at_pins
returns-clause-at_pins g c =
    let a = g.A.Algebra.algebra in let pins = c.args.gate.now.pins.now in
    let left = c.collect_kept.new.kept in let behind : List StateSet = drop (length pins) c.args.kept.now in
    let few = c.requires.few in let places = c.requires.kept in
    let room : length pins ≤ length c.args.kept.now = omega arith in
    let taken = length-take-le (length pins) c.args.kept.now room in
    λ pin inside. subst (λ (s : StateSet). Means a.count s (GivesAtPin a (sets_seen c.args.gate.now) c.args.condition pin))
    (sym (get_or_append_left left behind no_states pin (omega arith))) (c.collect_kept.ensures.at_pins pin inside)
