-- Each turn finds what one line more reads.
use Rattle.std.proofs.Common.{◌<◌, List, length, get_or, refl, sym, subst, ap, ◌∙◌, arith}
use Rattle.std.proofs.lemmas.List.{get_or_default}
use Rattle.pd_base.specs.declared.ids.LineId.{LineId}
use Rattle.cones.specs.FoundLines.{FoundSet}
use Rattle.cones.proofs.Spreading.{no_line, begun, next, whole, in_circuit}
use Rattle.cones.proofs.back_search.find_back.Goals as goal

pub loop-place-init : goal.loop-place-init
loop-place-init c = record {
  room = refl;
  within = omega arith;
  spread = begun c.args.net.now c.args.links.now c.args.ends.now c.clear.new.self c.add_all.new.self
      (ap (λ (f : FoundSet). f.lines) c.clear.ensures) c.add_all.ensures;
}

pub find_behind-requires-clause-line : goal.find_behind-requires-clause-line
find_behind-requires-clause-line c =
    let shown = c.lines-in-loop-place.ensures.lines in
    in_circuit c.args.net.now c.args.links.now c.args.ends.now c.lines.ensures.circuit c.requires.links c.requires.ends c.loop-place.found.lines c.lines-in-loop-place-2.result.now
    c.lines-in-loop-place-2.ensures.lines c.loop-place.place c.loop-place.invariant.spread
    (omega (arith, ap length shown, c.loop-place-test.true))

pub find_behind-requires-clause-room : goal.find_behind-requires-clause-room
find_behind-requires-clause-room c =
    c.loop-place.invariant.room ∙ c.add_all.ensures.room ∙ ap (λ (f : FoundSet). f.room) c.clear.ensures ∙ c.requires.room

pub loop-place-preserved : goal.loop-place-preserved
loop-place-preserved c =
    let place = c.loop-place.place in
    let shown = c.lines-in-loop-place-2.ensures.lines in
    let read = c.lines-in-loop-place-2.result.now in
    let line : LineId = get_or read place no_line in
    let inside : place < length c.loop-place.found.lines = omega (arith, ap length c.lines-in-loop-place.ensures.lines, c.loop-place-test.true) in
    record {
      room = c.find_behind.ensures.room ∙ c.loop-place.invariant.room;
      within = omega (arith, c.find_behind.ensures.room, c.lines-in-loop-place.ensures.few, c.loop-place-test.true);
      spread = next c.args.net.now c.args.links.now c.args.ends.now line place c.loop-place.found c.find_behind.new.found inside
          (ap (λ (ls : List LineId). get_or ls place line) (sym shown)
          ∙ get_or_default read place line no_line (subst (λ (ls : List LineId). place < length ls) (sym shown) inside))
          (in_circuit c.args.net.now c.args.links.now c.args.ends.now c.lines.ensures.circuit c.requires.links c.requires.ends c.loop-place.found.lines read
          shown place c.loop-place.invariant.spread inside)
          c.find_behind.ensures c.loop-place.invariant.spread;
    }

pub loop-place-smaller : goal.loop-place-smaller
loop-place-smaller c =
    omega (arith, c.find_behind.ensures.room, c.lines-in-loop-place.ensures.few, c.loop-place-test.true)

pub returns-clause-exactly : goal.returns-clause-exactly
returns-clause-exactly c = λ line. (
  c.loop-place.invariant.spread.sound line,
  whole c.args.net.now c.args.links.now c.args.ends.now c.loop-place.found.lines c.loop-place.place
      (omega (arith, ap length c.lines-in-loop-place.ensures.lines, c.loop-place-test.false)) c.loop-place.invariant.spread line,
)
