-- What the next line reads is behind the first lines too, if the search goes on there.
use Rattle.std.proofs.Common.{◌<◌, List, get_or, length, sym, ap, subst, ◌∙◌, arith}
use Rattle.std.proofs.lemmas.Grind.{common_steps}
use Rattle.std.proofs.lemmas.List.{get_or_default}
use Rattle.pd_base.specs.declared.ids.LineId.{LineId}
use Rattle.cones.proofs.Spreading.{no_line}
use Rattle.search_hints.proofs.Behind.{behind_more}
use Rattle.search_hints.proofs.blaming.spread.Goals as goal
use Rattle.search_hints.proofs.blaming.spread.Goals.{then-leads_on, else-leads_on}

pub loop-place-preserved : goal.loop-place-preserved
loop-place-preserved c =
    let place = c.loop-place.place in
    let shown = c.lines-in-loop-place.ensures.lines in
    let read = c.lines-in-loop-place.result.now in
    let line : LineId = get_or read place no_line in
    let before = c.loop-place.invariant in
    let few = c.lines.ensures.few in
    let inside : place < length c.loop-place.found.lines = omega (arith, ap length c.lines.ensures.lines, c.loop-place-test.true) in
    let at = ap (λ (ls : List LineId). get_or ls place line) (sym shown)
    ∙ get_or_default read place line no_line (subst (λ (ls : List LineId). place < length ls) (sym shown) inside) in
    elim c.if-leads_on.branch [
      | then-leads_on w ↦ rw w.found-is (record {
        room = w.find_reads.ensures.room ∙ before.room;
        within = omega (arith, w.find_reads.ensures.room, few, c.loop-place-test.true);
        behind = behind_more c.args.net.now c.args.found.now.lines c.sources.ensures.circuit line place c.loop-place.found
            w.find_reads.new.found inside at w.find_reads.ensures before.behind;
      })
      | else-leads_on w ↦ rw w.found-is (record {
        room = before.room;
        within = omega (arith, few, c.loop-place-test.true);
        behind = before.behind;
      })
    ]

pub loop-place-init : goal.loop-place-init
loop-place-init c = grind (arith, common_steps)

pub find_reads-requires-clause-room : goal.find_reads-requires-clause-room
find_reads-requires-clause-room c = grind (arith, common_steps)
