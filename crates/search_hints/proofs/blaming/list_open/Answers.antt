-- A line that is such a source is listed.
use Rattle.std.proofs.Common.{◌<◌, get_or, ◌∙◌, arith}
use Rattle.std.specs.List.{Contains}
use Rattle.std.proofs.lemmas.List.{length_push}
use Rattle.std.proofs.lemmas.List.Elements.{All-push, Contains-get_or}
use Rattle.pd_base.specs.declared.ids.LineId.{LineId}
use Rattle.cones.proofs.Spreading.{no_line}
use Rattle.search_hints.proofs.blaming.list_open.Goals as goal
use Rattle.search_hints.proofs.blaming.list_open.Goals.{then-is_open, else-is_open}

pub loop-line-preserved : goal.loop-line-preserved
loop-line-preserved c =
    let lines = c.args.lines.now in
    let line : LineId = get_or lines c.loop-line.line-index no_line in
    let list = c.loop-line.list.items in
    let before = c.loop-line.invariant in
    elim c.if-is_open.branch [
      | then-is_open w ↦ rw (w.list-is, w.push_reserved.ensures.items) (record {
        capacity = w.push_reserved.ensures.capacity ∙ before.capacity;
        few = omega (arith, length_push list line, before.few);
        are_sources = All-push (λ (l : LineId). l.0 < c.args.sources) list line before.are_sources (c.is_open.ensures w.if-is_open.true);
        among = All-push (Contains lines) list line before.among (Contains-get_or lines c.loop-line.line-index no_line c.loop-line-test.true);
      })
      | else-is_open w ↦ rw w.list-is (record {
        capacity = before.capacity;
        few = omega (arith, before.few);
        are_sources = before.are_sources;
        among = before.among;
      })
    ]
