-- The last line of one path more is listed.
use Rattle.std.proofs.Common.{◌<◌, ◌∷◌, ◌++◌, [], List, ap, sym, subst, take, ◌∙◌}
use Rattle.std.specs.List.{All}
use Rattle.std.proofs.lemmas.List.{map_more, take_all}
use Rattle.std.proofs.lemmas.List.Elements.{All-push}
use Rattle.pd_base.specs.declared.ids.LineId.{LineId}
use Rattle.pd_base.specs.Route.{Route}
use Rattle.netlist.specs.Circuit.{line_count}
use Rattle.netlist.specs.Paths.{end_of}
use Rattle.pair_judging.specs.PathEnds.{ends_of}
use Rattle.pair_judging.proofs.path_ends.ends_of.Goals as goal

pub loop-path-preserved : goal.loop-path-preserved
loop-path-preserved c =
    let net = c.args.net.now in
    let paths = c.args.paths.now in
    let path = c.path-item.result in
    let last : Route → LineId = λ route. record { 0 = end_of net route } in
    let InCircuit : LineId → Type 0 = λ end. end.0 < line_count net in
    record {
      ends = c.in_ok-push.ensures.items
          ∙ ap (λ (ends : List LineId). ends ++ c.end_of.result ∷ []) c.loop-path.invariant.ends
          ∙ ap (λ (end : LineId). ends_of net (take c.loop-path.path-index paths) ++ end ∷ []) (c.end_of.ensures.end ∙ ap last c.path-item.is)
          ∙ sym (map_more last paths c.loop-path.path-index path c.loop-path-test.true);
      lines = subst (All InCircuit) (sym c.in_ok-push.ensures.items)
          (All-push InCircuit c.loop-path.ends.items c.end_of.result c.loop-path.invariant.lines c.end_of.ensures.line);
    }

pub returns-clause-ends : goal.returns-clause-ends
returns-clause-ends c =
    c.loop-path.invariant.ends ∙ ap (ends_of c.args.net.now) (take_all c.loop-path.path-index c.args.paths.now c.loop-path-test.false)
