-- Each arc of the node gets the first walk of its end.
use Rattle.std.proofs.Common.{◌≡◌, ◌+◌, ◌<◌, ◌^◌, ℕ, sym, subst, ap, ◌∙◌, arith}
use Rattle.path_laws.specs.Graph.{IsArcOf, arc_end}
use Rattle.path_laws.specs.Lists.{Lists, IsReady, key_at, last_place, with_head}
use Rattle.path_laws.specs.Growth.{IsBegun}
use Rattle.path_laws.proofs.Arcs.{arc_in_graph}
use Rattle.path_laws.proofs.FirstTurns.{head_fits, ready_up_to, still_begun}
use Rattle.path_lister.proofs.lists.NodeLists.set_heads.Goals as goal

pub end-requires : goal.end-requires
end-requires c =
    let own : IsArcOf c.args.graph.now c.args.node c.loop-arc.arc = record {
      in_graph = c.requires.node;
      from = omega (arith, c.first-arc.ensures);
      below = omega (arith, c.first-arc-end.ensures);
    } in
    arc_in_graph c.args.graph.now c.requires.graph c.args.node c.loop-arc.arc own

pub set_head-requires-clause-arc : goal.set_head-requires-clause-arc
set_head-requires-clause-arc c =
    let own : IsArcOf c.args.graph.now c.args.node c.loop-arc.arc = record {
      in_graph = c.requires.node;
      from = omega (arith, c.first-arc.ensures);
      below = omega (arith, c.first-arc-end.ensures);
    } in
    arc_in_graph c.args.graph.now c.requires.graph c.args.node c.loop-arc.arc own

pub set_head-requires-clause-fits : goal.set_head-requires-clause-fits
set_head-requires-clause-fits c =
    let g = c.args.graph.now in
    let st = c.loop-arc.self in
    let arc = c.loop-arc.arc in
    let own : IsArcOf g c.args.node arc = record {
      in_graph = c.requires.node;
      from = omega (arith, c.first-arc.ensures);
      below = omega (arith, c.first-arc-end.ensures);
    } in
    let head : c.last-head.result ≡ last_place st (arc_end g arc) = c.last-head.ensures ∙ ap (last_place st) c.end.ensures in
    subst (λ (h : ℕ). key_at g st.entries arc h < 2 ^ 32) (sym head)
    (head_fits g c.requires.graph st c.args.node arc c.loop-arc.invariant.begun own c.requires.short)

pub loop-arc-preserved : goal.loop-arc-preserved
loop-arc-preserved c =
    let g = c.args.graph.now in
    let st = c.loop-arc.self in
    let arc = c.loop-arc.arc in
    let own : IsArcOf g c.args.node arc = record {
      in_graph = c.requires.node;
      from = omega (arith, c.first-arc.ensures);
      below = omega (arith, c.first-arc-end.ensures);
    } in
    let head : c.last-head.result ≡ last_place st (arc_end g arc) = c.last-head.ensures ∙ ap (last_place st) c.end.ensures in
    let new : c.set_head.new.self ≡ with_head g st arc (last_place st (arc_end g arc)) =
    c.set_head.ensures ∙ ap (with_head g st arc) head in record {
      begun =
          subst (λ (s : Lists). IsBegun g s (c.args.node + 1)) (sym new)
          (still_begun g c.requires.graph st c.args.node arc c.loop-arc.invariant.begun own);
      ready =
          subst (λ (s : Lists). (other : ℕ) → IsArcOf g c.args.node other → other < arc + 1 → IsReady g s c.args.node other)
          (sym new)
          (ready_up_to g c.requires.graph st c.args.node arc c.loop-arc.invariant.begun own c.loop-arc.invariant.ready);
    }
