-- Gates sorted by level and number stand in rank order.
use Rattle.std.proofs.Common.{◌≡◌, sym, subst, ◌∙◌, ap}
use Rattle.std.specs.Global.{Vec}
use Rattle.std.specs.List.Sorted.{IsPermutation}
use Rattle.std.proofs.lemmas.Result.{IfOk-weaker}
use Rattle.pd_base.specs.declared.ids.GateId.{GateId}
use Rattle.netlist.specs.Circuit.{Circuit, source_count}
use Rattle.netlist.specs.Levels.{line_levels, IsRankOrder}
use Rattle.net_builder.specs.Ranked.{gates_in}
use Rattle.net_builder.proofs.Ranking.{rank_order}
use Rattle.net_builder.proofs.order.order_of.Goals as goal

pub returns : goal.returns
returns c =
    let ranked = c.sort_unstable.new.self.items in
    let moved = subst (λ xs. IsPermutation xs ranked) c.in_ok-ranked.ensures c.sort_unstable.ensures.permutation in
    let whole : (order : Vec GateId) → order.items ≡ gates_in c.as_slice.result.now
    → (circuit : Circuit) → source_count circuit ≡ c.args.sources → line_levels circuit ≡ c.args.levels.now
    → IsRankOrder circuit order.items =
    λ order is circuit sources levels.
    subst (IsRankOrder circuit) (sym (is ∙ ap gates_in c.as_slice.ensures.value))
    (rank_order c.args.sources c.args.levels.now circuit sources levels ranked moved c.sort_unstable.ensures.sorted) in
    IfOk-weaker c.without_levels.result (λ order. order.items ≡ gates_in c.as_slice.result.now)
    (λ order. (circuit : Circuit) → source_count circuit ≡ c.args.sources → line_levels circuit ≡ c.args.levels.now
    → IsRankOrder circuit order.items) whole c.without_levels.ensures
