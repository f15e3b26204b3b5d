-- Each turn pushes one link more.
use Rattle.std.proofs.Common.{◌∙◌, ◌-◌, ◌++◌, ◌∷◌, [], sym, ap, append_assoc, take, get_or, arith}
use Rattle.pd_base.specs.Links.{LinkList}
use Rattle.scan_order.specs.SkewedLinks.{links_along}
use Rattle.scan_order.proofs.Linked.{links_along-next}
use Rattle.scan_order.proofs.skewing.push_links.Goals as goal

pub loop-at-preserved : goal.loop-at-preserved
loop-at-preserved c =
    let more = links_along-next c.loop-at.at c.args.chain.now (record { 0 = 0 }) (omega arith) (omega arith) in
    let pushed = c.in_ok-push.ensures.items in
    pushed ∙ ap (λ (front : LinkList). front ++ (get_or c.args.chain.now c.loop-at.at (record { 0 = 0 }), get_or c.args.chain.now (c.loop-at.at - 1) (record { 0 = 0 })) ∷ []) c.loop-at.invariant
    ∙ append_assoc c.args.pairs.now.items (links_along (take c.loop-at.at c.args.chain.now)) ((get_or c.args.chain.now c.loop-at.at (record { 0 = 0 }), get_or c.args.chain.now (c.loop-at.at - 1) (record { 0 = 0 })) ∷ [])
    ∙ ap (λ (back : LinkList). c.args.pairs.now.items ++ back) (sym more)
