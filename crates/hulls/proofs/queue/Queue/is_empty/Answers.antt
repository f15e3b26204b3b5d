-- Where turns of the first list are left, there are some.
use Rattle.std.proofs.Common.{drop, length, ap, arith}
use Rattle.std.proofs.lemmas.Bool.{leb-true}
use Rattle.std.proofs.lemmas.List.{length-append, length-drop}
use Rattle.hulls.specs.Queues.{Queued}
use Rattle.hulls.proofs.queue.Queue.is_empty.Goals as goal

pub returns-else-self-len : goal.returns-else-self-len
returns-else-self-len c =
    let i = c.self.inside in
    let left = length-drop i.at i.front.items in
    let all = length-append (drop i.at i.front.items) i.back.items in
    let seen = ap (λ (q : Queued). length q.turns) c.self.view_is in
    let inside = c.self.invariant.inside in let len = c.len.ensures in let f = c.if-self-len.false in (
      (λ done. absurd (let e = leb-true c.len.result i.at done in omega (arith, e, f))),
      λ none. absurd (omega (arith, left, all, seen, inside, len, f, ap length none)),
    )
