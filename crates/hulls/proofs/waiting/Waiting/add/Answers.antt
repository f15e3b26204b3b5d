-- The flag of what does not wait is raised, and it stands behind the others.
use Rattle.std.proofs.Common.{◌<◌, false, true, length, sym, ◌∙◌, subst}
use Rattle.std.proofs.lemmas.List.{get_or_read}
use Rattle.std.proofs.Math.ListN.{set}
use Rattle.hulls.specs.Queues.{Queued}
use Rattle.hulls.specs.Awaiting.{Awaited, IsWoken, IsFlagged}
use Rattle.hulls.proofs.Flags.{has_room, added, is_added}
use Rattle.hulls.proofs.waiting.Waiting.add.Goals as goal

pub push-requires : goal.push-requires
push-requires c = let i = c.self.inside in
    let within : c.args.turn.0 < length i.inside.items = subst (λ (w : Awaited). c.args.turn.0 < length w.inside) (sym c.self.view_is) c.requires in
    let flag_within : c.args.turn.0 < length i.flags.items = subst (λ n. c.args.turn.0 < n) (sym c.self.invariant.one_each) within in
    has_room i.inside.items i.flags.items i.queue.turns i.queue.room c.self.invariant c.args.turn within
    (sym (get_or_read i.flags.items c.args.turn.0 c.index.result.now flag_within c.index.ensures false) ∙ c.if-index.false)

pub invariant_of-self : goal.invariant_of-self
invariant_of-self c = let i = c.self.inside in
    let within : c.args.turn.0 < length i.inside.items = subst (λ (w : Awaited). c.args.turn.0 < length w.inside) (sym c.self.view_is) c.requires in
    let flag_within : c.args.turn.0 < length i.flags.items = subst (λ n. c.args.turn.0 < n) (sym c.self.invariant.one_each) within in
    subst (λ (q : Queued). IsFlagged i.inside.items (set i.flags.items c.args.turn.0 true) q.turns q.room) (sym c.push.ensures)
    (added i.inside.items i.flags.items i.queue.turns i.queue.room c.self.invariant c.args.turn within
    (sym (get_or_read i.flags.items c.args.turn.0 c.index.result.now flag_within c.index.ensures false) ∙ c.if-index.false))

pub returns : goal.returns
returns c = let i = c.self.inside in
    let within : c.args.turn.0 < length i.inside.items = subst (λ (w : Awaited). c.args.turn.0 < length w.inside) (sym c.self.view_is) c.requires in
    let flag_within : c.args.turn.0 < length i.flags.items = subst (λ n. c.args.turn.0 < n) (sym c.self.invariant.one_each) within in
    subst (λ (w : Awaited). IsWoken c.args.turn w (record { inside = i.inside.items; waiting = c.push.new.self.turns })) c.self.view_is
    (subst (λ (q : Queued). IsWoken c.args.turn (record { inside = i.inside.items; waiting = i.queue.turns })
    (record { inside = i.inside.items; waiting = q.turns })) (sym c.push.ensures)
    (is_added i.inside.items i.flags.items i.queue.turns i.queue.room c.self.invariant c.args.turn within
    (sym (get_or_read i.flags.items c.args.turn.0 c.index.result.now flag_within c.index.ensures false) ∙ c.if-index.false)))
