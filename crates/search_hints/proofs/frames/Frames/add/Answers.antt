-- The frames that are added are of as many lines.
use Rattle.std.proofs.Common.{ℕ, List, sym, subst, ◌∙◌}
use Rattle.search_hints.specs.Drafts.{AreFramesAlike}
use Rattle.search_hints.proofs.FramesAlike.{alike_added}
use Rattle.search_hints.proofs.frames.Frames.add.Goals as goal

pub invariant_of-self-2 : goal.invariant_of-self-2
invariant_of-self-2 c =
    let i = c.self.inside in
    subst (λ (others : List ℕ). AreFramesAlike i.current others i.no_links) (sym c.in_ok-push.ensures.items)
    (alike_added i.current i.others.items i.no_links c.self.invariant c.in_ok-fresh.fresh (c.in_ok-fresh.ensures ∙ c.room.ensures))
