-- A gate that waits is one of those that there are flags for.
use Rattle.std.proofs.Common.{◌<◌, subst}
use Rattle.hulls.proofs.Flags.{inside_within}
use Rattle.search_hints.specs.Drafts.{Sizes}
use Rattle.search_hints.proofs.draft.Draft.next.Goals as goal

pub returns-clause-gate : goal.returns-clause-gate
returns-clause-gate c =
    subst (λ (s : Sizes). c.in_ok-turn.turn.0 < s.gates) c.self.view_is
    (inside_within c.self.inside.waiting.inside c.in_ok-turn.turn.0 c.in_ok-turn.ensures.all_inside)
