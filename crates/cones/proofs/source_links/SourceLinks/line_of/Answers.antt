-- What stands there is right of all links.
use Rattle.std.proofs.Common.{◌≡◌, ℕ, List, Option, ap, subst, ◌∙◌}
use Rattle.std.specs.Prelude.{IfSome, IfNone}
use Rattle.pd_base.specs.declared.ids.LineId.{LineId}
use Rattle.pd_base.specs.Links.{LinkList, IsLink}
use Rattle.cones.specs.SourceLinks.{head_at}
use Rattle.cones.proofs.SourceHeads.{head_linked, head_alone, head_free}
use Rattle.cones.proofs.source_links.SourceLinks.line_of.Goals as goal

pub returns-clause-linked : goal.returns-clause-linked
returns-clause-linked c =
    subst (λ (links : LinkList). IfSome c.head.result (λ line. IsLink links c.args.source.0 line.0)) c.self.view_is
    (head_linked c.self.inside.links.items c.self.inside.heads.items c.args.source.0 c.self.invariant c.head.result
    (c.head.ensures ∙ ap (λ (hs : List (Option LineId)). head_at hs c.args.source.0) c.as_slice.ensures.value))

pub returns-clause-alone : goal.returns-clause-alone
returns-clause-alone c =
    subst (λ (links : LinkList). IfSome c.head.result (λ line. (other : ℕ) → IsLink links c.args.source.0 other → other ≡ line.0)) c.self.view_is
    (head_alone c.self.inside.links.items c.self.inside.heads.items c.args.source.0 c.self.invariant c.head.result
    (c.head.ensures ∙ ap (λ (hs : List (Option LineId)). head_at hs c.args.source.0) c.as_slice.ensures.value))

pub returns-clause-free : goal.returns-clause-free
returns-clause-free c =
    subst (λ (links : LinkList). IfNone c.head.result ((line : ℕ) → ¬ IsLink links c.args.source.0 line)) c.self.view_is
    (head_free c.self.inside.links.items c.self.inside.heads.items c.args.source.0 c.self.invariant c.head.result
    (c.head.ensures ∙ ap (λ (hs : List (Option LineId)). head_at hs c.args.source.0) c.as_slice.ensures.value))
