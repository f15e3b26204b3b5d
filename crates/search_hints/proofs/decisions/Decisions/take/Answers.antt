-- One decision more is made, on a line that has a label; cutting and narrowing leave the sizes.
use Rattle.std.proofs.Common.{ℕ, ◌<◌, List, sym, ap, subst, ◌∙◌}
use Rattle.search_hints.specs.Drafts.{Sizes, AreKept, IsSizedFor}
use Rattle.search_hints.specs.declared.decisions.Decision.{Decision}
use Rattle.search_hints.proofs.Kept.{one_decided}
use Rattle.search_hints.proofs.decisions.Decisions.take.Goals as goal

pub invariant_of-self : goal.invariant_of-self
invariant_of-self g c =
    let i = c.self.inside in
    subst (λ (made : List Decision). AreKept i.draft made i.culprits i.open_at_first.items) (sym c.in_err-push.ensures.items) c.self.invariant

pub cut-requires-clause-sized : goal.cut-requires-clause-sized
cut-requires-clause-sized g c = subst (IsSizedFor c.args.region.now.net.now) (sym c.self.view_is) c.requires.sized

pub cut-requires-clause-line : goal.cut-requires-clause-line
cut-requires-clause-line g c = c.requires.line

pub invariant_of-self-in_err-cut : goal.invariant_of-self-in_err-cut
invariant_of-self-in_err-cut g c =
    let i = c.self.inside in
    let within : c.args.cut.line.0 < i.draft.lines =
    subst (λ (n : ℕ). c.args.cut.line.0 < n) (sym (ap (λ (s : Sizes). s.lines) c.self.view_is ∙ c.requires.sized.lines)) c.requires.line in
    one_decided i.draft i.made.items i.culprits i.open_at_first.items c.self.invariant _ within c.push.new.self.items c.in_ok-push.ensures.items
    c.cut.new.self c.cut.ensures

pub returns-in_err-cut : goal.returns-in_err-cut
returns-in_err-cut g c = c.cut.ensures ∙ c.self.view_is

pub settle-requires : goal.settle-requires
settle-requires g c = subst (IsSizedFor c.args.region.now.net.now) (sym (c.cut.ensures ∙ c.self.view_is)) c.requires.sized

pub invariant_of-self-2 : goal.invariant_of-self-2
invariant_of-self-2 g c =
    let i = c.self.inside in
    let within : c.args.cut.line.0 < i.draft.lines =
    subst (λ (n : ℕ). c.args.cut.line.0 < n) (sym (ap (λ (s : Sizes). s.lines) c.self.view_is ∙ c.requires.sized.lines)) c.requires.line in
    one_decided i.draft i.made.items i.culprits i.open_at_first.items c.self.invariant _ within c.push.new.self.items c.in_ok-push.ensures.items
    c.settle.new.self (c.settle.ensures ∙ c.cut.ensures)

pub returns : goal.returns
returns g c = c.settle.ensures ∙ c.cut.ensures ∙ c.self.view_is
