-- One change more is noted, at a line that has a label, which is written.
use Rattle.std.proofs.Common.{ℕ, ◌<◌, List, length, sym, ap, subst, ◌∙◌, arith}
use Rattle.std.proofs.lemmas.List.{length-set}
use Rattle.search_hints.specs.Drafts.{Sizes}
use Rattle.search_hints.specs.declared.changes.Change.{Change}
use Rattle.search_hints.proofs.Noted.{AreOn, as_many, one_more}
use Rattle.search_hints.proofs.draft.Draft.change.Goals as goal

pub invariant_of-self : goal.invariant_of-self
invariant_of-self c =
    let i = c.self.inside in
    subst (λ (changes : List Change). AreOn (length i.labels.items) changes) (sym c.in_err-push.ensures.items) c.self.invariant

pub index_mut-requires : goal.index_mut-requires
index_mut-requires c =
    let i = c.self.inside in
    let within : c.args.change.line.0 < length i.labels.items =
    subst (λ (n : ℕ). c.args.change.line.0 < n) (sym (ap (λ (s : Sizes). s.lines) c.self.view_is ∙ c.requires.sized.lines)) c.requires.line in
    omega (arith, within, i.labels.ok.0)

pub invariant_of-self-2 : goal.invariant_of-self-2
invariant_of-self-2 c =
    let i = c.self.inside in
    let within : c.args.change.line.0 < length i.labels.items =
    subst (λ (n : ℕ). c.args.change.line.0 < n) (sym (ap (λ (s : Sizes). s.lines) c.self.view_is ∙ c.requires.sized.lines)) c.requires.line in
    one_more i.labels.items i.changes.items c.push.new.self.items _ c.args.left c.in_ok-push.ensures.items c.self.invariant within

pub wake-requires-clause-sized : goal.wake-requires-clause-sized
wake-requires-clause-sized c =
    let i = c.self.inside in
    record {
      lines = length-set i.labels.items c.args.change.line.0 c.args.left ∙ ap (λ (s : Sizes). s.lines) c.self.view_is
          ∙ c.requires.sized.lines;
      gates = ap (λ (s : Sizes). s.gates) c.self.view_is ∙ c.requires.sized.gates;
    }

pub wake-requires-clause-line : goal.wake-requires-clause-line
wake-requires-clause-line c = c.requires.line

pub returns-in_err-wake_links : goal.returns-in_err-wake_links
returns-in_err-wake_links c =
    let i = c.self.inside in
    c.wake_links.ensures ∙ c.wake.ensures ∙ as_many i.labels.items (length i.waiting.inside) c.args.change.line.0 c.args.left ∙ c.self.view_is

pub returns-in_ok-wake_links : goal.returns-in_ok-wake_links
returns-in_ok-wake_links c =
    let i = c.self.inside in
    c.wake_links.ensures ∙ c.wake.ensures ∙ as_many i.labels.items (length i.waiting.inside) c.args.change.line.0 c.args.left ∙ c.self.view_is

pub returns-else-touch : goal.returns-else-touch
returns-else-touch c =
    let i = c.self.inside in
    c.wake.ensures ∙ as_many i.labels.items (length i.waiting.inside) c.args.change.line.0 c.args.left ∙ c.self.view_is
