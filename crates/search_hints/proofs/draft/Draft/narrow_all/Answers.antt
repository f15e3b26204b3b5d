-- Narrowing and cutting leave the sizes, so that there is room for the circuit's lines and gates at each call.
use Rattle.std.proofs.Common.{length, sym, ap, subst, ◌∙◌}
use Rattle.search_hints.specs.Drafts.{Sizes, IsSizedFor}
use Rattle.search_hints.proofs.draft.Draft.narrow_all.Goals as goal

pub kept_at-given-requires-clause-lines : goal.kept_at-given-requires-clause-lines
kept_at-given-requires-clause-lines g c =
    ap length c.as_slice.ensures.value ∙ ap (λ (s : Sizes). s.lines) c.self.view_is ∙ c.requires.sized.lines

pub kept_at-given-requires-clause-pin : goal.kept_at-given-requires-clause-pin
kept_at-given-requires-clause-pin g c = c.condition_of.ensures

pub invariant_of-self : goal.invariant_of-self
invariant_of-self g c = c.self.invariant

pub cut_pins-requires-clause-sized : goal.cut_pins-requires-clause-sized
cut_pins-requires-clause-sized g c = subst (IsSizedFor c.args.region.now.net.now) (sym c.self.view_is) c.requires.sized

pub cut-requires-clause-sized : goal.cut-requires-clause-sized
cut-requires-clause-sized g c =
    subst (IsSizedFor c.args.region.now.net.now) (sym (c.cut_pins.ensures ∙ c.self.view_is)) c.requires.sized

pub returns : goal.returns
returns g c = c.cut.ensures ∙ c.cut_pins.ensures ∙ c.self.view_is
