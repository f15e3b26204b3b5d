-- The outermost scope begins: the labels are the hull of the start.
use Rattle.std.proofs.Common.{refl, sym, ap, ◌∙◌}
use Rattle.pd_base.specs.Links.{links_of}
use Rattle.implication.specs.Standing.{Standing}
use Rattle.implication.proofs.Wholes.{open_of, emptied_of}
use Rattle.implication.proofs.Beginnings.{kept_begun, free_begun}
use Rattle.implication.proofs.Linking.{none_inner, links_among}
use Rattle.implication.proofs.engine.Engine.begin.Goals as goal

pub begin-self-inside-requires-clause-links : goal.begin-self-inside-requires-clause-links
begin-self-inside-requires-clause-links g c = λ none.
    let rules = g.S.Setting.rules c.self.inside.setting in
    none_inner (links_of rules) c.self.inside.parts.board.links
    (links_among g.A.Algebra.algebra (g.S.Setting.circuit c.self.inside.setting) (links_of rules) _ _ _ c.self.invariant.0.cone)
    (sym (ap links_of c.rules.ensures) ∙ none)

pub invariant_of-self : goal.invariant_of-self
invariant_of-self g c = (
  let call = c.begin-self-inside in
      kept_begun g.A.Algebra.algebra c.self.invariant.0 c.args.self.now c.self.view_is c.requires.idle c.args.begun c.requires.source c.requires.told
      call.new.board call.new.self call.ensures.board.inside call.ensures.board.links call.ensures.board.lines call.ensures.board.at_rest c.set_kind.new.self c.set_kind.ensures
      c.netlist.result.now c.netlist.ensures c.rules.result.now c.rules.ensures call.result call.ensures.start.hull call.ensures.start.none_empty
      call.ensures.start.emptied call.ensures.stands c.self.inside.closings,
  c.self.invariant.1,
)

pub returns-clause-open : goal.returns-clause-open
returns-clause-open g c =
    open_of g.A.Algebra.algebra g.met.A.Algebra.laws (invariant_of-self g c).0 _ refl c.begin-self-inside.result refl

pub returns-clause-emptied : goal.returns-clause-emptied
returns-clause-emptied g c =
    emptied_of g.A.Algebra.algebra g.met.A.Algebra.laws (invariant_of-self g c).0 _ refl c.begin-self-inside.result refl

pub returns-clause-free : goal.returns-clause-free
returns-clause-free g c = λ unlinked.
    let call = c.begin-self-inside in
    free_begun g.A.Algebra.algebra c.self.invariant.0 c.args.self.now c.self.view_is c.requires.idle c.args.begun c.requires.source c.requires.told
    call.new.board call.new.self call.ensures.board.inside call.ensures.board.links call.ensures.board.lines call.ensures.board.at_rest c.set_kind.new.self c.set_kind.ensures
    c.netlist.result.now c.netlist.ensures c.rules.result.now c.rules.ensures call.result call.ensures.start.hull call.ensures.start.none_empty
    call.ensures.start.emptied call.ensures.stands g.met.A.Algebra.laws (ap (λ (s : Standing). links_of s.rules) c.self.view_is ∙ unlinked)
