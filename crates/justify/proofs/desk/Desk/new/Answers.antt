-- Each part is made for the netlist.
use Rattle.std.proofs.Common.{◌<◌, length, sym, ap, subst, ◌∙◌, arith}
use Rattle.std.proofs.lemmas.List.{length-replicate}
use Rattle.std.proofs.lemmas.List.Elements.{All-replicate}
use Rattle.state_sets.specs.declared.state.State.{State}
use Rattle.pair_judging.specs.ConeStates.{AreStates}
use Rattle.netlist.specs.declared.op.Op.TheVariants.{And}
use Rattle.state_sets.specs.StateAlgebra.{StateAlgebra, HasLaws}
use Rattle.justify.proofs.desk.Desk.new.Goals as goal

-- there is some state
some_state : (a : StateAlgebra) → HasLaws a → 0 < a.count
some_state a laws = let within = laws.unit_within And in omega (arith, within)

pub returns : goal.returns
returns g c =
    let lines = c.lines-lines.result in
    let states = c.in_ok-states.ensures.items_if_clones_equal (λ y same. same) in
    let liked = c.in_ok-liked.ensures.items_if_clones_equal (λ y same. same) in
    let zero : State = record { 0 = 0 } in
    record {
      of_rules = c.requires.states;
      fit = c.requires.fit;
      cone = c.in_ok-cone.ensures.made;
      links = c.in_ok-cone.ensures.links ∙ c.links.ensures;
      states = ap length states ∙ length-replicate lines zero ∙ c.lines-lines.ensures.count;
      within = subst (AreStates g.A.Algebra.algebra.count) (sym states)
          (All-replicate (λ (state : State). state.0 < g.A.Algebra.algebra.count) lines zero (some_state g.A.Algebra.algebra g.met.A.Algebra.laws));
      blame = ap (λ b. b.room) c.in_ok-blame.ensures;
      liked = ap length liked ∙ length-replicate lines c.every_state.result ∙ c.lines-lines.ensures.count;
      justifier = c.in_ok-justifier.ensures;
      judge = c.in_ok-judge.ensures;
    }
