-- An engine is made of an idle board and empty lists.
use Rattle.std.proofs.Common.{◌++◌}
use Rattle.std.proofs.Common.{◌≡◌, true, length}
use Rattle.pd_base.specs.Links.{LinkList, links_of}
use Rattle.implication.proofs.Linking.{more_enough, closed_inside}
use Rattle.std.proofs.Common.{◌≤◌, [], Bool, List, replicate, vec_capacity, sym, ap, ◌∙◌, subst}
use Rattle.std.specs.Option.{option_map}
use Rattle.pd_base.specs.declared.fault.Kind.TheVariants.{Robust}
use Rattle.pd_base.specs.declared.rules.Rules.{Rules}
use Rattle.netlist.specs.Circuit.{Circuit, gate_count, line_count}
use Rattle.netlist.specs.Lawful.{IsCircuit}
use Rattle.netlist.specs.Levels.{greatest_level}
use Rattle.state_sets.specs.States.{all_states}
use Rattle.hulls.specs.Conditions.{Entered as Steps}
use Rattle.implication.specs.Standing.{told_ends}
use Rattle.state_laws.specs.Cones.{IsClosedBack}
use Rattle.hulls.specs.Awaiting.{is_inside}
use Rattle.implication.specs.Idling.{IsIdleBoard}
use Rattle.implication.specs.Kept.{AreEnough, most_assumptions}
use Rattle.implication.proofs.Beginnings.{kept_new}
use Rattle.implication.proofs.engine.Engine.with_cone.Goals as goal

pub new-requires-2-clause-closed : goal.new-requires-2-clause-closed
new-requires-2-clause-closed g c =
    subst (λ (x : Circuit). IsClosedBack x (is_inside c.args.cone.inside.items)) (sym c.netlist-2.ensures)
    (closed_inside g.A.Algebra.algebra (g.S.Setting.circuit c.args.setting) (links_of (g.S.Setting.rules c.args.setting)) _
    c.args.cone.inside.items c.args.cone.links.items c.requires.told)

pub invariant_of-result : goal.invariant_of-result
invariant_of-result g c =
    let a = g.A.Algebra.algebra in
    let net = g.S.Setting.circuit c.args.setting in let rules = g.S.Setting.rules c.args.setting in
    let ends = option_map (λ (v : _). told_ends v.lines.items v.near) c.args.ends in
    let lists = c.in_ok-lists.lists in let made = c.in_ok-lists.ensures in
    let parts = c.in_ok-parts.parts in let placed = c.in_ok-parts.ensures in
    let circuit : IsCircuit net = subst IsCircuit c.netlist.ensures made.circuit in
    let flags = c.args.cone.inside.items in let inner = c.args.cone.links.items in
    let P : List Bool → Type 0 = λ fs. AreEnough a net (links_of rules) ends fs parts.board.links in
    let U : LinkList → Type 0 = λ ls. AreEnough a net (links_of rules) ends (flags ++ replicate (length inner) true) ls in
    let inside_is : parts.board.inside ≡ flags ++ replicate (length inner) true =
    placed.inside ∙ ap (λ (ls : LinkList). flags ++ replicate (length ls) true) c.as_slice.ensures.value in
    let links_are : parts.board.links ≡ inner = placed.links ∙ c.as_slice.ensures.value in
    let Q : Circuit → Type 0 = λ x. IsIdleBoard a x c.rules.result.now parts.idle parts.board in
    let R : Rules → Type 0 = λ r. IsIdleBoard a net r parts.idle parts.board in
    let S : Circuit → Type 0 = λ x. most_assumptions a.count x ≤ vec_capacity lists.assumptions in
    let T : Circuit → Type 0 = λ x. most_assumptions a.count x ≤ vec_capacity lists.befores in
    let begun : Circuit → Steps = λ x. record { kind = Robust; gates = gate_count x; room = greatest_level x; steps = [] } in (
      kept_new a net rules ends lists.assumptions.items
          (record {
            board = parts.board;
            idle = parts.idle;
            befores = lists.befores.items;
            left = lists.left.items;
            steps = parts.conditions;
          })
          (vec_capacity lists.assumptions) (vec_capacity lists.befores) circuit
          (subst P (sym inside_is) (subst U (sym links_are)
          (more_enough net circuit flags c.requires.one_each (length inner) a (links_of rules) inner ends c.requires.told)))
          (subst R c.rules.ensures (subst Q c.netlist-2.ensures placed.idle))
          c.requires.fit made.none_assumed
          made.none_before (made.left ∙ ap (λ (x : Circuit). replicate (line_count x) (all_states a.count)) c.netlist.ensures)
          (placed.conditions ∙ ap begun c.netlist-2.ensures) (subst S c.netlist.ensures made.room) (subst T c.netlist.ensures made.befores_room),
      c.requires.lines,
    )
