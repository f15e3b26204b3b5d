-- The last line of a prefix is told, since each gate that was entered is.
use Rattle.std.proofs.Common.{◌≡◌, ℕ, Option, ap, ◌∙◌, sym, subst}
use Rattle.std.specs.Option.{option_map}
use Rattle.pd_base.specs.Links.{links_of}
use Rattle.netlist.specs.Circuit.{Circuit}
use Rattle.netlist.specs.Paths.{line_after}
use Rattle.implication.specs.declared.assumption.Beginning.{Beginning}
use Rattle.implication.specs.Assumptions.{entered_pins}
use Rattle.implication.specs.Standing.{Standing, told_ends, IsTold, IsToldBy}
use Rattle.implication.specs.Kept.{StandsFrom}
use Rattle.implication.proofs.Lists.{told_end}
use Rattle.implication.proofs.engine.Engine.last_line.Goals as goal

pub returns-in-Some-clause-told : goal.returns-in-Some-clause-told
returns-in-Some-clause-told g c = λ open_.
    let e = c.self.inside in let net = g.S.Setting.circuit e.setting in let ends = option_map (λ (v : _). told_ends v.lines.items v.near) e.ends in
    let begun = c.in-Some.begun in
    let P : Option Beginning → Type 0 = λ b. StandsFrom g.A.Algebra.algebra net (g.S.Setting.rules e.setting) ends b e.lists.assumptions.items
    e.conflict
    (record { board = e.parts.board; idle = e.parts.idle; befores = e.lists.befores.items; left = e.lists.left.items; steps = e.parts.conditions }) in
    let stands = subst P c.in-Some.is c.self.invariant.0.stands in
    let Q : Standing → Type 0 = λ s. IsTold s c.line_behind.result.0 in
    let R : ℕ → Type 0 = λ line. IsToldBy net (links_of (g.S.Setting.rules e.setting)) ends line in
    let is : c.line_behind.result.0 ≡ line_after net begun.source.0 (entered_pins e.lists.assumptions.items) =
    c.line_behind.ensures.end ∙ ap (λ (x : Circuit). line_after x begun.source.0 c.steps.result.now) c.netlist.ensures
    ∙ ap (line_after net begun.source.0) (c.steps.ensures ∙ stands.entered) in
    subst Q c.self.view_is (subst R (sym is) (told_end net (links_of (g.S.Setting.rules e.setting)) ends begun e.lists.assumptions.items stands.begins stands.told))
