-- A board as it is made, of the gates inside.
use Rattle.std.proofs.Common.{◌≡◌, ◌++◌, true, replicate}
use Rattle.implication.proofs.Linking.{idle_linked}
use Rattle.std.proofs.Common.{ap, ◌∙◌, length, List, Bool}
use Rattle.std.proofs.lemmas.List.{append-nil}
use Rattle.state_laws.specs.Cones.{IsClosedBack}
use Rattle.hulls.specs.Awaiting.{is_inside}
use Rattle.std.proofs.Common.{refl, sym, subst}
use Rattle.hulls.specs.Boards.{OnBoard}
use Rattle.implication.specs.Idling.{IsNewBoard}
use Rattle.implication.proofs.making.BoardParts.new.Goals as goal

pub new-requires-2-clause-board : goal.new-requires-2-clause-board
new-requires-2-clause-board g c =
    subst (λ (b : OnBoard). IsNewBoard g.A.Algebra.algebra.count c.args.net.now b) (sym c.in_ok-board.ensures)
    (record {
      labels = refl;
      unnoted = refl;
      gates = ap length (append-nil c.args.inside.items) ∙ c.requires.gates;
      unlinked = refl;
      closed = subst (λ (flags : List Bool). IsClosedBack c.args.net.now (is_inside flags)) (sym (append-nil c.args.inside.items)) c.requires.closed;
    })

pub returns-clause-inside : goal.returns-clause-inside
returns-clause-inside g c =
    let flags = c.args.inside.items in
    ap (λ (b : OnBoard). b.inside) c.in_ok-board-2.ensures
    ∙ ap (λ (fs : List Bool). fs ++ replicate (length c.args.links.now) true)
    (c.in_ok-idle.ensures.board.inside ∙ ap (λ (b : OnBoard). b.inside) c.in_ok-board.ensures ∙ append-nil flags)

pub returns-clause-idle : goal.returns-clause-idle
returns-clause-idle g c =
    let flags = c.args.inside.items in let old = c.new-2.new.board in
    let inside : old.inside ≡ flags =
    c.in_ok-idle.ensures.board.inside ∙ ap (λ (b : OnBoard). b.inside) c.in_ok-board.ensures ∙ append-nil flags in
    idle_linked g.A.Algebra.algebra c.args.net.now c.new.ensures.circuit c.args.rules.now c.in_ok-idle.idle old c.in_ok-board-2.board
    c.args.links.now c.in_ok-idle.ensures.idle (ap length inside ∙ c.requires.gates) c.requires.of
    c.in_ok-board-2.ensures
