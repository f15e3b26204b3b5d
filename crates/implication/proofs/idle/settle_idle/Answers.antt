-- The board settles to the labels that are computed forward.
use Rattle.std.proofs.Common.{◌<◌, IfSome, IfNone, subst}
use Rattle.pd_base.specs.Links.{LinkList}
use Rattle.state_sets.specs.Hulls.{IsHull, IsEmptied, HasAt}
use Rattle.state_laws.specs.Cones.{IsNarrowingIn}
use Rattle.hulls.specs.Awaiting.{is_inside}
use Rattle.implication.proofs.Idling.{still_of, new_of}
use Rattle.std.proofs.Common.{length, ap, ◌∙◌}
use Rattle.std.proofs.lemmas.List.{length-replicate}
use Rattle.netlist.specs.Circuit.{line_count}
use Rattle.state_sets.specs.States.{all_states}
use Rattle.hulls.specs.Boards.{OnBoard}
use Rattle.implication.proofs.Idling.{idle_forward, as_many}
use Rattle.implication.proofs.idle.settle_idle.Goals as goal

pub write_sources-requires-clause-set : goal.write_sources-requires-clause-set
write_sources-requires-clause-set g c = c.requires.set

pub write_sources-requires-clause-lines : goal.write_sources-requires-clause-lines
write_sources-requires-clause-lines g c =
    ap length c.requires.board.labels ∙ length-replicate (line_count c.args.net.now) (all_states g.A.Algebra.algebra.count)

pub write_sources-requires-clause-unnoted : goal.write_sources-requires-clause-unnoted
write_sources-requires-clause-unnoted g c = c.requires.board.unnoted

pub settle_all-requires-clause-of : goal.settle_all-requires-clause-of
settle_all-requires-clause-of g c =
    still_of c.args.net.now c.args.board.now c.write_sources.new.board (ap (λ (b : OnBoard). b.inside) c.write_sources.ensures.board)
    (ap (λ (b : OnBoard). b.links) c.write_sources.ensures.board) c.write_sources.ensures.one_each
    (new_of c.args.net.now c.write_sources.ensures.circuit g.A.Algebra.algebra.count c.args.board.now c.requires.board)

pub settle_all-requires-clause-conditions : goal.settle_all-requires-clause-conditions
settle_all-requires-clause-conditions g c = c.requires.conditions

pub returns-clause-forward : goal.returns-clause-forward
returns-clause-forward g c =
    idle_forward g.A.Algebra.algebra g.met.A.Algebra.laws c.args.net.now c.write_sources.ensures.circuit c.args.set c.requires.set c.requires.some
    c.args.board.now c.write_sources.new.board c.requires.board.labels c.write_sources.ensures.board c.write_sources.ensures.one_each
    c.write_sources.ensures.sources c.write_sources.ensures.gates c.requires.board.closed c.args.conditions.now.kind c.args.conditions.now.steps
    c.requires.no_steps c.settle_all.result c.settle_all.new.self.labels
    (subst (λ (ls : LinkList). IfNone c.settle_all.result (IsHull g.A.Algebra.algebra c.args.net.now
    (IsNarrowingIn c.args.net.now (is_inside c.write_sources.new.board.inside) ls c.args.conditions.now.kind c.args.conditions.now.steps)
    (HasAt g.A.Algebra.algebra.count c.write_sources.new.board.labels) c.settle_all.new.self.labels))
    (ap (λ (b : OnBoard). b.links) c.write_sources.ensures.board ∙ c.requires.board.unlinked) c.settle_all.ensures.hull)
    c.settle_all.ensures.none_empty
    (subst (λ (ls : LinkList). IfSome c.settle_all.result (λ line. (line.0 < line_count c.args.net.now) × IsEmptied g.A.Algebra.algebra c.args.net.now
    (IsNarrowingIn c.args.net.now (is_inside c.write_sources.new.board.inside) ls c.args.conditions.now.kind c.args.conditions.now.steps)
    (HasAt g.A.Algebra.algebra.count c.write_sources.new.board.labels) line.0))
    (ap (λ (b : OnBoard). b.links) c.write_sources.ensures.board ∙ c.requires.board.unlinked) c.settle_all.ensures.emptied)

pub returns-clause-board : goal.returns-clause-board
returns-clause-board g c = record {
  inside = c.settle_all.ensures.narrowed.inside ∙ ap (λ (b : OnBoard). b.inside) c.write_sources.ensures.board;
  links = c.settle_all.ensures.narrowed.links ∙ ap (λ (b : OnBoard). b.links) c.write_sources.ensures.board;
  lines = as_many c.write_sources.new.board c.settle_all.new.self c.settle_all.ensures.narrowed.follows ∙ c.write_sources.ensures.one_each;
  at_rest = c.settle_all.ensures.waiting;
}

pub returns-clause-of : goal.returns-clause-of
returns-clause-of g c =
    still_of c.args.net.now c.args.board.now c.settle_all.new.self
    (c.settle_all.ensures.narrowed.inside ∙ ap (λ (b : OnBoard). b.inside) c.write_sources.ensures.board)
    (c.settle_all.ensures.narrowed.links ∙ ap (λ (b : OnBoard). b.links) c.write_sources.ensures.board)
    (as_many c.write_sources.new.board c.settle_all.new.self c.settle_all.ensures.narrowed.follows ∙ c.write_sources.ensures.one_each)
    (new_of c.args.net.now c.write_sources.ensures.circuit g.A.Algebra.algebra.count c.args.board.now c.requires.board)
