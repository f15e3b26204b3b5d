-- The lines reached have begun, in the order of their levels, in which they stood already or were put.
use Rattle.std.proofs.Common.{◌<◌, ℕ, List, get_or, sym, subst, arith}
use Rattle.std.specs.List.{All}
use Rattle.std.proofs.lemmas.List.Elements.{All-contains, Contains-get_or}
use Rattle.pd_base.specs.declared.ids.LineId.{LineId}
use Rattle.implication.specs.Begun.{AreBegun}
use Rattle.implication.specs.ByLevel.{lines_by_level, IsByLevel, AreSameByLevel}
use Rattle.implication.proofs.Idling.{begun_ranked}
use Rattle.implication.proofs.idle.IdleLabels.begin_forward.Goals as goal

pub begin_ranked-requires-clause-in_circuit : goal.begin_ranked-requires-clause-in_circuit
begin_ranked-requires-clause-in_circuit g c =
    let net = c.args.net.now in let ranked = c.as_slice.result.now in
    let are = subst (AreSameByLevel net c.lines-found.result.now) (sym c.as_slice.ensures.value) c.rank.ensures.ranked in
    λ k d k_in.
    let line = get_or (lines_by_level ranked) k d in
    let within = All-contains (λ (l : LineId). l.0 < c.reach.new.reached.room) c.lines-found.result.now line c.lines-found.ensures.in_range
    ((are.same line).1 (Contains-get_or (lines_by_level ranked) k d k_in)) in
    omega (arith, within, c.reach.ensures.room)

pub begin_ranked-requires-clause-by_level : goal.begin_ranked-requires-clause-by_level
begin_ranked-requires-clause-by_level g c =
    subst (λ (entries : List (ℕ × LineId)). IsByLevel c.args.net.now (lines_by_level entries)) (sym c.as_slice.ensures.value)
    c.rank.ensures.ranked.by_level

pub is_by_level-requires : goal.is_by_level-requires
is_by_level-requires g c =
    subst (λ (n : ℕ). All (λ (line : LineId). line.0 < n) c.lines-found.result.now) c.reach.ensures.room c.lines-found.ensures.in_range

pub rank-requires-clause-in_circuit : goal.rank-requires-clause-in_circuit
rank-requires-clause-in_circuit g c =
    subst (λ (n : ℕ). All (λ (line : LineId). line.0 < n) c.lines-found.result.now) c.reach.ensures.room c.lines-found.ensures.in_range

pub begin_lines-requires-clause-in_circuit : goal.begin_lines-requires-clause-in_circuit
begin_lines-requires-clause-in_circuit g c =
    subst (λ (n : ℕ). All (λ (line : LineId). line.0 < n) c.lines-found.result.now) c.reach.ensures.room c.lines-found.ensures.in_range

pub begin_lines-requires-clause-one_each : goal.begin_lines-requires-clause-one_each
begin_lines-requires-clause-one_each g c = c.requires.board.lines

pub begin_lines-requires-clause-within : goal.begin_lines-requires-clause-within
begin_lines-requires-clause-within g c = c.requires.within

pub begin_ranked-requires-clause-one_each : goal.begin_ranked-requires-clause-one_each
begin_ranked-requires-clause-one_each g c = c.requires.board.lines

pub begin_ranked-requires-clause-within : goal.begin_ranked-requires-clause-within
begin_ranked-requires-clause-within g c = c.requires.within

pub begin_lines-requires-clause-by_level : goal.begin_lines-requires-clause-by_level
begin_lines-requires-clause-by_level g c = c.is_by_level.ensures.0 c.if-is_by_level.true

pub returns-then-is_by_level-clause-launched : goal.returns-then-is_by_level-clause-launched
returns-then-is_by_level-clause-launched g c = record {
  reached = c.reach.ensures.reached;
  all_inside = c.reach.ensures.inside;
  begun = subst (λ (lines : List LineId). AreBegun g.A.Algebra.algebra c.args.net.now c.args.launched lines c.args.board.now
      c.begin_lines.new.board) c.lines-found.ensures.lines c.begin_lines.ensures;
}

pub returns-clause-launched : goal.returns-clause-launched
returns-clause-launched g c =
    let net = c.args.net.now in let ranked = c.as_slice.result.now in
    let are = subst (λ (lines : List LineId). AreSameByLevel net lines ranked) c.lines-found.ensures.lines
    (subst (AreSameByLevel net c.lines-found.result.now) (sym c.as_slice.ensures.value) c.rank.ensures.ranked) in
    record {
      reached = c.reach.ensures.reached;
      all_inside = c.reach.ensures.inside;
      begun = begun_ranked g.A.Algebra.algebra net c.args.launched c.reach.new.reached.lines ranked are c.args.board.now
          c.begin_ranked.new.board c.begin_ranked.ensures;
    }
