-- Each turn gives one line its label back; when none is left, all have theirs.
use Rattle.std.proofs.Common.{◌≡◌, ◌<◌, [], List, length, get_or, refl, ap, sym, ◌∙◌, subst, arith, set}
use Rattle.std.proofs.lemmas.Grind.{common_steps}
use Rattle.std.specs.List.{Contains}
use Rattle.std.proofs.lemmas.List.{drop_all, length-set}
use Rattle.pd_base.specs.declared.ids.LineId.{LineId}
use Rattle.state_sets.specs.declared.state.StateSet.{StateSet}
use Rattle.state_sets.specs.Labellings.{label_at}
use Rattle.hulls.specs.Boards.{OnBoard}
use Rattle.implication.proofs.Idling.{same_labels, board_with, given_back}
use Rattle.implication.proofs.idle.give_back.Goals as goal

pub loop-line-init : goal.loop-line-init
loop-line-init g c = record {
  board = refl;
  one_each = c.requires.one_each;
  same = λ line not. c.requires.same line
      (λ stands. not (subst (λ (ls : List LineId). Contains ls line) (sym c.lines-line-items.ensures.lines) stands));
}

pub loop-line-preserved : goal.loop-line-preserved
loop-line-preserved g c =
    let i = c.loop-line.invariant in
    let index = c.loop-line.line-index in
    let lines = c.lines-line-items.result.now in
    let line = get_or lines index (record { 0 = 0 }) in
    let labels = c.args.labels.now in
    let board = c.loop-line.board in
    let wrote : c.write.new.self.labels ≡ set board.labels line.0 (label_at labels line.0) = ap (λ (b : OnBoard). b.labels) c.write.ensures in
    let within = c.lines-line-items.ensures.in_range index (record { 0 = 0 }) c.loop-line-test.true in
    let in_board : line.0 < length board.labels = omega (arith, within, i.one_each, c.requires.room) in
    record {
      board = c.write.ensures
          ∙ ap (λ (b : OnBoard). let n : OnBoard = record b { labels = set board.labels line.0 (label_at labels line.0) } in n) i.board
          ∙ ap (λ (ls : List StateSet). let n : OnBoard = record c.args.board.now { labels = ls } in n) (sym wrote);
      one_each = ap length wrote ∙ length-set board.labels line.0 (label_at labels line.0) ∙ i.one_each;
      same = λ other not. ap (λ (ls : List StateSet). label_at ls other.0) wrote
          ∙ given_back labels board.labels lines index c.loop-line-test.true line refl in_board i.same other not;
    }

pub returns-clause-board : goal.returns-clause-board
returns-clause-board g c =
    let i = c.loop-line.invariant in
    let lines = c.lines-line-items.result.now in
    board_with c.args.board.now c.loop-line.board c.args.labels.now i.board
    (same_labels c.loop-line.board.labels c.args.labels.now i.one_each
    (λ line within. i.same (record { 0 = line }) (λ stands.
    let s : Contains [] (record { 0 = line }) = subst (λ (ls : List LineId). Contains ls (record { 0 = line }))
    (drop_all c.loop-line.line-index lines c.loop-line-test.false) stands in
    omega (arith, s.1))))

pub returns-clause-room : goal.returns-clause-room
returns-clause-room g c = grind (arith, common_steps)

pub returns-clause-reached : goal.returns-clause-reached
returns-clause-reached g c = grind (arith, common_steps)
