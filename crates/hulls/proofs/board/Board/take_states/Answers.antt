-- A cut that takes states is noted before it is written, and the gates at the line wait.
use Rattle.std.proofs.Common.{◌≡◌, ◌≢◌, ◌<◌, ℕ, List, length, bit_and, refl, ap, ◌∙◌, sym, subst, arith}
use Rattle.netlist.specs.Circuit.{line_count}
use Rattle.state_sets.specs.declared.state.StateSet.{StateSet}
use Rattle.state_sets.specs.Labellings.{label_at}
use Rattle.hulls.specs.Awaiting.{gate_turn}
use Rattle.hulls.specs.Boards.{OnBoard}
use Rattle.hulls.specs.Settling.{IsCutTo}
use Rattle.hulls.proofs.BoardCuts.{room_left, cut_is, cut_to}
use Rattle.hulls.proofs.Readers.{more_on, links_as}
use Rattle.hulls.proofs.board.Board.take_states.Goals as goal

-- the cut takes states of the line
abbrev Takes : ℕ → StateSet → OnBoard → Type 0
Takes line to board = bit_and (label_at board.labels line).0 to.0 ≢ (label_at board.labels line).0

takes_states : (labels : List StateSet) (line : ℕ) (to old new : StateSet) → old ≡ label_at labels line → new.0 ≡ bit_and old.0 to.0
    → bit_and (label_at labels line).0 to.0 ≢ (label_at labels line).0 → new.0 ≢ old.0
takes_states labels line to old new had left takes same =
    takes (ap (λ (s : StateSet). bit_and s.0 to.0) (sym had) ∙ sym left ∙ same ∙ ap (λ (s : StateSet). s.0) had)

pub note-requires : goal.note-requires
note-requires g c =
    let i = c.self.inside in let line = c.args.line.0 in
    let lines : length i.labels ≡ line_count c.args.net.now =
    subst (λ (b : OnBoard). length b.labels ≡ line_count c.args.net.now) (sym c.self.view_is) c.requires.of.lines in
    let within : line < length i.labels = let r = c.requires.line in omega arith in
    let takes = takes_states i.labels line c.args.to c.get-old.result c.intersect-new.result c.get-old.ensures c.intersect-new.ensures
    (subst (Takes line c.args.to) (sym c.self.view_is) c.requires.takes) in
    room_left g.A.Algebra.algebra.count i.labels i.trail.notes i.waiting i.links i.trail.room c.self.invariant line within c.args.to
    c.get-old.result c.intersect-new.result c.get-old.ensures c.intersect-new.ensures takes

pub invariant_of-self : goal.invariant_of-self
invariant_of-self g c =
    let i = c.self.inside in let line = c.args.line.0 in
    let lines : length i.labels ≡ line_count c.args.net.now =
    subst (λ (b : OnBoard). length b.labels ≡ line_count c.args.net.now) (sym c.self.view_is) c.requires.of.lines in
    let within : line < length i.labels = let r = c.requires.line in omega arith in
    let takes = takes_states i.labels line c.args.to c.get-old.result c.intersect-new.result c.get-old.ensures c.intersect-new.ensures
    (subst (Takes line c.args.to) (sym c.self.view_is) c.requires.takes) in
    cut_is g.A.Algebra.algebra.count i.labels i.trail.notes i.waiting i.links i.trail.room c.self.invariant line within c.args.to
    c.get-old.result c.intersect-new.result c.get-old.ensures c.intersect-new.ensures takes
    c.note.new.self c.note.ensures c.wake-2.new.waiting (more_on i.waiting c.wake.new.waiting c.wake-2.new.waiting c.wake.ensures.more c.wake-2.ensures.more) c.cut.new.self c.cut.ensures

pub returns-clause-cut : goal.returns-clause-cut
returns-clause-cut g c =
    let i = c.self.inside in let line = c.args.line.0 in let count = g.A.Algebra.algebra.count in
    let lines : length i.labels ≡ line_count c.args.net.now =
    subst (λ (b : OnBoard). length b.labels ≡ line_count c.args.net.now) (sym c.self.view_is) c.requires.of.lines in
    let within : line < length i.labels = let r = c.requires.line in omega arith in
    let takes = takes_states i.labels line c.args.to c.get-old.result c.intersect-new.result c.get-old.ensures c.intersect-new.ensures
    (subst (Takes line c.args.to) (sym c.self.view_is) c.requires.takes) in
    subst (λ (b : OnBoard). IsCutTo count c.args.net.now c.args.passed line c.args.to b
    (record {
      labels = c.cut.new.self;
      notes = c.note.new.self.notes;
      waiting = c.wake-2.new.waiting.waiting;
      inside = c.wake-2.new.waiting.inside;
      links = i.links;
    })) c.self.view_is
    (cut_to count i.labels i.trail.notes i.waiting i.links i.trail.room c.self.invariant line within c.args.to
    c.get-old.result c.intersect-new.result c.get-old.ensures c.intersect-new.ensures takes
    c.note.new.self c.note.ensures c.wake-2.new.waiting (more_on i.waiting c.wake.new.waiting c.wake-2.new.waiting c.wake.ensures.more c.wake-2.ensures.more) c.cut.new.self c.cut.ensures
    c.args.net.now c.args.passed
    (λ gate within here away among. c.wake-2.ensures.more.stays (gate_turn gate) (c.wake.ensures.waits gate within here away among))
    (links_as c.args.net.now i.links i.links refl c.gates.result c.gates.ensures c.args.line
    c.wake-2.new.waiting.waiting c.wake-2.ensures.waits))
