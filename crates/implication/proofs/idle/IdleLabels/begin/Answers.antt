-- The start of a scope, cut from the idle labels and narrowed, or computed forward where its source reaches, is the hull of the start.
use Rattle.std.proofs.Common.{◌≡◌, ◌≢◌, Bool, true, false, bit_and, List, refl, sym, ap, ◌∙◌, subst, arith}
use Rattle.std.proofs.Math.Dec.{eqb}
use Rattle.std.proofs.lemmas.Bool.{eqb-true, eq-eqb, false≢true}
use Rattle.state_sets.specs.declared.state.StateSet.{StateSet}
use Rattle.state_sets.specs.States.{both_sets}
use Rattle.hulls.specs.Awaiting.{is_inside}
use Rattle.hulls.proofs.Narrowed.{is_none, is_some}
use Rattle.implication.specs.Idling.{StandsBy}
use Rattle.implication.proofs.Idling.{as_many, stands_on, unlaunched_emptied, stuck_emptied, idle_ready, unlinked_from, idle_within, cut_begun_hull, cut_begun_emptied, launched_hull, launched_some, launched_stands, launched_board}
use Rattle.implication.proofs.idle.IdleLabels.begin.Goals as goal

pub returns-then-eq-clause-start : goal.returns-then-eq-clause-start
returns-then-eq-clause-start g c = record {
  hull = tt;
  none_empty = tt;
  emptied =
      let launched = c.launching_states-launched.result in (
        omega (arith, c.requires.source),
        unlaunched_emptied g.A.Algebra.algebra c.args.net.now c.args.rules.now (is_inside c.args.board.now.inside) c.args.board.now.links
            c.args.conditions.now.kind c.args.begun.source c.requires.source c.args.begun.direction launched c.launching_states-launched.ensures.means
            (is_none c.eq.result launched launched c.eq.ensures c.if-eq.true refl),
      );
}

pub returns-in-Some-clause-start : goal.returns-in-Some-clause-start
returns-in-Some-clause-start g c = record {
  hull = tt;
  none_empty = tt;
  emptied =
      let stuck = c.in-Some.ensures.stuck in (
        omega (arith, stuck.0),
        stuck_emptied g.A.Algebra.algebra c.args.net.now c.args.rules.now (is_inside c.args.board.now.inside) c.args.board.now.links
            c.args.conditions.now.kind c.args.begun.source c.requires.source c.args.begun.direction c.in-Some.other.0 stuck.0 stuck.1 stuck.2,
      );
}

pub begin_forward-requires-clause-within : goal.begin_forward-requires-clause-within
begin_forward-requires-clause-within g c =
    let launched = c.launching_states-launched.result in
    idle_within g.A.Algebra.algebra g.met.A.Algebra.laws c.args.net.now c.stuck_source.ensures.circuit c.args.rules.now c.args.self.now
    c.args.board.now c.requires.idle c.args.begun.source c.requires.source c.args.begun.direction launched
    c.launching_states-launched.ensures.within c.launching_states-launched.ensures.means c.in_default.ensures.none

-- the label lacks states of the set, with which it has fewer in common
not_common : (answer : Bool) (left common launched label : StateSet) → answer ≡ eqb common.0 launched.0 → answer ≡ false
    → common.0 ≡ bit_and left.0 launched.0 → left ≡ label → both_sets label launched ≢ launched
not_common answer left common launched label is differs cut had same =
    false≢true (sym differs ∙ is ∙ eq-eqb common.0 launched.0 (cut ∙ ap (λ (s : StateSet). bit_and s.0 launched.0) had ∙ ap (λ (s : StateSet). s.0) same))

pub returns-clause-start : goal.returns-clause-start
returns-clause-start g c = record {
  hull =
      let launched = c.launching_states-launched.result in
      launched_hull g.A.Algebra.algebra g.met.A.Algebra.laws c.args.net.now c.stuck_source.ensures.circuit c.args.rules.now c.args.self.now
      c.args.board.now c.requires.idle c.args.begun.source c.requires.source c.args.begun.direction launched
      c.launching_states-launched.ensures.within c.launching_states-launched.ensures.means c.in_default.ensures.none
      (unlinked_from g.A.Algebra.algebra g.met.A.Algebra.laws c.args.net.now c.stuck_source.ensures.circuit c.args.rules.now c.args.self.now
      c.args.board.now c.requires.idle c.args.begun.source c.requires.source c.args.begun.direction launched
      c.launching_states-launched.ensures.within c.launching_states-launched.ensures.means c.in_default.ensures.none c.requires.links
      (not_common c.eq-2.result c.get.result c.intersect-common.result launched _ c.eq-2.ensures c.if-eq-2.false c.intersect-common.ensures
      c.get.ensures.set))
      (is_some c.eq.result launched launched c.eq.ensures c.if-eq.false refl) c.begin_forward.new.self.reached c.begin_forward.new.board
      c.begin_forward.ensures.launched c.args.conditions.now.kind;
  none_empty =
      let launched = c.launching_states-launched.result in
      launched_some g.A.Algebra.algebra g.met.A.Algebra.laws c.args.net.now c.stuck_source.ensures.circuit c.args.rules.now c.args.self.now
      c.args.board.now c.requires.idle c.args.begun.source c.requires.source c.args.begun.direction launched
      c.launching_states-launched.ensures.within c.launching_states-launched.ensures.means c.in_default.ensures.none
      (unlinked_from g.A.Algebra.algebra g.met.A.Algebra.laws c.args.net.now c.stuck_source.ensures.circuit c.args.rules.now c.args.self.now
      c.args.board.now c.requires.idle c.args.begun.source c.requires.source c.args.begun.direction launched
      c.launching_states-launched.ensures.within c.launching_states-launched.ensures.means c.in_default.ensures.none c.requires.links
      (not_common c.eq-2.result c.get.result c.intersect-common.result launched _ c.eq-2.ensures c.if-eq-2.false c.intersect-common.ensures
      c.get.ensures.set))
      (is_some c.eq.result launched launched c.eq.ensures c.if-eq.false refl) c.begin_forward.new.self.reached c.begin_forward.new.board
      c.begin_forward.ensures.launched;
  emptied = tt;
}

pub returns-clause-stands : goal.returns-clause-stands
returns-clause-stands g c =
    let launched = c.launching_states-launched.result in
    let now = c.begin_forward.new.self in
    subst (λ (labels : List StateSet). StandsBy g.A.Algebra.algebra c.args.net.now c.args.rules.now
    (record { labels = labels; reached = now.reached }) c.begin_forward.new.board) (sym c.begin_forward.ensures.labels)
    (launched_stands g.A.Algebra.algebra g.met.A.Algebra.laws c.args.net.now c.stuck_source.ensures.circuit c.args.rules.now c.args.self.now
    c.args.board.now c.requires.idle c.args.begun.source c.requires.source c.args.begun.direction launched
    c.launching_states-launched.ensures.within c.launching_states-launched.ensures.means c.in_default.ensures.none
    (unlinked_from g.A.Algebra.algebra g.met.A.Algebra.laws c.args.net.now c.stuck_source.ensures.circuit c.args.rules.now c.args.self.now
    c.args.board.now c.requires.idle c.args.begun.source c.requires.source c.args.begun.direction launched
    c.launching_states-launched.ensures.within c.launching_states-launched.ensures.means c.in_default.ensures.none c.requires.links
    (not_common c.eq-2.result c.get.result c.intersect-common.result launched _ c.eq-2.ensures c.if-eq-2.false c.intersect-common.ensures
    c.get.ensures.set))
    (is_some c.eq.result launched launched c.eq.ensures c.if-eq.false refl) c.begin_forward.new.self.reached c.begin_forward.new.board
    c.begin_forward.ensures.launched)

pub returns-clause-board : goal.returns-clause-board
returns-clause-board g c =
    let launched = c.launching_states-launched.result in
    launched_board g.A.Algebra.algebra g.met.A.Algebra.laws c.args.net.now c.stuck_source.ensures.circuit c.args.rules.now c.args.self.now
    c.args.board.now c.requires.idle c.args.begun.source c.requires.source c.args.begun.direction launched
    c.launching_states-launched.ensures.within c.launching_states-launched.ensures.means c.in_default.ensures.none
    (unlinked_from g.A.Algebra.algebra g.met.A.Algebra.laws c.args.net.now c.stuck_source.ensures.circuit c.args.rules.now c.args.self.now
    c.args.board.now c.requires.idle c.args.begun.source c.requires.source c.args.begun.direction launched
    c.launching_states-launched.ensures.within c.launching_states-launched.ensures.means c.in_default.ensures.none c.requires.links
    (not_common c.eq-2.result c.get.result c.intersect-common.result launched _ c.eq-2.ensures c.if-eq-2.false c.intersect-common.ensures
    c.get.ensures.set))
    (is_some c.eq.result launched launched c.eq.ensures c.if-eq.false refl) c.begin_forward.new.self.reached c.begin_forward.new.board
    c.begin_forward.ensures.launched

-- the label has all states of the set, with which it has so many in common
all_common : (answer : Bool) (left common launched label : StateSet) → answer ≡ eqb common.0 launched.0 → answer ≡ true
    → common.0 ≡ bit_and left.0 launched.0 → left ≡ label → both_sets label launched ≡ launched
all_common answer left common launched label is same cut had =
    ap (λ (n : _). let s : StateSet = record { 0 = n } in s)
    (ap (λ (s : StateSet). bit_and s.0 launched.0) (sym had) ∙ sym cut ∙ eqb-true common.0 launched.0 (sym is ∙ same))

pub narrow_on_cut-requires-clause-ready : goal.narrow_on_cut-requires-clause-ready
narrow_on_cut-requires-clause-ready g c =
    let launched = c.launching_states-launched.result in
    idle_ready g.A.Algebra.algebra g.met.A.Algebra.laws c.args.net.now c.stuck_source.ensures.circuit c.args.rules.now c.args.self.now
    c.args.board.now c.requires.idle c.args.begun.source c.requires.source c.args.begun.direction launched
    c.launching_states-launched.ensures.within c.launching_states-launched.ensures.means c.in_default.ensures.none
    (all_common c.eq-2.result c.get.result c.intersect-common.result launched _ c.eq-2.ensures c.if-eq-2.true c.intersect-common.ensures
    c.get.ensures.set)
    c.args.conditions.now.kind c.args.conditions.now.steps c.requires.no_steps c.requires.links

pub returns-then-eq-2-clause-start : goal.returns-then-eq-2-clause-start
returns-then-eq-2-clause-start g c = record {
  hull =
      let launched = c.launching_states-launched.result in
      cut_begun_hull g.A.Algebra.algebra g.met.A.Algebra.laws c.args.net.now c.stuck_source.ensures.circuit c.args.rules.now c.args.self.now
      c.args.board.now c.requires.idle c.args.begun.source c.requires.source c.args.begun.direction launched
      c.launching_states-launched.ensures.within c.launching_states-launched.ensures.means c.in_default.ensures.none
      (all_common c.eq-2.result c.get.result c.intersect-common.result launched _ c.eq-2.ensures c.if-eq-2.true c.intersect-common.ensures
      c.get.ensures.set)
      c.args.conditions.now.kind c.args.conditions.now.steps c.requires.no_steps c.narrow_on_cut.new.board c.narrow_on_cut.result
      c.narrow_on_cut.ensures.narrowed;
  none_empty = c.narrow_on_cut.ensures.narrowed.settled.none_empty;
  emptied =
      let launched = c.launching_states-launched.result in
      cut_begun_emptied g.A.Algebra.algebra g.met.A.Algebra.laws c.args.net.now c.stuck_source.ensures.circuit c.args.rules.now c.args.self.now
      c.args.board.now c.requires.idle c.args.begun.source c.requires.source c.args.begun.direction launched
      c.launching_states-launched.ensures.within c.launching_states-launched.ensures.means c.in_default.ensures.none
      (all_common c.eq-2.result c.get.result c.intersect-common.result launched _ c.eq-2.ensures c.if-eq-2.true c.intersect-common.ensures
      c.get.ensures.set)
      c.args.conditions.now.kind c.args.conditions.now.steps c.requires.no_steps c.narrow_on_cut.new.board c.narrow_on_cut.result
      c.narrow_on_cut.ensures.narrowed;
}

pub returns-then-eq-2-clause-stands : goal.returns-then-eq-2-clause-stands
returns-then-eq-2-clause-stands g c =
    stands_on g.A.Algebra.algebra c.args.net.now c.args.rules.now c.args.self.now c.args.board.now c.narrow_on_cut.new.board
    c.requires.idle.stands c.narrow_on_cut.ensures.board.follows c.narrow_on_cut.ensures.board.inside c.narrow_on_cut.ensures.board.links

pub returns-then-eq-2-clause-board : goal.returns-then-eq-2-clause-board
returns-then-eq-2-clause-board g c = record {
  inside = c.narrow_on_cut.ensures.board.inside;
  links = c.narrow_on_cut.ensures.board.links;
  lines = as_many c.args.board.now c.narrow_on_cut.new.board c.narrow_on_cut.ensures.board.follows;
  at_rest = c.narrow_on_cut.ensures.board.at_rest;
}

pub returns-in-Some-clause-stands : goal.returns-in-Some-clause-stands
returns-in-Some-clause-stands g c = c.requires.idle.stands

pub returns-in-Some-clause-board : goal.returns-in-Some-clause-board
returns-in-Some-clause-board g c = record { inside = refl; links = refl; lines = refl; at_rest = c.requires.idle.at_rest }

pub returns-then-eq-clause-stands : goal.returns-then-eq-clause-stands
returns-then-eq-clause-stands g c = c.requires.idle.stands

pub returns-then-eq-clause-board : goal.returns-then-eq-clause-board
returns-then-eq-clause-board g c = record { inside = refl; links = refl; lines = refl; at_rest = c.requires.idle.at_rest }
