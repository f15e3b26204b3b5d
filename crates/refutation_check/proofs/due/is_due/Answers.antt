-- A split is due at a source of the support that has both halves in the hull, by its last value or steadiness, at a node that is open.
use Rattle.std.proofs.Common.{◌<◌, sym, ◌∙◌, subst, arith}
use Rattle.std.proofs.lemmas.Bool.{false≢true}
use Rattle.netlist.specs.Circuit.{Circuit, source_count}
use Rattle.netlist.specs.Paths.{end_of}
use Rattle.implication.specs.Scopes.{standing}
use Rattle.pair_judging.specs.Targets.{seen_target}
use Rattle.refutation_check.proofs.Spending.{conflict_stands, none_stands, marked_in_support, unmarked_outside, cone_under, closing_not_due, outside_not_due, other_kind_not_due, untold_not_due, lacking_not_due, open_due}
use Rattle.refutation_check.proofs.due.is_due.Goals as goal
use Rattle.refutation_check.proofs.due.is_due.Goals.{then-line-sources-via-then-line-sources, then-line-sources-via-else-line-sources+then-not-marks-line}

pub returns-then-line-sources-clause-due : goal.returns-then-line-sources-clause-due
returns-then-line-sources-clause-due g c = λ halves within.
    let now = standing c.args.scope.now in let split = c.args.split in
    let P : Circuit → Type 0 = λ n. split.line.0 < source_count n in
    outside_not_due (seen_target c.args.target.now) halves now split
    (elim c.then-line-sources.branch [
      | then-line-sources-via-then-line-sources w ↦ (λ support.
          let within = subst P (sym c.net.ensures) support.is_source in omega (arith, within, w.if-line-sources.true, c.sources.ensures.count))
      | then-line-sources-via-else-line-sources+then-not-marks-line w ↦
          unmarked_outside now.net now.rules c.args.target.now.path.now c.args.room.now.cone.found.lines w.marks.result.now split.line.0
          w.marks.ensures.exactly
          (cone_under now.net now.rules (end_of now.net c.args.target.now.path.now) c.args.room.now.cone c.requires.room.made.linked c.requires.room.cone)
          w.if-not-marks-line.true
    ])

pub returns-then-line-sources-clause-room : goal.returns-then-line-sources-clause-room
returns-then-line-sources-clause-room g c = c.requires.room

pub returns-then-not-is_source_kind-clause-room : goal.returns-then-not-is_source_kind-clause-room
returns-then-not-is_source_kind-clause-room g c = c.requires.room

pub returns-then-not-is_source_kind-clause-due : goal.returns-then-not-is_source_kind-clause-due
returns-then-not-is_source_kind-clause-due g c = λ halves within.
    other_kind_not_due (seen_target c.args.target.now) halves (standing c.args.scope.now) c.args.split
    (λ kind. false≢true (sym c.if-not-is_source_kind.true ∙ c.is_source_kind.ensures.1 kind))

pub returns-then-not-tells-clause-room : goal.returns-then-not-tells-clause-room
returns-then-not-tells-clause-room g c = c.requires.room

pub returns-then-not-tells-clause-due : goal.returns-then-not-tells-clause-due
returns-then-not-tells-clause-due g c = λ halves within.
    untold_not_due (seen_target c.args.target.now) halves (standing c.args.scope.now) c.args.split
    (λ told. false≢true (sym c.if-not-tells.true ∙ c.tells.ensures.1 told))

pub returns-then-is_some-clause-room : goal.returns-then-is_some-clause-room
returns-then-is_some-clause-room g c = c.requires.room

pub returns-then-not-has_both_halves-clause-room : goal.returns-then-not-has_both_halves-clause-room
returns-then-not-has_both_halves-clause-room g c = c.requires.room

pub is_open-requires-clause-prefix : goal.is_open-requires-clause-prefix
is_open-requires-clause-prefix g c = c.requires.prefix

pub is_open-requires-clause-free : goal.is_open-requires-clause-free
is_open-requires-clause-free g c =
    none_stands (standing c.args.scope.now).conflict c.conflict.result c.conflict.ensures.none c.is_some.result c.is_some.ensures
    c.if-is_some.false

pub is_open-requires-clause-room : goal.is_open-requires-clause-room
is_open-requires-clause-room g c = c.requires.room

pub returns-clause-room : goal.returns-clause-room
returns-clause-room g c = c.is_open.ensures.room

pub returns-then-is_some-clause-due : goal.returns-then-is_some-clause-due
returns-then-is_some-clause-due g c = λ halves at.
    let now = standing c.args.scope.now in let split = c.args.split in
    let stands = conflict_stands now.conflict c.conflict.result c.conflict.ensures.some c.is_some.result c.is_some.ensures c.if-is_some.true in
    closing_not_due (seen_target c.args.target.now) halves now split stands.0 stands.1 g.A.Algebra.algebra c.requires.room.made.chosen at.at

pub returns-then-not-has_both_halves-clause-due : goal.returns-then-not-has_both_halves-clause-due
returns-then-not-has_both_halves-clause-due g c = λ halves at.
    let now = standing c.args.scope.now in let split = c.args.split in
    let free = none_stands now.conflict c.conflict.result c.conflict.ensures.none c.is_some.result c.is_some.ensures c.if-is_some.false in
    let labels = c.label.ensures.told free in
    let P : Circuit → Type 0 = λ n. split.line.0 < source_count n in
    let within = subst P c.net.ensures (omega (arith, c.if-line-sources.false, c.sources.ensures.count)) in
    let support = marked_in_support now.net now.rules c.args.target.now.path.now c.args.room.now.cone.found.lines c.marks.result.now split.line.0
    c.marks.ensures.exactly
    (cone_under now.net now.rules (end_of now.net c.args.target.now.path.now) c.args.room.now.cone c.requires.room.made.linked c.requires.room.cone)
    within c.if-not-marks-line.false in
    lacking_not_due (seen_target c.args.target.now) halves now split free labels.0 c.label.result c.has_both_halves.result
    g.A.Algebra.algebra c.requires.room.made.chosen
    (record {
      at = at.at;
      labelled = labels.1;
      seen = labels.2.told (c.tells.ensures.0 c.if-not-tells.false);
      tells = c.has_both_halves.ensures;
    })
    c.if-not-has_both_halves.true

pub returns-clause-due : goal.returns-clause-due
returns-clause-due g c = λ halves at.
    let now = standing c.args.scope.now in let split = c.args.split in
    let free = none_stands now.conflict c.conflict.result c.conflict.ensures.none c.is_some.result c.is_some.ensures c.if-is_some.false in
    let labels = c.label.ensures.told free in
    let P : Circuit → Type 0 = λ n. split.line.0 < source_count n in
    let within = subst P c.net.ensures (omega (arith, c.if-line-sources.false, c.sources.ensures.count)) in
    let support = marked_in_support now.net now.rules c.args.target.now.path.now c.args.room.now.cone.found.lines c.marks.result.now split.line.0
    c.marks.ensures.exactly
    (cone_under now.net now.rules (end_of now.net c.args.target.now.path.now) c.args.room.now.cone c.requires.room.made.linked c.requires.room.cone)
    within c.if-not-marks-line.false in
    open_due (seen_target c.args.target.now) halves now split free labels.0 c.label.result c.has_both_halves.result
    g.A.Algebra.algebra c.requires.room.made.chosen
    (record {
      at = at.at;
      labelled = labels.1;
      seen = labels.2.told (c.tells.ensures.0 c.if-not-tells.false);
      tells = c.has_both_halves.ensures;
    })
    c.if-not-has_both_halves.false support (c.is_source_kind.ensures.0 c.if-not-is_source_kind.false) c.is_open.result (c.is_open.ensures.open halves at)
