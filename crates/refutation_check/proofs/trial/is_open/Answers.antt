-- The judged pair has the least states of the hull, at the lines that are to blame or at all sources.
use Rattle.std.proofs.Common.{◌≡◌, ◌↔◌, Bool, List, sym, ap, ◌∙◌, subst}
use Rattle.std.specs.List.{All}
use Rattle.pd_base.specs.Links.{LinkList, links_of}
use Rattle.pd_base.specs.declared.ids.LineId.{LineId}
use Rattle.netlist.specs.Circuit.{Circuit, line_count}
use Rattle.netlist.specs.Lawful.{IsCircuit}
use Rattle.netlist.specs.LinkedPairs.{AreLinksOf}
use Rattle.netlist.specs.Paths.{IsPrefix, end_of}
use Rattle.std.specs.Prelude.{IsTrue}
use Rattle.implication.specs.Scopes.{standing}
use Rattle.implication.specs.Standing.{Standing, IsTold}
use Rattle.cones.specs.KeptCones.{IsConeFor, IsConeAt}
use Rattle.pair_judging.specs.Targets.{seen_target}
use Rattle.refutation_check.specs.Blames.{IsBlamed}
use Rattle.refutation_check.specs.TrialStates.{AreTrialStates}
use Rattle.refutation_check.specs.Trials.{AreLeastOf, AreLeastAmong, EachIsTest}
use Rattle.refutation_check.proofs.Trying.{least_among, test_not_open, failed_open}
use Rattle.refutation_check.proofs.trial.is_open.Goals as goal

-- what is told of a circuit and links is told of the same ones
abbrev under_rules : (P : Circuit → LinkList → Type 0) (c d : Circuit) (ls ms : LinkList) → c ≡ d → ls ≡ ms → P c ls → P d ms
under_rules P c d ls ms same_net same holds = let Q : Circuit → Type 0 = λ n. P n ls in subst (P d) same (subst Q same_net holds)

-- what tells of lines tells of the same ones
tells_same : (now : Standing) (shown lines : List LineId) → shown ≡ lines → (answer : Bool) → IsTrue answer ↔ All (λ line. IsTold now line.0) shown
    → IsTrue answer ↔ All (λ line. IsTold now line.0) lines
tells_same now shown lines same answer tells =
    subst (λ (ls : List LineId). IsTrue answer ↔ All (λ line. IsTold now line.0) ls) same tells

pub fails_again-requires-clause-labels : goal.fails_again-requires-clause-labels
fails_again-requires-clause-labels g c = c.labels-labels.ensures.one_each ∙ ap line_count (sym c.net-net.ensures)

pub fails_again-requires-clause-states : goal.fails_again-requires-clause-states
fails_again-requires-clause-states g c = c.requires.room.made.kept.room.states.places ∙ ap line_count (sym c.net-net.ensures)

pub fails_again-requires-clause-found : goal.fails_again-requires-clause-found
fails_again-requires-clause-found g c = c.requires.room.made.found ∙ ap line_count (sym c.net-net.ensures)

pub fails_anew-requires-clause-prefix : goal.fails_anew-requires-clause-prefix
fails_anew-requires-clause-prefix g c =
    let P : Circuit → Type 0 = λ n. IsPrefix n c.args.target.now.path.now in subst P (sym c.net-net.ensures) c.requires.prefix

pub fails_anew-requires-clause-labels : goal.fails_anew-requires-clause-labels
fails_anew-requires-clause-labels g c = c.labels-labels.ensures.one_each ∙ ap line_count (sym c.net-net.ensures)

pub fails_anew-requires-clause-made : goal.fails_anew-requires-clause-made
fails_anew-requires-clause-made g c =
    let P : Circuit → Type 0 = λ n. IsConeFor n c.args.room.now.cone in subst P (sym c.net-net.ensures) c.requires.room.made.cone

pub fails_anew-requires-clause-cone : goal.fails_anew-requires-clause-cone
fails_anew-requires-clause-cone g c =
    let P : Circuit → Type 0 = λ n. IsConeAt n (end_of n c.args.target.now.path.now) c.args.room.now.cone in
    subst P (sym c.net-net.ensures) c.requires.room.cone

pub fails_anew-requires-clause-kept : goal.fails_anew-requires-clause-kept
fails_anew-requires-clause-kept g c =
    let P : Circuit → Type 0 = λ n. AreTrialStates g.A.Algebra.algebra n c.args.room.now.kept in
    subst P (sym c.net-net.ensures) c.requires.room.made.kept

pub fails_anew-requires-clause-room : goal.fails_anew-requires-clause-room
fails_anew-requires-clause-room g c = c.requires.room.made.found ∙ ap line_count (sym c.net-net.ensures)

pub returns-then-fails_again-clause-open : goal.returns-then-fails_again-clause-open
returns-then-fails_again-clause-open g c = λ halves within.
    let now = standing c.args.scope.now in let target = seen_target c.args.target.now in
    let labels = c.labels-labels.ensures.told c.requires.free in let room = c.args.room.now in let made = c.requires.room.made in
    let C : Circuit → Type 0 = λ n. IsCircuit n in
    let F : LinkList → Type 0 = λ ls. AreLinksOf now.net ls in
    let L : Circuit → Type 0 =
    λ n. AreLeastAmong g.A.Algebra.algebra.count n room.blamed.lines c.labels-labels.result.now room.kept.states.items in
    failed_open target halves now c.requires.free (subst C c.net-net.ensures c.sources.ensures.circuit) (subst F made.linked made.cone.fit)
    c.requires.prefix labels.0 c.labels-labels.result.now room.kept.states.items g.A.Algebra.algebra made.chosen
    (record { scope = within; labelled = labels.1; tells = labels.2 }) room.blamed.lines
    (c.requires.room.failed (c.fails_again.ensures.failed c.if-fails_again.true))
    (subst L c.net-net.ensures (c.fails_again.ensures.least c.if-fails_again.true)) c.tells_all.result
    (tells_same now c.lines.result.now room.blamed.lines c.lines.ensures.lines c.tells_all.result c.tells_all.ensures)

pub returns-then-fails_anew-clause-open : goal.returns-then-fails_anew-clause-open
returns-then-fails_anew-clause-open g c = λ halves within.
    let now = standing c.args.scope.now in let target = seen_target c.args.target.now in
    let labels = c.labels-labels.ensures.told c.requires.free in let room = c.args.room.now in let made = c.requires.room.made in
    let states = c.fails_anew.new.kept.states.items in let lines = c.fails_anew.new.blamed.lines in
    let answers = c.labels-labels.result.now in
    let C : Circuit → Type 0 = λ n. IsCircuit n in
    let F : LinkList → Type 0 = λ ls. AreLinksOf now.net ls in
    let L : Circuit → LinkList → Type 0 = λ n ls. AreLeastOf g.A.Algebra.algebra.count n ls (end_of n target.path) answers states in
    let B : Circuit → LinkList → Type 0 = λ n ls. IsBlamed g.A.Algebra.algebra n ls target states lines in
    let blamed = under_rules B c.net-net.result.now now.net room.cone.links (links_of now.rules) c.net-net.ensures made.linked
    (c.fails_anew.ensures.blamed c.if-fails_anew.true) in
    failed_open target halves now c.requires.free (subst C c.net-net.ensures c.sources.ensures.circuit) (subst F made.linked made.cone.fit)
    c.requires.prefix labels.0 answers states g.A.Algebra.algebra made.chosen
    (record { scope = within; labelled = labels.1; tells = labels.2 }) lines blamed
    (least_among g.A.Algebra.algebra.count now.net (links_of now.rules) (end_of now.net target.path) lines answers states
    (under_rules L c.net-net.result.now now.net room.cone.links (links_of now.rules) c.net-net.ensures made.linked c.fails_anew.ensures.least)
    blamed.supported)
    c.tells_all-then-fails_anew.result
    (tells_same now c.lines-then-fails_anew.result.now lines c.lines-then-fails_anew.ensures.lines c.tells_all-then-fails_anew.result
    c.tells_all-then-fails_anew.ensures)

pub returns-clause-open : goal.returns-clause-open
returns-clause-open g c = λ halves within.
    let now = standing c.args.scope.now in let target = seen_target c.args.target.now in
    let labels = c.labels-labels.ensures.told c.requires.free in let room = c.args.room.now in let made = c.requires.room.made in
    let states = c.fails_anew.new.kept.states.items in let answers = c.labels-labels.result.now in
    let C : Circuit → Type 0 = λ n. IsCircuit n in
    let F : LinkList → Type 0 = λ ls. AreLinksOf now.net ls in
    let L : Circuit → LinkList → Type 0 = λ n ls. AreLeastOf g.A.Algebra.algebra.count n ls (end_of n target.path) answers states in
    let E : Circuit → LinkList → Type 0 = λ n ls. EachIsTest g.A.Algebra.algebra n ls target states in
    test_not_open target halves now c.requires.free (subst C c.net-net.ensures c.sources.ensures.circuit) (subst F made.linked made.cone.fit)
    c.requires.prefix labels.0 answers states g.A.Algebra.algebra made.chosen
    (record { scope = within; labelled = labels.1; tells = labels.2 })
    (under_rules L c.net-net.result.now now.net room.cone.links (links_of now.rules) c.net-net.ensures made.linked c.fails_anew.ensures.least)
    (under_rules E c.net-net.result.now now.net room.cone.links (links_of now.rules) c.net-net.ensures made.linked
    (c.fails_anew.ensures.tests c.if-fails_anew.false))
