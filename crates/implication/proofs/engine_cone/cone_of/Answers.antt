-- What is marked by the lines found is told.
use Rattle.std.proofs.Common.{List, Bool, drop, Some, false, sym, ap, ◌∙◌, subst}
use Rattle.pd_base.specs.Links.{LinkList}
use Rattle.netlist.specs.Circuit.{source_count}
use Rattle.netlist.specs.LinkedPairs.{AreLinksOf}
use Rattle.cones.specs.FoundLines.{FoundSet}
use Rattle.implication.specs.Inside.{AreFlagged}
use Rattle.implication.specs.Standing.{told_ends}
use Rattle.implication.specs.Kept.{AreToldGates}
use Rattle.implication.proofs.Inside.{AreMarks, marks_after, flags_after, support_told, inner_of, flagged_told}
use Rattle.implication.proofs.engine_cone.cone_of.Goals as goal

pub returns-clause-told : goal.returns-clause-told
returns-clause-told c =
    let net = c.args.net.now in let links = c.args.links.now in let ends = c.args.ends.now in
    let marks = c.marks-marks.result.now in
    let marked : AreMarks net links ends marks =
    marks_after net links c.in_ok-behind.behind c.in_ok-behind.ensures ends marks c.find_back.new.found c.marks-marks.ensures.places
    (c.find_back.ensures.room ∙ ap (λ (f : FoundSet). f.room) c.in_ok-found.ensures ∙ c.lines.ensures.count) c.marks-marks.ensures.exactly
    c.find_back.ensures.exactly in
    let inside = flags_after marks c.sources-2.result (source_count net) c.sources-2.ensures.count c.in_ok-inside.inside.items
    c.in_ok-inside.ensures.items in
    subst (λ (flags : List Bool). AreToldGates net links (Some (told_ends ends false)) flags c.in_ok-inner.inner.items) (sym inside)
    (subst (λ (ls : LinkList). AreToldGates net links (Some (told_ends ends false)) (drop (source_count net) marks) ls) (sym c.in_ok-inner.ensures)
    (support_told net links c.requires.of ends c.sources.ensures.circuit marks marked))

pub returns-clause-of : goal.returns-clause-of
returns-clause-of c =
    subst (AreLinksOf c.args.net.now) (sym c.in_ok-inner.ensures) (inner_of c.args.net.now c.args.links.now c.requires.of c.marks-marks.result.now)

pub returns-clause-lines : goal.returns-clause-lines
returns-clause-lines c =
    let net = c.args.net.now in let links = c.args.links.now in let ends = c.args.ends.now in
    let marks = c.marks-marks.result.now in
    let marked : AreMarks net links ends marks =
    marks_after net links c.in_ok-behind.behind c.in_ok-behind.ensures ends marks c.find_back.new.found c.marks-marks.ensures.places
    (c.find_back.ensures.room ∙ ap (λ (f : FoundSet). f.room) c.in_ok-found.ensures ∙ c.lines.ensures.count) c.marks-marks.ensures.exactly
    c.find_back.ensures.exactly in
    flagged_told net links (told_ends ends false) marks marked c.in_ok-told.told.items
    (subst (λ (ls : LinkList). AreFlagged (source_count net) ls marks c.in_ok-told.told.items) c.in_ok-behind.ensures c.in_ok-told.ensures)
