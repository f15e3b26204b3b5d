-- What is marked near the ends, and behind them and the lines of the links of near sources.
use Rattle.std.proofs.Common.{◌≡◌, ◌<◌, ◌++◌, [], List, Bool, drop, Some, true, sym, ap, ◌∙◌, subst}
use Rattle.std.specs.List.{All}
use Rattle.pd_base.specs.declared.ids.LineId.{LineId}
use Rattle.pd_base.specs.Links.{LinkList}
use Rattle.netlist.specs.Circuit.{source_count, line_count}
use Rattle.cones.specs.FoundLines.{FoundSet}
use Rattle.implication.specs.Inside.{AreFlagged}
use Rattle.implication.specs.Standing.{told_ends}
use Rattle.implication.specs.Kept.{AreNearGates}
use Rattle.implication.proofs.Inside.{AreMarks, inner, lines_of, all_ends_within, marks_after, flags_after, near_told, flagged_told}
use Rattle.implication.proofs.engine_cone.near_cone.Goals as goal

pub find_back-requires-2-clause-ends : goal.find_back-requires-2-clause-ends
find_back-requires-2-clause-ends c =
    let net = c.args.net.now in let links = c.args.links.now in let ends = c.args.ends.now in let marks = c.marks-near.result.now in
    let are = c.as_slice-2.ensures.value ∙ c.in_ok-all_ends.ensures
    ∙ ap (λ (ls : LinkList). ends ++ lines_of ls) (c.as_slice.ensures.value ∙ c.in_ok-inner.ensures) in
    subst (λ (lines : List LineId). All (λ (line : LineId). line.0 < line_count net) lines) (sym are)
    (all_ends_within net links c.requires.of ends c.requires.ends marks)

pub returns-clause-told : goal.returns-clause-told
returns-clause-told c =
    let net = c.args.net.now in let links = c.args.links.now in let ends = c.args.ends.now in let marks = c.marks-near.result.now in
    let room = ap (λ (f : FoundSet). f.room) c.in_ok-found.ensures ∙ c.lines.ensures.count in
    let marked : AreMarks net [] ends marks =
    marks_after net [] c.in_ok-over_none.over_none c.in_ok-over_none.ensures ends marks c.find_back.new.found c.marks-near.ensures.places
    (c.find_back.ensures.room ∙ room) c.marks-near.ensures.exactly c.find_back.ensures.exactly in
    let more = c.marks.result.now in
    let all : List LineId = c.as_slice-2.result.now in
    let are : all ≡ ends ++ lines_of (inner links marks) = c.as_slice-2.ensures.value ∙ c.in_ok-all_ends.ensures
    ∙ ap (λ (ls : LinkList). ends ++ lines_of ls) (c.as_slice.ensures.value ∙ c.in_ok-inner.ensures) in
    let marked_more : AreMarks net [] all more =
    marks_after net [] c.in_ok-over_none.over_none c.in_ok-over_none.ensures all more c.find_back-2.new.found c.marks.ensures.places
    (c.find_back-2.ensures.room ∙ c.find_back.ensures.room ∙ room) c.marks.ensures.exactly c.find_back-2.ensures.exactly in
    let inside = flags_after more c.sources-sources.result (source_count net) c.sources-sources.ensures.count c.in_ok-inside.inside.items
    c.in_ok-inside.ensures.items in
    subst (λ (flags : List Bool). AreNearGates net links (Some (told_ends ends true)) flags c.in_ok-inner.inner.items) (sym inside)
    (subst (λ (ls : LinkList). AreNearGates net links (Some (told_ends ends true)) (drop (source_count net) more) ls) (sym c.in_ok-inner.ensures)
    (near_told net links c.requires.of ends c.sources-sources.ensures.circuit marks marked more
    (subst (λ (lines : List LineId). AreMarks net [] lines more) are marked_more)))

pub returns-clause-lines : goal.returns-clause-lines
returns-clause-lines c =
    let net = c.args.net.now in let links = c.args.links.now in let ends = c.args.ends.now in let marks = c.marks-near.result.now in
    let room = ap (λ (f : FoundSet). f.room) c.in_ok-found.ensures ∙ c.lines.ensures.count in
    let marked : AreMarks net [] ends marks =
    marks_after net [] c.in_ok-over_none.over_none c.in_ok-over_none.ensures ends marks c.find_back.new.found c.marks-near.ensures.places
    (c.find_back.ensures.room ∙ room) c.marks-near.ensures.exactly c.find_back.ensures.exactly in
    flagged_told net links (told_ends ends true) marks marked c.in_ok-told.told.items
    (subst (λ (ls : LinkList). AreFlagged (source_count net) ls marks c.in_ok-told.told.items) c.in_ok-behind.ensures c.in_ok-told.ensures)
