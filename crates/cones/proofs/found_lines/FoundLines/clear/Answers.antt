-- All marks are those of the lines that were found, and these lose theirs.
use Rattle.std.proofs.Common.{◌<◌, List, length, sym, subst, ap, ap₂, ◌∙◌, arith}
use Rattle.std.proofs.lemmas.List.{with_items_is}
use Rattle.std.specs.List.{All, Contains}
use Rattle.std.specs.Prelude.{ℕ, Bool, vec_capacity}
use Rattle.pd_base.specs.declared.ids.LineId.{LineId}
use Rattle.cones.specs.FoundLines.{FoundSet, HasMark, AreMarked}
use Rattle.cones.proofs.Finding.{found_inside, cleared}
use Rattle.cones.proofs.found_lines.FoundLines.clear.Goals as goal

pub clear_marks-requires-clause-places : goal.clear_marks-requires-clause-places
clear_marks-requires-clause-places c = let i = c.self.inside in
    subst (λ (marks : List Bool). All (λ (line : LineId). line.0 < length marks) c.as_slice.result.now) (sym c.as_mut_slice.ensures.value)
    (subst (λ (lines : List LineId). All (λ (line : LineId). line.0 < length i.marks.items) lines) (sym c.as_slice.ensures.value)
    (found_inside i.marks.items i.lines.items (vec_capacity i.lines) c.self.invariant))

pub clear_marks-requires-clause-all : goal.clear_marks-requires-clause-all
clear_marks-requires-clause-all c = let i = c.self.inside in
    subst (λ (marks : List Bool). (line : ℕ) → HasMark marks line → Contains c.as_slice.result.now (record { 0 = line })) (sym c.as_mut_slice.ensures.value)
    (subst (λ (lines : List LineId). (line : ℕ) → HasMark i.marks.items line → Contains lines (record { 0 = line })) (sym c.as_slice.ensures.value)
    (λ line. (c.self.invariant.exactly line).0))

pub invariant_of-self : goal.invariant_of-self
invariant_of-self c = let i = c.self.inside in
    let long = c.clear_marks.ensures.places ∙ ap length c.as_mut_slice.ensures.value ∙ sym i.marks.ok.0 in
    let kept = with_items_is i.marks c.clear_marks.new.marks long in
    subst (λ (marks : List Bool). AreMarked marks c.clear.new.self.items (vec_capacity c.clear.new.self)) (sym kept)
    (subst (λ (lines : List LineId). AreMarked c.clear_marks.new.marks lines (vec_capacity c.clear.new.self)) (sym c.clear.ensures.items)
    (cleared i.marks.items i.lines.items (vec_capacity i.lines) c.self.invariant c.clear_marks.new.marks
    (c.clear_marks.ensures.places ∙ ap length c.as_mut_slice.ensures.value) c.clear_marks.ensures.none (vec_capacity c.clear.new.self)
    (omega (arith, c.clear.ensures.capacity, c.self.invariant.enough))))

pub returns : goal.returns
returns c = let i = c.self.inside in
    let long = c.clear_marks.ensures.places ∙ ap length c.as_mut_slice.ensures.value ∙ sym i.marks.ok.0 in
    let kept = with_items_is i.marks c.clear_marks.new.marks long in
    let made : ℕ → List LineId → FoundSet = λ room lines. record { room = room; lines = lines } in
    ap₂ made
    (ap length kept ∙ c.clear_marks.ensures.places ∙ ap length c.as_mut_slice.ensures.value ∙ ap (λ (f : FoundSet). f.room) c.self.view_is)
    c.clear.ensures.items
