-- The line has its mark already, or it gets one.
use Rattle.std.proofs.Common.{◌<◌, false, true, length, sym, ◌∙◌, subst, arith}
use Rattle.std.proofs.lemmas.List.{get_or_read}
use Rattle.std.proofs.Math.ListN.{set}
use Rattle.pd_base.specs.declared.ids.LineId.{LineId}
use Rattle.std.specs.Prelude.{ℕ, List, ◌∷◌, [], vec_capacity}
use Rattle.cones.specs.FoundLines.{FoundSet, AreMarked, FindsMore}
use Rattle.cones.proofs.Finding.{already, has_room, added, finds}
use Rattle.cones.proofs.found_lines.FoundLines.add.Goals as goal

pub returns-then-index : goal.returns-then-index
returns-then-index c = let i = c.self.inside in
    let inside : c.args.line.0 < length i.marks.items = subst (λ (f : FoundSet). c.args.line.0 < f.room) (sym c.self.view_is) c.requires in
    subst (λ (f : FoundSet). FindsMore (c.args.line ∷ []) f f) c.self.view_is
    (already i.marks.items i.lines.items _ c.self.invariant c.args.line inside
    (sym (get_or_read i.marks.items c.args.line.0 c.index.result.now inside c.index.ensures false) ∙ c.if-index.true))

pub push_reserved-requires : goal.push_reserved-requires
push_reserved-requires c = let i = c.self.inside in
    let inside : c.args.line.0 < length i.marks.items = subst (λ (f : FoundSet). c.args.line.0 < f.room) (sym c.self.view_is) c.requires in
    omega (
      arith,
      i.lines.ok.0,
      has_room i.marks.items i.lines.items (vec_capacity i.lines) c.self.invariant c.args.line inside
          (sym (get_or_read i.marks.items c.args.line.0 c.index.result.now inside c.index.ensures false) ∙ c.if-index.false),
    )

pub invariant_of-self : goal.invariant_of-self
invariant_of-self c = let i = c.self.inside in
    let inside : c.args.line.0 < length i.marks.items = subst (λ (f : FoundSet). c.args.line.0 < f.room) (sym c.self.view_is) c.requires in
    subst (λ (room : ℕ). AreMarked (set i.marks.items c.args.line.0 true) c.push_reserved.new.self.items room) (sym c.push_reserved.ensures.capacity)
    (subst (λ (lines : List LineId). AreMarked (set i.marks.items c.args.line.0 true) lines (vec_capacity i.lines)) (sym c.push_reserved.ensures.items)
    (added i.marks.items i.lines.items (vec_capacity i.lines) c.self.invariant c.args.line inside
    (sym (get_or_read i.marks.items c.args.line.0 c.index.result.now inside c.index.ensures false) ∙ c.if-index.false)))

pub returns : goal.returns
returns c = let i = c.self.inside in
    let inside : c.args.line.0 < length i.marks.items = subst (λ (f : FoundSet). c.args.line.0 < f.room) (sym c.self.view_is) c.requires in
    subst (λ (f : FoundSet). FindsMore (c.args.line ∷ []) f (record { room = length (set i.marks.items c.args.line.0 true); lines = c.push_reserved.new.self.items }))
    c.self.view_is
    (subst (λ (lines : List LineId). FindsMore (c.args.line ∷ []) (record { room = length i.marks.items; lines = i.lines.items })
    (record { room = length (set i.marks.items c.args.line.0 true); lines = lines })) (sym c.push_reserved.ensures.items)
    (finds i.marks.items i.lines.items (vec_capacity i.lines) c.self.invariant c.args.line inside
    (sym (get_or_read i.marks.items c.args.line.0 c.index.result.now inside c.index.ensures false) ∙ c.if-index.false)))
