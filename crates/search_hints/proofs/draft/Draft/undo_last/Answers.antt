-- The last change was on a line that has a label, which is written back.
use Rattle.std.proofs.Common.{length, ◌∙◌, arith}
use Rattle.search_hints.proofs.Noted.{as_many, last_within, one_less}
use Rattle.search_hints.proofs.draft.Draft.undo_last.Goals as goal

pub index_mut-requires : goal.index_mut-requires
index_mut-requires c =
    let i = c.self.inside in
    let within = last_within i.labels.items c.pop.new.self.items i.changes.items c.in-Some.change c.in-Some.change.old c.in-Some.ensures.items
    c.self.invariant in
    omega (arith, within, i.labels.ok.0)

pub invariant_of-self : goal.invariant_of-self
invariant_of-self c =
    let i = c.self.inside in
    one_less i.labels.items c.pop.new.self.items i.changes.items c.in-Some.change c.in-Some.change.old c.in-Some.ensures.items c.self.invariant

pub returns-in-Some : goal.returns-in-Some
returns-in-Some c =
    let i = c.self.inside in
    as_many i.labels.items (length i.waiting.inside) c.in-Some.change.line.0 c.in-Some.change.old ∙ c.self.view_is
