-- The bound at which a list begins counts the items before it.
use Rattle.std.proofs.Common.{◌<◌, length, take, sum_by, sym, ap, ◌∙◌, arith}
use Rattle.std.proofs.lemmas.Grind.{get_or_default_zero}
use Rattle.pd_base.proofs.ListBounds.{lists_count, first_place}
use Rattle.pd_base.proofs.flat_lists.FlatLists.first_place.Goals as goal

pub index-requires : goal.index-requires
index-requires g c =
    let bounds = c.self.inside.bounds.items in
    omega (arith, c.requires, lists_count c.self.inside.items.items bounds c.self.invariant, ap length c.self.view_is)

pub returns : goal.returns
returns g c =
    let bounds = c.self.inside.bounds.items in
    let count = lists_count c.self.inside.items.items bounds c.self.invariant in
    let within : c.args.at < length bounds = omega (arith, c.requires, count, ap length c.self.view_is) in
    c.index.ensures ∙ get_or_default_zero bounds c.args.at c.index.result.now within
    ∙ sym (first_place c.self.inside.items.items bounds c.args.at c.self.invariant within)
    ∙ ap (λ lists. sum_by length (take c.args.at lists)) c.self.view_is
