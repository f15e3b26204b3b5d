-- The names are sorted, so the lines stand in the order of their names.
use Rattle.std.proofs.Common.{◌≡◌, sym, subst, ◌∙◌, ap}
use Rattle.std.proofs.lemmas.Result.{IfOk-weaker}
use Rattle.netlist.specs.Names.{IsByName}
use Rattle.net_builder.specs.NameOrder.{lines_in}
use Rattle.net_builder.proofs.NameSort.{by_name}
use Rattle.net_builder.proofs.by_name.lines_by_name.Goals as goal

pub returns : goal.returns
returns c =
    let names = c.args.names.now in
    let ranked = c.sort_unstable.new.self.items in
    let sorted = by_name names c.requires.names c.in_ok-named.named.items c.in_ok-named.ensures.names c.in_ok-named.ensures.lines
    ranked c.sort_unstable.ensures.permutation c.sort_unstable.ensures.sorted in
    IfOk-weaker c.without_names.result (λ lines. lines.items ≡ lines_in c.as_slice.result.now)
    (λ lines. IsByName names lines.items)
    (λ lines is. subst (IsByName names) (sym (is ∙ ap lines_in c.as_slice.ensures.value)) sorted)
    c.without_names.ensures
