-- One path more.
use Rattle.std.proofs.Common.{List, ◌++◌, [], ◌∷◌, length, map, Some, refl, sym, ap, subst, ◌∙◌, arith}
use Rattle.std.specs.List.{All}
use Rattle.std.proofs.lemmas.List.{map_push}
use Rattle.std.proofs.lemmas.List.Elements.{All-push}
use Rattle.std.proofs.lemmas.Option.{slice_get_read}
use Rattle.prefix_sensitize.specs.PathOrder.{IsEntry}
use Rattle.prefix_sensitize.proofs.PathOrderEntries.{Entry, rows_more}
use Rattle.prefix_sensitize.proofs.path_tree.with_rows.Goals as goal

pub loop-row-preserved : goal.loop-row-preserved
loop-row-preserved c =
    let routes = c.args.paths.now in
    let row = c.loop-row.row in
    let entries = c.loop-row.entries.items in
    let entry : Entry = (c.source.result, c.steps.result, row) in
    let is : IsEntry routes entry =
    record {
      is_listed =
          slice_get_read routes (length routes) row c.index-paths-row.result refl (omega arith) c.index-paths-row.is
          ∙ ap Some (λ i. record { source = sym c.source.ensures i; steps = sym c.steps.ensures i });
    } in
    record {
      entries =
          subst (All (IsEntry routes)) (sym {A = List Entry} c.in_ok-push.ensures.items)
          (All-push (IsEntry routes) entries entry c.loop-row.invariant.entries is);
      rows =
          ap (map (λ (e : Entry). e.2)) c.in_ok-push.ensures.items
          ∙ map_push (λ (e : Entry). e.2) entries entry
          ∙ ap (λ rows. rows ++ row ∷ []) c.loop-row.invariant.rows
          ∙ sym (rows_more row);
    }
