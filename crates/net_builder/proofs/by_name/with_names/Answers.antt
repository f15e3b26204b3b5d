-- One line more.
use Rattle.std.proofs.Common.{◌≡◌, List, suc, ◌+◌, ◌++◌, [], ◌∷◌, map, sym, ap, subst, ◌∙◌, arith}
use Rattle.std.specs.List.{All, range_with_len}
use Rattle.std.proofs.lemmas.List.{map_push}
use Rattle.std.proofs.lemmas.List.Elements.{All-append, All-cons}
use Rattle.net_builder.specs.NameOrder.{IsNamed}
use Rattle.net_builder.proofs.NameSort.{Entry, numbers_more}
use Rattle.net_builder.proofs.by_name.with_names.Goals as goal

pub loop-line-preserved : goal.loop-line-preserved
loop-line-preserved c =
    let names = c.args.names.now in
    let line = c.loop-line.line in
    let named = c.loop-line.named.items in
    let entry : Entry = (c.first_bytes.result, c.list-name.result, line) in
    let next : suc line ≡ line + 1 = omega arith in
    let last : 0 + line ≡ line = omega arith in
    let is : IsNamed names entry = record { first = c.first_bytes.ensures; name = c.list-name.ensures } in
    record {
      names =
          subst (All (IsNamed names)) (sym {A = List Entry} c.in_ok-push.ensures.items)
          (All-append (IsNamed names) named (entry ∷ []) c.loop-line.invariant.names
          (All-cons (IsNamed names) entry [] is (λ k d within. absurd (omega arith))));
      lines =
          ap (map (λ (e : Entry). e.2)) c.in_ok-push.ensures.items
          ∙ map_push (λ (e : Entry). e.2) named entry
          ∙ ap (λ numbers. numbers ++ line ∷ []) c.loop-line.invariant.lines
          ∙ ap (λ n. range_with_len 0 line ++ n ∷ []) (sym last)
          ∙ sym (numbers_more 0 line)
          ∙ ap (range_with_len 0) next;
    }
