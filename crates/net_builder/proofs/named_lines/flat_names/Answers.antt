-- One name more: all of them are short.
use Rattle.std.proofs.Common.{◌≡◌, ◌+◌, ◌<◌, ◌++◌, [], ◌∷◌, List, ℕ, length, take, sum_by, get_or, sym, ap, subst, ◌∙◌, arith}
use Rattle.std.specs.Global.{Vec}
use Rattle.std.proofs.lemmas.List.{map_push, take_more}
use Rattle.std.proofs.lemmas.List.Sums.{sum_by_push}
use Rattle.netlist.specs.Names.{IsName}
use Rattle.net_builder.specs.KeyNames.{key_names}
use Rattle.net_builder.proofs.Looking.{name_at_key, names_of_keys}
use Rattle.net_builder.proofs.named_lines.flat_names.Goals as goal

pub push-requires : goal.push-requires
push-requires c =
    let items = c.name_texts-name-items.result.now in
    let keys = c.name_texts-name-items.ensures in
    let i = c.loop-name.name-index in
    let within : i < length items = omega arith in
    let is = subst IsName (ap (λ l. get_or l i []) (sym keys) ∙ name_at_key items i c.name-item.result within c.name-item.is)
    (c.requires.names i [] (omega (arith, ap length keys, names_of_keys items))) in
    omega (
      arith,
      is.few_bytes,
      ap length c.as_slice.ensures.value,
      c.loop-name.invariant.few,
      ap length keys,
      names_of_keys items,
      c.requires.few,
    )

pub loop-name-preserved : goal.loop-name-preserved
loop-name-preserved c =
    let items = c.name_texts-name-items.result.now in
    let keys = c.name_texts-name-items.ensures in
    let i = c.loop-name.name-index in
    let within : i < length items = omega arith in
    let is = subst IsName (ap (λ l. get_or l i []) (sym keys) ∙ name_at_key items i c.name-item.result within c.name-item.is)
    (c.requires.names i [] (omega (arith, ap length keys, names_of_keys items))) in
    let own : List ℕ = c.name-item.result.items in
    let put : c.push.new.self ≡ c.loop-name.flat ++ own ∷ [] =
    c.in_ok-push.ensures.ok ∙ ap (λ name. c.loop-name.flat ++ name ∷ []) c.as_slice.ensures.value in
    let more : take (i + 1) items ≡ take i items ++ c.name-item.result ∷ [] =
    take_more items i c.name-item.result within ∙ ap (λ key. take i items ++ key ∷ []) (sym c.name-item.is) in
    record {
      flat =
          put ∙ ap (λ flat. flat ++ own ∷ []) c.loop-name.invariant.flat
          ∙ sym (map_push (λ (key : Vec ℕ). key.items) (take i items) c.name-item.result)
          ∙ ap key_names (sym more);
      few = omega (arith, ap (sum_by length) put, sum_by_push length c.loop-name.flat own, is.few_bytes, c.loop-name.invariant.few);
    }
