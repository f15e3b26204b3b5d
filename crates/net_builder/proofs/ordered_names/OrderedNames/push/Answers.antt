-- The name is found at its place, and the others at theirs.
use Rattle.std.proofs.Common.{◌≡◌, ◌∷◌, ◌++◌, [], ℕ, length, position, Some, None, sym, subst, ap, ◌∙◌, arith}
use Rattle.std.specs.BTreeMap.{Updates}
use Rattle.std.specs.Global.{Vec}
use Rattle.std.specs.Str.{bytes_eq}
use Rattle.std.proofs.lemmas.List.{map_push}
use Rattle.net_builder.specs.KeyNames.{key_names}
use Rattle.net_builder.proofs.FoundByOrder.{by_text, found_more}
use Rattle.net_builder.proofs.Looking.{names_of_keys}
use Rattle.net_builder.proofs.ordered_names.OrderedNames.push.Goals as goal

pub invariant_of-self-2 : goal.invariant_of-self-2
invariant_of-self-2 c =
    let before = c.self.inside.names.items in
    let key = c.in_ok-key.key in
    let place : c.len.result ≡ length (key_names before) =
    omega (arith, c.len.ensures, c.reserve.new.self.ok.0, ap length c.reserve.ensures.items, names_of_keys before) in
    let put = subst (λ (n : ℕ). Updates by_text c.self.inside.places c.insert.new.self key (Some n)) place c.in_ok-insert.ensures.updates in
    let is : key.items ≡ c.args.name.now = c.in_ok-key.ensures.items in
    let seen : key_names before ≡ c.args.self.now = c.self.view_is in
    let fresh : position (bytes_eq key.items) (key_names before) ≡ None =
    (λ i. position (bytes_eq (is i)) (seen i)) ∙ c.requires in
    let after : key_names before ++ key.items ∷ [] ≡ key_names c.push_reserved.new.self.items =
    (λ i. key_names (sym c.reserve.ensures.items i) ++ (is ∙ sym c.in_ok-text.ensures.items) i ∷ [])
    ∙ sym (map_push (λ (v : Vec ℕ). v.items) c.reserve.new.self.items c.in_ok-text.text)
    ∙ ap key_names (sym c.push_reserved.ensures.items) in
    λ name. found_more (key_names before) c.self.inside.places c.insert.new.self key put fresh c.self.invariant name
    ∙ ap (position (bytes_eq name)) after
