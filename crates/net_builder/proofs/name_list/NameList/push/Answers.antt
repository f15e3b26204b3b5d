-- The name stands last, and its end is that of the text.
use Rattle.std.proofs.Common.{◌≡◌, rules, ap, sym, subst, ◌∙◌, ◌++◌, [], ◌∷◌, length, arith}
use Rattle.std.proofs.lemmas.List.{length-append}
use Rattle.net_builder.specs.NameLists.{Reach, parts}
use Rattle.net_builder.proofs.NameParts.{parts_pushed, reach_pushed}
use Rattle.net_builder.proofs.name_list.NameList.push.Goals as goal

pub invariant_of-self-2 : goal.invariant_of-self-2
invariant_of-self-2 c =
    let text = c.self.inside.text.items in
    let longer : c.extend_from_slice.new.self.items ≡ text ++ c.args.name.now = search rules in
    let put : c.push.new.self.items ≡ c.self.inside.ends.items ++ length c.extend_from_slice.new.self.items ∷ [] = search rules in
    subst (λ ends. Reach 0 ends (length c.extend_from_slice.new.self.items)) (sym put)
    (reach_pushed 0 c.self.inside.ends.items (length text) _ c.self.invariant
    (omega (arith, ap length longer, length-append text c.args.name.now)))

pub returns-clause-pushed : goal.returns-clause-pushed
returns-clause-pushed c =
    let text = c.self.inside.text.items in
    let longer : c.extend_from_slice.new.self.items ≡ text ++ c.args.name.now = search rules in
    let put : c.push.new.self.items ≡ c.self.inside.ends.items ++ length c.extend_from_slice.new.self.items ∷ [] = search rules in
    (λ i. parts (longer i) 0 (put i))
    ∙ parts_pushed text c.args.name.now 0 c.self.inside.ends.items _ c.self.invariant (ap length longer)
    ∙ ap (λ names. names ++ c.args.name.now ∷ []) c.self.view_is
