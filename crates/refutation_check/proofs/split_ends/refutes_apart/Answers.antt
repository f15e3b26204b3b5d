-- The engine is made within the end of the prefix and the lines that the tree splits.
use Rattle.std.proofs.Common.{false, List, Some, ap, ◌∙◌, subst}
use Rattle.std.specs.List.{All}
use Rattle.pd_base.specs.declared.ids.LineId.{LineId}
use Rattle.netlist.specs.Circuit.{line_count}
use Rattle.trees.specs.declared.tree.Node.{Node}
use Rattle.implication.specs.Standing.{Standing, told_ends}
use Rattle.refutation_check.specs.SplitEnds.{IsEndAt}
use Rattle.refutation_check.proofs.SplitEnds.{own_end_told, splits_told}
use Rattle.refutation_check.proofs.split_ends.refutes_apart.Goals as goal

pub refutes-told-requires-clause-told : goal.refutes-told-requires-clause-told
refutes-told-requires-clause-told g c =
    let made = c.in_ok-engine.ensures in
    own_end_told c.in_ok-engine.engine c.args.net.now c.args.rules.now c.in_ok-ends.ends.items false (ap (λ (s : Standing). s.net) made)
    (ap (λ (s : Standing). s.rules) made) (ap (λ (s : Standing). s.ends) made ∙ ap (λ (ls : List LineId). Some (told_ends ls false)) c.as_slice.ensures.value) c.args.target.now.path.now
    c.in_ok-ends.ensures.end

pub refutes-told-requires-clause-splits : goal.refutes-told-requires-clause-splits
refutes-told-requires-clause-splits g c =
    let made = c.in_ok-engine.ensures in let ends = c.in_ok-ends.ends.items in
    let P : List Node → Type 0 = λ nodes. All (IsEndAt (line_count c.args.net.now) ends) nodes in
    splits_told c.in_ok-engine.engine c.args.net.now c.args.rules.now ends false (ap (λ (s : Standing). s.net) made)
    (ap (λ (s : Standing). s.rules) made) (ap (λ (s : Standing). s.ends) made ∙ ap (λ (ls : List LineId). Some (told_ends ls false)) c.as_slice.ensures.value) c.args.tree.now
    (subst P c.nodes.ensures.nodes c.in_ok-ends.ensures.splits)
