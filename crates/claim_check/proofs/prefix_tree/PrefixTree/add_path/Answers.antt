-- A path more.
use Rattle.std.proofs.Common.{◌≡◌, ℕ, List, [], ◌∷◌, ◌++◌, length, ap, ◌∙◌}
use Rattle.claim_check.specs.Prefixes.{Nodes}
use Rattle.claim_check.proofs.GrowingTree.{tree_more}
use Rattle.claim_check.proofs.prefix_tree.PrefixTree.add_path.Goals as goal

pub returns-clause-tree : goal.returns-clause-tree
returns-clause-tree c = λ routes tree.
    let new : Nodes = record { rows = c.push-2.new.self; before = c.push.new.self.items; count = c.len.result } in
    let old = c.args.self.now in
    let keys = c.args.prefixes.now.keys in
    let is = c.self.view_is in
    let row = c.in_ok-nodes.nodes.items in
    let rows : c.push-2.new.self ≡ old.rows ++ row ∷ [] =
    c.in_ok-push-2.ensures.ok ∙ ap (λ (nodes : Nodes). nodes.rows ++ c.as_slice.result.now ∷ []) is
    ∙ ap (λ (list : List ℕ). old.rows ++ list ∷ []) c.as_slice.ensures.value in
    let before : c.push.new.self.items ≡ old.before ++ length keys ∷ [] =
    c.in_ok-push.ensures.items ∙ ap (λ (nodes : Nodes). nodes.before ++ c.len-before.result ∷ []) is
    ∙ ap (λ (n : ℕ). old.before ++ n ∷ []) c.len-before.ensures.len in
    tree_more routes c.args.path.now keys c.nodes_of.new.prefixes.keys old new row tree c.in_ok-nodes.ensures.nodes c.in_ok-nodes.ensures.put rows
    before c.len.ensures.len
