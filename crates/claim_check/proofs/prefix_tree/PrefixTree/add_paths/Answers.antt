-- Path by path.
use Rattle.std.proofs.Common.{◌≡◌, ◌+◌, ◌≤◌, ℕ, List, [], ◌∷◌, ◌++◌, length, take, sym, ap, subst, ◌∙◌, arith}
use Rattle.std.specs.Prelude.{sum_by}
use Rattle.std.proofs.lemmas.List.{take_all, take_more}
use Rattle.netlist.specs.declared.limits.TheConstants.{MOST_LEVELS}
use Rattle.pd_base.specs.Route.{Route}
use Rattle.claim_check.specs.declared.prefix_tree.Prefix.{Prefix}
use Rattle.claim_check.specs.Prefixes.{Nodes}
use Rattle.claim_check.specs.PrefixNodes.{IsTreeOf}
use Rattle.claim_check.proofs.GrowingTree.{no_tree, tree_nodes}
use Rattle.claim_check.proofs.prefix_tree.PrefixTree.add_paths.Goals as goal

pub loop-path-preserved : goal.loop-path-preserved
loop-path-preserved c =
    let paths = c.args.paths.now in
    let at = c.loop-path.path-index in
    let path = c.path-item.result in
    let more : take (at + 1) paths ≡ take at paths ++ path ∷ [] =
    take_more paths at path c.loop-path-test.true ∙ ap (λ (p : Route). take at paths ++ p ∷ []) (sym c.path-item.is) in
    let P : List Route → Type 0 = λ routes. IsTreeOf routes c.add_path.new.prefixes.keys c.add_path.new.self in
    let short = c.requires.short at path c.loop-path-test.true in
    let Q : Route → Type 0 = λ route. length route.steps ≤ MOST_LEVELS in
    let few = subst Q (sym c.path-item.is) short in
    let sums = c.in_ok-add_path.ensures.room in
    let room = c.loop-path.invariant.room in
    record {
      tree = subst P (sym more) (c.in_ok-add_path.ensures.tree (take at paths) c.loop-path.invariant.tree);
      room = omega arith;
      few = c.in_ok-add_path.ensures.few;
    }

pub returns : goal.returns
returns c =
    let paths = c.args.paths.now in
    let P : List Route → Type 0 = λ routes. IsTreeOf routes c.loop-path.prefixes.keys c.loop-path.self in
    tree_nodes paths c.loop-path.prefixes.keys c.loop-path.self
    (subst P (take_all c.loop-path.path-index paths c.loop-path-test.false) c.loop-path.invariant.tree)

pub loop-path-init : goal.loop-path-init
loop-path-init c =
    let nodes : Nodes = c.args.self.now in
    let rows = ap (λ (n : Nodes). n.rows) c.requires.none in
    let keys = c.new-prefixes.ensures.empty in
    let P : List Prefix → Type 0 = λ prefixes. IsTreeOf [] prefixes nodes in
    let sums = ap (sum_by (length {A = ℕ})) rows in
    let long = ap length keys in
    record {
      tree = subst P (sym keys) (no_tree nodes rows (ap (λ (n : Nodes). n.before) c.requires.none) (ap (λ (n : Nodes). n.count) c.requires.none));
      room = omega arith;
      few = omega arith;
    }
