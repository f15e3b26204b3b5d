-- The tree of prefixes while paths are added, and what it tells of prefixes.
use Rattle.std.proofs.Common.{◌≡◌, ⊎_elim, ℕ, ◌+◌, ◌<◌, ◌≤◌, ◌↔◌, List, [], ◌∷◌, ◌++◌, length, get_or, sym, ap, subst, ◌∙◌, arith}
use Rattle.std.specs.Prelude.{Contains, slice_get, Some}
use Rattle.std.proofs.lemmas.Bool.{cases_lt}
use Rattle.std.proofs.lemmas.List.{get_or_append_left, get_or_push, length_push}
use Rattle.std.proofs.lemmas.Grind.{get_or_default_zero}
use Rattle.std.proofs.lemmas.Option.{slice_get_within}
use Rattle.pd_base.specs.Route.{Route}
use Rattle.netlist.specs.Paths.{prefix_of}
use Rattle.good_runs.proofs.Numbers.{get_at, get_kept, get_of_push}
use Rattle.claim_check.specs.declared.prefix_tree.Prefix.{Prefix}
use Rattle.claim_check.specs.Prefixes.{AreTreeNodes, HasPrefixInRow, Nodes, node_at}
use Rattle.claim_check.specs.PrefixNodes.{AreNodesBefore, AreNodesOf, ArePut, IsNodeBefore, IsPrefixNode, IsTreeOf}
use Rattle.claim_check.proofs.PuttingPrefixes.{node_inside, node_kept, node_of_prefix, prefix_of_node, same_length}

-- no paths yet
pub no_tree : (nodes : Nodes) → nodes.rows ≡ [] → nodes.before ≡ [] → nodes.count ≡ 0 → IsTreeOf [] [] nodes
no_tree nodes rows before count = record {
  rows_each = ap length rows;
  before_each = ap length before;
  count = count;
  once = λ node other prefix is. let less = slice_get_within [] node prefix is in absurd (omega arith);
  own = λ row path is. let less = slice_get_within [] row path is in absurd (omega arith);
  before = λ row less. absurd (omega arith);
  all = λ node. (λ less. absurd (omega arith), λ is. let less = is.earlier in absurd (omega arith));
}

-- a path more
module _ (routes : List Route) (path : Route) (old_prefixes new_prefixes : List Prefix) (old new : Nodes) (row : List ℕ)
    (tree : IsTreeOf routes old_prefixes old) (own : AreNodesOf new_prefixes path row) (put : ArePut old_prefixes new_prefixes row)
    (rows : new.rows ≡ old.rows ++ row ∷ []) (before : new.before ≡ old.before ++ length old_prefixes ∷ [])
    (count : new.count ≡ length new_prefixes) where
  abbrev longer : List Route
  longer = routes ++ path ∷ []

  longer_count : length longer ≡ length routes + 1
  longer_count = length_push routes path

  old_row : (place : ℕ) → place < length routes → get_or new.rows place [] ≡ get_or old.rows place []
  old_row place within =
      ap (λ (lists : List (List ℕ)). get_or lists place []) rows
      ∙ get_or_append_left old.rows (row ∷ []) [] place (let each = tree.rows_each in omega arith)

  new_row : get_or new.rows (length routes) [] ≡ row
  new_row =
      ap (λ (lists : List (List ℕ)). get_or lists (length routes) []) rows ∙ get_or_push old.rows row [] (length routes) tree.rows_each

  old_before : (place : ℕ) → place < length routes → get_or new.before place 0 ≡ get_or old.before place 0
  old_before place within =
      ap (λ (numbers : List ℕ). get_or numbers place 0) before
      ∙ get_or_append_left old.before (length old_prefixes ∷ []) 0 place (let each = tree.before_each in omega arith)

  new_before : get_or new.before (length routes) 0 ≡ length old_prefixes
  new_before =
      ap (λ (numbers : List ℕ). get_or numbers (length routes) 0) before
      ∙ get_or_push old.before (length old_prefixes) 0 (length routes) tree.before_each

  -- the nodes of the paths before a row stay
  kept_before : (place bound : ℕ) → place ≤ length routes → AreNodesBefore routes old place bound → AreNodesBefore longer new place bound
  kept_before place bound few are node = (
    λ less.
        let is = (are node).0 less in
        let earlier = is.earlier in
        record {
          other = is.other;
          earlier = earlier;
          path = is.path;
          is_listed = get_kept routes (path ∷ []) is.other is.path is.is_listed;
          steps = is.steps;
          within = is.within;
          is_node = ap (λ (list : List ℕ). get_or list is.steps 0) (old_row is.other (omega arith)) ∙ is.is_node;
        },
    λ is.
        let earlier = is.earlier in
        (are node).1
        (record {
          other = is.other;
          earlier = earlier;
          path = is.path;
          is_listed = ⊎_elim (λ (there : slice_get routes is.other ≡ Some is.path). there)
              (λ (here : (is.other ≡ length routes) × (path ≡ is.path)). let at = here.0 in absurd (omega arith))
              (get_of_push routes path is.path is.other is.is_listed);
          steps = is.steps;
          within = is.within;
          is_node = ap (λ (list : List ℕ). get_or list is.steps 0) (sym (old_row is.other (omega arith))) ∙ is.is_node;
        }),
  )

  old_own : (place : ℕ) (route : Route) → slice_get routes place ≡ Some route → AreNodesOf new_prefixes route (get_or new.rows place [])
  old_own place route is =
      let has = tree.own place route is in
      let within = slice_get_within routes place route is in
      let kept : AreNodesOf new_prefixes route (get_or old.rows place []) = record {
        one_each = has.one_each;
        each = λ steps few.
            subst (λ (list : List Prefix). IsPrefixNode list route steps (get_or (get_or old.rows place []) steps 0)) (sym put.puts)
            (node_kept old_prefixes put.more route steps (get_or (get_or old.rows place []) steps 0) (has.each steps few));
      } in
      subst (AreNodesOf new_prefixes route) (sym (old_row place within)) kept

  more_own : (place : ℕ) (route : Route) → slice_get longer place ≡ Some route → AreNodesOf new_prefixes route (get_or new.rows place [])
  more_own place route is =
      ⊎_elim (λ (there : slice_get routes place ≡ Some route). old_own place route there)
      (λ (here : (place ≡ length routes) × (path ≡ route)).
      let P : ℕ → Type 0 = λ k. AreNodesOf new_prefixes route (get_or new.rows k []) in
      let Q : Route → Type 0 = λ r. AreNodesOf new_prefixes r (get_or new.rows (length routes) []) in
      subst P (sym here.0) (subst Q here.1 (subst (AreNodesOf new_prefixes path) (sym new_row) own)))
      (get_of_push routes path route place is)

  more_before : (place : ℕ) → place < length longer → AreNodesBefore longer new place (get_or new.before place 0)
  more_before place within =
      ⊎_elim
      (λ (less : place < length routes).
      subst (AreNodesBefore longer new place) (sym (old_before place less))
      (kept_before place (get_or old.before place 0) (omega arith) (tree.before place less)))
      (λ (most : length routes ≤ place).
      let many = longer_count in
      let here : length routes ≡ place = omega arith in
      subst (λ (k : ℕ). AreNodesBefore longer new k (get_or new.before k 0)) here
      (subst (AreNodesBefore longer new (length routes)) (sym new_before)
      (kept_before (length routes) (length old_prefixes) (omega arith) tree.all)))
      (cases_lt place (length routes))

  -- a node of the new path
  of_new : (node : ℕ) → Contains row node → IsNodeBefore longer new (length longer) node
  of_new node has =
      let each = own.one_each in
      let inside = has.1 in
      record {
        other = length routes;
        earlier = let many = longer_count in omega arith;
        path = path;
        is_listed = get_at routes path [];
        steps = has.0;
        within = omega arith;
        is_node = ap (λ (list : List ℕ). get_or list has.0 0) new_row
            ∙ sym (get_or_default_zero row has.0 node inside) ∙ has.2;
      }

  more_all : AreNodesBefore longer new (length longer) (length new_prefixes)
  more_all node = (
    λ within.
        ⊎_elim
        (λ (less : node < length old_prefixes).
        let is = ((kept_before (length routes) (length old_prefixes) (omega arith) tree.all) node).0 less in
        let earlier = is.earlier in
        let many = longer_count in
        record {
          other = is.other;
          earlier = omega arith;
          path = is.path;
          is_listed = is.is_listed;
          steps = is.steps;
          within = is.within;
          is_node = is.is_node;
        })
        (λ (past : length old_prefixes ≤ node). of_new node (put.all node past within)) (cases_lt node (length old_prefixes)),
    λ is.
        let at = (more_own is.other is.path is.is_listed).each is.steps is.within in
        subst (λ (n : ℕ). n < length new_prefixes) is.is_node
        (node_inside new_prefixes is.path is.steps (node_at new is.other is.steps) at),
  )

  pub tree_more : IsTreeOf longer new_prefixes new
  tree_more = record {
    rows_each = ap length rows ∙ length_push old.rows row ∙ ap (λ (n : ℕ). n + 1) tree.rows_each ∙ sym longer_count;
    before_each = ap length before ∙ length_push old.before (length old_prefixes) ∙ ap (λ (n : ℕ). n + 1) tree.before_each ∙ sym longer_count;
    count = count;
    once = put.once tree.once;
    own = more_own;
    before = more_before;
    all = more_all;
  }

-- what the tree tells of prefixes
module _ (routes : List Route) (prefixes : List Prefix) (nodes : Nodes) (tree : IsTreeOf routes prefixes nodes) where
  node_of : (row steps : ℕ) (path : Route) → slice_get routes row ≡ Some path → steps ≤ length path.steps
      → IsPrefixNode prefixes path steps (node_at nodes row steps)
  node_of row steps path is within = (tree.own row path is).each steps within

  exact : (row other steps more : ℕ) (p q : Route) → slice_get routes row ≡ Some p → slice_get routes other ≡ Some q
      → steps ≤ length p.steps → more ≤ length q.steps
      → (node_at nodes row steps ≡ node_at nodes other more) ↔ (prefix_of steps p ≡ prefix_of more q)
  exact row other steps more p q at_p at_q in_p in_q =
      let own = node_of row steps p at_p in_p in
      let its = node_of other more q at_q in_q in (
        λ same.
            prefix_of_node prefixes p q steps more (node_at nodes other more)
            (subst (IsPrefixNode prefixes p steps) same own) its,
        λ same.
            node_of_prefix prefixes tree.once p q steps more (node_at nodes row steps) (node_at nodes other more) in_p in_q own its same,
      )

  is_earlier : (row steps : ℕ) (path : Route) → slice_get routes row ≡ Some path → steps ≤ length path.steps
      → (node_at nodes row steps < get_or nodes.before row 0) ↔ ((other : ℕ) × (other < row) × HasPrefixInRow routes other steps path)
  is_earlier row steps path is within =
      let inside = slice_get_within routes row path is in
      let are = (tree.before row inside) (node_at nodes row steps) in (
        λ less.
            let has = are.0 less in
            let same = (exact has.other row has.steps steps has.path path has.is_listed is has.within within).0 has.is_node in
            let long = same_length has.path path has.steps steps has.within within same in
            let P : ℕ → Type 0 = λ k. k ≤ length has.path.steps in
            let Q : ℕ → Type 0 = λ k. prefix_of k has.path ≡ prefix_of steps path in (
              has.other,
              has.earlier,
              record { other = has.path; is_listed = has.is_listed; long = subst P long has.within; same = subst Q long same },
            ),
        λ has.
            let its = has.2 in
            are.1
            (record {
              other = has.0;
              earlier = has.1;
              path = its.other;
              is_listed = its.is_listed;
              steps = steps;
              within = its.long;
              is_node = (exact has.0 row steps steps its.other path its.is_listed is its.long within).1 its.same;
            }),
      )

  pub tree_nodes : AreTreeNodes routes nodes
  tree_nodes = record {
    rows_each = tree.rows_each;
    before_each = tree.before_each;
    long = λ row path is. (tree.own row path is).one_each;
    within = λ row steps path is within.
        let less = node_inside prefixes path steps (node_at nodes row steps) (node_of row steps path is within) in
        let same = tree.count in
        omega arith;
    exactly = exact;
    earlier = is_earlier;
  }
