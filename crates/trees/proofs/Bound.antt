-- A spent tree has less splits than the number of states that the rules leave a source to the power of the number of sources in the
-- support, the path's own not counted: each leaf below a node takes one of the combinations of states that the halves leave these.
use Rattle.std.proofs.Common.{◌≡◌, ◌≢◌, ℕ, zero, suc, ◌+◌, ◌-◌, ◌*◌, ◌^◌, ◌<◌, ◌≤◌, Bool, true, false, cond, ◌&&◌, ◌==◌, List, [], ◌∷◌, ◌++◌, length, refl, sym, ap, ◌∙◌, subst, arith, pow-suc, eq-eqb}
use Rattle.std.proofs.lemmas.List.Sums.{sum_by-append}
use Rattle.std.proofs.lemmas.Bool.{eqb-true, false≢true}
use Rattle.pd_base.specs.Target.{Target}
use Rattle.pd_base.specs.declared.rules.Rules.{Rules}
use Rattle.pd_base.specs.declared.rules.Rules.TheVariants.{One, Two, Linked}
use Rattle.pd_base.specs.Route.{Route}
use Rattle.pd_base.specs.declared.links.Links.{Links}
use Rattle.netlist.specs.Circuit.{Circuit, source_count}
use Rattle.netlist.specs.Paths.{IsPrefix}
use Rattle.netlist.specs.LinkedPairs.IsSupported.{in_fan_in}
use Rattle.state_sets.specs.declared.state.StateSet.{StateSet}
use Rattle.state_sets.specs.Labellings.{label_at}
use Rattle.state_sets.specs.Starts.{IsLaunching}
use Rattle.state_laws.specs.declared.split.SplitKind.{SplitKind}
use Rattle.state_laws.specs.declared.split.SplitKind.TheVariants.{LastValue, Steadiness, FirstValue}
use Rattle.state_laws.specs.declared.split.Split.{Split as CaseSplit}
use Rattle.state_laws.specs.declared.split.Half.{Half}
use Rattle.state_laws.specs.Halves.{half_of}
use Rattle.state_laws.specs.Nodes.{MayBe}
use Rattle.trees.specs.declared.tree.Node.{Node}
use Rattle.trees.specs.declared.tree.Node.TheVariants.{Split}
use Rattle.trees.specs.Trees.{Cases, preorder, is_split, split_count, IsSourceKind}
use Rattle.trees.specs.Trees.Cases.{closed, waiting, split_at}
use Rattle.state_laws.proofs.FanIns.{leads_in_fan_in}
use Rattle.trees.specs.Algebras.{algebra_of}
use Rattle.trees.specs.Refutations.{below}
use Rattle.trees.specs.Spent.{IsInSupport, IsDue, IsOpen, HasInHalf, IsSpentBelow, IsSpent}
use Rattle.trees.specs.Bounds.{AreSupport, IsBelowBound, states_of_source}
use Rattle.trees.proofs.Products.{product_by, product-pos, product_parts, product_fewer}
use Rattle.trees.proofs.Weights.{states_left, leaves_all, cut_passes, counted, other_stays, split_parts, in_half, in_half_passes, leaves_more}

-- a path's source is in its support
pub own_in_support : (c : Circuit) (rules : Rules) (path : Route) → IsPrefix c path → IsInSupport c rules path path.source.0
own_in_support c rules path prefix = record {
  is_source = prefix.source;
  supported = in_fan_in path.source.0 (leads_in_fan_in c path.source.0 path.steps prefix.connects);
}

-- how many leaves there are
abbrev pub leaf_count : Cases → ℕ
leaf_count closed = 1
leaf_count waiting = 1
leaf_count (split_at split first second) = leaf_count first + leaf_count second

-- the splits of nodes behind one another
pub splits_append : (xs ys : List Node) → split_count (xs ++ ys) ≡ split_count xs + split_count ys
splits_append xs ys = sum_by-append (λ node. cond (is_split node) 1 0) xs ys

-- there is one leaf more than splits
pub leaves_and_splits : (cases : Cases) → leaf_count cases ≡ split_count (preorder cases) + 1
leaves_and_splits closed = refl
leaves_and_splits waiting = refl
leaves_and_splits (split_at split first second) =
    let one : split_count (preorder (split_at split first second)) ≡ 1 + split_count (preorder first ++ preorder second) =
    splits_append (Split split ∷ []) (preorder first ++ preorder second) in
    omega (arith, splits_append (preorder first) (preorder second), leaves_and_splits first, leaves_and_splits second)

module _ (c : Circuit) (rules : Rules) (target : Target) where
  -- how many states the halves leave a source: one to the path's own
  abbrev pub weight_of : List Half → ℕ → ℕ
  weight_of halves source = cond (source == target.path.source.0) 1 (states_left rules halves source)

  -- a state in the hull of a half, at a node that is open, is left in that half
  half_left : (halves : List Half) (hull : List StateSet) (split : CaseSplit) (second : Bool)
      → split.line.0 < source_count c → split.line.0 ≢ target.path.source.0 → IsOpen c rules target halves hull
      → HasInHalf (algebra_of rules) (label_at hull split.line.0) split.kind second
      → 1 ≤ states_left rules (below halves split second) split.line.0
  half_left halves hull split second within apart open_here has =
      let a = algebra_of rules in
      let source = split.line.0 in
      let may : MayBe a c rules target halves source has.0 =
      open_here.is_hull.rest.among source has.0 has.1 in
      let steady = a.steady has.0 in
      let last = a.last has.0 in
      let in_it : in_half split.kind second steady last ≡ true = in_half_passes a has.0 split.kind second has.2 in
      let left : leaves_all rules halves source steady last ≡ true =
      cut_passes a has.0 rules halves source (may.start.other within apart) may.cut in
      counted (leaves_all rules (below halves split second) source) steady last
      (leaves_more rules halves (half_of split second) source steady last
      ∙ both (leaves_all rules halves source steady last) (source == source) (in_half split.kind second steady last) left in_it)
    where
      both : (a b d : Bool) → a ≡ true → d ≡ true → (a && cond b d true) ≡ true
      both a true d is_a is_d = cc
      both a false d is_a is_d = cc

  -- a due split is not on the path's own source, which has one state
  due_other : (halves : List Half) (split : CaseSplit) → IsDue c rules target halves split → split.line.0 ≢ target.path.source.0
  due_other halves split due own =
      by split.kind due.kind due.in_first due.in_second
    where
      source : ℕ
      source = split.line.0

      by : (kind : SplitKind) → IsSourceKind kind → HasInHalf (algebra_of rules) (label_at due.hull source) kind false
          → HasInHalf (algebra_of rules) (label_at due.hull source) kind true → ⊥
      by FirstValue may first second = may
      by Steadiness may first second =
          let moves : IsLaunching (algebra_of rules) target.direction first.0 =
          (due.is_open.is_hull.rest.among source first.0 first.1).start.own own in
          false≢true (sym moves.moves ∙ first.2)
      by LastValue may first second =
          let ends : IsLaunching (algebra_of rules) target.direction first.0 =
          (due.is_open.is_hull.rest.among source first.0 first.1).start.own own in
          let ends_too : IsLaunching (algebra_of rules) target.direction second.0 =
          (due.is_open.is_hull.rest.among source second.0 second.1).start.own own in
          false≢true (sym first.2 ∙ ends.ends ∙ sym ends_too.ends ∙ second.2)

  module _ (sources : List ℕ) (support : AreSupport c rules target.path sources) where
    -- the leaves of both halves together are no more than the combinations that the node leaves
    halves_fit : (halves : List Half) (split : CaseSplit) (first second : Cases)
        → IsDue c rules target halves split
        → ((s : ℕ) → 1 ≤ weight_of halves s)
        → (((s : ℕ) → 1 ≤ weight_of (below halves split false) s)
        → leaf_count first ≤ product_by (weight_of (below halves split false)) sources)
        → (((s : ℕ) → 1 ≤ weight_of (below halves split true) s)
        → leaf_count second ≤ product_by (weight_of (below halves split true)) sources)
        → leaf_count first + leaf_count second ≤ product_by (weight_of halves) sources
    halves_fit halves split first second due some below_first below_second =
        let place = (support.exactly split.line.0).1 due.in_support in
        let sum = product_parts (weight_of halves) (weight_of (below halves split false))
        (weight_of (below halves split true)) split.line.0 parts (same false) (same true) sources support.once place.0 place.1 place.2 in
        omega (arith, sum, below_first (still false due.in_first), below_second (still true due.in_second))
      where
        source : ℕ
        source = split.line.0

        here : (h : List Half) → weight_of h source ≡ states_left rules h source
        here h = by (source == target.path.source.0) (λ e. eqb-true source target.path.source.0 e)
          where
            by : (own : Bool) → (own ≡ true → source ≡ target.path.source.0)
                → cond own 1 (states_left rules h source) ≡ states_left rules h source
            by true tells = absurd (due_other halves split due (tells refl))
            by false tells = refl

        parts : weight_of halves source ≡ weight_of (below halves split false) source + weight_of (below halves split true) source
        parts = omega (
          arith,
          here halves,
          here (below halves split false),
          here (below halves split true),
          split_parts rules halves split due.kind,
        )

        same : (half : Bool) (s : ℕ) → s ≢ source → weight_of halves s ≡ weight_of (below halves split half) s
        same half s other =
            ap (λ n. cond (s == target.path.source.0) 1 n) (sym (other_stays rules halves split half s other))

        still : (half : Bool) → HasInHalf (algebra_of rules) (label_at due.hull source) split.kind half
            → (s : ℕ) → 1 ≤ weight_of (below halves split half) s
        still half has s = by (s == source) (λ e. eqb-true s source e) (λ e. ne e)
          where
            ne : (s == source) ≡ false → s ≢ source
            ne e is = false≢true (sym e ∙ ap (λ k. k == source) is ∙ eq-eqb source source refl)

            by : (at : Bool) → (at ≡ true → s ≡ source) → (at ≡ false → s ≢ source)
                → 1 ≤ weight_of (below halves split half) s
            by true tells tells_not =
                let P : ℕ → Type 0 = λ k. 1 ≤ weight_of (below halves split half) k in
                subst P (sym (tells refl))
                (omega (
                  arith,
                  here (below halves split half),
                  half_left halves due.hull split half due.in_support.is_source (due_other halves split due) due.is_open has,
                ))
            by false tells tells_not = omega (arith, some s, same half s (tells_not refl))

    -- a spent tree below some halves has no more leaves than they leave combinations
    leaves_fit : (cases : Cases) (halves : List Half) → IsSpentBelow c rules target halves cases
        → ((s : ℕ) → 1 ≤ weight_of halves s) → leaf_count cases ≤ product_by (weight_of halves) sources
    leaves_fit closed halves spent some = product-pos (weight_of halves) sources some
    leaves_fit waiting halves spent some = product-pos (weight_of halves) sources some
    leaves_fit (split_at split first second) halves spent some =
        halves_fit halves split first second spent.0 some
        (leaves_fit first (below halves split false) spent.1) (leaves_fit second (below halves split true) spent.2)

-- what the bound says of a product
below_power : (rules : Rules) (n leaves product : ℕ) → 0 < n → leaves ≤ product
    → states_of_source rules * product ≤ states_of_source rules ^ n → leaves ≤ states_of_source rules ^ (n - 1)
below_power rules zero leaves product some fit few = absurd (omega arith)
below_power One (suc n) leaves product some fit few =
    let power : 4 ^ suc n ≡ 4 ^ n * 4 = pow-suc 4 n in
    let e : suc n - 1 ≡ n = omega arith in
    rw e (omega arith)
below_power (Linked links) (suc n) leaves product some fit few =
    let power : 4 ^ suc n ≡ 4 ^ n * 4 = pow-suc 4 n in
    let e : suc n - 1 ≡ n = omega arith in
    rw e (omega arith)
below_power Two (suc n) leaves product some fit few =
    let power : 2 ^ suc n ≡ 2 ^ n * 2 = pow-suc 2 n in
    let e : suc n - 1 ≡ n = omega arith in
    rw e (omega arith)

-- the weight of a source before any split: one of the path's own, and as many states as the rules leave it of another
first_some : (rules : Rules) (own : Bool) (source : ℕ) → 1 ≤ cond own 1 (states_left rules [] source)
first_some rules true source = omega arith
first_some One false source = omega arith
first_some Two false source = omega arith
first_some (Linked links) false source = omega arith

first_few : (rules : Rules) (own : Bool) (source : ℕ) → cond own 1 (states_left rules [] source) ≤ states_of_source rules
first_few One true source = omega arith
first_few One false source = omega arith
first_few Two true source = omega arith
first_few Two false source = omega arith
first_few (Linked links) true source = omega arith
first_few (Linked links) false source = omega arith

-- a spent budget is below the bound
pub spent_below_bound : (c : Circuit) (rules : Rules) (target : Target) (budget : ℕ) (nodes : List Node)
    → IsPrefix c target.path → IsSpent c rules target budget nodes → IsBelowBound c rules target.path budget
spent_below_bound c rules target budget nodes prefix spent sources support =
    let path = target.path in
    let most = states_of_source rules in
    let own = (support.exactly path.source.0).1 (own_in_support c rules path prefix) in
    let fit : leaf_count spent.cases ≤ product_by (weight_of c rules target []) sources =
    leaves_fit c rules target sources support spent.cases [] spent.spent
    (λ s. first_some rules (s == path.source.0) s) in
    let few : most * product_by (weight_of c rules target []) sources ≤ most ^ length sources =
    product_fewer most (weight_of c rules target []) (λ s. first_few rules (s == path.source.0) s) path.source.0 one sources
    own.0 own.1 own.2 in
    let bound : leaf_count spent.cases ≤ most ^ (length sources - 1) =
    below_power rules (length sources) (leaf_count spent.cases) (product_by (weight_of c rules target []) sources)
    (omega (arith, own.1)) fit few in
    omega (arith, bound, leaves_and_splits spent.cases, ap split_count spent.tree, spent.splits)
  where
    one : cond (target.path.source.0 == target.path.source.0) 1 (states_left rules [] target.path.source.0) ≤ 1
    one = rw (eq-eqb target.path.source.0 target.path.source.0 refl) (omega arith)

-- the same in numbers: under rules One a spent budget is below 4^(n-1), n the number of sources in the fan-in of the path's end
pub spent_below_four : (c : Circuit) (target : Target) (budget : ℕ) (nodes : List Node) → IsPrefix c target.path
    → IsSpent c One target budget nodes → (sources : List ℕ) → AreSupport c One target.path sources → budget < 4 ^ (length sources - 1)
spent_below_four c target budget nodes prefix spent sources support = spent_below_bound c One target budget nodes prefix spent sources support

-- and under rules Two, where the other sources are held steady, below 2^(n-1)
pub spent_below_two : (c : Circuit) (target : Target) (budget : ℕ) (nodes : List Node) → IsPrefix c target.path
    → IsSpent c Two target budget nodes → (sources : List ℕ) → AreSupport c Two target.path sources → budget < 2 ^ (length sources - 1)
spent_below_two c target budget nodes prefix spent sources support = spent_below_bound c Two target budget nodes prefix spent sources support

-- and under linked rules, where the support is closed over links, below 4^(n-1)
pub spent_below_linked : (c : Circuit) (links : Links) (target : Target) (budget : ℕ) (nodes : List Node) → IsPrefix c target.path
    → IsSpent c (Linked links) target budget nodes → (sources : List ℕ) → AreSupport c (Linked links) target.path sources
    → budget < 4 ^ (length sources - 1)
spent_below_linked c links target budget nodes prefix spent sources support =
    spent_below_bound c (Linked links) target budget nodes prefix spent sources support
