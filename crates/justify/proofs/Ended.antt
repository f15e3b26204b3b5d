-- A search whose tree is whole: what it answers, and how many conflicts were counted.
use Rattle.std.proofs.Common.{◌≡◌, ℕ, ◌+◌, ◌-◌, ◌*◌, ◌<◌, ◌≤◌, ◌^◌, inl, inr, ⊎_elim, List, [], ◌∷◌, length, map, Option, Some, None, Result, Ok, Err, true, refl, sym, ap, ◌∙◌, subst, arith}
use Rattle.std.specs.Prelude.{IfOk, IfSome, IfNone, count_by}
use Rattle.std.proofs.lemmas.Bool.{cases_lt}
use Rattle.std.proofs.lemmas.List.Sums.{count_by-le-length}
use Rattle.pd_base.specs.Pair.{Vectors}
use Rattle.pd_base.specs.Target.{Target}
use Rattle.pd_base.specs.declared.limits.TheConstants.{MOST_BUDGET}
use Rattle.pd_base.specs.declared.rules.Rules.{Rules}
use Rattle.netlist.specs.Circuit.{Circuit, source_count}
use Rattle.state_sets.specs.StateAlgebra.{StateAlgebra}
use Rattle.trees.specs.declared.tree.Node.{Node}
use Rattle.trees.specs.Trees.{IsTree, IsTreeOfSources, split_count}
use Rattle.trees.specs.Refutations.{IsRefutation}
use Rattle.trees.specs.Spent.{IsSpent}
use Rattle.trees.specs.Growing.{Grows}
use Rattle.trees.proofs.Ending.{grown_is_tree, grown_length, grown_refutes, grown_spent}
use Rattle.implication.specs.declared.assumption.Assumption.{Assumption}
use Rattle.implication.specs.Moves.{risen}
use Rattle.implication.specs.Standing.{Standing}
use Rattle.justify.specs.declared.answer.Found.{Found}
use Rattle.justify.specs.declared.answer.Found.TheVariants.{Test, Refuted, Spent}
use Rattle.justify.specs.declared.growing.Growth.{Growth}
use Rattle.justify.specs.declared.task.Task.{Task}
use Rattle.justify.specs.Answers.{IsFound, HasCounted, CountsConflicts, IsOutcomeOf, IsTestFor, is_closed}
use Rattle.justify.specs.Ends.{IsEnd, IsAnswerOf, IsReplacedBy, is_spent}
use Rattle.justify.specs.Growths.{DueTree, IsGrowing}
use Rattle.justify.specs.Searches.{IsGrowthOf}
use Rattle.pair_judging.specs.Targets.{seen_target}
use Rattle.justify.specs.Tests.{IsFitTest}
use Rattle.justify.proofs.SourceTrees.{grown_of_sources}
use Rattle.implication.proofs.ScopeLabels.{there_too}

-- one conflict more was counted
pub counted_more : (n : ℕ) (first middle last : Standing) → HasCounted n first middle → risen middle.closings ≤ last.closings
    → HasCounted (n + 1) first last
counted_more n first middle last counted later = ⊎_elim
    (λ (less : middle.closings + 1 < 2 ^ 64 - 1). ⊎_elim
    (λ (so_many : first.closings + n ≤ middle.closings). inl (omega arith))
    (λ (all : 2 ^ 64 - 1 ≤ middle.closings). absurd (omega arith)) counted)
    (λ (more : 2 ^ 64 - 1 ≤ middle.closings + 1). inr (omega arith))
    (cases_lt (middle.closings + 1) (2 ^ 64 - 1))

module _ (a : StateAlgebra) (c : Circuit) (rules : Rules) (target : Target) (budget : ℕ) (list : List Assumption) (nodes : List Node) (n : ℕ)
    (growing : IsGrowing a c rules target budget list [] nodes n) where
  no_place : Grows c rules target nodes []
  no_place = by growing.due growing.left growing.grows
    where
      by : (due : List DueTree) → map (λ (tree : DueTree). tree.place) due ≡ [] → Grows c rules target nodes (map (λ (tree : DueTree). tree.halves) due)
          → Grows c rules target nodes []
      by [] left grows = grows
      by (tree ∷ due) left grows = cc

  pub end_is_tree : IsTree nodes
  end_is_tree = grown_is_tree c rules target nodes no_place

  end_length : length nodes ≡ 2 * n + 1
  end_length = let e = growing.counted in let f = grown_length c rules target nodes no_place in omega (arith, e, f)

  pub end_few : budget ≤ MOST_BUDGET → length nodes < 2 ^ 31
  end_few most = let e = end_length in let f = growing.within in omega (arith, e, f, most)

  pub end_found : (found : Found) → IsEnd nodes found → IsFound c rules target budget found
  end_found (Test pair) is = absurd is
  end_found (Refuted tree) is =
      let P : List Node → Type 0 = λ ns. IsRefutation c rules target ns × (split_count ns ≤ budget) × IsTreeOfSources (source_count c) ns in
      let few : split_count nodes ≤ budget = let e = growing.counted in let f = growing.within in omega (arith, e, f) in
      subst P (sym is.0) (grown_refutes c rules target nodes no_place is.1, few, grown_of_sources c rules target nodes no_place)
  end_found (Spent tree) is =
      let P : List Node → Type 0 = λ ns. IsSpent c rules target budget ns in
      subst P (sym is.0) (grown_spent c rules target nodes no_place budget (growing.counted ∙ growing.waits is.1) is.1)

  pub end_counts : (found : Found) → IsEnd nodes found → (old new : Standing) → HasCounted (length nodes) old new
      → CountsConflicts budget found old new
  end_counts (Test pair) is old new counted = absurd is
  end_counts (Refuted tree) is old new counted =
      let most : count_by is_closed tree ≤ length nodes =
      let e = count_by-le-length is_closed tree in let f = ap length is.0 in omega (arith, e, f) in
      ⊎_elim
      (λ (so_many : old.closings + length nodes ≤ new.closings). inl (omega (arith, so_many, most)))
      (λ (all : 2 ^ 64 - 1 ≤ new.closings). inr all) counted
  end_counts (Spent tree) is old new counted =
      let long : length nodes ≡ 2 * budget + 1 = let e = end_length in let f = growing.waits is.1 in omega (arith, e, f) in
      ⊎_elim
      (λ (so_many : old.closings + length nodes ≤ new.closings). inl (omega (arith, so_many, long)))
      (λ (all : 2 ^ 64 - 1 ≤ new.closings). inr all) counted

-- the count alone matters
pub counts_same : (budget : ℕ) (found : Found) (old new last : Standing) → last.closings ≡ new.closings
    → CountsConflicts budget found old new → CountsConflicts budget found old last
counts_same budget (Test pair) old new last same counts = tt
counts_same budget (Refuted tree) old new last same counts = ⊎_elim
    (λ (so_many : old.closings + count_by is_closed tree ≤ new.closings). inl (omega (arith, so_many, same)))
    (λ (all : 2 ^ 64 - 1 ≤ new.closings). inr (omega (arith, all, same))) counts
counts_same budget (Spent tree) old new last same counts = ⊎_elim
    (λ (so_many : old.closings + (2 * budget + 1) ≤ new.closings). inl (omega (arith, so_many, same)))
    (λ (all : 2 ^ 64 - 1 ≤ new.closings). inr (omega (arith, all, same))) counts

-- the count alone matters, and one that has not fallen before
pub counts_after : {E : Type 0} (budget : ℕ) (old new last : Standing) → last.closings ≡ new.closings → (ended : Result Found E)
    → IfOk ended (λ found. CountsConflicts budget found old new) → IfOk ended (λ found. CountsConflicts budget found old last)
counts_after budget old new last same (Err error) counts = tt
counts_after budget old new last same (Ok found) counts = counts_same budget found old new last same counts

counted_before : (n : ℕ) (first old new : Standing) → first.closings ≤ old.closings → HasCounted n old new → HasCounted n first new
counted_before n first old new later counted = ⊎_elim
    (λ (so_many : old.closings + n ≤ new.closings). inl (omega (arith, so_many, later)))
    (λ (all : 2 ^ 64 - 1 ≤ new.closings). inr all) counted

pub counts_before : {E : Type 0} (budget : ℕ) (first old new : Standing) → first.closings ≤ old.closings → (ended : Result Found E)
    → IfOk ended (λ found. CountsConflicts budget found old new) → IfOk ended (λ found. CountsConflicts budget found first new)
counts_before budget first old new later (Err error) counts = tt
counts_before budget first old new later (Ok (Test pair)) counts = tt
counts_before budget first old new later (Ok (Refuted tree)) counts = counted_before (count_by is_closed tree) first old new later counts
counts_before budget first old new later (Ok (Spent tree)) counts = counted_before (2 * budget + 1) first old new later counts

-- a tree with fewer splits than the budget is an answer where it did not spend them
module _ (splits budget : ℕ) where
  pub turn_found : (c : Circuit) (rules : Rules) (target : Target) → splits ≤ budget → (found : Found) → (is_spent found ≡ true → splits ≡ budget)
      → IsFound c rules target splits found → IsFound c rules target budget found
  turn_found c rules target few (Test pair) same is = is
  turn_found c rules target few (Refuted tree) same is = (is.0, (let within = is.1 in omega (arith, within, few)), is.2)
  turn_found c rules target few (Spent tree) same is = let P : ℕ → Type 0 = λ n. IsSpent c rules target n tree in subst P (same refl) is

  pub turn_counts : (found : Found) → (is_spent found ≡ true → splits ≡ budget) → (old new : Standing)
      → CountsConflicts splits found old new → CountsConflicts budget found old new
  turn_counts (Test pair) same old new counts = tt
  turn_counts (Refuted tree) same old new counts = counts
  turn_counts (Spent tree) same old new counts =
      let P : ℕ → Type 0 = λ n. HasCounted (2 * n + 1) old new in subst P (same refl) counts

-- the answer of a growth
module _ (a : StateAlgebra) (task : Task) (old new : Standing) (growth : Growth) where
  module _ {E : Type 0} where
    pub grown_whole : (grown : Result (Option Vectors) E) → IfOk grown (IsGrowthOf a task old new growth)
        → IfOk grown (λ test. IfNone test (IsTree growth.nodes.items))
    grown_whole (Err error) is = tt
    grown_whole (Ok (Some pair)) is = tt
    grown_whole (Ok None) is =
        end_is_tree a new.net new.rules (seen_target task.target) task.budget new.assumptions growth.nodes.items growth.splits is.1

    pub grown_few : task.budget ≤ MOST_BUDGET → (grown : Result (Option Vectors) E) → IfOk grown (IsGrowthOf a task old new growth)
        → IfOk grown (λ test. IfNone test (length growth.nodes.items < 2 ^ 31))
    grown_few most (Err error) is = tt
    grown_few most (Ok (Some pair)) is = tt
    grown_few most (Ok None) is =
        end_few a new.net new.rules (seen_target task.target) task.budget new.assumptions growth.nodes.items growth.splits is.1 most

    pub grown_found : new.net ≡ old.net → new.rules ≡ old.rules → (grown : Result (Option Vectors) E) (found : Found)
        → IfOk grown (IsGrowthOf a task old new growth) → IsAnswerOf grown growth.nodes.items found
        → IsFound old.net old.rules (seen_target task.target) task.budget found
    grown_found same_net same_rules (Err error) found is answers = absurd answers
    grown_found same_net same_rules (Ok (Some pair)) found is answers =
        let P : Found → Type 0 = λ f. IsFound old.net old.rules (seen_target task.target) task.budget f in subst P (sym answers) is
    grown_found same_net same_rules (Ok None) found is answers =
        let Q : Circuit → Rules → Type 0 = λ n rules. IsFound n rules (seen_target task.target) task.budget found in
        there_too Q new.net old.net new.rules old.rules same_net same_rules
        (end_found a new.net new.rules (seen_target task.target) task.budget new.assumptions growth.nodes.items growth.splits is.1 found answers)

    pub grown_counts : (grown : Result (Option Vectors) E) (found : Found)
        → IfOk grown (IsGrowthOf a task old new growth) → IsAnswerOf grown growth.nodes.items found
        → CountsConflicts task.budget found old new
    grown_counts (Err error) found is answers = absurd answers
    grown_counts (Ok (Some pair)) found is answers =
        let P : Found → Type 0 = λ f. CountsConflicts task.budget f old new in subst P (sym answers) tt
    grown_counts (Ok None) found is answers =
        end_counts a new.net new.rules (seen_target task.target) task.budget new.assumptions growth.nodes.items growth.splits is.1 found answers old new is.0

    pub answer_found : {F : Type 0} → new.net ≡ old.net → new.rules ≡ old.rules → (grown : Result (Option Vectors) E) (result : Result Found F)
        → IfOk grown (IsGrowthOf a task old new growth) → IfOk result (IsAnswerOf grown growth.nodes.items)
        → IfOk result (IsFound old.net old.rules (seen_target task.target) task.budget)
    answer_found same_net same_rules grown (Err error) is answers = tt
    answer_found same_net same_rules grown (Ok found) is answers = grown_found same_net same_rules grown found is answers

    pub answer_counts : {F : Type 0} (grown : Result (Option Vectors) E) (result : Result Found F)
        → IfOk grown (IsGrowthOf a task old new growth) → IfOk result (IsAnswerOf grown growth.nodes.items)
        → IfOk result (λ found. CountsConflicts task.budget found old new)
    answer_counts grown (Err error) is answers = tt
    answer_counts grown (Ok found) is answers = grown_counts grown found is answers

-- what was found, or a test in its place
pub outcome_found : {E : Type 0} (c : Circuit) (rules : Rules) (target : Target) (budget : ℕ) (ended : Result Found E) (found : Found)
    → IfOk ended (IsFound c rules target budget) → IsOutcomeOf c rules target ended found → IsFound c rules target budget found
outcome_found {E} c rules target budget ended found is outcome = ⊎_elim
    (λ (same : ended ≡ Ok found). let P : Result Found E → Type 0 = λ r. IfOk r (IsFound c rules target budget) in subst P same is)
    (by found) outcome
  where
    by : (f : Found) → IsTestFor c rules target f → IsFound c rules target budget f
    by (Test pair) fit = fit
    by (Refuted tree) fit = absurd fit
    by (Spent tree) fit = absurd fit

-- and it is counted in the same way
pub outcome_counts : {E : Type 0} (c : Circuit) (rules : Rules) (target : Target) (budget : ℕ) (ended : Result Found E) (found : Found)
    (old new last : Standing) → last.closings ≡ new.closings
    → IfOk ended (λ f. CountsConflicts budget f old new) → IsOutcomeOf c rules target ended found → CountsConflicts budget found old last
outcome_counts {E} c rules target budget ended found old new last same counts outcome = counts_same budget found old new last same (⊎_elim
    (λ (is : ended ≡ Ok found). let P : Result Found E → Type 0 = λ r. IfOk r (λ f. CountsConflicts budget f old new) in subst P is counts)
    (by found) outcome)
  where
    by : (f : Found) → IsTestFor c rules target f → CountsConflicts budget f old new
    by (Test pair) fit = tt
    by (Refuted tree) fit = absurd fit
    by (Spent tree) fit = absurd fit

-- the same of results, where another name stands for the circuit
pub concluded_found : {E F : Type 0} (c : Circuit) (rules : Rules) (target : Target) (budget : ℕ) (n : Circuit) (s : Rules) → n ≡ c → s ≡ rules
    → (ended : Result Found E) → IfOk ended (IsFound c rules target budget)
    → (result : Result Found F) → IfOk result (IsOutcomeOf n s target ended) → IfOk result (IsFound c rules target budget)
concluded_found c rules target budget n s same_net same_rules ended is (Err error) outcome = tt
concluded_found c rules target budget n s same_net same_rules ended is (Ok found) outcome =
    let P : Circuit → Rules → Type 0 = λ m r. IsOutcomeOf m r target ended found in
    outcome_found c rules target budget ended found is (there_too P n c s rules same_net same_rules outcome)

pub concluded_counts : {E F : Type 0} (c : Circuit) (rules : Rules) (target : Target) (budget : ℕ) (old new last : Standing) → last.closings ≡ new.closings
    → (ended : Result Found E) → IfOk ended (λ f. CountsConflicts budget f old new)
    → (result : Result Found F) → IfOk result (IsOutcomeOf c rules target ended) → IfOk result (λ f. CountsConflicts budget f old last)
concluded_counts c rules target budget old new last same ended counts (Err error) outcome = tt
concluded_counts c rules target budget old new last same ended counts (Ok found) outcome =
    outcome_counts c rules target budget ended found old new last same counts outcome

-- a test that was found later is an outcome, and what was found before is
pub replaced_outcome : {E F : Type 0} (c : Circuit) (rules : Rules) (target : Target) (ended : Result Found E) (later : Result (Option Vectors) F) (before after : Found)
    → ended ≡ Ok before → IfOk later (λ pair. IfSome pair (IsFitTest c rules target)) → IsReplacedBy later before after
    → IsOutcomeOf c rules target ended after
replaced_outcome c rules target ended (Err error) before after is fit replaced = absurd replaced
replaced_outcome c rules target ended (Ok None) before after is fit replaced = inl (is ∙ ap (λ (f : Found). Ok f) (sym replaced))
replaced_outcome c rules target ended (Ok (Some pair)) before after is fit replaced =
    let P : Found → Type 0 = λ f. IsTestFor c rules target f in inr (subst P (sym replaced) fit)
