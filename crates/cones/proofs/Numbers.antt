-- Numbers of lines, as a loop over the lines collects them, and as they stand once each in rising order after a sort.
use Rattle.std.proofs.Common.{◌≡◌, ⊎_elim, ℕ, ◌+◌, ◌<◌, ◌≤◌, ◌↔◌, eqb, List, [], ◌∷◌, ◌++◌, length, get_or, sym, subst, ◌∙◌, arith}
use Rattle.std.specs.List.{AllPairs, Contains, dedup}
use Rattle.std.specs.List.Sorted.{IsPermutation, IsSorted}
use Rattle.std.specs.Ordering.{nat_cmp}
use Rattle.std.proofs.lemmas.Bool.{cases_lt}
use Rattle.std.proofs.lemmas.List.{length_push, get_or_default}
use Rattle.std.proofs.lemmas.List.Elements.{Contains-append_left, Contains-push, Contains-push_cases, Contains-get_or}
use Rattle.std.proofs.lemmas.List.Kept.{AllPairs-from_increasing, Contains-dedup_nat, Contains-from_dedup}
use Rattle.std.proofs.lemmas.List.Sorted.{Contains-permutation, IsPermutation-sym}
use Rattle.std.proofs.lemmas.Map.Keys.{IsStrictlyIncreasing-dedup}
use Rattle.pd_base.specs.declared.ids.LineId.{LineId}
use Rattle.netlist.specs.Circuit.{Circuit, gate_count, gate_line}
use Rattle.cones.proofs.Spreading.{no_line}

-- numbers that were sorted, each kept once
pub record AreSortedOnce (numbers kept : List ℕ) : Type 0 where
  pub rising : AllPairs (λ a b. a < b) kept
  pub same : (n : ℕ) → Contains kept n ↔ Contains numbers n

pub sorted_once : (numbers sorted kept : List ℕ) → IsPermutation numbers sorted → IsSorted nat_cmp sorted → kept ≡ dedup eqb sorted
    → AreSortedOnce numbers kept
sorted_once numbers sorted kept moved is_sorted is = record {
  rising = subst (AllPairs (λ a b. a < b)) (sym is) (AllPairs-from_increasing (dedup eqb sorted) (IsStrictlyIncreasing-dedup sorted is_sorted));
  same = λ n. (
    λ has. Contains-permutation sorted numbers n (IsPermutation-sym numbers sorted moved)
        (Contains-from_dedup eqb sorted n (subst (λ ns. Contains ns n) is has)),
    λ has. subst (λ ns. Contains ns n) (sym is) (Contains-dedup_nat sorted n (Contains-permutation numbers sorted n moved has)),
  );
}

-- the number of a line that is a source, and the rank of the gate of one that is not
abbrev pub SourceKey : ℕ → LineId → ℕ → Type 0
SourceKey sources line number = (number < sources) × (line.0 ≡ number)

abbrev pub GateKey : Circuit → List ℕ → LineId → ℕ → Type 0
GateKey c ranks line rank = (gate : ℕ) × (gate < gate_count c) × (line.0 ≡ gate_line c gate) × (get_or ranks gate 0 ≡ rank)

module _ (Key : LineId → ℕ → Type 0) (lines : List LineId) where
  -- collected are the numbers of the lines before this place; a line may have none
  pub record AreCollected (place : ℕ) (numbers : List ℕ) : Type 0 where
    pub few : length numbers ≤ place
    pub exactly : (n : ℕ) → Contains numbers n ↔ ((k : ℕ) × (k < place) × Key (get_or lines k no_line) n)

  -- none at first
  pub collected_none : AreCollected 0 []
  collected_none = record {
    few = omega arith;
    exactly = λ n. (λ has. absurd (omega (arith, has.1)), λ some. absurd (omega (arith, some.1)));
  }

  -- that of the next line is added
  pub collected_more : (place : ℕ) (numbers : List ℕ) (number : ℕ) → Key (get_or lines place no_line) number
      → ((other : ℕ) → Key (get_or lines place no_line) other → number ≡ other) → AreCollected place numbers
      → AreCollected (place + 1) (numbers ++ number ∷ [])
  collected_more place numbers number own alone are = record {
    few = let e = length_push numbers number in let f = are.few in omega arith;
    exactly = λ n. (
      λ has. ⊎_elim
          (λ (was : Contains numbers n). let some = (are.exactly n).0 was in (some.0, (let b = some.1 in omega arith), some.2))
          (λ (this : number ≡ n). (place, omega arith, subst (Key (get_or lines place no_line)) this own))
          (Contains-push_cases numbers number n has),
      λ some. ⊎_elim
          (λ (before : some.0 < place). Contains-append_left numbers (number ∷ []) n ((are.exactly n).1 (some.0, before, some.2)))
          (λ (from : place ≤ some.0).
          let b = some.1 in
          let here : some.0 ≡ place = omega arith in
          subst (Contains (numbers ++ number ∷ [])) (alone n (subst (λ k. Key (get_or lines k no_line) n) here some.2))
          (Contains-push numbers number))
          (cases_lt some.0 place),
    );
  }

  -- or it has none
  pub collected_same : (place : ℕ) (numbers : List ℕ) → ((other : ℕ) → Key (get_or lines place no_line) other → ⊥)
      → AreCollected place numbers → AreCollected (place + 1) numbers
  collected_same place numbers none are = record {
    few = let f = are.few in omega arith;
    exactly = λ n. (
      λ has. let some = (are.exactly n).0 has in (some.0, (let b = some.1 in omega arith), some.2),
      λ some. ⊎_elim (λ (before : some.0 < place). (are.exactly n).1 (some.0, before, some.2))
          (λ (from : place ≤ some.0).
          let b = some.1 in
          let here : some.0 ≡ place = omega arith in
          absurd (none n (subst (λ k. Key (get_or lines k no_line) n) here some.2)))
          (cases_lt some.0 place),
    );
  }

  -- after the last one they are those of all lines
  pub collected_all : (place : ℕ) (numbers : List ℕ) → length lines ≤ place → place ≤ length lines → AreCollected place numbers → (n : ℕ)
      → Contains numbers n ↔ ((line : LineId) × Contains lines line × Key line n)
  collected_all place numbers past within are n = (
    λ has.
        let some = (are.exactly n).0 has in
        let b = some.1 in
        let inside : some.0 < length lines = omega arith in
        (get_or lines some.0 no_line, Contains-get_or lines some.0 no_line inside, some.2),
    λ some.
        let at = some.1 in
        let i = at.1 in
        let below : at.0 < place = omega arith in
        (are.exactly n).1 (at.0, below, subst (λ l. Key l n) (sym (get_or_default lines at.0 no_line some.0 i ∙ at.2)) some.2),
  )
