-- Going through items up to the first of which something does not hold; and tests whose flags tell which of them expect the right values.
use Rattle.std.proofs.Common.{◌≡◌, ⊎_elim, ℕ, ◌+◌, ◌<◌, Bool, false, List, take, length, get_or, All, IsTrue, refl, sym, subst, arith}
use Rattle.std.specs.Prelude.{slice_get, slice_index_or, Some}
use Rattle.std.proofs.lemmas.List.Elements.{All-more}
use Rattle.std.proofs.lemmas.Option.{get_or_from_slice_get, slice_get-get_or, slice_get_cases}
use Rattle.pd_base.specs.declared.test.Test.{Test}
use Rattle.netlist.specs.Circuit.{Circuit}
use Rattle.netlist.specs.Paths.{IsPath}
use Rattle.netlist.proofs.Evaluation.{all_at_place}
use Rattle.runs.specs.declared.run.ListedPath.{ListedPath}
use Rattle.logic_values.specs.Expected.{TellsExpected}
use Rattle.commands.specs.Grading.{ExpectsValues, IsFirstWithout, ListsPath}

module _ {X : Type 0} (P : X → Type 0) (items : List X) where
  -- where it holds of all items, none is the first of which it does not
  pub none_without : (number : ℕ) → All P items → ¬ IsFirstWithout P items number
  none_without number all first = first.lacks (all_at_place P items first.place first.item all first.at)

  module _ (place : ℕ) (d : X) (within : place < length items) (earlier : All P (take place items)) where
    -- the item at this place is the first
    pub first_here : ¬ P (get_or items place d) → IsFirstWithout P items (place + 1)
    first_here lacks = record {
      place = place;
      item = get_or items place d;
      at = slice_get-get_or items place d within;
      lacks = lacks;
      earlier = earlier;
      counted = refl;
    }

-- one path more
pub one_more_path : (c : Circuit) (paths : List ListedPath) (place : ℕ) (d : ListedPath) → place < length paths
    → All (ListsPath c) (take place paths) → IsPath c (get_or paths place d).path → All (ListsPath c) (take (place + 1) paths)
one_more_path c paths place d within earlier is = All-more (ListsPath c) paths place d within earlier is

-- what stands at a place of a list
item_at : {X : Type 0} (items : List X) (place : ℕ) → place < length items → (x : X) × (slice_get items place ≡ Some x)
item_at items place within =
    ⊎_elim (λ found. (found.0, found.2)) (λ past. let behind = past.0 in absurd (omega arith)) (slice_get_cases items place).1

-- tests told of by their flags
module _ (c : Circuit) (tests : List Test) (flags : List Bool) (tells : TellsExpected c tests flags) (place : ℕ)
    (within : place < length flags) (earlier : All (ExpectsValues c) (take place tests)) where
  inside : place < length tests
  inside = let same = tells.one_each in omega arith

  -- the test at this place
  here : (test : Test) × (slice_get tests place ≡ Some test)
  here = item_at tests place inside

  -- where its flag is set one test more expects the right values
  pub one_more_expects : IsTrue (slice_index_or flags place false) → All (ExpectsValues c) (take (place + 1) tests)
  one_more_expects set =
      All-more (ExpectsValues c) tests place here.0 inside earlier
      (subst (ExpectsValues c) (sym (get_or_from_slice_get tests place here.0 here.0 here.1)) ((tells.exactly place here.0 here.1).0 set))

  -- or it is the first that does not
  pub first_unexpected : ¬ IsTrue (slice_index_or flags place false) → IsFirstWithout (ExpectsValues c) tests (place + 1)
  first_unexpected unset = record {
    place = place;
    item = here.0;
    at = here.1;
    lacks = λ expects. unset ((tells.exactly place here.0 here.1).1 expects);
    earlier = earlier;
    counted = refl;
  }
