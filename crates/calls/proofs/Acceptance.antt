-- What accepted inputs exclude, over files that tell what is read: each stage then has one answer.
use Rattle.std.proofs.Common.{◌≡◌, ℕ, List, [], ◌∷◌, ◌++◌, Option, None, Some, refl, sym, subst, ◌∙◌}
use Rattle.pd_io.specs.Folder.{Folder}
use Rattle.calls.specs.Work.{Work, Stage, Read, Require, names_read}
use Rattle.calls.specs.Passing.{Accepts, HasBytes, Pass}
use Rattle.calls.specs.Calls.{AreTold}

-- a name whose bytes are told has one text
same_bytes : (folder : Option Folder) (name : List ℕ) (names : List (List ℕ)) (text bytes : List ℕ)
    → AreTold (name ∷ names) folder → HasBytes folder name text → HasBytes folder name bytes → bytes ≡ text
same_bytes None name names text bytes told has has_too = absurd told
same_bytes (Some folder) name names text bytes told has has_too = has_too ∙ sym has

-- of names that are told so are the later ones
later_told : (folder : Option Folder) (name : List ℕ) (names : List (List ℕ)) → AreTold (name ∷ names) folder
    → AreTold names folder
later_told None name names told = absurd told
later_told (Some folder) name [] told = tt
later_told (Some folder) name (next ∷ names) told = tt

module _ (work : Work) (folder : Option Folder) where
  -- stages lead from the same inputs to the same ones
  pub passed_alike : (stages : List (Stage work.Requirement)) (first one other : List (List ℕ)) → AreTold (names_read stages) folder
      → Pass work folder stages first one → Pass work folder stages first other → one ≡ other
  passed_alike [] first one other told pass pass_too = pass ∙ sym pass_too
  passed_alike (Read role name ∷ stages) first one other told (text, has, pass) (bytes, has_too, pass_too) =
      passed_alike stages (first ++ text ∷ []) one other (later_told folder name (names_read stages) told) pass
      (subst (λ (b : List ℕ). Pass work folder stages (first ++ b ∷ []) other)
      (same_bytes folder name (names_read stages) text bytes told has has_too) pass_too)
  passed_alike (Require requirement ∷ stages) first one other told (accepts, pass) (accepts_too, pass_too) =
      passed_alike stages first one other told pass pass_too

  -- a requirement among stages that are passed accepts what was read before it
  pub accepted_before : (before later : List (Stage work.Requirement)) (requirement : work.Requirement) (first inputs all : List (List ℕ))
      → AreTold (names_read before) folder
      → Pass work folder (before ++ Require requirement ∷ later) first all → Pass work folder before first inputs
      → Accepts work requirement inputs
  accepted_before [] later requirement first inputs all told (accepts, pass) so_far =
      subst (Accepts work requirement) (sym so_far) accepts
  accepted_before (Read role name ∷ before) later requirement first inputs all told (text, has, pass) (bytes, has_too, so_far) =
      accepted_before before later requirement (first ++ text ∷ []) inputs all
      (later_told folder name (names_read before) told) pass
      (subst (λ (b : List ℕ). Pass work folder before (first ++ b ∷ []) inputs)
      (same_bytes folder name (names_read before) text bytes told has has_too) so_far)
  accepted_before (Require other ∷ before) later requirement first inputs all told (accepts, pass) (accepts_too, so_far) =
      accepted_before before later requirement first inputs all told pass so_far

  -- stages are passed, and behind them further ones
  pub passed_on : (stages later : List (Stage work.Requirement)) (first middle all : List (List ℕ)) → Pass work folder stages first middle
      → Pass work folder later middle all → Pass work folder (stages ++ later) first all
  passed_on [] later first middle all pass rest = subst (λ (read : List (List ℕ)). Pass work folder later read all) pass rest
  passed_on (Read role name ∷ stages) later first middle all (text, has, pass) rest =
      (text, has, passed_on stages later (first ++ text ∷ []) middle all pass rest)
  passed_on (Require requirement ∷ stages) later first middle all (accepts, pass) rest =
      (accepts, passed_on stages later first middle all pass rest)

  -- where stages are passed, so are the first ones, and from there the later ones
  pub front_passed : (stages later : List (Stage work.Requirement)) (first all : List (List ℕ)) → Pass work folder (stages ++ later) first all
      → (middle : List (List ℕ)) × Pass work folder stages first middle × Pass work folder later middle all
  front_passed [] later first all pass = (first, refl, pass)
  front_passed (Read role name ∷ stages) later first all (text, has, pass) =
      let rest = front_passed stages later (first ++ text ∷ []) all pass in (rest.0, (text, has, rest.1), rest.2)
  front_passed (Require requirement ∷ stages) later first all (accepts, pass) =
      let rest = front_passed stages later first all pass in (rest.0, (accepts, rest.1), rest.2)

-- of names that are told so is a front of them
pub front_told : (folder : Option Folder) (front rest : List (List ℕ)) → AreTold (front ++ rest) folder
    → AreTold front folder
front_told folder [] rest told = none_told folder where
  none_told : (f : Option Folder) → AreTold [] f
  none_told None = tt
  none_told (Some folder) = tt
front_told None (name ∷ front) rest told = absurd told
front_told (Some folder) (name ∷ front) rest told = tt
