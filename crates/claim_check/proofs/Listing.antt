-- What is told of a listed path.
use Rattle.std.proofs.Common.{◌≡◌, ◌≢◌, ℕ, ◌+◌, ◌<◌, List, arith}
use Rattle.std.specs.Prelude.{slice_get, Option, Some}
use Rattle.pd_base.specs.Route.{Route}
use Rattle.netlist.specs.Paths.{length_of}
use Rattle.netlist.specs.Waves.{Delays}
use Rattle.runs.specs.declared.run.ListedPath.{ListedPath}
use Rattle.good_runs.specs.Faults.{IsNumber}
use Rattle.good_runs.proofs.Numbers.{number_of_place}
use Rattle.claim_check.specs.declared.claim.Reason.{Reason}
use Rattle.claim_check.specs.declared.claim.Reason.TheVariants.{WrongPath, WrongLength}
use Rattle.claim_check.specs.Flaws.{IsFirstReason, TellsOfItem, turn_of}
use Rattle.claim_check.specs.Right.{IsRightPath, IsRightPathAt}
use Rattle.claim_check.proofs.Telling.{IsRightUpTo, at_number, tells_same}

module _ (delays : Delays) (first : List Route) (number : ℕ) (listed : ListedPath) where
  abbrev Is : Reason → Type 0
  Is = IsRightPath delays first number listed

  pub path_wrong : ¬ IsNumber first number listed.path → IsFirstReason Is WrongPath
  path_wrong wrong = record { flawed = wrong; before = before }
    where
      before : (other : Reason) → turn_of other < 2 → Is other
      before WrongPath less = absurd (omega arith)
      before WrongLength less = absurd (omega arith)
      before other less = tt

  module _ (in_place : IsNumber first number listed.path) where
    pub length_wrong : listed.length ≢ length_of delays listed.path → IsFirstReason Is WrongLength
    length_wrong wrong = record { flawed = wrong; before = before }
      where
        before : (other : Reason) → turn_of other < 3 → Is other
        before WrongPath less = in_place
        before WrongLength less = absurd (omega arith)
        before other less = tt

    pub listed_right : listed.length ≡ length_of delays listed.path → (reason : Reason) → Is reason
    listed_right long WrongPath = in_place
    listed_right long WrongLength = long
    listed_right long other = tt

module _ (delays : Delays) (first : List Route) (paths : List ListedPath) where
  pub no_paths_yet : IsRightUpTo (IsRightPathAt delays first paths) 0
  no_paths_yet item reason few listed is = let some = is.positive in absurd (omega arith)

  -- what is told of the path in a row is told of its number
  pub path_told : (row : ℕ) (listed : ListedPath) → slice_get paths row ≡ Some listed → (found : Option Reason)
      → TellsOfItem (IsRightPath delays first (row + 1) listed) found → TellsOfItem (IsRightPathAt delays first paths (row + 1)) found
  path_told row listed there found =
      tells_same (IsRightPath delays first (row + 1) listed) (IsRightPathAt delays first paths (row + 1))
      (λ reason. at_number paths (row + 1) listed (number_of_place paths row listed there) (λ l. IsRightPath delays first (row + 1) l reason))
      found
