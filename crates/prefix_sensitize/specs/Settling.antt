-- What the end of a search settles, in words that are spoken inside this crate alone (this project's own).
use Rattle.std.specs.Prelude.{◌≡◌, ⊤, ℕ, ◌+◌, ◌<◌, ◌≤◌, Bool, true, false, List, [], ◌∷◌, ◌++◌, length, slice_get, Some}
use Rattle.pd_base.specs.Route.{Route}
use Rattle.netlist.specs.Paths.{prefix_of}
use Rattle.runs.specs.declared.run.Proof.{Proof}
use Rattle.trees.specs.declared.tree.Node.{Node}
use Rattle.justify.specs.declared.answer.Found.{Found}
use Rattle.justify.specs.declared.answer.Found.TheVariants.{Test, Spent, Refuted}
use Rattle.prefix_sensitize.specs.declared.course.Course.{Course}
use Rattle.prefix_sensitize.specs.declared.outcome.Aim.{Aim}
use Rattle.prefix_sensitize.specs.declared.outcome.RowOutcome.{RowOutcome}
use Rattle.prefix_sensitize.specs.declared.outcome.RowOutcome.TheVariants.{Tested, Proved}
use Rattle.prefix_sensitize.specs.Outcomes.{outcome_at}
use Rattle.prefix_sensitize.specs.PathOrder.{IsStretch}

-- the proof by this tree, for an aim and so many steps of the path in this row
abbrev pub found_proof : Aim → Bool → ℕ → ℕ → List Node → Proof
found_proof aim spent row steps tree = record {
  spent = spent;
  kind = aim.kind;
  dir = aim.direction;
  path = row + 1;
  steps = steps;
  tree = tree;
}

-- a refutation is one of no more steps than the path has
abbrev pub HasItsSteps : Route → ℕ → Found → Type 0
HasItsSteps route steps (Test pair) = ⊤
HasItsSteps route steps (Spent tree) = ⊤
HasItsSteps route steps (Refuted tree) = steps ≤ length route.steps

-- the rows on the places from one up to another have this outcome; each other row has what it had
pub record HaveOutcome (order : List ℕ) (place end : ℕ) (outcome : RowOutcome) (old new : List RowOutcome) : Type 0 where
  pub one_each : length new ≡ length old
  pub inside : (at row : ℕ) → slice_get order at ≡ Some row → place ≤ at → at < end → outcome_at new row ≡ outcome
  pub outside : (row : ℕ) → ((at : ℕ) → slice_get order at ≡ Some row → place ≤ at → at < end → ⊥)
      → outcome_at new row ≡ outcome_at old row

-- there is this proof more, and it is the outcome of the rows on these places
pub record AddsProof (order : List ℕ) (place end : ℕ) (proof : Proof) (before after : List RowOutcome) (old new : List Proof) : Type 0 where
  pub added : new ≡ old ++ proof ∷ []
  pub rows : HaveOutcome order place end (Proved (length old)) before after

-- What the end of a search for a path, which stands at this place, settles: a test and a spent budget settle this path alone, a refutation
-- all paths from here on that have its prefix, of which it names the one of the least row.
abbrev pub Settles : Course → ℕ → ℕ → Route → ℕ → Found → ℕ → List RowOutcome → List RowOutcome → List Proof → List Proof → Type 0
Settles course place row route steps (Test pair) end before after old new =
    (end ≡ place + 1) × (new ≡ old) × HaveOutcome course.order.now place end (Tested pair) before after
Settles course place row route steps (Spent tree) end before after old new =
    (end ≡ place + 1)
    × AddsProof course.order.now place end (found_proof course.aim true row (length route.steps) tree) before after old new
Settles course place row route steps (Refuted tree) end before after old new =
    (least : ℕ) × IsStretch course.paths.now course.order.now (prefix_of steps route) place end least
    × AddsProof course.order.now place end (found_proof course.aim false least steps tree) before after old new
