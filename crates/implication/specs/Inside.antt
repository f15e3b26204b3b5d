-- Which lines are told by the marks of the lines behind some ends, in words that are spoken inside this crate alone (this project's own).
use Rattle.std.specs.Prelude.{◌≡◌, ℕ, ◌<◌, ◌⊎◌, ◌↔◌, Bool, true, List, length}
use Rattle.pd_base.specs.Links.{LinkList, IsLink}
use Rattle.hulls.specs.Awaiting.{is_inside}

-- flags are true where lines are marked, and at sources without a link
pub record AreFlagged (sources : ℕ) (links : LinkList) (marks told : List Bool) : Type 0 where
  pub one_each : length told ≡ length marks
  pub exactly : (line : ℕ)
      → (is_inside told line ≡ true) ↔ ((is_inside marks line ≡ true) ⊎ ((line < sources) × ((other : ℕ) → ¬ IsLink links line other)))
