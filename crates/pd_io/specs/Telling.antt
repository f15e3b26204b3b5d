-- What an object of the outside tells of its content: all of it, or nothing (this project's own).
use Rattle.std.specs.Prelude.{◌≡◌, ⊤, List, ◌++◌, Option, None, Some}

-- Where an object tells before a call it tells afterwards, and this relation holds of what it tells. An object that
-- tells nothing never begins to.
abbrev pub Tells : {A : Type 0} → Option A → Option A → (A → A → Type 0) → Type 0
Tells None None P = ⊤
Tells None (Some new) P = ⊥
Tells (Some old) None P = ⊥
Tells (Some old) (Some new) P = P old new

-- a text of which this is the front
abbrev pub IsFrontOf : {A : Type 0} → List A → List A → Type 0
IsFrontOf {A} front text = (rest : List A) × (text ≡ front ++ rest)
