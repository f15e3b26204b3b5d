-- The halves above a node of a tree, from the deepest up, and where a walk in preorder goes on to (this project's own).
use Rattle.std.specs.Prelude.{◌≡◌, ◌⊎◌, true, List, [], ◌∷◌, ◌++◌, cond}
use Rattle.state_laws.specs.declared.split.Half.{Half}
use Rattle.state_laws.specs.Halves.{half_of}

-- these halves in the order from the root down
abbrev pub halves_of : List Half → List Half
halves_of [] = []
halves_of (half ∷ above) = halves_of above ++ half ∷ []

-- the other half of a first half
abbrev pub turned : Half → Half
turned half = half_of half.split true

-- for each first half, from the deepest up, the halves above the tree that waits there
abbrev pub turns : List Half → List (List Half)
turns [] = []
turns (half ∷ above) = cond half.second (turns above) ((turned half ∷ above) ∷ turns above)

-- where a walk goes on to behind the last node below these halves: no tree waits, or these are the halves above the one that waits
-- first
abbrev pub GoesOn : List Half → List Half → Type 0
GoesOn above next = (turns above ≡ []) ⊎ (turns above ≡ next ∷ turns next)
