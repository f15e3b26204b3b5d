-- Walks of a graph from a node to one at which they may stop (this project's own).
use Rattle.std.specs.Prelude.{ℕ, ◌+◌, ◌-◌, ◌<◌, ◌^◌, List, [], ◌∷◌, IsTrue}
use Rattle.path_laws.specs.Graph.{Graph, IsArcOf, delay_of, arc_end, may_stop}

-- these arcs, one after the other, lead from the node to one where a walk may stop
abbrev pub Leads : Graph → ℕ → List ℕ → Type 0
Leads g node [] = IsTrue (may_stop g node)
Leads g node (arc ∷ walk) = IsArcOf g node arc × Leads g (arc_end g arc) walk

-- the delays of its arcs together
abbrev pub walk_length : Graph → List ℕ → ℕ
walk_length g [] = 0
walk_length g (arc ∷ walk) = delay_of g arc + walk_length g walk

-- the length of each walk fits 32 bits, and the greatest such number is left free
abbrev pub HasShortWalks : Graph → Type 0
HasShortWalks g = (node : ℕ) (walk : List ℕ) → Leads g node walk → walk_length g walk < 2 ^ 32 - 1
