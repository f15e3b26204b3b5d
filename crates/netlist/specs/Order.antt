-- The order in which paths are listed, and the first paths of a circuit (this project's own).
use Rattle.std.specs.Prelude.{◌≡◌, ⊤, ℕ, ◌<◌, List, [], ◌∷◌, length, All, Contains}
use Rattle.pd_base.specs.declared.ids.PinRef.{PinRef}
use Rattle.pd_base.specs.Route.{Route}
use Rattle.netlist.specs.Circuit.{Circuit}
use Rattle.netlist.specs.Pins.{IsPinBefore}
use Rattle.netlist.specs.Waves.{Delays}
use Rattle.netlist.specs.Paths.{IsPath, length_of}

-- the first steps that differ decide, and a list stands before each longer one that begins with it
pub data AreStepsBefore : List PinRef → List PinRef → Type 0 where
  shorter_list : {b : PinRef} {more : List PinRef} → AreStepsBefore [] (b ∷ more)
  lesser_step : {a b : PinRef} {rest more : List PinRef} → IsPinBefore a b → AreStepsBefore (a ∷ rest) (b ∷ more)
  same_step : {a b : PinRef} {rest more : List PinRef} → a ≡ b → AreStepsBefore rest more → AreStepsBefore (a ∷ rest) (b ∷ more)

-- the longer path stands before, then the one of the lesser source, then the one of the lesser steps
pub data IsBefore (delays : Delays) (p q : Route) : Type 0 where
  longer : length_of delays q < length_of delays p → IsBefore delays p q
  lesser_source : length_of delays p ≡ length_of delays q → p.source.0 < q.source.0 → IsBefore delays p q
  lesser_steps : length_of delays p ≡ length_of delays q → p.source ≡ q.source → AreStepsBefore p.steps q.steps
      → IsBefore delays p q

-- each path stands before the next
abbrev pub IsRising : Delays → List Route → Type 0
IsRising delays [] = ⊤
IsRising delays (p ∷ []) = ⊤
IsRising delays (p ∷ q ∷ paths) = IsBefore delays p q × IsRising delays (q ∷ paths)

-- there are so many paths, or all of the circuit where it has fewer
pub data IsFull (c : Circuit) (count : ℕ) (paths : List Route) : Type 0 where
  so_many : length paths ≡ count → IsFull c count paths
  all_paths : length paths < count → ((other : Route) → IsPath c other → Contains paths other) → IsFull c count paths

-- the list has the first count paths of the circuit in this order, or all of them where there are fewer
pub record AreFirst (c : Circuit) (delays : Delays) (count : ℕ) (paths : List Route) : Type 0 where
  pub are_paths : All (IsPath c) paths
  pub rising : IsRising delays paths
  pub none_before : (other : Route) → IsPath c other → ¬ Contains paths other
      → All (λ p. ¬ IsBefore delays other p) paths
  pub full : IsFull c count paths
