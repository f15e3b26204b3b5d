-- Delays that agree at the pins of a circuit give its paths the same lengths, so the first paths are the same, and so is what is good.
use Rattle.std.proofs.Common.{◌≡◌, ℕ, ◌+◌, ◌<◌, List, [], ◌∷◌, map, refl, sym, subst, ◌∙◌, arith}
use Rattle.std.specs.Prelude.{All}
use Rattle.std.specs.List.{sum_by}
use Rattle.std.proofs.lemmas.List.Sums.{sum_by-cons}
use Rattle.std.proofs.lemmas.List.Elements.{All-cons, All-head, All-tail}
use Rattle.pd_base.specs.Route.{Route}
use Rattle.pd_base.specs.declared.ids.PinRef.{PinRef}
use Rattle.netlist.specs.Circuit.{Circuit, gate_line}
use Rattle.netlist.specs.Order.{AreFirst, IsBefore, IsRising}
use Rattle.netlist.specs.Order.IsBefore.{longer, lesser_source, lesser_steps}
use Rattle.netlist.specs.Paths.{Connects, IsPath, length_of}
use Rattle.netlist.specs.Pins.{IsPinOn}
use Rattle.netlist.specs.Waves.{Delays}
use Rattle.runs.specs.declared.run.ListedPath.{ListedPath}
use Rattle.runs.specs.declared.run.Run.{Run}
use Rattle.good_runs.specs.Faults.{routes_of}
use Rattle.good_runs.specs.GoodRun.{IsGoodRun}

-- they agree at each pin that reads a line
abbrev pub AgreeAtPins : Circuit → Delays → Delays → Type 0
AgreeAtPins c a b = (pin : PinRef) (line : ℕ) → IsPinOn c pin line → a pin ≡ b pin

module _ (c : Circuit) (a b : Delays) (agree : AgreeAtPins c a b) where
  sums_agree : (line : ℕ) (steps : List PinRef) → Connects c line steps → sum_by a steps ≡ sum_by b steps
  sums_agree line [] connects = refl
  sums_agree line (step ∷ steps) (on, connects) =
      let here = agree step line on in
      let behind = sums_agree (gate_line c step.gate.0) steps connects in
      sum_by-cons a step steps ∙ (λ i. here i + behind i) ∙ sym (sum_by-cons b step steps)

  lengths_agree : (path : Route) → IsPath c path → length_of a path ≡ length_of b path
  lengths_agree path is = sums_agree path.source.0 path.steps is.prefix.connects

  before_agrees : (p q : Route) → IsPath c p → IsPath c q → IsBefore a p q → IsBefore b p q
  before_agrees p q is_p is_q (longer less) =
      longer (subst (λ (n : ℕ). length_of b q < n) (lengths_agree p is_p)
      (subst (λ (n : ℕ). n < length_of a p) (lengths_agree q is_q) less))
  before_agrees p q is_p is_q (lesser_source same less) =
      lesser_source (sym (lengths_agree p is_p) ∙ same ∙ lengths_agree q is_q) less
  before_agrees p q is_p is_q (lesser_steps same source steps) =
      lesser_steps (sym (lengths_agree p is_p) ∙ same ∙ lengths_agree q is_q) source steps

  rising_agrees : (paths : List Route) → All (IsPath c) paths → IsRising a paths → IsRising b paths
  rising_agrees [] are rising = tt
  rising_agrees (p ∷ []) are rising = tt
  rising_agrees (p ∷ q ∷ paths) are (before, rising) =
      let behind = All-tail (IsPath c) p (q ∷ paths) are in (
        before_agrees p q (All-head (IsPath c) p (q ∷ paths) are) (All-head (IsPath c) q paths behind) before,
        rising_agrees (q ∷ paths) behind rising,
      )

-- the same first paths
first_agree : (c : Circuit) (a b : Delays) → AgreeAtPins c a b → (count : ℕ) (paths : List Route) → AreFirst c a count paths
    → AreFirst c b count paths
first_agree c a b agree count paths are = record {
  are_paths = are.are_paths;
  rising = rising_agrees c a b agree paths are.are_paths are.rising;
  none_before = λ other is not_in k d within before.
      are.none_before other is not_in k d within
      (before_agrees c b a (λ pin line on. sym (agree pin line on)) other _ is (are.are_paths k d within) before);
  full = are.full;
}

-- a list of paths that is read off listed ones
routes_are_paths : (c : Circuit) (paths : List ListedPath) → All (IsPath c) (map (λ listed. listed.path) paths)
    → All (λ (listed : ListedPath). IsPath c listed.path) paths
routes_are_paths c [] are = λ k d within. absurd (omega arith)
routes_are_paths c (listed ∷ paths) are =
    All-cons (λ (l : ListedPath). IsPath c l.path) listed paths
    (All-head (IsPath c) listed.path (map (λ (l : ListedPath). l.path) paths) are)
    (routes_are_paths c paths (All-tail (IsPath c) listed.path (map (λ (l : ListedPath). l.path) paths) are))

-- and the same good runs
pub good_agrees : (c : Circuit) (a b : Delays) → AgreeAtPins c a b → (count budget : ℕ) (run : Run) → IsGoodRun c a count budget run
    → IsGoodRun c b count budget run
good_agrees c a b agree count budget run good = record {
  first = first_agree c a b agree count (routes_of run) good.first;
  lengths = λ k d within. good.lengths k d within ∙ lengths_agree c a b agree _ (routes_are_paths c run.paths good.first.are_paths k d within);
  tests_cited = good.tests_cited;
  proofs_cited = good.proofs_cited;
  refutations = good.refutations;
  spent = good.spent;
  verdicts = good.verdicts;
  of_rules = good.of_rules;
  expected = good.expected;
}
