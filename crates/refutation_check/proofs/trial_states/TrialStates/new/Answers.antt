-- Each line is in a state, and each gate is stale.
use Rattle.std.proofs.Common.{◌≡◌, ◌<◌, ℕ, Bool, true, false, true≢false, List, get_or, length, replicate, refl, sym, ap, subst, ◌∙◌, arith}
use Rattle.std.proofs.lemmas.List.{length-replicate}
use Rattle.std.proofs.lemmas.List.Elements.{All-replicate}
use Rattle.state_sets.specs.declared.state.State.{State}
use Rattle.state_sets.specs.StateAlgebra.{StateAlgebra, HasLaws}
use Rattle.pair_judging.specs.ConeStates.{AreStates}
use Rattle.refutation_check.proofs.trial_states.TrialStates.new.Goals as goal

-- there is some state
some_state : (a : StateAlgebra) → HasLaws a → 0 < a.count
some_state a laws = let below = laws.of_within true true true in omega (arith, below)

-- no flag of so many is down
none_fresh : (count gate : ℕ) (flags : List Bool) → flags ≡ replicate count true → gate < count → get_or flags gate true ≡ false → ⊥
none_fresh count gate flags are within fresh =
    let up : get_or (replicate count true) gate true ≡ true = All-replicate (λ (flag : Bool). flag ≡ true) count true refl gate true
    (subst (λ (n : ℕ). gate < n) (sym (length-replicate count true)) within) in
    true≢false (sym (subst (λ (list : List Bool). get_or list gate true ≡ true) (sym are) up) ∙ fresh)

pub returns : goal.returns
returns g c =
    let zero : State = record { 0 = 0 } in
    let states = c.in_ok-states.ensures.items_if_clones_equal (λ y same. same) in
    let stale = c.in_ok-stale.ensures.items_if_clones_equal (λ y same. same) in
    record {
      room = record {
        states = record {
          places = ap length states ∙ length-replicate c.lines.result zero ∙ c.lines.ensures.count;
          below = subst (AreStates g.A.Algebra.algebra.count) (sym states)
              (All-replicate (λ (state : State). state.0 < g.A.Algebra.algebra.count) c.lines.result zero (some_state g.A.Algebra.algebra g.met.A.Algebra.laws));
        };
        stale = ap length stale ∙ length-replicate c.gates.result true ∙ c.gates.ensures;
      };
      made = λ gate within fresh. absurd (none_fresh c.gates.result gate c.in_ok-stale.stale.items stale
          (subst (λ (n : ℕ). gate < n) (sym c.gates.ensures) within) fresh);
    }
