-- Sides that are judged in lanes: the words' operations are the table of conditions, and the sides of a gate are judged one after another.
use Rattle.std.proofs.Common.{◌≡◌, ◌≢◌, ℕ, ◌+◌, ◌<◌, ◌↔◌, Bool, true, false, not, ◌&&◌, ◌||◌, IsTrue, List, slice_get, Some, refl, sym, subst, arith}
use borrow.Author.Count.{below_more}
use Rattle.std.proofs.lemmas.Bool.{false≢true}
use Rattle.pd_base.specs.declared.ids.LineId.{LineId}
use Rattle.pd_base.specs.declared.fault.Kind.{Kind}
use Rattle.pd_base.specs.declared.fault.Kind.TheVariants.{Robust}
use Rattle.netlist.specs.declared.kind.GateKind.{GateKind}
use Rattle.netlist.specs.declared.kind.GateKind.TheVariants.{And, Or}
use Rattle.netlist.specs.declared.side_conditions.SideCondition.{SideCondition}
use Rattle.netlist.specs.Conditions.{side_condition, Allows}
use Rattle.logic_values.specs.Lanes.{lane_bit}

-- in a lane the pin is the on-path one, or its line is allowed
abbrev pub IsAllowedIn : Kind → GateKind → Bool → List ℕ → List ℕ → ℕ → ℕ → List LineId → ℕ → Type 0
IsAllowedIn kind gate on_path finals steadies lane on pins pin =
    (side : LineId) → pin ≢ on → slice_get pins pin ≡ Some side
    → Allows (side_condition kind gate on_path) (lane_bit finals lane side.0) (lane_bit steadies lane side.0)

-- what is said of a bit is said of one that is the same
pub said_of : (P : Type 0) (a b : Bool) → a ≡ b → IsTrue b ↔ P → IsTrue a ↔ P
said_of P a b same says = subst (λ bit. IsTrue bit ↔ P) (sym same) says

-- what is allowed stays so, where the same is asked of the same
pub allows_same : {asked asked-2 : SideCondition} {last last-2 steady steady-2 : Bool} → asked ≡ asked-2 → last ≡ last-2 → steady ≡ steady-2
    → Allows asked last steady ↔ Allows asked-2 last-2 steady-2
allows_same {asked} {asked-2} {last} {last-2} {steady} {steady-2} one two three =
    subst (λ a. Allows asked last steady ↔ Allows a last-2 steady-2) one
    (subst (λ l. Allows asked last steady ↔ Allows asked l steady-2) two
    (subst (λ s. Allows asked last steady ↔ Allows asked last s) three (λ is. is, λ is. is)))

-- both bits are true
pub both_true : (a b : Bool) → IsTrue (a && b) ↔ (IsTrue a × IsTrue b)
both_true true b = (λ is. (refl, is), λ both. both.1)
both_true false b = (λ is. absurd (false≢true is), λ both. both.0)

-- a transition ends at one value, and is no steadiness
pub launched_at : (last steady : Bool) → IsTrue (last && not steady) ↔ ((last ≡ true) × (steady ≡ false))
launched_at true true = (λ is. absurd (false≢true is), λ both. sym both.1)
launched_at true false = (λ is. (refl, refl), λ both. refl)
launched_at false steady = (λ is. absurd (false≢true is), λ both. both.0)

pub launched_not : (last steady : Bool) → IsTrue (not last && not steady) ↔ ((last ≡ false) × (steady ≡ false))
launched_not false true = (λ is. absurd (false≢true is), λ both. sym both.1)
launched_not false false = (λ is. (refl, refl), λ both. refl)
launched_not true steady = (λ is. absurd (false≢true is), λ both. sym both.0)

-- gates whose controlling value is 0
pub allowed_and : (on_path last steady : Bool)
    → IsTrue (last && (steady || on_path)) ↔ Allows (side_condition Robust And on_path) last steady
allowed_and true true true = (λ is. refl, λ is. refl)
allowed_and true true false = (λ is. refl, λ is. refl)
allowed_and true false steady = (λ is. is, λ is. is)
allowed_and false true true = (λ is. (refl, refl), λ is. refl)
allowed_and false true false = (λ is. (refl, is), λ both. both.1)
allowed_and false false steady = (λ is. absurd (false≢true is), λ both. both.0)

-- and those whose controlling value is 1
pub allowed_or : (on_path last steady : Bool)
    → IsTrue (not last && (steady || not on_path)) ↔ Allows (side_condition Robust Or on_path) last steady
allowed_or false false true = (λ is. refl, λ is. refl)
allowed_or false false false = (λ is. refl, λ is. refl)
allowed_or false true steady = (λ is. absurd (false≢true is), λ is. sym is)
allowed_or true false true = (λ is. (refl, refl), λ is. refl)
allowed_or true false false = (λ is. (refl, is), λ both. both.1)
allowed_or true true steady = (λ is. absurd (false≢true is), λ both. sym both.0)

-- a bit that is not 1 is 0
pub ends_at_none : (last : Bool) → IsTrue (not last) ↔ (last ≡ false)
ends_at_none true = (λ is. sym is, λ is. sym is)
ends_at_none false = (λ is. refl, λ is. refl)

module _ (P : ℕ → Type 0) (place : ℕ) (before : Bool) (says : IsTrue before ↔ ((k : ℕ) → k < place → P k)) where
  -- one place more is judged
  pub one_more : (this : Bool) → IsTrue this ↔ P place → IsTrue (before && this) ↔ ((k : ℕ) → k < place + 1 → P k)
  one_more this here = (
    λ is. let both = (both_true before this).0 is in below_more P place (says.0 both.0) (here.0 both.1),
    λ below. (both_true before this).1 (says.1 (λ k within. below k (omega arith)), here.1 (below place (omega arith))),
  )

  -- one place more has nothing to be judged
  pub one_free : P place → IsTrue before ↔ ((k : ℕ) → k < place + 1 → P k)
  one_free here = (λ is. below_more P place (says.0 is) here, λ below. says.1 (λ k within. below k (omega arith)))
