-- What lists of pins, and paths from their sources on, share at their beginning.
use Rattle.std.proofs.Common.{◌≡◌, ◌≢◌, ⊎_elim, ℕ, ◌<◌, ◌≤◌, Bool, true, IsTrue, ◌↔◌, ◌&&◌, eqb, eq-eqb, List, ◌++◌, length, take, drop, get_or, sym, ap, ap₂, ◌∙◌, arith}
use Rattle.std.specs.Cmp.Lexicographic.{pointwise}
use Rattle.std.proofs.lemmas.Slice.Eq.{starts_is}
use Rattle.std.proofs.lemmas.Bool.{and_parts, cases_lt, eqb-true}
use Rattle.std.proofs.lemmas.List.{get_or-take, length-append, length-take-le, take-append-drop, take-take}
use Rattle.pd_base.specs.declared.ids.PinRef.{PinRef}
use Rattle.pd_base.specs.Route.{Route}
use Rattle.netlist.specs.Paths.{IsPrefixOf, prefix_of}
use Rattle.path_laws.proofs.Prefixes.{is_prefix_of}
use Rattle.prefix_sensitize.specs.PathOrder.{ShareSteps, SharePrefix}

-- whether two pins are one, as the program tests it
abbrev pub is_pin : PinRef → PinRef → Bool
is_pin a b = eqb a.gate.0 b.gate.0 && eqb a.pin b.pin

pub one_pin : (a b : PinRef) → is_pin a b ≡ true → a ≡ b
one_pin a b is =
    let both = and_parts (eqb a.gate.0 b.gate.0) (eqb a.pin b.pin) is in
    let gate = eqb-true a.gate.0 b.gate.0 both.0 in
    let pin = eqb-true a.pin b.pin both.1 in
    λ i. record { gate = record { 0 = gate i }; pin = pin i }

pub pin_itself : (a b : PinRef) → a ≡ b → is_pin a b ≡ true
pin_itself a b same =
    ap₂ (λ x y. x && y) (eq-eqb a.gate.0 b.gate.0 (ap (λ (pin : PinRef). pin.gate.0) same))
    (eq-eqb a.pin b.pin (ap (λ (pin : PinRef). pin.pin) same))

module _ (p q : List PinRef) where
  -- two lists that begin alike and then differ share what is before
  pub share_up_to : (at : ℕ) (d : PinRef) → at < length p → at < length q → take at p ≡ take at q → get_or p at d ≢ get_or q at d
      → ShareSteps p q at
  share_up_to at d in_p in_q same differ = record {
    in_first = omega arith;
    in_second = omega arith;
    same = same;
    most = λ more within_p within_q alike.
        ⊎_elim
        (λ beyond. absurd (differ
        (sym (get_or-take more p at d beyond) ∙ ap (λ steps. get_or steps at d) alike ∙ get_or-take more q at d beyond)))
        (λ within. within) (cases_lt at more);
  }

module _ (other path : Route) where
  -- a path shares with another one from the same source what their steps share
  pub share_from_source : other.source ≡ path.source → (shared : ℕ) → ShareSteps other.steps path.steps shared
      → SharePrefix other path shared
  share_from_source same shared share = record {
    in_path = share.in_second;
    shares = λ steps some within. record {
      source = sym same;
      rest = drop steps other.steps;
      steps = ap (λ first. first ++ drop steps other.steps) (first_alike steps within) ∙ take-append-drop steps other.steps;
    };
    most = λ steps some within of.
        let alike : take steps path.steps ≡ take (length (take steps path.steps)) other.steps =
        ap (λ (route : Route). route.steps) (is_prefix_of (prefix_of steps path) other of) in
        let long : length (take steps path.steps) ≡ steps = length-take-le steps path.steps within in
        let reaches : steps ≤ length other.steps =
        omega (arith, long, length-append (take steps path.steps) of.rest, ap length of.steps) in
        share.most steps reaches within (sym (alike ∙ ap (λ count. take count other.steps) long));
  }
    where
      first_alike : (steps : ℕ) → steps ≤ shared → take steps path.steps ≡ take steps other.steps
      first_alike steps within =
          sym (take-take steps shared path.steps within) ∙ ap (take steps) (sym share.same) ∙ take-take steps shared other.steps within

  -- and nothing with one from another source
  pub share_nothing : other.source ≢ path.source → SharePrefix other path 0
  share_nothing differ = record {
    in_path = omega arith;
    shares = λ steps some within. absurd (omega arith);
    most = λ steps some within of. absurd (differ (sym of.source));
  }

-- a test of the first steps tells whether a path has them
pub first_steps_tell : (path other : Route) (steps : ℕ) (of_path of_other : List PinRef) (result : Bool) → of_path ≡ path.steps
    → of_other ≡ other.steps → path.source ≡ other.source
    → result ≡ pointwise is_pin (take steps of_other) (take (length (take steps of_other)) of_path)
    → IsTrue result ↔ IsPrefixOf (prefix_of steps other) path
first_steps_tell path other steps of_path of_other result own others same is = (begins, tested)
  where
    says : (result ≡ true → of_path ≡ take steps of_other ++ drop (length (take steps of_other)) of_path)
        × ((rest : List PinRef) → of_path ≡ take steps of_other ++ rest → result ≡ true)
    says = starts_is (λ a b. (one_pin a b, pin_itself a b)) of_path (take steps of_other) result is

    begins : IsTrue result → IsPrefixOf (prefix_of steps other) path
    begins found = record {
      source = sym same;
      rest = drop (length (take steps of_other)) of_path;
      steps =
          ap (λ list. take steps list ++ drop (length (take steps of_other)) of_path) (sym others) ∙ sym (says.0 found) ∙ own;
    }

    tested : IsPrefixOf (prefix_of steps other) path → IsTrue result
    tested of = says.1 of.rest (own ∙ sym of.steps ∙ ap (λ list. take steps list ++ of.rest) (sym others))
