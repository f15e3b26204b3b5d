-- Flags, and the gates and links that wait.
use Rattle.std.proofs.Common.{◌≡◌, ◌≢◌, ℕ, zero, suc, ◌+◌, ◌<◌, ◌≤◌, ⊎_elim, Bool, true, false, List, [], ◌∷◌, ◌++◌, length, get_or, refl, sym, ap, ◌∙◌, subst, arith}
use Rattle.std.proofs.Math.ListN.{set}
use Rattle.std.specs.List.{All, Contains, sum_by}
use Rattle.std.proofs.lemmas.Bool.{cases_eq, false≢true}
use Rattle.std.proofs.lemmas.List.{length-set, length_push, get_or-set_same, get_or-set_other}
use Rattle.std.proofs.lemmas.List.Elements.{All-push, All-head, All-tail, Contains-append_left, Contains-push}
use Rattle.std.proofs.lemmas.List.Sums.{sum_by-le, sum_by-set}
use Rattle.hulls.specs.declared.turn.Turn.{Turn}
use Rattle.hulls.specs.Awaiting.{Awaited, is_inside, one_if, IsFlagged, IsWoken}

one_if_le : (b : Bool) → one_if b ≤ 1
one_if_le true = omega arith
one_if_le false = omega arith

-- no more flags are up than there are
flags_up : (flags : List Bool) → sum_by one_if flags ≤ length flags
flags_up flags = let e = sum_by-le one_if 1 flags (λ k d inside. one_if_le (get_or flags k d)) in omega arith

-- what stands in a list and isn't its head stands behind it
pub behind : (turn : Turn) (rest : List Turn) (other : Turn) → (turn ≡ other → ⊥) → (k : ℕ) → k < length (turn ∷ rest)
    → get_or (turn ∷ rest) k other ≡ other → Contains rest other
behind turn rest other away zero inside is = absurd (away is)
behind turn rest other away (suc k) inside is = (k, (let i = inside in omega arith), is)

-- a gate or link inside has a number below that of the flags
pub inside_within : (inside : List Bool) (turn : ℕ) → is_inside inside turn ≡ true → turn < length inside
inside_within [] turn is = absurd (false≢true is)
inside_within (flag ∷ flags) zero is = omega arith
inside_within (flag ∷ flags) (suc turn) is = let e = inside_within flags turn is in omega arith

module _ (inside flags : List Bool) (waiting : List Turn) (room : ℕ) (is : IsFlagged inside flags waiting room) where
  abbrev awaited : Awaited
  awaited = record { inside = inside; waiting = waiting }

  module _ (turn : Turn) (within : turn.0 < length inside) where
    flag_within : turn.0 < length flags
    flag_within = let e = is.one_each in omega arith

    -- one that is inside and does not wait
    module _ (down : get_or flags turn.0 false ≡ false) where
      here : is_inside inside turn.0 ≡ true
      here = is.down turn.0 flag_within down

      abbrev raised : List Bool
      raised = set flags turn.0 true

      one_more : sum_by one_if raised ≡ sum_by one_if flags + 1
      one_more = let e = sum_by-set one_if flags turn.0 true false flag_within in let f = ap one_if down in omega arith

      same_many : length raised ≡ length flags
      same_many = length-set flags turn.0 true

      pub has_room : length waiting < room
      has_room =
          let e = flags_up raised in let f = one_more in let g = same_many in let h = is.few in let i = is.enough in omega arith

      pub added : IsFlagged inside raised (waiting ++ turn ∷ []) room
      added = record {
        one_each = same_many ∙ is.one_each;
        flagged = λ other among up. ⊎_elim
            (λ (same : other ≡ turn.0). subst (λ (n : ℕ). Contains (waiting ++ turn ∷ []) (record { 0 = n })) (sym same)
            (Contains-push waiting turn))
            (λ (away : other ≢ turn.0). Contains-append_left waiting (turn ∷ []) (record { 0 = other })
            (is.flagged other among (sym (get_or-set_other flags turn.0 other true false away) ∙ up)))
            (cases_eq other turn.0);
        down = λ other below low. ⊎_elim
            (λ (same : other ≡ turn.0). subst (λ (n : ℕ). is_inside inside n ≡ true) (sym same) here)
            (λ (away : other ≢ turn.0).
            is.down other (omega (arith, same_many, below)) (sym (get_or-set_other flags turn.0 other true false away) ∙ low))
            (cases_eq other turn.0);
        few = let e = one_more in let f = length_push waiting turn in let h = is.few in omega arith;
        all_inside = All-push (λ (g : Turn). is_inside inside g.0 ≡ true) waiting turn is.all_inside here;
        enough = let e = same_many in let i = is.enough in omega arith;
      }

      pub is_added : IsWoken turn awaited (record { inside = inside; waiting = waiting ++ turn ∷ [] })
      is_added = record {
        more = record {
          inside = refl;
          stays = λ other waits. Contains-append_left waiting (turn ∷ []) other waits;
          few = λ few. let e = flags_up raised in let f = added.few in let g = added.one_each in omega arith;
        };
        waits = λ inside. Contains-push waiting turn;
      }

  -- the first is taken
  module _ (turn : Turn) (rest : List Turn) (first : waiting ≡ turn ∷ rest) where
    abbrev lowered : List Bool
    lowered = set flags turn.0 false

    all_in : All (λ (g : Turn). is_inside inside g.0 ≡ true) (turn ∷ rest)
    all_in = subst (All (λ (g : Turn). is_inside inside g.0 ≡ true)) first is.all_inside

    pub first_inside : is_inside inside turn.0 ≡ true
    first_inside = All-head (λ (g : Turn). is_inside inside g.0 ≡ true) turn rest all_in

    pub first_in_range : turn.0 < length flags
    first_in_range = let e = inside_within inside turn.0 first_inside in let f = is.one_each in omega arith

    same_length : length lowered ≡ length flags
    same_length = length-set flags turn.0 false

    pub popped : IsFlagged inside lowered rest room
    popped = record {
      one_each = same_length ∙ is.one_each;
      flagged = λ other among up. ⊎_elim
          (λ (here : other ≡ turn.0). absurd (false≢true
          (sym (get_or-set_same flags turn.0 false false first_in_range) ∙ ap (λ n. get_or lowered n false) (sym here) ∙ up)))
          (λ (away : other ≢ turn.0).
          let waits : Contains (turn ∷ rest) (record { 0 = other }) =
          subst (λ (gs : List Turn). Contains gs (record { 0 = other })) first
          (is.flagged other among (sym (get_or-set_other flags turn.0 other false false away) ∙ up)) in
          behind turn rest (record { 0 = other }) (λ same. away (sym (ap (λ (g : Turn). g.0) same))) waits.0 waits.1 waits.2)
          (cases_eq other turn.0);
      down = λ other below low. ⊎_elim
          (λ (same : other ≡ turn.0). subst (λ (n : ℕ). is_inside inside n ≡ true) (sym same) first_inside)
          (λ (away : other ≢ turn.0).
          is.down other (omega (arith, same_length, below)) (sym (get_or-set_other flags turn.0 other false false away) ∙ low))
          (cases_eq other turn.0);
      few = let e = sum_by-set one_if flags turn.0 false false first_in_range in let f = one_if_le (get_or flags turn.0 false) in
          let g = ap length first in let h = is.few in omega arith;
      all_inside = All-tail (λ (g : Turn). is_inside inside g.0 ≡ true) turn rest all_in;
      enough = let e = same_length in let i = is.enough in omega arith;
    }
