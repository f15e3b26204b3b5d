-- The values at a gate's pins: one for each pin, and one pin more.
use Rattle.std.proofs.Common.{◌≡◌, ℕ, ◌+◌, ◌<◌, ◌≤◌, ℤ, Bool, true, false, not, List, [], ◌++◌, Option, option_to_list, take, drop, length, refl, ap, sym, subst, ◌∙◌, arith, IsPermutation}
use Rattle.std.specs.List.{sum_by, All}
use Rattle.std.proofs.lemmas.List.{map_more, length-map}
use Rattle.std.proofs.lemmas.List.Elements.{All-append}
use Rattle.std.proofs.lemmas.List.Sorted.{All-permutation, sum_by-IsPermutation}
use Rattle.std.proofs.lemmas.List.Sums.{sum_by_push, sum_by-append}
use Rattle.netlist.specs.declared.kind.GateKind.{GateKind}
use Rattle.netlist.specs.Lawful.{IsFanIn}
use Rattle.netlist.specs.Values.{gate_value}
use Rattle.delay_replay.specs.declared.pin_changes.PinChange.{PinChange}
use Rattle.delay_replay.specs.Changes.{Changes, wave_at}
use Rattle.delay_replay.specs.PinChanges.{one, ones, copy_at, copy_values, turned_by, shown, IsPinChange, IsNextOrNone, AreAmong}
use Rattle.delay_replay.proofs.NextChanges.{next_counts, next_among, next_each}

-- one pin more shows what its changes make of its first value
pub one_more : (copies : List Changes) (pin : ℕ) → pin < length copies → (time : ℤ)
    → ones (copy_values (take (pin + 1) copies) time)
    ≡ ones (copy_values (take pin copies) time) + one (turned_by (copy_at copies pin).before (drop 0 (copy_at copies pin).times) time)
one_more copies pin within time =
    ap ones (map_more (λ copy. wave_at copy time) copies pin (record { before = false; times = [] }) within)
    ∙ sum_by_push one (copy_values (take pin copies) time) _

-- one pin more, of which this is the next change, if there is one
module _ (all : List Changes) (pin : ℕ) (next : Option PinChange)
    (is : IsNextOrNone (copy_at all pin) pin 0 (copy_at all pin).before next) (old new : List PinChange)
    (added : IsPermutation (option_to_list next ++ old) new) where
  -- a sum over all next changes
  now : (f : PinChange → ℕ) → sum_by f new ≡ sum_by f (option_to_list next) + sum_by f old
  now f = sum_by-IsPermutation f (option_to_list next ++ old) new added ∙ sum_by-append f (option_to_list next) old

  -- its next change is one like the others
  pub added_each : pin < length all → All (IsPinChange all) old → All (IsPinChange all) new
  added_each inside each =
      All-permutation (IsPinChange all) (option_to_list next ++ old) new added
      (All-append (IsPinChange all) (option_to_list next) old
      (next_each all pin 0 (copy_at all pin).before inside next is) each)

  module _ (count counted : ℕ) (more : counted ≡ count + one (copy_at all pin).before) where
    -- the bounds of the count
    pub added_among : (pins : ℕ) → AreAmong pins count old → AreAmong (pins + 1) counted new
    added_among pins among =
        let counts = next_among all pin 0 (copy_at all pin).before next is in record {
          least = omega (arith, among.least, now (λ n. one (not n.rises)), counts.0, more);
          most = most_more _ _ _ _ _ among.most (now (λ n. one n.rises)) counts.1 more (both (copy_at all pin).before);
        }
      where
        both : (value : Bool) → one value + one (not value) ≡ 1
        both true = refl
        both false = refl

        most_more : (r s o n b : ℕ) → count + r ≤ pins → s ≡ o + r → o ≤ n → counted ≡ count + b → b + n ≡ 1 → counted + s ≤ pins + 1
        most_more r s o n b e f g h i = omega arith

    -- the count is that of the pins with this one
    pub added_counted : (now_ones old_ones : ℕ) (time : ℤ)
        → now_ones ≡ old_ones + one (turned_by (copy_at all pin).before (drop 0 (copy_at all pin).times) time)
        → old_ones + sum_by (λ n. one (not n.rises)) old ≡ count + sum_by (λ n. one (shown all n time)) old
        → now_ones + sum_by (λ n. one (not n.rises)) new ≡ counted + sum_by (λ n. one (shown all n time)) new
    added_counted now_ones old_ones time shows are =
        sums _ _ _ _ _ _ _ _ _ _ shows are (now (λ n. one (not n.rises))) (now (λ n. one (shown all n time)))
        (next_counts all pin 0 (copy_at all pin).before next is time) more
      where
        sums : (v' v b so sn fo fn ro rn c : ℕ) → v' ≡ v + b → v + so ≡ count + sn → fo ≡ ro + so → fn ≡ rn + sn → b + ro ≡ c + rn
            → counted ≡ count + c → v' + fo ≡ counted + fn
        sums v' v b so sn fo fn ro rn c e f g h i j = omega arith

-- what is told of a gate's value by the count of its pins that are 1, at each time
pub value_told : (kind : GateKind) (copies : List Changes) → IsFanIn kind (length copies) → (pins count : ℕ) (value : Bool)
    → pins ≡ length copies
    → ((values : List Bool) → IsFanIn kind (length values) → length values ≡ pins → ones values ≡ count → value ≡ gate_value kind values)
    → (time : ℤ) → ones (copy_values copies time) ≡ count → value ≡ gate_value kind (copy_values copies time)
value_told kind copies fan_in pins count value many told time counted =
    let long = length-map copies (λ (copy : Changes). wave_at copy time) in
    told (copy_values copies time) (subst (IsFanIn kind) (sym long) fan_in) (long ∙ sym many) counted
