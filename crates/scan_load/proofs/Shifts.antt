-- What bits that are shifted in leave, and what one shift more does to the first vector of a pair; and that only a pair whose bits move on
-- along the chain can be loaded.
use Rattle.std.proofs.Common.{◌≡◌, ◌≢◌, ◌∙◌, ◌+◌, ◌-◌, ◌<◌, ◌≤◌, ◌↔◌, ℕ, zero, suc, Bool, true, false, not, List, [], ◌∷◌, ◌++◌, length, get_or, take, drop, reverse, refl, sym, ap, ap₂, subst, append_assoc, append-nil, arith}
use Rattle.std.specs.Bool.{beq}
use Rattle.std.specs.List.{All, AllByRecursion}
use Rattle.std.proofs.lemmas.List.{get_or-map, get_or-reverse, length-append, length-drop, length-map, length-reverse, length-take, reverse-append, reverse-reverse, take_all, take_at, take_more, take-append-drop, take-take}
use Rattle.std.proofs.lemmas.List.Elements.{All-from_recursion, All-push, recursion_from_All}
use Rattle.pd_base.specs.Pair.{Vectors}
use Rattle.pd_base.specs.declared.ids.LineId.{LineId}
use Rattle.netlist.specs.Values.{bit_of}
use Rattle.scan_order.specs.SkewedLinks.{links_along}
use Rattle.scan_order.proofs.Linked.{links_along-next}
use Rattle.scan_load.specs.Shifting.{IsLoadable, Loads, ShiftsOn, after_shifts, chain_bits, load_bits, shift}

-- bits that are shifted in stand there in reverse, before what is left of the state
shifted_in : (bits state : List Bool) → length bits ≤ length state → after_shifts state bits ≡ reverse bits ++ take (length state - length bits) state
shifted_in [] state few = sym (take_all (length state - 0) state (omega arith))
shifted_in (bit ∷ bits) [] few = absurd (omega arith)
shifted_in (bit ∷ bits) (first ∷ state) few =
    let long : length (shift (first ∷ state) bit) ≡ length (first ∷ state) = omega (arith, length-take (length (first ∷ state) - 1) (first ∷ state)) in
    let left : length (shift (first ∷ state) bit) - length bits ≡ suc (length (first ∷ state) - length (bit ∷ bits)) = omega (arith, long) in
    shifted_in bits (shift (first ∷ state) bit) (omega (arith, long))
    ∙ ap (λ (n : ℕ). reverse bits ++ take n (shift (first ∷ state) bit)) left
    ∙ ap (λ (rest : List Bool). reverse bits ++ bit ∷ rest)
    (take-take (length (first ∷ state) - length (bit ∷ bits)) (length (first ∷ state) - 1) (first ∷ state) (omega arith))
    ∙ sym (append_assoc (reverse bits) (bit ∷ []) (take (length (first ∷ state) - length (bit ∷ bits)) (first ∷ state)))
    ∙ ap (λ (front : List Bool). front ++ take (length (first ∷ state) - length (bit ∷ bits)) (first ∷ state)) (sym (reverse-append (bit ∷ []) bits))

-- as many bits as the state has take its place
all_shifted_in : (bits state : List Bool) → length state ≡ length bits → after_shifts state (reverse bits) ≡ bits
all_shifted_in bits state same =
    shifted_in (reverse bits) state (omega (arith, length-reverse bits))
    ∙ ap₂ (λ (a b : List Bool). a ++ b) (reverse-reverse bits)
    (ap (λ (n : ℕ). take n state) (let none : length state - length (reverse bits) ≡ 0 = omega (arith, length-reverse bits) in none))
    ∙ append-nil bits

after_shifts-append : (state bits more : List Bool) → after_shifts state (bits ++ more) ≡ after_shifts (after_shifts state bits) more
after_shifts-append state [] more = refl
after_shifts-append state (bit ∷ bits) more = after_shifts-append (shift state bit) bits more

-- where the second vector has at each line the bit of the first at the line before, its bits are those of the first but the last
moved_on : (pair : Vectors) (line : LineId) (chain : List LineId)
    → AllByRecursion (λ link. bit_of pair.second link.0.0 ≡ bit_of pair.first link.1.0) (links_along (line ∷ chain))
    → take (length chain) (chain_bits (line ∷ chain) pair.first) ≡ chain_bits chain pair.second
moved_on pair line [] shifts = refl
moved_on pair line (next ∷ chain) shifts = ap₂ ◌∷◌ (sym shifts.0) (moved_on pair next chain shifts.1)

-- the string that loads a chain
loads : (pair : Vectors) (line : LineId) (chain : List LineId) → ShiftsOn (line ∷ chain) pair
    → Loads (line ∷ chain) pair (reverse (chain_bits (line ∷ chain) pair.first) ++ bit_of pair.second line.0 ∷ [])
loads pair line chain shifts = record {
  count = omega (arith, length-append (reverse bits) (last ∷ []), length-reverse bits, long);
  first = λ state same.
      ap (after_shifts state) (take_at (reverse bits) (last ∷ []) (length (line ∷ chain)) (omega (arith, length-reverse bits, long)))
      ∙ all_shifted_in bits state (omega (arith, same, long));
  second = λ state same.
      after_shifts-append state (reverse bits) (last ∷ [])
      ∙ ap (λ (loaded : List Bool). shift loaded last) (all_shifted_in bits state (omega (arith, same, long)))
      ∙ ap (λ (rest : List Bool). last ∷ rest)
      (ap (λ (n : ℕ). take n bits) (let one_less : length bits - 1 ≡ length chain = omega (arith, long) in one_less)
      ∙ moved_on pair line chain (recursion_from_All _ (links_along (line ∷ chain)) shifts));
}
  where
    bits : List Bool
    bits = chain_bits (line ∷ chain) pair.first

    last : Bool
    last = bit_of pair.second line.0

    long : length bits ≡ length (line ∷ chain)
    long = length-map (line ∷ chain) (λ l. bit_of pair.first l.0)

-- the same of a chain that has a line
pub loads_of : (pair : Vectors) (chain : List LineId) (d : LineId) (string : List Bool) → 1 ≤ length chain → ShiftsOn chain pair
    → string ≡ reverse (chain_bits chain pair.first) ++ bit_of pair.second (get_or chain 0 d).0 ∷ [] → Loads chain pair string
loads_of pair [] d string some shifts is = absurd (omega arith)
loads_of pair (line ∷ chain) d string some shifts is = subst (Loads (line ∷ chain) pair) (sym is) (loads pair line chain shifts)

-- the bit at the first line of a chain
pub first_bit : (chain : List LineId) (d : LineId) (vector : List Bool) → 1 ≤ length chain
    → bit_of vector (get_or chain 0 d).0 ∷ [] ≡ take 1 (chain_bits chain vector)
first_bit [] d vector some = absurd (omega arith)
first_bit (line ∷ chain) d vector some = refl

-- the bits for a pair load it
pub loads_by_bits : (pair : Vectors) (chain : List LineId) → 1 ≤ length chain → ShiftsOn chain pair → Loads chain pair (load_bits chain pair)
loads_by_bits pair [] some shifts = absurd (omega arith)
loads_by_bits pair (line ∷ chain) some shifts = loads pair line chain shifts

-- ---- and no other pair is loaded by any bits

-- where the second vector's bits are those of the first but the last, each link has moved a bit on
moved_back : (pair : Vectors) (line : LineId) (chain : List LineId)
    → chain_bits chain pair.second ≡ take (length chain) (chain_bits (line ∷ chain) pair.first)
    → AllByRecursion (λ link. bit_of pair.second link.0.0 ≡ bit_of pair.first link.1.0) (links_along (line ∷ chain))
moved_back pair line [] same = tt
moved_back pair line (next ∷ chain) same =
    (ap (λ (bits : List Bool). get_or bits 0 false) same, moved_back pair next chain (ap (λ (bits : List Bool). drop 1 bits) same))

-- what one bit more leaves of a loaded vector
one_shift : (loaded more after : List Bool) → length more ≡ 1 → after_shifts loaded more ≡ after → drop 1 after ≡ take (length loaded - 1) loaded
one_shift loaded [] after one is = absurd (omega arith)
one_shift loaded (bit ∷ []) after one is = ap (λ (bits : List Bool). drop 1 bits) (sym is)
one_shift loaded (bit ∷ next ∷ more) after one is = absurd (omega arith)

-- where some string loads the pair, its bits move on
pub loaded_shifts_on : (pair : Vectors) (chain : List LineId) (string : List Bool) → Loads chain pair string → ShiftsOn chain pair
loaded_shifts_on pair [] string by = λ k d within. absurd (omega arith)
loaded_shifts_on pair (line ∷ chain) string by =
    All-from_recursion _ (links_along (line ∷ chain)) (moved_back pair line chain
    (one_shift bits (drop (length (line ∷ chain)) string) (chain_bits (line ∷ chain) pair.second)
    (omega (arith, length-drop (length (line ∷ chain)) string, by.count))
    (ap (λ (loaded : List Bool). after_shifts loaded (drop (length (line ∷ chain)) string)) (sym (by.first bits long))
    ∙ sym (after_shifts-append bits (take (length (line ∷ chain)) string) (drop (length (line ∷ chain)) string))
    ∙ ap (after_shifts bits) (take-append-drop (length (line ∷ chain)) string)
    ∙ by.second bits long)
    ∙ ap (λ (n : ℕ). take n bits) (let one_less : length bits - 1 ≡ length chain = omega (arith, long) in one_less)))
  where
    bits : List Bool
    bits = chain_bits (line ∷ chain) pair.first

    long : length bits ≡ length (line ∷ chain)
    long = length-map (line ∷ chain) (λ l. bit_of pair.first l.0)

-- so the bits of a pair move on along chains exactly where some bits load it into each
pub shifting_is_loadable : (chains : List (List LineId)) → All (λ chain. 1 ≤ length chain) chains → (pair : Vectors)
    → All (λ chain. ShiftsOn chain pair) chains ↔ All (λ chain. IsLoadable chain pair) chains
shifting_is_loadable chains some pair = (
  λ shifts k d within. (load_bits (get_or chains k d) pair, loads_by_bits pair (get_or chains k d) (some k d within) (shifts k d within)),
  λ loadable k d within. let by = loadable k d within in loaded_shifts_on pair (get_or chains k d) by.0 by.1,
)

-- ---- links along a chain, one by one

length_links : (chain : List LineId) → length (links_along chain) ≡ length chain - 1
length_links [] = refl
length_links (line ∷ []) = refl
length_links (line ∷ next ∷ chain) = let rest = length_links (next ∷ chain) in omega (arith, rest)

link_at : (chain : List LineId) (place : ℕ) (d : LineId) → suc place < length chain
    → get_or (links_along chain) place (d, d) ≡ (get_or chain (suc place) d, get_or chain place d)
link_at [] place d within = absurd (omega arith)
link_at (line ∷ []) place d within = absurd (omega arith)
link_at (line ∷ next ∷ chain) zero d within = refl
link_at (line ∷ next ∷ chain) (suc place) d within = link_at (next ∷ chain) place d (omega arith)

module _ (chain : List LineId) (pair : Vectors) where
  abbrev MovesOn : LineId × LineId → Type 0
  MovesOn link = bit_of pair.second link.0.0 ≡ bit_of pair.first link.1.0

  -- where the bits move on along the chain, they do so to the flip-flop at each place but the first
  pub moved_to : (at : ℕ) (d : LineId) → 1 ≤ at → at < length chain → ShiftsOn chain pair
      → bit_of pair.second (get_or chain at d).0 ≡ bit_of pair.first (get_or chain (at - 1) d).0
  moved_to zero d some within shifts = absurd (omega arith)
  moved_to (suc place) d some within shifts =
      subst MovesOn (link_at chain place d within ∙ ap (λ (n : ℕ). (get_or chain (suc place) d, get_or chain n d)) (let same : place ≡ suc place - 1 = omega arith in same))
      (shifts place (d, d) (omega (arith, length_links chain)))

  -- one flip-flop more
  pub one_more_moved : (at : ℕ) (d : LineId) → 1 ≤ at → at < length chain → ShiftsOn (take at chain) pair
      → bit_of pair.second (get_or chain at d).0 ≡ bit_of pair.first (get_or chain (at - 1) d).0 → ShiftsOn (take (at + 1) chain) pair
  one_more_moved at d some within shifts moved =
      subst (All MovesOn) (sym (links_along-next at chain d some within))
      (All-push MovesOn (links_along (take at chain)) (get_or chain at d, get_or chain (at - 1) d) shifts moved)

-- two bits that are told apart, or not
pub bits_differ : (a b : Bool) → not (beq a b) ≡ true → a ≢ b
bits_differ false false told same = cc
bits_differ false true told same = cc
bits_differ true false told same = cc
bits_differ true true told same = cc

pub bits_agree : (a b : Bool) → not (beq a b) ≡ false → a ≡ b
bits_agree false false told = refl
bits_agree false true told = cc
bits_agree true false told = cc
bits_agree true true told = refl

-- one bit more of those from the last line of a chain on
pub one_more_bit : (chain : List LineId) (vector string : List Bool) (at : ℕ) (d : LineId) → at < length chain
    → string ≡ take at (reverse (chain_bits chain vector))
    → string ++ bit_of vector (get_or chain (length chain - 1 - at) d).0 ∷ [] ≡ take (at + 1) (reverse (chain_bits chain vector))
one_more_bit chain vector string at d within is =
    let bits : List Bool = chain_bits chain vector in
    let long : length bits ≡ length chain = length-map chain (λ line. bit_of vector line.0) in
    let there : get_or (reverse bits) at false ≡ bit_of vector (get_or chain (length chain - 1 - at) d).0 =
    get_or-reverse bits at false (omega (arith, long)) ∙ ap (λ (n : ℕ). get_or bits (n - 1 - at) false) long
    ∙ get_or-map (λ (line : LineId). bit_of vector line.0) chain (length chain - 1 - at) d false (omega arith) in
    ap₂ (λ (front : List Bool) (bit : Bool). front ++ bit ∷ []) is (sym there)
    ∙ sym (take_more (reverse bits) at false (omega (arith, length-reverse bits, long)))

-- all of them
pub all_bits : (chain : List LineId) (vector string : List Bool) (at : ℕ) → length chain ≤ at → string ≡ take at (reverse (chain_bits chain vector))
    → string ≡ reverse (chain_bits chain vector)
all_bits chain vector string at past is =
    is ∙ take_all at (reverse (chain_bits chain vector))
    (omega (arith, past, length-reverse (chain_bits chain vector), length-map chain (λ (line : LineId). bit_of vector line.0)))
