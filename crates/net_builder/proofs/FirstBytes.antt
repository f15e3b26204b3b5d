-- The first bytes of names as numbers: a lesser name has no greater number.
use Rattle.std.proofs.Common.{◌≡◌, ⊎_elim, Less, Equal, Greater, true≢false, ℕ, zero, suc, ◌+◌, ◌*◌, ◌<◌, ◌≤◌, eqb, ltb, cond, List, [], ◌∷◌, length, drop, slice_index, refl, sym, ap, subst, ◌∙◌, arith}
use Rattle.std.specs.Cmp.Lexicographic.{slice_cmp}
use Rattle.std.specs.Int.{from_be_bytes, w64}
use Rattle.std.specs.Ordering.{is_lt, nat_cmp, ordering_then}
use Rattle.std.proofs.lemmas.Bool.{cases_lt, cases_order, cond-false, le-ltb, ne_eqb}
use Rattle.std.proofs.lemmas.List.{get_or_past}
use Rattle.netlist.specs.Names.{IsName}
use Rattle.net_builder.specs.NameOrder.{first_bytes, spelled_from}
use Rattle.net_builder.proofs.Ranking.{cmp_equal}

-- all bytes are below 256, and what is read past the end is, too
abbrev pub AreBytes : List ℕ → Type 0
AreBytes name = (at : ℕ) → slice_index name at < 256

-- so are those of a name
pub bytes_of_name : (name : List ℕ) → IsName name → AreBytes name
bytes_of_name name is at =
    ⊎_elim (λ within. omega (arith, (is.bytes at 0 within).below_delete)) (λ past. omega (arith, get_or_past name at 0 past))
    (cases_lt at (length name))

-- and those behind the first
bytes_behind : (name : List ℕ) → AreBytes name → AreBytes (drop 1 name)
bytes_behind [] are at = are at
bytes_behind (byte ∷ name) are at = are (suc at)

-- a lesser number stays less, whatever bytes are spelled behind it
stays_less : (count number other : ℕ) (a b : List ℕ) → AreBytes a → number < other
    → spelled_from number count a < spelled_from other count b
stays_less zero number other a b are less = less
stays_less (suc count) number other a b are less =
    stays_less count (number * 256 + slice_index a 0) (other * 256 + slice_index b 0) (drop 1 a) (drop 1 b) (bytes_behind a are)
    (omega (arith, less, are 0))

-- and no bytes spell no more than any
none_is_least : (count number other : ℕ) (b : List ℕ) → number ≤ other → spelled_from number count [] ≤ spelled_from other count b
none_is_least zero number other b low = low
none_is_least (suc count) number other b low =
    none_is_least count (number * 256 + 0) (other * 256 + slice_index b 0) (drop 1 b) (omega (arith, low))

-- `cmp` answers so at a greater number
cmp_greater : (a b : ℕ) → b < a → nat_cmp a b ≡ Greater
cmp_greater a b above =
    cond-false (ltb a b) Less (cond (eqb a b) Equal Greater) (le-ltb a b (omega arith))
    ∙ cond-false (eqb a b) Equal Greater (ne_eqb a b (λ same. omega arith))

-- greater is not less
greater_not_less : Greater ≡ Less → ⊥
greater_not_less same = true≢false (sym (ap is_lt same))

-- the first bytes that differ decide
one_byte : (count number x y : ℕ) (a b : List ℕ) → AreBytes a
    → (slice_cmp nat_cmp a b ≡ Less → spelled_from (number * 256 + x) count a ≤ spelled_from (number * 256 + x) count b)
    → ordering_then (nat_cmp x y) (slice_cmp nat_cmp a b) ≡ Less
    → spelled_from (number * 256 + x) count a ≤ spelled_from (number * 256 + y) count b
one_byte count number x y a b are behind less =
    ⊎_elim tied (λ apart. ⊎_elim lower (λ higher. absurd (never higher)) apart) (cases_order x y)
  where
    tied : x ≡ y → spelled_from (number * 256 + x) count a ≤ spelled_from (number * 256 + y) count b
    tied same =
        subst (λ z. spelled_from (number * 256 + x) count a ≤ spelled_from (number * 256 + z) count b) same
        (behind (sym (ap (λ o. ordering_then o (slice_cmp nat_cmp a b)) (cmp_equal x y same)) ∙ less))

    lower : x < y → spelled_from (number * 256 + x) count a ≤ spelled_from (number * 256 + y) count b
    lower below =
        let least = stays_less count (number * 256 + x) (number * 256 + y) a b are (omega (arith, below)) in
        omega (arith, least)

    never : y < x → ⊥
    never above = greater_not_less (sym (ap (λ o. ordering_then o (slice_cmp nat_cmp a b)) (cmp_greater x y above)) ∙ less)

-- a lesser name spells no greater number
spelled_no_greater : (count number : ℕ) (a b : List ℕ) → AreBytes a → slice_cmp nat_cmp a b ≡ Less
    → spelled_from number count a ≤ spelled_from number count b
spelled_no_greater zero number a b are less = omega arith
spelled_no_greater (suc count) number [] b are less =
    none_is_least count (number * 256 + 0) (number * 256 + slice_index b 0) (drop 1 b) (omega arith)
spelled_no_greater (suc count) number (x ∷ a) [] are less = absurd (greater_not_less less)
spelled_no_greater (suc count) number (x ∷ a) (y ∷ b) are less =
    one_byte count number x y a b (λ at. are (suc at)) (spelled_no_greater count (number * 256 + x) a b (λ at. are (suc at))) less

-- so the first bytes of a lesser name are no greater
pub first_no_greater : (a b : List ℕ) → AreBytes a → slice_cmp nat_cmp a b ≡ Less → first_bytes a ≤ first_bytes b
first_no_greater a b are less = spelled_no_greater 8 0 a b are less

-- what stands behind the first byte
place_behind : (name : List ℕ) (at : ℕ) → slice_index (drop 1 name) at ≡ slice_index name (suc at)
place_behind [] at = refl
place_behind (byte ∷ name) at = refl

-- so many bytes dropped, one by one
abbrev dropped : ℕ → List ℕ → List ℕ
dropped zero name = name
dropped (suc count) name = dropped count (drop 1 name)

byte_behind : (count : ℕ) (name : List ℕ) → slice_index (dropped count name) 0 ≡ slice_index name count
byte_behind zero name = refl
byte_behind (suc count) name = byte_behind count (drop 1 name) ∙ place_behind name count

-- the bytes read one by one spell that number
pub first_spelled : (name : List ℕ)
    → from_be_bytes w64 (slice_index name 0 ∷ slice_index name 1 ∷ slice_index name 2 ∷ slice_index name 3 ∷ slice_index name 4
    ∷ slice_index name 5 ∷ slice_index name 6 ∷ slice_index name 7 ∷ []) ≡ first_bytes name
first_spelled name =
    let b1 : slice_index (drop 1 name) 0 ≡ slice_index name 1 = byte_behind 1 name in
    let b2 : slice_index (drop 1 (drop 1 name)) 0 ≡ slice_index name 2 = byte_behind 2 name in
    let b3 : slice_index (drop 1 (drop 1 (drop 1 name))) 0 ≡ slice_index name 3 = byte_behind 3 name in
    let b4 : slice_index (drop 1 (drop 1 (drop 1 (drop 1 name)))) 0 ≡ slice_index name 4 = byte_behind 4 name in
    let b5 : slice_index (drop 1 (drop 1 (drop 1 (drop 1 (drop 1 name))))) 0 ≡ slice_index name 5 = byte_behind 5 name in
    let b6 : slice_index (drop 1 (drop 1 (drop 1 (drop 1 (drop 1 (drop 1 name)))))) 0 ≡ slice_index name 6 = byte_behind 6 name in
    let b7 : slice_index (drop 1 (drop 1 (drop 1 (drop 1 (drop 1 (drop 1 (drop 1 name))))))) 0 ≡ slice_index name 7 =
    byte_behind 7 name in
    omega (arith, b1, b2, b3, b4, b5, b6, b7)
