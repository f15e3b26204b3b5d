-- Items that are picked by flags: which they are, and where they stand.
use Rattle.std.proofs.Common.{◌≡◌, ℕ, zero, suc, ◌+◌, ◌<◌, Bool, true, false, List, [], ◌∷◌, ◌++◌, length, take, slice_get, get_or, Some, IsTrue, refl, sym, ap, subst, ◌∙◌, arith}
use Rattle.std.specs.List.{items_where_true}
use Rattle.std.proofs.lemmas.Bool.{false≢true}
use Rattle.std.proofs.lemmas.Option.{none-some, slice_get-get_or, slice_get_within, get_or_from_slice_get}
use Rattle.test_grade.specs.Compact.{IsCompact, is_kept}
use Rattle.test_grade.specs.Compacted.{IsCompacted, LeavesOut}
use Rattle.test_grade.specs.Compacted.LeavesOut.{nothing, stays, goes}
use Rattle.test_grade.proofs.Counting.{kept_within}

-- one more where the flag is set
abbrev more_if : Bool → ℕ → ℕ
more_if true places = suc places
more_if false places = places

-- how many flags before this place are set
abbrev rank : List Bool → ℕ → ℕ
rank [] place = 0
rank (flag ∷ flags) zero = 0
rank (flag ∷ flags) (suc place) = more_if flag (rank flags place)

-- where a picked item stood
record IsOrigin {X : Type 0} (flags : List Bool) (items : List X) (place : ℕ) (item : X) : Type 0 where
  from : ℕ
  there : slice_get items from ≡ Some item
  kept : IsTrue (is_kept flags from)
  ranked : rank flags from ≡ place

-- one item more before it
origin_behind : {X : Type 0} (flag : Bool) (x : X) (flags : List Bool) (items : List X) (place : ℕ) (item : X)
    → IsOrigin flags items place item → IsOrigin (flag ∷ flags) (x ∷ items) (more_if flag place) item
origin_behind flag x flags items place item is = record {
  from = suc is.from;
  there = is.there;
  kept = is.kept;
  ranked = ap (more_if flag) is.ranked;
}

module _ {X : Type 0} where
  -- one item more is picked where its flag is set
  pub picked_more : (flags : List Bool) (items : List X) (x : X) (bit : Bool)
      → get_or flags (length items) false ≡ bit
      → items_where_true (take (suc (length items)) flags) (items ++ x ∷ [])
      ≡ items_where_true (take (length items) flags) items ++ items_where_true (bit ∷ []) (x ∷ [])
  picked_more [] [] x bit is = ap (λ own. items_where_true (own ∷ []) (x ∷ [])) is
  picked_more [] (y ∷ items) x bit is = ap (λ own. items_where_true (own ∷ []) (x ∷ [])) is
  picked_more (flag ∷ flags) [] x bit is = ap (λ own. items_where_true (own ∷ []) (x ∷ [])) is
  picked_more (true ∷ flags) (y ∷ items) x bit is = ap (λ rest. y ∷ rest) (picked_more flags items x bit is)
  picked_more (false ∷ flags) (y ∷ items) x bit is = picked_more flags items x bit is

  -- the same where those picked so far stand in a list
  pub flagged_more : (flags : List Bool) (items : List X) (x : X) (bit : Bool) (kept next : List X) (place : ℕ) → place ≡ length items
      → get_or flags place false ≡ bit → kept ≡ items_where_true (take place flags) items
      → next ≡ kept ++ items_where_true (bit ∷ []) (x ∷ [])
      → next ≡ items_where_true (take (place + 1) flags) (items ++ x ∷ [])
  flagged_more flags items x bit kept next place here is picked taken =
      let one : place + 1 ≡ suc (length items) = omega arith in
      taken
      ∙ ap (λ l. l ++ items_where_true (bit ∷ []) (x ∷ [])) (picked ∙ ap (λ at. items_where_true (take at flags) items) here)
      ∙ sym (picked_more flags items x bit (ap (λ at. get_or flags at false) (sym here) ∙ is))
      ∙ ap (λ at. items_where_true (take at flags) (items ++ x ∷ [])) (sym one)

  -- picking leaves out some
  pub picked_leaves_out : (flags : List Bool) (items : List X) → length flags ≡ length items
      → LeavesOut items (items_where_true flags items)
  picked_leaves_out [] [] same = nothing
  picked_leaves_out [] (x ∷ items) same = absurd (omega arith)
  picked_leaves_out (flag ∷ flags) [] same = absurd (omega arith)
  picked_leaves_out (true ∷ flags) (x ∷ items) same = stays (picked_leaves_out flags items (omega arith))
  picked_leaves_out (false ∷ flags) (x ∷ items) same = goes (picked_leaves_out flags items (omega arith))

  -- each picked item stood somewhere
  picked_from : (flags : List Bool) (items : List X) (place : ℕ) (item : X)
      → slice_get (items_where_true flags items) place ≡ Some item → IsOrigin flags items place item
  picked_from [] [] place item at = absurd (none-some item at)
  picked_from [] (x ∷ items) place item at = absurd (none-some item at)
  picked_from (flag ∷ flags) [] place item at = absurd (none-some item at)
  picked_from (true ∷ flags) (x ∷ items) zero item at = record { from = 0; there = at; kept = refl; ranked = refl }
  picked_from (true ∷ flags) (x ∷ items) (suc place) item at =
      origin_behind true x flags items place item (picked_from flags items place item at)
  picked_from (false ∷ flags) (x ∷ items) place item at =
      origin_behind false x flags items place item (picked_from flags items place item at)

  -- and each item whose flag is set is picked
  picked_at : (flags : List Bool) (items : List X) (from : ℕ) (item : X) → slice_get items from ≡ Some item
      → IsTrue (is_kept flags from) → slice_get (items_where_true flags items) (rank flags from) ≡ Some item
  picked_at [] items from item at kept = absurd (false≢true kept)
  picked_at (flag ∷ flags) [] from item at kept = absurd (none-some item at)
  picked_at (true ∷ flags) (x ∷ items) zero item at kept = at
  picked_at (false ∷ flags) (x ∷ items) zero item at kept = absurd (false≢true kept)
  picked_at (true ∷ flags) (x ∷ items) (suc from) item at kept = picked_at flags items from item at kept
  picked_at (false ∷ flags) (x ∷ items) (suc from) item at kept = picked_at flags items from item at kept

module _ {X F : Type 0} (serves : X → F → Type 0) (tests : List X) (faults : ℕ) (at : ℕ → ℕ → Bool)
    -- faults have places, and each place is that of a fault
    (number : F → ℕ) (named : ℕ → F) (numbered : (k : ℕ) → k < faults → number (named k) ≡ k)
    -- what each test serves is told by places
    (told : (place : ℕ) (test : X) → slice_get tests place ≡ Some test → (fault : F) → serves test fault
    → (number fault < faults) × IsTrue (at place (number fault)))
    (tells : (place : ℕ) (test : X) → slice_get tests place ≡ Some test → (fault : F) → number fault < faults
    → IsTrue (at place (number fault)) → serves test fault) where
  -- flags that tell a compact choice pick a compact list
  pub picked_compacted : (flags : List Bool) → IsCompact (length tests) faults at flags
      → IsCompacted serves tests (items_where_true flags tests)
  picked_compacted flags is = record {
    in_order = picked_leaves_out flags tests is.one_each;
    served = λ fault test among does.
        let here : slice_get tests among.0 ≡ Some test = slice_get-get_or tests among.0 test among.1 ∙ ap Some among.2 in
        let does_it = told among.0 test here fault does in
        let found = is.served among.0 (number fault) among.1 does_it.0 does_it.1 in
        let within : found.test < length tests = (let inside = kept_within flags found.test found.is_kept in let same = is.one_each in omega arith) in
        let item = get_or tests found.test test in
        let there = slice_get-get_or tests found.test test within in
        let picked = picked_at flags tests found.test item there found.is_kept in
        record {
          test = item;
          among = (
            rank flags found.test,
            slice_get_within (items_where_true flags tests) (rank flags found.test) item picked,
            get_or_from_slice_get (items_where_true flags tests) (rank flags found.test) item item picked,
          );
          serves_it = tells found.test item there fault does_it.0 found.serves_it;
        };
    needed = λ place test stands.
        let own = picked_from flags tests place test stands in
        let need = is.needed own.from own.kept in
        let same = numbered need.fault need.within in
        record {
          fault = named need.fault;
          serves_it = tells own.from test own.there (named need.fault) (subst (λ k. k < faults) (sym same) need.within)
              (subst (λ k. IsTrue (at own.from k)) (sym same) need.serves_it);
          alone = λ other item stands_too does.
              let its = picked_from flags tests other item stands_too in
              let does_it = told its.from item its.there (named need.fault) does in
              let one : its.from ≡ own.from =
              need.alone its.from its.kept (subst (λ k. IsTrue (at its.from k)) same does_it.1) in
              sym its.ranked ∙ ap (rank flags) one ∙ own.ranked;
        };
  }
