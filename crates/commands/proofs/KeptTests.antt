-- Tests with some left out: what holds of all holds of those that are left, and their text is no longer. Of tests of which none can be left
-- out none is left out.
use Rattle.std.proofs.Common.{◌≡◌, ◌≢◌, ◌⊎◌, ⊎_elim, inl, inr, ℕ, zero, suc, ◌+◌, ◌/◌, ◌%◌, ◌<◌, ◌≤◌, ◌^◌, List, [], ◌∷◌, ◌++◌, length, All, Contains, Some, slice_get, decimal, refl, ap, ◌∙◌, arith}
use Rattle.std.specs.List.{AllByRecursion}
use Rattle.std.proofs.lemmas.Bool.{cases_lt}
use Rattle.std.proofs.lemmas.Fmt.{decimal_by_steps, decimal_digit, decimal_step}
use Rattle.std.proofs.lemmas.List.{length-append}
use Rattle.std.proofs.lemmas.List.Elements.{All-from_recursion, recursion_from_All}
use Rattle.std.proofs.lemmas.Option.{get_or_from_slice_get, slice_get-get_or, slice_get_within}
use Rattle.pd_base.specs.declared.test.Test.{Test}
use Rattle.netlist.specs.Circuit.{Circuit}
use Rattle.run_files.specs.TestsText.{test_text, tests_form, tests_headings, tests_text}
use Rattle.test_grade.specs.Compacted.{IsCompacted, LeavesOut}
use Rattle.test_grade.specs.Compacted.LeavesOut.{goes, nothing, stays}
use Rattle.text_pieces.specs.LineFiles.{lines_text}
use Rattle.text_pieces.specs.Tokens.{digits, direction_word, kind_word, line, space}
use Rattle.commands.proofs.TextBounds.{headed_length, joined_length, line_length}

module _ {X : Type 0} where
  module _ (P : X → Type 0) where
    left_hold : {items kept : List X} → LeavesOut items kept → AllByRecursion P items → AllByRecursion P kept
    left_hold nothing all = tt
    left_hold (stays more) all = (all.0, left_hold more all.1)
    left_hold (goes more) all = left_hold more all.1

    -- what holds of all items holds of those that are left
    pub all_left : (items kept : List X) → LeavesOut items kept → All P items → All P kept
    all_left items kept leaves all = All-from_recursion P kept (left_hold leaves (recursion_from_All P items all))

  -- there are no more of them
  pub fewer_left : {items kept : List X} → LeavesOut items kept → length kept ≤ length items
  fewer_left nothing = omega arith
  fewer_left (stays more) = let behind = fewer_left more in omega arith
  fewer_left (goes more) = let behind = fewer_left more in omega arith

  -- the item stands at another place than this
  record StandsElsewhere (items : List X) (place : ℕ) (item : X) : Type 0 where
    other : ℕ
    there : slice_get items other ≡ Some item
    apart : other ≢ place

  -- one item is left out, and those that are left stand elsewhere
  record MissesPlace (items kept : List X) : Type 0 where
    place : ℕ
    item : X
    at : slice_get items place ≡ Some item
    elsewhere : (from : ℕ) (x : X) → slice_get kept from ≡ Some x → StandsElsewhere items place x

  -- an item that is left stands among all
  somewhere : {items kept : List X} → LeavesOut items kept → (from : ℕ) (x : X) → slice_get kept from ≡ Some x
      → (other : ℕ) × (slice_get items other ≡ Some x)
  somewhere nothing from x at = (from, at)
  somewhere (stays more) zero x at = (0, at)
  somewhere (stays more) (suc from) x at = let found = somewhere more from x at in (suc found.0, found.1)
  somewhere (goes more) from x at = let found = somewhere more from x at in (suc found.0, found.1)

  -- with one item more in front
  one_behind : (first : X) (items kept : List X) → MissesPlace items kept → MissesPlace (first ∷ items) (first ∷ kept)
  one_behind first items kept misses = record {
    place = suc misses.place;
    item = misses.item;
    at = misses.at;
    elsewhere = here;
  } where
    here : (from : ℕ) (x : X) → slice_get (first ∷ kept) from ≡ Some x → StandsElsewhere (first ∷ items) (suc misses.place) x
    here zero x at = record { other = 0; there = at; apart = λ same. omega (arith, same) }
    here (suc from) x at =
        let found = misses.elsewhere from x at in
        record { other = suc found.other; there = found.there; apart = λ same. found.apart (omega (arith, same)) }

  all_or_missing : {items kept : List X} → LeavesOut items kept → (kept ≡ items) ⊎ MissesPlace items kept
  all_or_missing nothing = inl refl
  all_or_missing (stays {x} {items} {kept} more) =
      ⊎_elim (λ same. inl (ap (λ (rest : List X). x ∷ rest) same)) (λ misses. inr (one_behind x items kept misses)) (all_or_missing more)
  all_or_missing (goes {x} {items} {kept} more) = inr (record {
    place = 0;
    item = x;
    at = refl;
    elsewhere = λ from y at.
        let found = somewhere more from y at in
        record { other = suc found.0; there = found.1; apart = λ same. omega (arith, same) };
  })

  -- of items of which none can be left out none is left out
  module _ {F : Type 0} (serves : X → F → Type 0) (items kept again : List X) (first : IsCompacted serves items kept)
      (then_again : IsCompacted serves kept again) where
    none_misses : ¬ MissesPlace kept again
    none_misses misses =
        let needed = first.needed misses.place misses.item misses.at in
        let inside = slice_get_within kept misses.place misses.item misses.at in
        let held : Contains kept misses.item =
        (misses.place, inside, get_or_from_slice_get kept misses.place misses.item misses.item misses.at) in
        let served = then_again.served needed.fault misses.item held needed.serves_it in
        let stands = misses.elsewhere served.among.0 served.test
        (slice_get-get_or again served.among.0 served.test served.among.1 ∙ ap (λ (x : X). Some x) served.among.2) in
        stands.apart (needed.alone stands.other served.test stands.there served.serves_it)

    pub none_left_out : again ≡ kept
    none_left_out = ⊎_elim (λ same. same) (λ misses. absurd (none_misses misses)) (all_or_missing then_again.in_order)

-- no number up to this one has more digits than the text
abbrev HasAsManyDigits : ℕ → List ℕ → Type 0
HasAsManyDigits great text = great < 2 ^ 64 → (small : ℕ) → small ≤ great → length (decimal small) ≤ length text

-- a number has no more digits than a greater one
fewer_digits : (great small : ℕ) → great < 2 ^ 64 → small ≤ great → length (decimal small) ≤ length (decimal great)
fewer_digits great small below less = decimal_by_steps HasAsManyDigits one more great below below small less where
  one : (n : ℕ) → n < 10 → HasAsManyDigits n ((48 + n) ∷ [])
  one n few bound lesser less_here = omega (arith, ap (λ (text : List ℕ). length text) (decimal_digit lesser (omega arith)))

  more : (n : ℕ) (text : List ℕ) → 10 ≤ n → HasAsManyDigits (n / 10) text → HasAsManyDigits n (text ++ (48 + n % 10) ∷ [])
  more n text long shorter bound lesser less_here =
      ⊎_elim
      (λ (digit : lesser < 10).
      omega (arith, ap (λ (t : List ℕ). length t) (decimal_digit lesser digit), length-append text ((48 + n % 10) ∷ [])))
      (λ (two : 10 ≤ lesser).
      omega (
        arith,
        ap (λ (t : List ℕ). length t) (decimal_step lesser two (omega arith)),
        length-append (decimal (lesser / 10)) ((48 + lesser % 10) ∷ []),
        length-append text ((48 + n % 10) ∷ []),
        shorter (omega arith) (lesser / 10) (omega arith),
      ))
      (cases_lt lesser 10)

module _ (c : Circuit) where
  -- a test's line is no longer under a lesser number
  shorter_line : (number less : ℕ) (test : Test) → less ≤ number → number < 2 ^ 64
      → length (line (test_text less test)) ≤ length (line (test_text number test))
  shorter_line number less test below small =
      let words = decimal test.path ∷ direction_word test.dir ∷ kind_word test.kind ∷ digits test.pair.first ∷ digits test.pair.second
      ∷ digits test.expected ∷ [] in
      omega (
        arith,
        line_length (test_text less test),
        line_length (test_text number test),
        joined_length space (decimal less) words,
        joined_length space (decimal number) words,
        fewer_digits number less small below,
      )

  shorter_lines : {tests kept : List Test} → LeavesOut tests kept → (number less : ℕ) → less ≤ number → number + length tests < 2 ^ 64
      → length (lines_text (tests_form c) less kept) ≤ length (lines_text (tests_form c) number tests)
  shorter_lines nothing number less below small = omega arith
  shorter_lines (stays {x = test} {items = tests} {kept} more) number less below small =
      omega (
        arith,
        length-append (line (test_text less test)) (lines_text (tests_form c) (less + 1) kept),
        length-append (line (test_text number test)) (lines_text (tests_form c) (number + 1) tests),
        shorter_line number less test below (omega arith),
        shorter_lines more (number + 1) (less + 1) (omega arith) (omega arith),
      )
  shorter_lines (goes {x = test} {items = tests} {kept} more) number less below small =
      omega (
        arith,
        length-append (line (test_text number test)) (lines_text (tests_form c) (number + 1) tests),
        shorter_lines more (number + 1) less (omega arith) (omega arith),
      )

  -- the text of tests is no longer where some are left out
  pub shorter_text : (tests kept : List Test) → LeavesOut tests kept → length tests < 2 ^ 32
      → length (tests_text c kept) ≤ length (tests_text c tests)
  shorter_text tests kept leaves few =
      omega (
        arith,
        headed_length (tests_headings c) (lines_text (tests_form c) 1 kept),
        headed_length (tests_headings c) (lines_text (tests_form c) 1 tests),
        shorter_lines leaves 1 1 (omega arith) (omega arith),
      )
