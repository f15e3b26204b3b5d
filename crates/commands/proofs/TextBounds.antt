-- How many bytes texts have: words that are joined to a line, heading lines, and lines one behind another.
use Rattle.std.proofs.Common.{◌≡◌, ◌≤◌, ◌+◌, ◌*◌, ℕ, List, [], ◌∷◌, length, flat_map, length-append, refl, arith}
use Rattle.std.specs.List.{AllByRecursion, join_with_byte}
use Rattle.pd_base.specs.declared.fault.Direction.{Direction}
use Rattle.pd_base.specs.declared.fault.Direction.TheVariants.{Rise, Fall}
use Rattle.pd_base.specs.declared.fault.Kind.{Kind}
use Rattle.pd_base.specs.declared.fault.Kind.TheVariants.{Robust, Nonrobust}
use Rattle.text_pieces.specs.Tokens.{after_space, direction_word, kind_word, line, line_feed, space}
use Rattle.text_pieces.specs.LineFiles.{Form, headed, lines_text}

-- the bytes of texts, and one more for each
abbrev pub bytes_of : List (List ℕ) → ℕ
bytes_of [] = 0
bytes_of (text ∷ texts) = length text + 1 + bytes_of texts

-- a line has its text and one byte more
pub line_length : (text : List ℕ) → length (line text) ≡ length text + 1
line_length text = length-append text (line_feed ∷ [])

-- what texts are joined to, with one byte more, has the bytes of all, and one more for each
pub joined_length : (byte : ℕ) (first : List ℕ) (texts : List (List ℕ)) → length (join_with_byte byte (first ∷ texts)) + 1 ≡ bytes_of (first ∷ texts)
joined_length byte first [] = omega arith
joined_length byte first (next ∷ texts) =
    omega (arith, length-append first (byte ∷ join_with_byte byte (next ∷ texts)), joined_length byte next texts)

-- heading lines, and what stands behind them
pub headed_length : (headings : List (List ℕ)) (rest : List ℕ) → length (headed headings rest) ≡ bytes_of headings + length rest
headed_length [] rest = omega arith
headed_length (heading ∷ headings) rest =
    omega (arith, length-append (line heading) (headed headings rest), line_length heading, headed_length headings rest)

-- texts, each behind a space, where each has so many bytes at most
pub spaced_within : (bound : ℕ) (texts : List (List ℕ)) → AllByRecursion (λ text. length text ≤ bound) texts
    → length (flat_map after_space texts) ≤ length texts * (bound + 1)
spaced_within bound [] each = omega arith
spaced_within bound (text ∷ texts) each =
    let here : length text ≤ bound = each.0 in
    omega (arith, length-append (space ∷ text) (flat_map after_space texts), here, spaced_within bound texts each.1)

module _ {S A : Type 0} (form : Form S A) (bound : ℕ) (Holds : S → List A → Type 0) where
  -- lines have so many bytes each at most, where what holds of the lines from one on shows it of that line, and holds from the next on
  pub lines_within : ((state : S) (item : A) (items : List A) → Holds state (item ∷ items)
      → (length (line (form.text_of state item)) ≤ bound) × Holds (form.next state item) items)
      → (state : S) (items : List A) → Holds state items → length (lines_text form state items) ≤ length items * bound
  lines_within step state [] holds = omega arith
  lines_within step state (item ∷ items) holds =
      let here = step state item items holds in
      let behind = lines_within step (form.next state item) items here.1 in
      omega (arith, length-append (line (form.text_of state item)) (lines_text form (form.next state item) items), here.0, behind)

-- the words for transitions, and those for kinds of tests
pub direction_length : (direction : Direction) → length (direction_word direction) ≡ 4
direction_length Rise = refl
direction_length Fall = refl

pub kind_within : (kind : Kind) → length (kind_word kind) ≤ 9
kind_within Robust = omega arith
kind_within Nonrobust = omega arith
