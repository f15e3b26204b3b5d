-- Where a text is cut, and which texts its pieces join.
use Rattle.std.proofs.Common.{◌≡◌, ◌≢◌, ◌==◌, ◌<◌, ◌≤◌, ◌+◌, ℕ, true, false, List, [], ◌∷◌, ◌++◌, Option, Some, None, IfSome, take, take_all, drop, length, get_or, zero, suc, refl, sym, ap, ◌∙◌, append_assoc, append-nil, take-append-drop, arith, flat_map, subst}
use Rattle.std.specs.List.{All, AllByRecursion, join_with_byte}
use Rattle.std.proofs.lemmas.Bool.{false_from_ne_true}
use Rattle.std.proofs.lemmas.Bool.Decides.{nat_tests}
use Rattle.std.proofs.lemmas.List.{drop_more, append_cancel_left}
use Rattle.std.proofs.lemmas.List.Elements.{All-from_recursion, recursion_from_All, All-nil, All-more}
use Rattle.std.proofs.lemmas.List.Splits.{slice_split_none, slice_split_at, join_with_byte-slice_split, length-slice_split}
use Rattle.std.proofs.lemmas.List.Sums.{count_by-le-length}
use Rattle.memchr.specs.Find.{NoneBefore, Nowhere, Passes, is_byte}
use Rattle.text_pieces.specs.Tokens.{line, line_feed}
use Rattle.text_pieces.specs.Cuts.{ArePieces, Lacks, line_at_front, pieces}
use Rattle.text_pieces.specs.Reads.{Reads}

same_byte : (byte : ℕ) → (byte == byte) ≡ true
same_byte byte = grind (arith, nat_tests)

-- a text without the byte is one piece
pub one_piece : (byte : ℕ) (text : List ℕ) → Lacks byte text → pieces byte text ≡ text ∷ []
one_piece byte text lacks = slice_split_none (λ other. other == byte) text (All-from_recursion _ text lacks)

-- the first piece ends where the first such byte stands
first_piece : (byte : ℕ) (front back : List ℕ) → Lacks byte front → pieces byte (front ++ byte ∷ back) ≡ front ∷ pieces byte back
first_piece byte front back lacks =
    slice_split_at (λ other. other == byte) front byte back (All-from_recursion _ front lacks) (same_byte byte)

-- the same, by the place of that byte
cut_at : (byte : ℕ) (text : List ℕ) (i : ℕ) → i < length text → get_or text i 0 ≡ byte → Lacks byte (take i text)
    → pieces byte text ≡ take i text ∷ pieces byte (drop (i + 1) text)
cut_at byte text i within is lacks =
    let parts : text ≡ take i text ++ byte ∷ drop (i + 1) text =
    sym (take-append-drop i text) ∙ ap (λ rest. take i text ++ rest) (drop_more text i 0 within ∙ ap (λ first. first ∷ drop (i + 1) text) is) in
    ap (pieces byte) parts ∙ first_piece byte (take i text) (drop (i + 1) text) lacks

-- a text lacks a byte before a place if it stands at none there
lacks_before : (byte : ℕ) (text : List ℕ) (i : ℕ) → i ≤ length text → Nowhere (Passes (is_byte byte) text) 0 i → Lacks byte (take i text)
lacks_before byte text i within nowhere = recursion_from_All (λ other. (other == byte) ≡ false) (take i text) (so_far i within nowhere)
  where
    so_far : (i : ℕ) → i ≤ length text → Nowhere (Passes (is_byte byte) text) 0 i → All (λ other. (other == byte) ≡ false) (take i text)
    so_far zero within nowhere = All-nil (λ other. (other == byte) ≡ false)
    so_far (suc i) within nowhere =
        let before = so_far i (omega arith) (λ k low high. nowhere k low (omega arith)) in
        let here = false_from_ne_true (get_or text i 0 == byte) (nowhere i (omega arith) (omega arith)) in
        let next : i + 1 ≡ suc i = omega arith in
        subst (λ n. All (λ other. (other == byte) ≡ false) (take n text)) next
        (All-more (λ other. (other == byte) ≡ false) text i 0 (omega arith) before here)

-- the same where it stands at none
pub lacks_all : (byte : ℕ) (text : List ℕ) → Nowhere (Passes (is_byte byte) text) 0 (length text) → Lacks byte text
lacks_all byte text nowhere = subst (Lacks byte) (take_all (length text) text (omega arith)) (lacks_before byte text (length text) (omega arith) nowhere)

module _ (byte : ℕ) (text : List ℕ) (i : ℕ) (first : NoneBefore (Passes (is_byte byte) text) 0 (length text) i × Passes (is_byte byte) text i) where
  -- a text lacks the byte before the first place where it stands
  pub lacks_first : Lacks byte (take i text)
  lacks_first = lacks_before byte text i (let high = first.0.high in omega (arith, high)) first.0.before

  -- and is cut there
  pub cut_at_first : pieces byte text ≡ take i text ∷ pieces byte (drop (i + 1) text)
  cut_at_first = cut_at byte text i first.0.high (let is = first.1 in grind (arith, nat_tests, is)) lacks_first

-- a text has at most one piece more than bytes
pub few_pieces : (byte : ℕ) (text : List ℕ) → length (pieces byte text) ≤ length text + 1
few_pieces byte text = omega (arith, length-slice_split (λ other. other == byte) text, count_by-le-length (λ other. other == byte) text)

-- ---- texts that are joined

-- texts without the byte are the pieces of what they are joined to
texts_joined : (byte : ℕ) (texts : List (List ℕ)) → 1 ≤ length texts → AllByRecursion (Lacks byte) texts → pieces byte (join_with_byte byte texts) ≡ texts
texts_joined byte [] some lack = absurd (omega arith)
texts_joined byte (first ∷ []) some lack = one_piece byte first lack.0
texts_joined byte (first ∷ next ∷ rest) some lack =
    first_piece byte first (join_with_byte byte (next ∷ rest)) lack.0
    ∙ ap (λ (texts : List (List ℕ)). first ∷ texts) (texts_joined byte (next ∷ rest) (omega arith) lack.1)

pub pieces_of_joined : (byte : ℕ) (texts : List (List ℕ)) → ArePieces byte texts → pieces byte (join_with_byte byte texts) ≡ texts
pieces_of_joined byte texts are = texts_joined byte texts are.some_text are.lack

-- joined texts: the first one, and then each other one behind the byte
pub join_with_byte-cons : (byte : ℕ) (first : List ℕ) (rest : List (List ℕ)) → join_with_byte byte (first ∷ rest) ≡ first ++ flat_map (λ text. byte ∷ text) rest
join_with_byte-cons byte first [] = sym (append-nil first)
join_with_byte-cons byte first (next ∷ rest) = ap (λ (text : List ℕ). first ++ byte ∷ text) (join_with_byte-cons byte next rest)

pub lacks-append : (byte : ℕ) (front back : List ℕ) → Lacks byte front → Lacks byte back → Lacks byte (front ++ back)
lacks-append byte [] back first second = second
lacks-append byte (other ∷ front) back first second = (first.0, lacks-append byte front back first.1 second)

-- where no text has this byte, and they are joined by another one, what was joined has it neither
pub joined_lacks : (byte by : ℕ) (texts : List (List ℕ)) → (by == byte) ≡ false → AllByRecursion (Lacks byte) texts → Lacks byte (join_with_byte by texts)
joined_lacks byte by [] other lack = tt
joined_lacks byte by (first ∷ []) other lack = lack.0
joined_lacks byte by (first ∷ next ∷ rest) other lack =
    lacks-append byte first (by ∷ join_with_byte by (next ∷ rest)) lack.0 (other, joined_lacks byte by (next ∷ rest) other lack.1)

module _ {A : Type 0} (byte : ℕ) (texts_of : A → List (List ℕ)) (Lawful : A → Type 0) where
  -- what the pieces of a text are read as, the text is
  pub joined_reads : ((item : A) → Lawful item → ArePieces byte (texts_of item)) → (text : List ℕ) (read : Option A)
      → Reads texts_of Lawful (pieces byte text) read → Reads (λ item. join_with_byte byte (texts_of item)) Lawful text read
  joined_reads are text read reads = record {
    found = found read reads.found;
    only = λ item lawful is. reads.only item lawful (ap (pieces byte) is ∙ pieces_of_joined byte (texts_of item) (are item lawful));
  }
    where
      found : (read : Option A) → IfSome read (λ item. Lawful item × (pieces byte text ≡ texts_of item))
          → IfSome read (λ item. Lawful item × (text ≡ join_with_byte byte (texts_of item)))
      found None h = tt
      found (Some item) h = (h.0, sym (join_with_byte-slice_split byte text) ∙ ap (join_with_byte byte) h.1)

-- ---- lines

-- there is a piece
some_piece : (byte : ℕ) (text : List ℕ) → pieces byte text ≢ []
some_piece byte text is = absurd (omega (arith, ap length is, length-slice_split (λ other. other == byte) text))

-- a text that begins with a line is cut there
line_there : (text front back : List ℕ) → Lacks line_feed front → text ≡ line_at_front (front, back)
    → pieces line_feed text ≡ front ∷ pieces line_feed back
line_there text front back lacks is =
    ap (pieces line_feed) (is ∙ append_assoc front (line_feed ∷ []) back) ∙ first_piece line_feed front back lacks

-- no line is read of a text that is one piece
pub no_line : (text first : List ℕ) → pieces line_feed text ≡ first ∷ [] → Reads line_at_front (λ parts. Lacks line_feed parts.0) text None
no_line text first one = record {
  found = tt;
  only = λ parts lacks is.
      let cut = line_there text parts.0 parts.1 lacks is in
      let rest : pieces line_feed parts.1 ≡ [] = cc in
      absurd (some_piece line_feed parts.1 rest);
}

-- a text begins with one line
pub line_once : (first rest other more : List ℕ) → Lacks line_feed first → Lacks line_feed other → line_at_front (first, rest) ≡ line_at_front (other, more)
    → (first ≡ other) × (rest ≡ more)
line_once first rest other more lacks lacks' is =
    let here = line_there (line_at_front (first, rest)) first rest lacks refl in
    let there = line_there (line_at_front (first, rest)) other more lacks' is in
    let same : first ≡ other = cc in
    let ends : line_at_front (first, rest) ≡ line_at_front (first, more) = is ∙ ap (λ front. line_at_front (front, more)) (sym same) in
    (same, append_cancel_left (line first) rest more ends)

-- and that is read
pub first_line : (text first rest : List ℕ) → text ≡ first ++ line_feed ∷ rest → Lacks line_feed first
    → Reads line_at_front (λ parts. Lacks line_feed parts.0) text (Some (first, rest))
first_line text first rest whole lacks =
    let is : text ≡ line_at_front (first, rest) = whole ∙ sym (append_assoc first (line_feed ∷ []) rest) in
    record {
      found = (lacks, is);
      only = λ parts lacks' is'.
          let same = line_once first rest parts.0 parts.1 lacks lacks' (sym is ∙ is') in
          (λ i. Some (same.0 i, same.1 i));
    }
