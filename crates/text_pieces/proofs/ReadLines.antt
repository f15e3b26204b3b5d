-- Line by line: what was read so far, and what it leaves to be read.
use Rattle.std.proofs.Common.{◌==◌, Bool, true, false, ◌≡◌, ◌≢◌, ◌+◌, ℕ, List, [], ◌∷◌, ◌++◌, Option, Some, None, length, refl, sym, ap, ap₂, subst, ◌∙◌, append_assoc, append-nil}
use Rattle.std.proofs.lemmas.Bool.{eqb-true}
use Rattle.std.proofs.lemmas.List.{nil_from_length}
use Rattle.std.proofs.lemmas.Option.{none-some, same_Some}
use Rattle.text_pieces.specs.Tokens.{line, line_feed}
use Rattle.text_pieces.specs.Cuts.{Lacks, line_at_front}
use Rattle.text_pieces.specs.Reads.{Reads}
use Rattle.text_pieces.proofs.Cuts.{line_once}
use Rattle.text_pieces.specs.LineFiles.{Form, lines_text, AreLines, state_after, IsWhole, LacksForm}

-- what splitting off a line answers
abbrev pub SplitsLine : List ℕ → Option (List ℕ × List ℕ) → Type 0
SplitsLine rest read = Reads line_at_front (λ cut. Lacks line_feed cut.0) rest read

-- whether a text is left, by a test of its length
pub some_left : (rest : List ℕ) (test : Bool) → test ≡ (length rest == 0) → test ≡ false → rest ≢ []
some_left rest test is not none = let empty : test ≡ true = is ∙ ap (λ (bytes : List ℕ). length bytes == 0) none in cc

pub none_left : (rest : List ℕ) (test : Bool) → test ≡ (length rest == 0) → test ≡ true → rest ≡ []
none_left rest test is ends = nil_from_length rest (eqb-true _ _ (sym is ∙ ends))

module _ {S A : Type 0} (form : Form S A) where
  -- no line that may come next has an LF within
  abbrev pub AreOneLine : S → Type 0
  AreOneLine state = (item : A) → form.Fits state item → Lacks line_feed (form.text_of state item)

  -- what reading the first line does
  abbrev pub ReadsItem : S → List ℕ → Option A → Type 0
  ReadsItem state text read = Reads (form.text_of state) (form.Fits state) text read

  -- what may be read: the items so far, and then those of the rest
  pub record Goes (state : S) (rest : List ℕ) (items all : List A) : Type 0 where
    pub more : List A
    pub parts : all ≡ items ++ more
    pub lawful : AreLines form state more
    pub text : rest ≡ lines_text form state more

  pub record IsReadSoFar (start : S) (whole_text : List ℕ) (items : List A) (state : S) (rest : List ℕ) : Type 0 where
    pub left_by : state ≡ state_after form start items
    pub each : AreLines form start items
    pub whole : whole_text ≡ lines_text form start items ++ rest
    pub only : (all : List A) → AreLines form start all → whole_text ≡ lines_text form start all → Goes state rest items all

  -- no item's line stands at the front
  abbrev pub HasNoLine : S → List ℕ → Type 0
  HasNoLine state rest = (item : A) (more : List ℕ) → form.Fits state item → rest ≢ line (form.text_of state item) ++ more

  splits_item : (state : S) → AreOneLine state → (rest : List ℕ) (read : Option (List ℕ × List ℕ)) (item : A) (more : List ℕ) → form.Fits state item
      → SplitsLine rest read → rest ≡ line (form.text_of state item) ++ more → read ≡ Some (form.text_of state item, more)
  splits_item state lack rest read item more fits splits is = splits.only (form.text_of state item, more) (lack item fits) is

  pub none_split : (state : S) → AreOneLine state → (rest : List ℕ) → SplitsLine rest None → HasNoLine state rest
  none_split state lack rest splits item more fits is = none-some _ (splits_item state lack rest None item more fits splits is)

  pub none_told : (state : S) → AreOneLine state → (rest text behind : List ℕ) → SplitsLine rest (Some (text, behind)) → ReadsItem state text None → HasNoLine state rest
  none_told state lack rest text behind splits reads item more fits is =
      let same = same_Some _ _ (splits_item state lack rest (Some (text, behind)) item more fits splits is) in
      none-some item (reads.only item fits (ap (λ (cut : List ℕ × List ℕ). cut.0) same))

  -- one item more
  lines-push : (start : S) (items : List A) (item : A)
      → lines_text form start (items ++ item ∷ []) ≡ lines_text form start items ++ line (form.text_of (state_after form start items) item)
  lines-push start [] item = append-nil (line (form.text_of start item))
  lines-push start (first ∷ items) item =
      ap (λ text. line (form.text_of start first) ++ text) (lines-push (form.next start first) items item)
      ∙ sym (append_assoc (line (form.text_of start first)) (lines_text form (form.next start first) items)
      (line (form.text_of (state_after form start (first ∷ items)) item)))

  state-push : (start : S) (items : List A) (item : A) → state_after form start (items ++ item ∷ []) ≡ form.next (state_after form start items) item
  state-push start [] item = refl
  state-push start (first ∷ items) item = state-push (form.next start first) items item

  lines_are-push : (start : S) (items : List A) (item : A) → AreLines form start items → form.Fits (state_after form start items) item
      → AreLines form start (items ++ item ∷ [])
  lines_are-push start [] item each fits = (fits, tt)
  lines_are-push start (first ∷ items) item each fits = (each.0, lines_are-push (form.next start first) items item each.1 fits)

  not_empty : (text behind : List ℕ) → ¬ (line_at_front (text, behind) ≡ [])
  not_empty [] behind is = cc
  not_empty (byte ∷ text) behind is = cc

  goes_on : (state : S) → AreOneLine state → (rest text behind : List ℕ) (items : List A) (item : A) (all : List A) → SplitsLine rest (Some (text, behind))
      → ReadsItem state text (Some item) → (more : List A) → all ≡ items ++ more → AreLines form state more → rest ≡ lines_text form state more
      → Goes (form.next state item) behind (items ++ item ∷ []) all
  goes_on state lack rest text behind items item all splits reads [] parts lawful is = absurd (not_empty text behind (sym splits.found.1 ∙ is))
  goes_on state lack rest text behind items item all splits reads (first ∷ more) parts lawful is =
      let same = same_Some _ _ (splits_item state lack rest (Some (text, behind)) first (lines_text form (form.next state first) more) lawful.0 splits is) in
      let text_is : text ≡ form.text_of state first = ap (λ (cut : List ℕ × List ℕ). cut.0) same in
      let behind_is : behind ≡ lines_text form (form.next state first) more = ap (λ (cut : List ℕ × List ℕ). cut.1) same in
      let item_is : first ≡ item = sym (same_Some item first (reads.only first lawful.0 text_is)) in
      record {
        more = more;
        parts = parts ∙ ap (λ x. items ++ x ∷ more) item_is ∙ sym (append_assoc items (item ∷ []) more);
        lawful = subst (λ (x : A). AreLines form (form.next state x) more) item_is lawful.1;
        text = behind_is ∙ ap (λ (x : A). lines_text form (form.next state x) more) item_is;
      }

  pub one_more : (start : S) (whole_text : List ℕ) (items : List A) (state : S) → AreOneLine state → (rest text behind : List ℕ) (item : A)
      → IsReadSoFar start whole_text items state rest → SplitsLine rest (Some (text, behind)) → ReadsItem state text (Some item)
      → IsReadSoFar start whole_text (items ++ item ∷ []) (form.next state item) behind
  one_more start whole_text items state lack rest text behind item so_far splits reads =
      let line_is : line text ≡ line (form.text_of (state_after form start items) item) =
      ap line (reads.found.1 ∙ ap (λ (s : S). form.text_of s item) so_far.left_by) in
      record {
        left_by = ap (λ (s : S). form.next s item) so_far.left_by ∙ sym (state-push start items item);
        each = lines_are-push start items item so_far.each (subst (λ (s : S). form.Fits s item) so_far.left_by reads.found.0);
        whole = so_far.whole ∙ ap (λ more. lines_text form start items ++ more) (splits.found.1 ∙ ap (λ first. first ++ behind) line_is)
            ∙ sym (append_assoc (lines_text form start items) (line (form.text_of (state_after form start items) item)) behind)
            ∙ ap (λ first. first ++ behind) (sym (lines-push start items item));
        only = λ all each is.
            let goes = so_far.only all each is in
            goes_on state lack rest text behind items item all splits reads goes.more goes.parts goes.lawful goes.text;
      }

  pub none_read : (start : S) (whole_text : List ℕ) → IsReadSoFar start whole_text [] start whole_text
  none_read start whole_text = record {
    left_by = refl;
    each = tt;
    whole = refl;
    only = λ all each is. record { more = all; parts = refl; lawful = each; text = is };
  }

  -- ---- the end of the text, where it may end

  no_more : (state : S) (more : List A) → [] ≡ lines_text form state more → more ≡ []
  no_more state [] is = refl
  no_more state (item ∷ more) is = absurd (not_empty (form.text_of state item) (lines_text form (form.next state item) more) (sym is))

  pub all_read : (start : S) (whole_text : List ℕ) (items : List A) (state : S) → IsReadSoFar start whole_text items state [] → form.Ends state
      → Reads (lines_text form start) (IsWhole form start) whole_text (Some items)
  all_read start whole_text items state so_far ends = record {
    found = (
      record { each = so_far.each; ends = subst form.Ends so_far.left_by ends },
      so_far.whole ∙ append-nil (lines_text form start items),
    );
    only = λ all is_whole is.
        let goes = so_far.only all is_whole.each is in
        ap Some (sym (goes.parts ∙ ap (λ more. items ++ more) (no_more state goes.more goes.text) ∙ append-nil items));
  }

  -- ---- a line that lacks its form

  pub lacks_form : (start : S) (whole_text : List ℕ) (items : List A) (state : S) (rest : List ℕ) → IsReadSoFar start whole_text items state rest
      → (rest ≡ [] → ¬ form.Ends state) → HasNoLine state rest → LacksForm form start whole_text (length items + 1)
  lacks_form start whole_text items state rest so_far unended none = record {
    items = items;
    rest = rest;
    count = refl;
    each = so_far.each;
    whole = so_far.whole;
    goes_on = λ empty ends. unended empty (subst form.Ends (sym so_far.left_by) ends);
    no_line = λ item more fits is.
        none item more (subst (λ (s : S). form.Fits s item) (sym so_far.left_by) fits)
        (is ∙ ap (λ (s : S). line (form.text_of s item) ++ more) (sym so_far.left_by));
  }

  -- and then the text is that of no items
  state-append : (start : S) (items more : List A) → state_after form start (items ++ more) ≡ state_after form (state_after form start items) more
  state-append start [] more = refl
  state-append start (first ∷ items) more = state-append (form.next start first) items more

  pub none_whole : (start : S) (whole_text : List ℕ) (items : List A) (state : S) (rest : List ℕ) → IsReadSoFar start whole_text items state rest
      → (rest ≡ [] → ¬ form.Ends state) → HasNoLine state rest → Reads (lines_text form start) (IsWhole form start) whole_text None
  none_whole start whole_text items state rest so_far unended none = record {
    found = tt;
    only = λ all is_whole is.
        let goes = so_far.only all is_whole.each is in
        let last : state_after form start all ≡ state_after form state goes.more =
        ap (state_after form start) goes.parts ∙ state-append start items goes.more ∙ ap (λ (s : S). state_after form s goes.more) (sym so_far.left_by) in
        absurd (fails goes.more goes.lawful goes.text (subst form.Ends last is_whole.ends));
  }
    where
      fails : (more : List A) → AreLines form state more → rest ≡ lines_text form state more → ¬ form.Ends (state_after form state more)
      fails [] lawful is ends = unended is ends
      fails (item ∷ more) lawful is ends = none item (lines_text form (form.next state item) more) lawful.0 is

  -- both together: nothing is read, since this line lacks its form
  pub unread : (start : S) (whole_text : List ℕ) (items : List A) (state : S) (rest : List ℕ) → IsReadSoFar start whole_text items state rest
      → (rest ≡ [] → ¬ form.Ends state) → HasNoLine state rest
      → Reads (lines_text form start) (IsWhole form start) whole_text None × LacksForm form start whole_text (length items + 1)
  unread start whole_text items state rest so_far unended none =
      (none_whole start whole_text items state rest so_far unended none, lacks_form start whole_text items state rest so_far unended none)

  -- ---- lines of two lists of items

  -- the text of a line is that of one item that may come next
  abbrev pub AreToldApart : S → Type 0
  AreToldApart state = (a b : A) → form.Fits state a → form.Fits state b → form.text_of state a ≡ form.text_of state b → a ≡ b

  -- so a text is that of one list of items, where each line has no LF within, and tells its item
  pub lines_once : ((state : S) → AreOneLine state) → ((state : S) → AreToldApart state) → (state : S) (items others : List A)
      → AreLines form state items → AreLines form state others → lines_text form state items ≡ lines_text form state others → items ≡ others
  lines_once one told state [] [] each each' is = refl
  lines_once one told state [] (other ∷ others) each each' is =
      absurd (not_empty (form.text_of state other) (lines_text form (form.next state other) others) (sym is))
  lines_once one told state (item ∷ items) [] each each' is =
      absurd (not_empty (form.text_of state item) (lines_text form (form.next state item) items) is)
  lines_once one told state (item ∷ items) (other ∷ others) each each' is =
      let cut = line_once (form.text_of state item) (lines_text form (form.next state item) items) (form.text_of state other)
      (lines_text form (form.next state other) others) (one state item each.0) (one state other each'.0) is in
      let same : item ≡ other = told state item other each.0 each'.0 cut.0 in
      let rest : lines_text form (form.next state item) items ≡ lines_text form (form.next state item) others =
      cut.1 ∙ ap (λ (x : A). lines_text form (form.next state x) others) (sym same) in
      ap₂ ◌∷◌ same (lines_once one told (form.next state item) items others each.1 (subst (λ (x : A). AreLines form (form.next state x) others) (sym same) each'.1) rest)
