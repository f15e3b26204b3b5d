-- A text of lines, each of which has its form by what the lines before it leave (this project's own).
use Rattle.std.specs.Prelude.{◌≡◌, ◌≢◌, ⊤, ℕ, ◌+◌, List, [], ◌∷◌, ◌++◌, length}
use Rattle.text_pieces.specs.Tokens.{line}

-- items of A, one a line, and what lines leave of S
pub record Form (S A : Type 0) : Type 1 where
  -- the line of an item without its LF
  pub text_of : S → A → List ℕ
  -- whether the item may come next
  pub Fits : S → A → Type 0
  -- what it leaves
  pub next : S → A → S
  -- whether the text may end here
  pub Ends : S → Type 0

-- heading lines, and the text behind them
abbrev pub headed : List (List ℕ) → List ℕ → List ℕ
headed [] rest = rest
headed (heading ∷ headings) rest = line heading ++ headed headings rest

module _ {S A : Type 0} (form : Form S A) where
  -- the lines of items
  abbrev pub lines_text : S → List A → List ℕ
  lines_text state [] = []
  lines_text state (item ∷ items) = line (form.text_of state item) ++ lines_text (form.next state item) items

  -- each item may come where it stands
  abbrev pub AreLines : S → List A → Type 0
  AreLines state [] = ⊤
  AreLines state (item ∷ items) = form.Fits state item × AreLines (form.next state item) items

  -- what the lines leave
  abbrev pub state_after : S → List A → S
  state_after state [] = state
  state_after state (item ∷ items) = state_after (form.next state item) items

  -- the items of a whole text
  pub record IsWhole (start : S) (items : List A) : Type 0 where
    pub each : AreLines start items
    pub ends : form.Ends (state_after start items)

  -- The line of this number is the first one that lacks its form: those before it have theirs, and what follows does not begin
  -- with the line of an item that may come next. It is not empty, or the text may not end there.
  pub record LacksForm (start : S) (text : List ℕ) (number : ℕ) : Type 0 where
    pub items : List A
    pub rest : List ℕ
    pub count : number ≡ length items + 1
    pub each : AreLines start items
    pub whole : text ≡ lines_text start items ++ rest
    pub goes_on : rest ≡ [] → ¬ form.Ends (state_after start items)
    pub no_line : (item : A) (more : List ℕ) → form.Fits (state_after start items) item
        → rest ≢ line (form.text_of (state_after start items) item) ++ more

  -- The line of this number is the first one that lacks its form in a text with heading lines: the text does not begin with the
  -- heading that is due, or the line is one behind it.
  pub data IsFirstBadLine (start : S) : List (List ℕ) → List ℕ → ℕ → Type 0 where
    no_heading : (heading : List ℕ) (headings : List (List ℕ)) (text : List ℕ) → ((rest : List ℕ) → text ≢ line heading ++ rest)
        → IsFirstBadLine start (heading ∷ headings) text 1
    behind_heading : (heading : List ℕ) (headings : List (List ℕ)) (text rest : List ℕ) (number : ℕ) → text ≡ line heading ++ rest
        → IsFirstBadLine start headings rest number → IsFirstBadLine start (heading ∷ headings) text (number + 1)
    no_item : (text : List ℕ) (number : ℕ) → LacksForm start text number → IsFirstBadLine start [] text number
