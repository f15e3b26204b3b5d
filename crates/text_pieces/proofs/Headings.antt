-- A text with heading lines: how it is read, and where the first line is that lacks its form.
use Rattle.std.proofs.Common.{◌≡◌, ◌≢◌, ◌+◌, ℕ, List, [], ◌∷◌, ◌++◌, Option, Some, None, IfSome, length, refl, sym, ap, subst, ◌∙◌, arith}
use Rattle.std.proofs.lemmas.List.{append_cancel_left}
use Rattle.std.proofs.lemmas.Option.{none-some}
use Rattle.text_pieces.specs.Tokens.{line}
use Rattle.text_pieces.specs.LineFiles.{Form, headed, lines_text, IsFirstBadLine, IsWhole, LacksForm}
use Rattle.text_pieces.specs.LineFiles.IsFirstBadLine.{no_heading, behind_heading, no_item}
use Rattle.text_pieces.specs.Reads.{Reads}

-- behind the same headings stands one text
pub headed_once : (headings : List (List ℕ)) (rest other : List ℕ) → headed headings rest ≡ headed headings other → rest ≡ other
headed_once [] rest other is = is
headed_once (heading ∷ headings) rest other is =
    headed_once headings rest other (append_cancel_left (line heading) (headed headings rest) (headed headings other) is)

module _ {S A : Type 0} (form : Form S A) (start : S) where
  -- a heading is missing, and this is the line of the first one
  pub record LacksHeading (headings : List (List ℕ)) (text : List ℕ) (number : ℕ) : Type 0 where
    pub none : (rest : List ℕ) → text ≢ headed headings rest
    pub bad : IsFirstBadLine form start headings text number

  pub heading_missing : (heading : List ℕ) (headings : List (List ℕ)) (text : List ℕ)
      → Reads (λ (rest : List ℕ). line heading ++ rest) (λ rest. Unit {0}) text None → LacksHeading (heading ∷ headings) text 1
  heading_missing heading headings text reads =
      let none : (rest : List ℕ) → text ≢ line heading ++ rest = λ rest is. none-some rest (reads.only rest tt is) in
      record { none = λ rest. none (headed headings rest); bad = no_heading heading headings text none }

  pub missing_behind : (heading : List ℕ) (headings : List (List ℕ)) (text rest : List ℕ) (number : ℕ) → text ≡ line heading ++ rest
      → LacksHeading headings rest number → LacksHeading (heading ∷ headings) text (number + 1)
  missing_behind heading headings text rest number is lacks = record {
    none = λ more same. lacks.none more (append_cancel_left (line heading) rest (headed headings more) (sym is ∙ same));
    bad = behind_heading heading headings text rest number is lacks.bad;
  }

  -- behind all headings the lines are read
  pub headed_reads : (headings : List (List ℕ)) (text rest : List ℕ) (read : Option (List A)) → text ≡ headed headings rest
      → Reads (lines_text form start) (IsWhole form start) rest read
      → Reads (λ items. headed headings (lines_text form start items)) (IsWhole form start) text read
  headed_reads headings text rest read is reads = record {
    found = found read reads.found;
    only = λ items whole same. reads.only items whole (headed_once headings rest (lines_text form start items) (sym is ∙ same));
  }
    where
      found : (read : Option (List A)) → IfSome read (λ items. IsWhole form start items × (rest ≡ lines_text form start items))
          → IfSome read (λ items. IsWhole form start items × (text ≡ headed headings (lines_text form start items)))
      found None h = tt
      found (Some items) h = (h.0, is ∙ ap (headed headings) h.1)

  -- where a heading is missing nothing is read
  pub no_headed_reads : (headings : List (List ℕ)) (text : List ℕ) → ((rest : List ℕ) → text ≢ headed headings rest)
      → Reads (λ items. headed headings (lines_text form start items)) (IsWhole form start) text None
  no_headed_reads headings text none = record {
    found = tt;
    only = λ items whole is. absurd (none (lines_text form start items) is);
  }

  -- a line that lacks its form behind the headings is so many lines further down
  pub bad_behind : (headings : List (List ℕ)) (text rest : List ℕ) (number : ℕ) → text ≡ headed headings rest → LacksForm form start rest number
      → IsFirstBadLine form start headings text (number + length headings)
  bad_behind [] text rest number is lacks =
      let here : number ≡ number + 0 = omega arith in
      subst (λ (n : ℕ). IsFirstBadLine form start [] text n) here
      (no_item text number (subst (λ (t : List ℕ). LacksForm form start t number) (sym is) lacks))
  bad_behind (heading ∷ headings) text rest number is lacks =
      let here : (number + length headings) + 1 ≡ number + length (heading ∷ headings) = omega arith in
      subst (λ (n : ℕ). IsFirstBadLine form start (heading ∷ headings) text n) here
      (behind_heading heading headings text (headed headings rest) (number + length headings) is
      (bad_behind headings (headed headings rest) rest number refl lacks))
