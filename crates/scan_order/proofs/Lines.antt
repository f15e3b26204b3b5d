-- Texts of lines: a text that begins with lines is that of these lines and others.
use Rattle.std.proofs.Common.{◌≡◌, ◌≢◌, ◌∙◌, ℕ, List, [], ◌∷◌, ◌++◌, refl, sym, ap, append_assoc, append-nil}
use Rattle.std.specs.List.{AllByRecursion}
use Rattle.std.proofs.lemmas.Grind.{flat_map-append}
use Rattle.text_pieces.specs.Cuts.{Lacks}
use Rattle.text_pieces.specs.Tokens.{line, line_feed}
use Rattle.text_pieces.proofs.Cuts.{line_once}
use Rattle.scan_order.specs.ScanFile.{text_of_lines}

-- a line has its LF
pub line_is_some : (said behind : List ℕ) → line said ++ behind ≢ []
line_is_some [] behind none = cc
line_is_some (byte ∷ said) behind none = cc

-- one line more
pub text_of_lines-push : (lines : List (List ℕ)) (said behind : List ℕ) → text_of_lines (lines ++ said ∷ []) ++ behind ≡ text_of_lines lines ++ (line said ++ behind)
text_of_lines-push lines said behind =
    ap (λ (text : List ℕ). text ++ behind) (flat_map-append line lines (said ∷ []) ∙ ap (λ (text : List ℕ). text_of_lines lines ++ text) (append-nil (line said)))
    ∙ append_assoc (text_of_lines lines) (line said) behind

-- lines, some of which a text begins with
pub record AreBehind (lines : List (List ℕ)) (rest : List ℕ) (all : List (List ℕ)) : Type 0 where
  pub more : List (List ℕ)
  pub parts : all ≡ lines ++ more
  pub text : rest ≡ text_of_lines more

pub lines_behind : (lines : List (List ℕ)) (rest : List ℕ) (all : List (List ℕ)) → AllByRecursion (Lacks line_feed) lines
    → AllByRecursion (Lacks line_feed) all → text_of_lines lines ++ rest ≡ text_of_lines all → AreBehind lines rest all
lines_behind [] rest all alone alone' same = record { more = all; parts = refl; text = same }
lines_behind (said ∷ lines) rest [] alone alone' same =
    absurd (line_is_some said (text_of_lines lines ++ rest) (sym (append_assoc (line said) (text_of_lines lines) rest) ∙ same))
lines_behind (said ∷ lines) rest (other ∷ all) alone alone' same =
    let cut = line_once said (text_of_lines lines ++ rest) other (text_of_lines all) alone.0 alone'.0
    (sym (append_assoc (line said) (text_of_lines lines) rest) ∙ same) in
    let behind = lines_behind lines rest all alone.1 alone'.1 cut.1 in
    record {
      more = behind.more;
      parts = (λ i. sym cut.0 i ∷ behind.parts i);
      text = behind.text;
    }
