-- Where a line of chains stands: it is a name, or an empty line behind a name, with more behind it.
use Rattle.std.proofs.Common.{◌≡◌, ◌≢◌, ◌∙◌, ℕ, List, [], ◌∷◌, ◌++◌, map, flat_map, refl, sym, ap, append_assoc}
use Rattle.std.specs.List.{AllByRecursion}
use Rattle.std.proofs.lemmas.List.{same_from_push}
use Rattle.text_pieces.specs.Tokens.{line}
use Rattle.scan_order.specs.ScanFile.{text_of_lines}
use Rattle.scan_order.specs.ScanRefusals.{IsMisplaced}
use Rattle.scan_order.specs.ScanRefusals.IsMisplaced.{first, behind_empty, last}
use Rattle.scan_order.proofs.Lines.{line_is_some}

-- an empty line stands behind one that is not empty, and there is more behind it
pub record IsBetween (before others : List (List ℕ)) (rest : List ℕ) : Type 0 where
  pub front : List (List ℕ)
  pub said : List ℕ
  pub parts : before ≡ front ++ said ∷ []
  pub some : said ≢ []
  pub goes_on : text_of_lines others ++ rest ≢ []

not_first : (front : List (List ℕ)) (said : List ℕ) → front ++ said ∷ [] ≢ []
not_first [] said none = cc
not_first (other ∷ front) said none = cc

pub not_misplaced : (before others : List (List ℕ)) (rest : List ℕ) → IsBetween before others rest → ¬ IsMisplaced before (text_of_lines others ++ rest)
not_misplaced before others rest is (first none) = not_first is.front is.said (sym is.parts ∙ none)
not_misplaced before others rest is (behind_empty more parts) = is.some ((same_from_push is.front more is.said [] (sym is.parts ∙ parts)).1)
not_misplaced before others rest is (last none) = is.goes_on none

pub no_lines : (before : List (List ℕ)) (said : List ℕ) (others : List (List ℕ)) → [] ≢ before ++ said ∷ others
no_lines [] said others same = cc
no_lines (earlier ∷ before) said others same = cc

module _ {A : Type 0} (name : A → List ℕ) (Is : A → Type 0) (named : (flop : A) → Is flop → name flop ≢ []) (rest : List ℕ) where
  -- chains behind an empty line each: only the last may be empty, where text follows
  abbrev pub AreLeft : List (List A) → Type 0
  AreLeft [] = Unit {0}
  AreLeft (chain ∷ chains) = AllByRecursion Is chain × (chain ≡ [] → (chains ≡ []) × (rest ≢ [])) × AreLeft chains

  abbrev parted : List (List A) → List (List ℕ)
  parted chains = flat_map (λ chain. [] ∷ map name chain) chains

  pub data IsLineAt (before : List (List ℕ)) (said : List ℕ) (others : List (List ℕ)) : Type 0 where
    empty : said ≡ [] → IsBetween before others rest → IsLineAt before said others
    name_of : (flop : A) → Is flop → said ≡ name flop → IsLineAt before said others

  behind : (earlier : List ℕ) (before : List (List ℕ)) (said : List ℕ) (others : List (List ℕ)) → IsLineAt before said others → IsLineAt (earlier ∷ before) said others
  behind earlier before said others (empty none is) = empty none (record {
    front = earlier ∷ is.front;
    said = is.said;
    parts = ap (λ (lines : List (List ℕ)). earlier ∷ lines) is.parts;
    some = is.some;
    goes_on = is.goes_on;
  })
  behind earlier before said others (name_of flop is_flop is) = name_of flop is_flop is

  -- behind the empty line of a chain, something is left
  goes_on_behind : (chain : List A) (chains : List (List A)) (others : List (List ℕ)) → (chain ≡ [] → (chains ≡ []) × (rest ≢ []))
      → map name chain ++ parted chains ≡ others → text_of_lines others ++ rest ≢ []
  goes_on_behind [] chains [] left same none = (left refl).1 none
  goes_on_behind [] chains (said ∷ others) left same none =
      let lines : parted chains ≡ said ∷ others = same in
      no_lines [] said others (sym (ap parted (left refl).0) ∙ lines)
  goes_on_behind (flop ∷ chain) chains [] left same none = cc
  goes_on_behind (flop ∷ chain) chains (said ∷ others) left same none =
      line_is_some said (text_of_lines others ++ rest) (sym (append_assoc (line said) (text_of_lines others) rest) ∙ none)

  pub line_at : (before : List (List ℕ)) (flop : A) (chain : List A) (chains : List (List A)) (said : List ℕ) (others : List (List ℕ)) → Is flop
      → AllByRecursion Is chain → AreLeft chains → map name (flop ∷ chain) ++ parted chains ≡ before ++ said ∷ others → IsLineAt before said others
  line_at [] flop chain chains said others is_flop are left same =
      let here : name flop ≡ said = cc in
      name_of flop is_flop (sym here)
  line_at (earlier ∷ before) flop (next ∷ chain) chains said others is_flop are left same =
      let tail : map name (next ∷ chain) ++ parted chains ≡ before ++ said ∷ others = cc in
      behind earlier before said others (line_at before next chain chains said others are.0 are.1 left tail)
  line_at (earlier ∷ before) flop [] [] said others is_flop are left same =
      let tail : [] ≡ before ++ said ∷ others = cc in
      absurd (no_lines before said others tail)
  line_at (earlier ∷ []) flop [] (chain ∷ chains) said others is_flop are left same =
      let head : name flop ≡ earlier = cc in
      let here : [] ≡ said = cc in
      let tail : map name chain ++ parted chains ≡ others = cc in
      empty (sym here) (record {
        front = [];
        said = earlier;
        parts = refl;
        some = λ none. named flop is_flop (head ∙ none);
        goes_on = goes_on_behind chain chains others left.1 tail;
      })
  line_at (earlier ∷ second ∷ before) flop [] ([] ∷ chains) said others is_flop are left same =
      let tail : parted chains ≡ before ++ said ∷ others = cc in
      absurd (no_lines before said others (sym (ap parted (left.1 refl).0) ∙ tail))
  line_at (earlier ∷ second ∷ before) flop [] ((next ∷ chain) ∷ chains) said others is_flop are left same =
      let tail : map name (next ∷ chain) ++ parted chains ≡ before ++ said ∷ others = cc in
      behind earlier (second ∷ before) said others
      (behind second before said others (line_at before next chain chains said others left.0.0 left.0.1 left.2 tail))
