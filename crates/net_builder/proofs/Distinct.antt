-- Lines of which each is kept once, at its first place: one more is kept where it was not listed before.
use Rattle.std.proofs.Common.{◌≡◌, ℕ, ◌+◌, ◌<◌, ◌==◌, ◌||◌, Bool, true, false, not, cond, List, [], ◌∷◌, ◌++◌, set, ◌≢◌, length, take, get_or, append-nil, filter, refl, sym, ap, ◌∙◌, arith}
use Rattle.std.specs.List.{list_any}
use Rattle.std.proofs.lemmas.List.{take_more, get_or-set_same, get_or-set_other}
use Rattle.std.proofs.lemmas.List.Elements.{filter-append}
use Rattle.std.proofs.lemmas.List.Folds.{list_any-append}
use Rattle.std.proofs.lemmas.Bool.Decides.{nat_tests}
use Rattle.pd_base.specs.declared.ids.LineId.{LineId}
use Rattle.netlist.specs.Circuit.{distinct_lines}

-- is this line among these
abbrev pub is_listed : ℕ → List LineId → Bool
is_listed line lines = list_any (λ (other : LineId). other.0 == line) lines

-- a line put last stands there where it was not listed
pub distinct_push : (lines : List LineId) (line : LineId)
    → distinct_lines (lines ++ line ∷ []) ≡ cond (is_listed line.0 lines) (distinct_lines lines) (distinct_lines lines ++ line ∷ [])
distinct_push [] line = refl
distinct_push (first ∷ lines) line =
    ap (λ rest. first ∷ filter IsOther rest) (distinct_push lines line) ∙ go (first.0 == line.0) refl (is_listed line.0 lines)
  where
    IsOther : LineId → Bool
    IsOther other = not (other.0 == first.0)

    kept : List LineId
    kept = distinct_lines lines

    last : (same : Bool) → (first.0 == line.0) ≡ same → filter IsOther (line ∷ []) ≡ cond same [] (line ∷ [])
    last true is =
        let turned : (line.0 == first.0) ≡ true = grind (arith, nat_tests) in
        ap (λ b. cond (not b) (line ∷ []) []) turned
    last false is =
        let turned : (line.0 == first.0) ≡ false = grind (arith, nat_tests) in
        ap (λ b. cond (not b) (line ∷ []) []) turned

    go : (same : Bool) → (first.0 == line.0) ≡ same → (listed : Bool)
        → first ∷ filter IsOther (cond listed kept (kept ++ line ∷ []))
        ≡ cond ((first.0 == line.0) || listed) (first ∷ filter IsOther kept) ((first ∷ filter IsOther kept) ++ line ∷ [])
    go true is true = ap (λ b. cond (b || true) (first ∷ filter IsOther kept) ((first ∷ filter IsOther kept) ++ line ∷ [])) (sym is)
    go true is false =
        ap (λ rest. first ∷ rest) (filter-append IsOther kept (line ∷ []))
        ∙ ap (λ rest. first ∷ (filter IsOther kept ++ rest)) (last true is)
        ∙ ap (λ rest. first ∷ rest) (append-nil (filter IsOther kept))
        ∙ ap (λ b. cond (b || false) (first ∷ filter IsOther kept) ((first ∷ filter IsOther kept) ++ line ∷ [])) (sym is)
    go false is true = ap (λ b. cond (b || true) (first ∷ filter IsOther kept) ((first ∷ filter IsOther kept) ++ line ∷ [])) (sym is)
    go false is false =
        ap (λ rest. first ∷ rest) (filter-append IsOther kept (line ∷ []))
        ∙ ap (λ rest. first ∷ (filter IsOther kept ++ rest)) (last false is)
        ∙ ap (λ b. cond (b || false) (first ∷ filter IsOther kept) ((first ∷ filter IsOther kept) ++ line ∷ [])) (sym is)

-- a line of the list, put behind those before it
pub distinct_more : (lines : List LineId) (i : ℕ) (line : LineId) → i < length lines → line ≡ get_or lines i line
    → distinct_lines (take (i + 1) lines)
    ≡ cond (is_listed line.0 (take i lines)) (distinct_lines (take i lines)) (distinct_lines (take i lines) ++ line ∷ [])
distinct_more lines i line within at =
    ap distinct_lines (take_more lines i line within ∙ ap (λ l. take i lines ++ l ∷ []) (sym at)) ∙ distinct_push (take i lines) line

-- what is listed with one line more
pub listed_more : (lines : List LineId) (i : ℕ) (line : LineId) (other : ℕ) → i < length lines → line ≡ get_or lines i line
    → is_listed other (take (i + 1) lines) ≡ (is_listed other (take i lines) || ((line.0 == other) || false))
listed_more lines i line other within at =
    ap (is_listed other) (take_more lines i line within ∙ ap (λ l. take i lines ++ l ∷ []) (sym at))
    ∙ list_any-append (λ (l : LineId). l.0 == other) (take i lines) (line ∷ [])

or_true : (b : Bool) → (b || true) ≡ true
or_true true = refl
or_true false = refl

or_false : (b : Bool) → (b || false) ≡ b
or_false true = refl
or_false false = refl

-- what is noted as seen with one line more
pub seen_more : (lines : List LineId) (i : ℕ) (line : LineId) (seen : List Bool) → i < length lines → line ≡ get_or lines i line
    → line.0 < length seen → (other : ℕ) → get_or seen other false ≡ is_listed other (take i lines)
    → get_or (set seen line.0 true) other false ≡ is_listed other (take (i + 1) lines)
seen_more lines i line seen within at inside other so_far =
    go (line.0 == other) refl ∙ sym (listed_more lines i line other within at)
  where
    go : (same : Bool) → (line.0 == other) ≡ same
        → get_or (set seen line.0 true) other false ≡ (is_listed other (take i lines) || ((line.0 == other) || false))
    go true is =
        let one : line.0 ≡ other = grind (arith, nat_tests) in
        ap (λ k. get_or (set seen line.0 true) k false) (sym one) ∙ get_or-set_same seen line.0 true false inside
        ∙ sym (or_true (is_listed other (take i lines))) ∙ ap (λ b. is_listed other (take i lines) || (b || false)) (sym is)
    go false is =
        let apart : other ≢ line.0 = λ same. grind (arith, nat_tests) in
        get_or-set_other seen line.0 other true false apart ∙ so_far
        ∙ sym (or_false (is_listed other (take i lines))) ∙ ap (λ b. is_listed other (take i lines) || (b || false)) (sym is)
