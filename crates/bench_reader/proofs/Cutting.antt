-- A text is cut where its first line ends.
use Rattle.std.proofs.Common.{◌≡◌, ℕ, suc, ◌+◌, ◌<◌, true, false, cond, not, List, [], ◌∷◌, length, take, drop, refl, ap, sym, ◌∙◌, arith}
use Rattle.std.specs.List.{onto_first, position_or_len}
use Rattle.bench_reader.specs.Lines.{ends_line, lines_of}

-- the first byte of a text ends its line, or stands on the line of what follows
first_byte : (byte : ℕ) (bytes : List ℕ) → let end = position_or_len ends_line bytes in let text = byte ∷ bytes in
    onto_first byte (lines_of bytes) ≡ (byte ∷ take end bytes) ∷ lines_of (drop (suc end) bytes)
    → lines_of text ≡ take (position_or_len ends_line text) text ∷ lines_of (drop (suc (position_or_len ends_line text)) text)
first_byte byte bytes later =
    let text = byte ∷ bytes in
    let end = position_or_len ends_line bytes in
    let one_more : suc end ≡ 1 + end = omega arith in
    elim (ends_line byte) as (λ ends. cond ends ([] ∷ lines_of bytes) (onto_first byte (lines_of bytes))
    ≡ take (cond (not ends) (1 + end) 0) text ∷ lines_of (drop (suc (cond (not ends) (1 + end) 0)) text)) [
      | true ↦ refl
      | false ↦ later ∙ ap (λ n. take n text ∷ lines_of (drop (suc n) text)) one_more
    ]

-- a text with a byte begins with the line before its first LF
first_line : (byte : ℕ) (bytes : List ℕ) → let text = byte ∷ bytes in let end = position_or_len ends_line text in
    lines_of text ≡ take end text ∷ lines_of (drop (suc end) text)
first_line byte [] = first_byte byte [] refl
first_line byte (next ∷ bytes) = first_byte byte (next ∷ bytes) (ap (onto_first byte) (first_line next bytes))

-- the same of a text that has a byte, cut at this place
pub cut_line : (text : List ℕ) (end : ℕ) → 0 < length text → end ≡ position_or_len ends_line text
    → lines_of text ≡ take end text ∷ lines_of (drop (end + 1) text)
cut_line [] end some is = absurd (omega arith)
cut_line (byte ∷ bytes) end some is =
    let text = byte ∷ bytes in
    let one_more : suc end ≡ end + 1 = omega arith in
    first_line byte bytes
    ∙ ap (λ n. take n text ∷ lines_of (drop (suc n) text)) (sym is)
    ∙ ap (λ n. take end text ∷ lines_of (drop n text)) one_more
