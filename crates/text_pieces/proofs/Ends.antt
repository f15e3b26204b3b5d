-- A text is cut at one last byte of a kind.
use Rattle.std.proofs.Common.{◌≡◌, ◌≢◌, ◌==◌, ◌<◌, ◌+◌, ℕ, true, List, [], ◌∷◌, ◌++◌, Option, Some, None, length, take, drop, get_or, refl, sym, ap, ◌∙◌, subst, take-append-drop, arith}
use Rattle.std.proofs.lemmas.Bool.Decides.{nat_tests}
use Rattle.std.proofs.lemmas.List.{drop_more}
use Rattle.text_pieces.specs.Cuts.{Lacks}
use Rattle.text_pieces.specs.Reads.{Reads}

abbrev pub CutsLast : ℕ → List ℕ → Option (List ℕ × List ℕ) → Type 0
CutsLast byte text read = Reads (λ (r : List ℕ × List ℕ). r.0 ++ byte ∷ r.1) (λ r. Lacks byte r.1) text read

not_lacks : (byte : ℕ) (front back : List ℕ) → ¬ Lacks byte (front ++ byte ∷ back)
not_lacks byte [] back lacks = let same : (byte == byte) ≡ true = grind (arith, nat_tests) in let h = lacks.0 in cc
not_lacks byte (first ∷ front) back lacks = not_lacks byte front back lacks.1

last_once : (byte : ℕ) (a b c d : List ℕ) → a ++ byte ∷ b ≡ c ++ byte ∷ d → Lacks byte b → Lacks byte d → (a ≡ c) × (b ≡ d)
last_once byte [] b [] d is first second = (refl, cc)
last_once byte [] b (x ∷ c) d is first second = let rest : b ≡ c ++ byte ∷ d = cc in absurd (not_lacks byte c d (subst (Lacks byte) rest first))
last_once byte (x ∷ a) b [] d is first second = let rest : d ≡ a ++ byte ∷ b = cc in absurd (not_lacks byte a b (subst (Lacks byte) rest second))
last_once byte (x ∷ a) b (y ∷ c) d is first second =
    let rests : a ++ byte ∷ b ≡ c ++ byte ∷ d = cc in
    let same = last_once byte a b c d rests first second in
    let heads : x ≡ y = cc in
    ((λ i. heads i ∷ same.0 i), same.1)

pub no_last : (byte : ℕ) (text : List ℕ) → Lacks byte text → CutsLast byte text None
no_last byte text lacks = record { found = tt; only = λ r h is. absurd (not_lacks byte r.0 r.1 (subst (Lacks byte) is lacks)) }

pub cut_at_last : (byte : ℕ) (text : List ℕ) (i : ℕ) → i < length text → get_or text i 0 ≡ byte → Lacks byte (drop (i + 1) text)
    → CutsLast byte text (Some (take i text, drop (i + 1) text))
cut_at_last byte text i within is lacks =
    let parts : text ≡ take i text ++ byte ∷ drop (i + 1) text =
    sym (take-append-drop i text) ∙ ap (λ rest. take i text ++ rest) (drop_more text i 0 within ∙ ap (λ first. first ∷ drop (i + 1) text) is) in
    record {
      found = (lacks, parts);
      only = λ r h e.
          let same = last_once byte (take i text) (drop (i + 1) text) r.0 r.1 (sym parts ∙ e) lacks h in
          (λ i. Some (same.0 i, same.1 i));
    }

pub lacks_more : (byte : ℕ) (text : List ℕ) (i : ℕ) → i < length text → get_or text i 0 ≢ byte → Lacks byte (drop (i + 1) text) → Lacks byte (drop i text)
lacks_more byte text i within other lacks =
    subst (Lacks byte) (sym (drop_more text i 0 within)) (grind (arith, nat_tests), lacks)
