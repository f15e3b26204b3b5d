-- What a text begins with.
use Rattle.std.proofs.Common.{◌≡◌, ◌+◌, ℕ, true, false, true≢false, List, ◌++◌, Option, Some, None, MatchOption, option_map, Bor, length, take, drop, sym, ap, ◌∙◌, take-append-drop, take_all, arith}
use Rattle.std.specs.Cmp.Lexicographic.{bytes_decides, pointwise}
use Rattle.std.specs.Prelude.{nat_eq}
use Rattle.std.proofs.lemmas.List.{append_cancel_left, take-append-le}
use Rattle.text_pieces.specs.Cuts.{lent_text}
use Rattle.text_pieces.specs.Reads.{Reads}

module _ (start text : List ℕ) where
  begun : (rest : List ℕ) → text ≡ start ++ rest → take (length start) text ≡ start
  begun rest is =
      ap (take (length start)) is ∙ take-append-le (length start) start rest (omega arith) ∙ take_all (length start) start (omega arith)

  -- what stripping the start from the text answers is what is read behind it
  pub start_stripped : (read : Option (Bor (List ℕ)))
      → MatchOption read (pointwise nat_eq (take (length start) text) start ≡ false)
      (λ rest. (pointwise nat_eq (take (length start) text) start ≡ true) × (rest.now ≡ drop (length start) text)
      × (length rest.now + length start ≡ length text))
      → Reads (λ (rest : List ℕ). start ++ rest) (λ rest. Unit {0}) text (option_map lent_text read)
  start_stripped None other = record {
    found = tt;
    only = λ rest h is. absurd (true≢false (sym ((bytes_decides _ start).1 (begun rest is)) ∙ other));
  }
  start_stripped (Some rest) there =
      let is : text ≡ start ++ rest.now =
      sym (take-append-drop (length start) text)
      ∙ ap (λ (front : List ℕ). front ++ drop (length start) text) ((bytes_decides _ start).0 there.0)
      ∙ ap (λ (behind : List ℕ). start ++ behind) (sym there.1) in
      record {
        found = (tt, is);
        only = λ other h is'. ap Some (append_cancel_left start rest.now other (sym is ∙ is'));
      }
