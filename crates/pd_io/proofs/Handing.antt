-- Bytes that go to a sink piece by piece.
use Rattle.std.proofs.Common.{◌≡◌, ◌≢◌, ℕ, List, [], ◌∷◌, ◌++◌, take, drop, Option, refl, sym, ap, subst, ◌∙◌, append_assoc}
use Rattle.std.proofs.lemmas.List.{append-nil, take-append-drop}
use Rattle.pd_io.specs.Telling.{Tells}
use Rattle.pd_io.specs.Whole.{TookPart}
use Rattle.pd_io.proofs.Tellings.{tells_same, tells_chain, tells_weaker}

-- the new text is the old one and this piece behind it
abbrev pub Appends : List ℕ → List ℕ → List ℕ → Type 0
Appends piece old new = new ≡ old ++ piece

-- a front of the bytes went to the sink, and the rest is left
pub record Handed (before now : Option (List ℕ)) (bytes rest : List ℕ) : Type 0 where
  pub done : List ℕ
  pub split : bytes ≡ done ++ rest
  pub told : Tells before now (Appends done)

-- a text is its first bytes and what is left behind them
pub cut_at : (text left : List ℕ) (count : ℕ) → left ≡ drop count text → text ≡ take count text ++ left
cut_at text left count e = sym (take-append-drop count text) ∙ ap (λ l. take count text ++ l) (sym e)

-- nothing went yet
pub handed_none : (now : Option (List ℕ)) (bytes : List ℕ) → Handed now now bytes bytes
handed_none now bytes = record {
  done = [];
  split = refl;
  told = tells_same now (Appends []) (λ x. sym (append-nil x));
}

-- one more piece went
pub handed_piece : (before now next : Option (List ℕ)) (bytes piece rest : List ℕ) → Handed before now bytes (piece ++ rest)
    → Tells now next (Appends piece) → Handed before next bytes rest
handed_piece before now next bytes piece rest h t = record {
  done = h.done ++ piece;
  split = h.split ∙ sym (append_assoc h.done piece rest);
  told = tells_chain before now next (Appends h.done) (Appends piece) (Appends (h.done ++ piece)) h.told t
      (λ x y z p q. q ∙ ap (λ l. l ++ piece) p ∙ append_assoc x h.done piece);
}

-- the first of the bytes that were left went
pub handed_more : (before now next : Option (List ℕ)) (bytes rest left : List ℕ) (count : ℕ) → Handed before now bytes rest
    → Tells now next (Appends (take count rest)) → left ≡ drop count rest → Handed before next bytes left
handed_more before now next bytes rest left count h t e =
    handed_piece before now next bytes (take count rest) left (subst (Handed before now bytes) (cut_at rest left count e) h) t

-- nothing is left
pub handed_all : (before now : Option (List ℕ)) (bytes rest : List ℕ) → Handed before now bytes rest → rest ≡ []
    → Tells before now (Appends bytes)
handed_all before now bytes rest h e =
    tells_weaker before now (Appends h.done) (Appends bytes) h.told
    (λ x y p. p ∙ ap (λ l. x ++ l) (sym (h.split ∙ ap (λ l. h.done ++ l) e ∙ append-nil h.done)))

none_in_front : (xs ys : List ℕ) → xs ++ ys ≡ [] → xs ≡ []
none_in_front [] ys e = refl
none_in_front (x ∷ xs) ys e = cc

-- a write failed in the middle of a piece
pub handed_front : (before now next : Option (List ℕ)) (bytes piece rest : List ℕ) → Handed before now bytes (piece ++ rest)
    → Tells now next (TookPart piece) → Tells before next (TookPart bytes)
handed_front before now next bytes piece rest h t =
    tells_chain before now next (Appends h.done) (TookPart piece) (TookPart bytes) h.told t
    (λ x y z p (front, left, some, e, took). (
      h.done ++ front,
      left ++ rest,
      (λ none. some (none_in_front left rest none)),
      h.split ∙ ap (λ l. h.done ++ (l ++ rest)) e ∙ ap (λ l. h.done ++ l) (append_assoc front left rest)
          ∙ sym (append_assoc h.done front (left ++ rest)),
      took ∙ ap (λ l. l ++ front) p ∙ append_assoc x h.done front,
    ))

-- a write failed before all went, and no more went
pub handed_part : (before now next : Option (List ℕ)) (bytes rest : List ℕ) → Handed before now bytes rest → rest ≢ []
    → Tells now next (Appends []) → Tells before next (TookPart bytes)
handed_part before now next bytes rest h left t =
    tells_chain before now next (Appends h.done) (Appends []) (TookPart bytes) h.told t
    (λ x y z p q. (h.done, rest, left, h.split, q ∙ append-nil y ∙ p))
