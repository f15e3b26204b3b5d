-- Names that are found by their order: one name more is found at its place, and the others at theirs.
use Rattle.std.proofs.Common.{◌≡◌, inl, inr, ℕ, ◌+◌, ◌==◌, Bool, true, false, List, [], ◌∷◌, ◌++◌, length, position, cond, Some, None, true≢false, refl, sym, ap, ◌∙◌, subst, arith}
use Rattle.std.specs.BTreeMap.{get_by, BTreeMap, Updates}
use Rattle.std.specs.Cmp.Lexicographic.{slice_cmp}
use Rattle.std.specs.Global.{Vec}
use Rattle.std.specs.List.{position_or_len}
use Rattle.std.specs.Map.{KeepsOthers}
use Rattle.std.specs.Ordering.{nat_cmp, is_eq}
use Rattle.std.specs.declared.cmp.Ordering.{Ordering}
use Rattle.std.specs.Str.{bytes_eq}
use Rattle.std.proofs.lemmas.Bool.{cases_lt, lt-ltb, le-ltb, false_from_ne_true}
use Rattle.std.proofs.lemmas.Bool.Decides.{nat_tests}
use Rattle.std.proofs.lemmas.List.{length_push}
use Rattle.std.proofs.lemmas.List.Folds.{position_or_len_push}
use Rattle.std.proofs.lemmas.Map.Text.{is_eq-slice_cmp}
use Rattle.std.proofs.lemmas.Slice.Eq.{bytes_eq-Decides}
use Rattle.net_builder.proofs.Naming.{no_place}

module _ {X : Type 0} (p : X → Bool) (xs : List X) (y : X) where
  -- the first place, the end where none passes, in the list with y behind it
  abbrev longer : ℕ
  longer = position_or_len p (xs ++ y ∷ [])

  -- an element that passes, put behind those of which none does, is the first
  pub position_new : position p xs ≡ None → p y ≡ true → position p (xs ++ y ∷ []) ≡ Some (length xs)
  position_new none passes =
      let is = no_place p xs none in
      let same : (position_or_len p xs == length xs) ≡ true = grind (arith, nat_tests) in
      let at : longer ≡ length xs =
      position_or_len_push p xs y
      ∙ ap (λ b. cond b (length xs + cond (p y) 0 1) (position_or_len p xs)) same
      ∙ ap (λ b. length xs + cond b 0 1) passes ∙ (omega arith) in
      ap (λ b. cond b (Some longer) None) (lt-ltb longer (length (xs ++ y ∷ [])) (omega (arith, at, length_push xs y))) ∙ ap (λ n. Some n) at

  -- one that does not pass changes no place
  pub position_kept : p y ≡ false → position p (xs ++ y ∷ []) ≡ position p xs
  position_kept fails =
      elim (cases_lt (position_or_len p xs) (length xs)) [
        | inl within ↦
            let apart : (position_or_len p xs == length xs) ≡ false = grind (arith, nat_tests) in
            let at : longer ≡ position_or_len p xs =
            position_or_len_push p xs y ∙ ap (λ b. cond b (length xs + cond (p y) 0 1) (position_or_len p xs)) apart in
            ap (λ b. cond b (Some longer) None) (lt-ltb longer (length (xs ++ y ∷ [])) (omega (arith, at, length_push xs y)))
            ∙ ap (λ n. Some n) at
            ∙ sym (ap (λ b. cond b (Some (position_or_len p xs)) None) (lt-ltb _ _ within))
        | inr past ↦
            let none = ap (λ b. cond b (Some (position_or_len p xs)) None) (le-ltb _ _ past) in
            let is = no_place p xs none in
            let same : (position_or_len p xs == length xs) ≡ true = grind (arith, nat_tests) in
            let at : longer ≡ length xs + 1 =
            position_or_len_push p xs y
            ∙ ap (λ b. cond b (length xs + cond (p y) 0 1) (position_or_len p xs)) same
            ∙ ap (λ b. length xs + cond b 0 1) fails in
            ap (λ b. cond b (Some longer) None) (le-ltb longer (length (xs ++ y ∷ [])) (omega (arith, at, length_push xs y))) ∙ sym none
      ]

-- texts that compare as equal are one
equal_texts : (a b : List ℕ) → is_eq (slice_cmp nat_cmp a b) ≡ true → a ≡ b
equal_texts a b equal = (bytes_eq-Decides a b).0 (sym (is_eq-slice_cmp a b) ∙ equal)

-- how a name compares with a key
abbrev pub against : List ℕ → Vec ℕ → Ordering
against name key = slice_cmp nat_cmp name key.items

-- how two keys compare
abbrev pub by_text : Vec ℕ → Vec ℕ → Ordering
by_text a b = slice_cmp nat_cmp a.items b.items

module _ (names : List (List ℕ)) (old new : BTreeMap (Vec ℕ) ℕ) (key : Vec ℕ) (put : Updates by_text old new key (Some (length names))) where
  -- another name is found where it was
  others_stay : (name : List ℕ) → bytes_eq name key.items ≡ false → get_by (against name) new ≡ get_by (against name) old
  unfolding KeepsOthers
  others_stay name apart =
      put.3 (λ k. is_eq (against name k))
      (λ x y same. ap (λ n. is_eq (slice_cmp nat_cmp n y.items)) (equal_texts name x.items same))
      (λ k own. false_from_ne_true (is_eq (against name k)) (λ same.
      let one = equal_texts name k.items same ∙ sym (equal_texts key.items k.items own) in
      true≢false (sym ((bytes_eq-Decides name key.items).1 one) ∙ apart)))

  -- one name more is found
  pub found_more : position (bytes_eq key.items) names ≡ None
      → ((name : List ℕ) → get_by (against name) old ≡ position (bytes_eq name) names)
      → (name : List ℕ) → get_by (against name) new ≡ position (bytes_eq name) (names ++ key.items ∷ [])
  found_more fresh found name = go (bytes_eq name key.items) refl
    where
      own : get_by (against key.items) new ≡ position (bytes_eq key.items) (names ++ key.items ∷ [])
      own =
          put.1 ∙ sym (position_new (bytes_eq key.items) names key.items fresh ((bytes_eq-Decides key.items key.items).1 refl))

      go : (same : Bool) → bytes_eq name key.items ≡ same
          → get_by (against name) new ≡ position (bytes_eq name) (names ++ key.items ∷ [])
      go true is =
          subst (λ n. get_by (against n) new ≡ position (bytes_eq n) (names ++ key.items ∷ []))
          (sym ((bytes_eq-Decides name key.items).0 is)) own
      go false is =
          others_stay name is ∙ found name ∙ sym (position_kept (bytes_eq name) names key.items is)
