-- Words read one by one: what was read so far, and what is left.
use Rattle.std.proofs.Common.{◌≡◌, List, [], ◌∷◌, ◌++◌, All, Some, None, map, refl, sym, ap, ap₂, ◌∙◌, append_assoc, append-nil}
use Rattle.std.specs.List.{AllByRecursion}
use Rattle.std.proofs.lemmas.List.{map-append}
use Rattle.std.proofs.lemmas.List.Elements.{recursion_from_All, All-push, All-nil}
use Rattle.std.proofs.lemmas.Option.{none-some, same_Some}
use Rattle.text_pieces.specs.Reads.{Reads}

module _ {A W : Type 0} (spelled : A → W) (Lawful : A → Type 0) where
  -- the items that words spell are those read so far, and then those that the words left spell
  pub record IsListed (words : List W) (items : List A) (left : List W) : Type 0 where
    pub whole : words ≡ map spelled items ++ left
    pub each : All Lawful items
    pub only : (all : List A) → All Lawful all → words ≡ map spelled all
        → (more : List A) × (all ≡ items ++ more) × AllByRecursion Lawful more × (left ≡ map spelled more)

  pub none_listed : (words : List W) → IsListed words [] words
  none_listed words = record {
    whole = refl;
    each = All-nil Lawful;
    only = λ all each is. (all, refl, recursion_from_All Lawful all each, is);
  }

  goes_on : (items : List A) (item : A) (all : List A) (left : List W) (word : W) (behind : List W) → left ≡ word ∷ behind
      → Reads spelled Lawful word (Some item) → (more : List A) → all ≡ items ++ more → AllByRecursion Lawful more → left ≡ map spelled more
      → (more : List A) × (all ≡ (items ++ item ∷ []) ++ more) × AllByRecursion Lawful more × (behind ≡ map spelled more)
  goes_on items item all left word behind first reads [] parts lawful is = absurd cc
  goes_on items item all left word behind first reads (next ∷ more) parts lawful is =
      let word_is : word ≡ spelled next = cc in
      let behind_is : behind ≡ map spelled more = cc in
      let same : item ≡ next = same_Some item next (reads.only next lawful.0 word_is) in
      (more, parts ∙ ap (λ x. items ++ x ∷ more) (sym same) ∙ sym (append_assoc items (item ∷ []) more), lawful.1, behind_is)

  pub one_more : (words : List W) (items : List A) (left : List W) (item : A) (word : W) (behind : List W) → IsListed words items left
      → left ≡ word ∷ behind → Reads spelled Lawful word (Some item) → IsListed words (items ++ item ∷ []) behind
  one_more words items left item word behind listed first reads = record {
    whole = listed.whole ∙ ap (λ rest. map spelled items ++ rest) (first ∙ ap (λ w. w ∷ behind) reads.found.1)
        ∙ sym (append_assoc (map spelled items) (spelled item ∷ []) behind) ∙ ap (λ front. front ++ behind) (sym (map-append spelled items (item ∷ [])));
    each = All-push Lawful items item listed.each reads.found.0;
    only = λ all each is.
        let goes = listed.only all each is in
        goes_on items item all left word behind first reads goes.0 goes.1 goes.2 goes.3;
  }

  fails : (left : List W) (word : W) (behind : List W) → left ≡ word ∷ behind → Reads spelled Lawful word None
      → (more : List A) → AllByRecursion Lawful more → ¬ (left ≡ map spelled more)
  fails left word behind first reads [] lawful is = cc
  fails left word behind first reads (next ∷ more) lawful is =
      let word_is : word ≡ spelled next = cc in
      none-some next (reads.only next lawful.0 word_is)

  -- a word that spells nothing: the words spell no items
  pub not_listed : (words : List W) (items : List A) (left : List W) (word : W) (behind : List W) → IsListed words items left
      → left ≡ word ∷ behind → Reads spelled Lawful word None → Reads (λ all. map spelled all) (All Lawful) words None
  not_listed words items left word behind listed first reads = record {
    found = tt;
    only = λ all each is.
        let goes = listed.only all each is in
        absurd (fails left word behind first reads goes.0 goes.2 goes.3);
  }

  no_more : (left : List W) → left ≡ [] → (more : List A) → left ≡ map spelled more → more ≡ []
  no_more left none [] is = refl
  no_more left none (next ∷ more) is = absurd cc

  -- no word is left
  pub all_listed : (words : List W) (items : List A) (left : List W) → IsListed words items left → left ≡ []
      → Reads (λ all. map spelled all) (All Lawful) words (Some items)
  all_listed words items left listed none = record {
    found = (listed.each, listed.whole ∙ ap (λ rest. map spelled items ++ rest) none ∙ append-nil (map spelled items));
    only = λ all each is.
        let goes = listed.only all each is in
        ap Some (sym (goes.1 ∙ ap (λ more. items ++ more) (no_more left none goes.0 goes.3) ∙ append-nil items));
  }

  -- words spell one list of items, where each word spells one item
  pub map_once : ((a b : A) → Lawful a → Lawful b → spelled a ≡ spelled b → a ≡ b) → (items others : List A)
      → AllByRecursion Lawful items → AllByRecursion Lawful others → map spelled items ≡ map spelled others → items ≡ others
  map_once once [] [] each each' same = refl
  map_once once [] (other ∷ others) each each' same = absurd cc
  map_once once (item ∷ items) [] each each' same = absurd cc
  map_once once (item ∷ items) (other ∷ others) each each' same =
      let first : spelled item ≡ spelled other = cc in
      let rest : map spelled items ≡ map spelled others = cc in
      ap₂ ◌∷◌ (once item other each.0 each'.0 first) (map_once once items others each.1 each'.1 rest)
