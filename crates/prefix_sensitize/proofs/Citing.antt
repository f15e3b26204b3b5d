-- A proof that is cited has its number from then on, and no other one; and the cited ones can be taken out in the order of these.
use Rattle.std.proofs.Common.{◌≡◌, ◌≢◌, ⊎_elim, ℕ, suc, ◌+◌, ◌<◌, ◌≤◌, max, List, [], ◌∷◌, ◌++◌, length, get_or, set, take, drop, map, Option, Some, None, refl, sym, ap, subst, ◌∙◌, arith, All}
use Rattle.std.specs.List.{slice_get}
use Rattle.std.proofs.lemmas.Bool.{cases_eq}
use Rattle.std.proofs.Math.Seq.{drop-cons}
use Rattle.std.proofs.lemmas.List.{length-map, length-set, length_push, take-append-drop, take_more}
use Rattle.std.proofs.lemmas.List.Elements.{All-push}
use Rattle.std.proofs.lemmas.Option.{none-some, same_Some, slice_get-get_or, slice_get-map, slice_get_cases}
use Rattle.runs.specs.declared.run.Proof.{Proof}
use Rattle.runs.specs.Lawful.{IsProofNumber}
use Rattle.good_runs.specs.Faults.{IsNumber}
use Rattle.good_runs.proofs.Numbers.{get_set_other, get_set_same, number_at, number_kept, number_new, number_of_push, number_within}
use Rattle.prefix_sensitize.specs.Numbering.{AreCited, AreKeptNumbers, Citations, Cites, HaveOneNumber, IsKeptNumber, IsUncited}
use Rattle.prefix_sensitize.specs.Numbering.Cites.{again, first}

-- at most one proof more is cited
pub few_more : (old new : List ℕ) (index number : ℕ) → Cites old new index number → length new ≤ length old + 1
few_more old new index number (again is same) = let size = ap length same in omega arith
few_more old new index number (first none next adds) =
    let size = ap length adds in let one = length_push old index in omega arith

module _ (viewed : Citations) (cited : List ℕ) (numbers : List (Option ℕ))
    (view : viewed ≡ record { found = length numbers; cited = cited }) (index : ℕ) (within : index < viewed.found)
    (kept : AreKeptNumbers cited numbers) (read : Option ℕ) (at : read ≡ get_or numbers index read) where
  inside : index < length numbers
  inside = let P : Citations → Type 0 = λ citations. index < citations.found in subst P view within

  -- what was read is kept for the index
  is_kept : IsKeptNumber cited index read
  is_kept = kept index read (slice_get-get_or numbers index read inside ∙ ap Some (sym at))

  -- a proof with a number is cited by it
  pub cites_again : (number : ℕ) → Some number ≡ read → Cites viewed.cited viewed.cited index number
  cites_again number named =
      let P : Citations → Type 0 = λ citations. Cites citations.cited citations.cited index number in
      subst P (sym view) (again (subst (IsKeptNumber cited index) (sym named) is_kept) refl)

  module _ (unnamed : None ≡ read) (pushed : List ℕ) (push : pushed ≡ cited ++ index ∷ []) (number : ℕ)
      (next : number ≡ length pushed) where
    uncited : IsUncited cited index
    uncited = subst (IsKeptNumber cited index) (sym unnamed) is_kept

    is_next : number ≡ length cited + 1
    is_next = next ∙ ap length push ∙ length_push cited index

    -- one without gets the next
    pub cites_first : Cites viewed.cited pushed index number
    cites_first =
        let P : Citations → Type 0 = λ citations. Cites citations.cited pushed index number in
        subst P (sym view) (first uncited is_next push)

    -- which is kept for it
    kept_of : (other : ℕ) (own : Option ℕ) → other ≢ index → IsKeptNumber cited other own → IsKeptNumber (cited ++ index ∷ []) other own
    kept_of other None differs none = λ number is.
        ⊎_elim (λ before. none number before) (λ last. differs (sym last.1)) (number_of_push cited index other number is)
    kept_of other (Some own) differs is = number_kept cited (index ∷ []) own other is

    pub kept_on : AreKeptNumbers pushed (set numbers index (Some number))
    kept_on other own there =
        ⊎_elim
        (λ (same : other ≡ index).
        let its : Some number ≡ own =
        same_Some (Some number) own
        (sym (get_set_same numbers index (Some number) inside) ∙ ap (slice_get (set numbers index (Some number))) (sym same) ∙ there) in
        let P : List ℕ → ℕ → Option ℕ → Type 0 = λ list place o. IsKeptNumber list place o in
        subst (λ (list : List ℕ). P list other own) (sym push)
        (subst (λ (place : ℕ). P (cited ++ index ∷ []) place own) (sym same)
        (subst (P (cited ++ index ∷ []) index) its (number_new cited number index is_next))))
        (λ (differs : other ≢ index).
        subst (λ (list : List ℕ). IsKeptNumber list other own) (sym push)
        (kept_of other own differs (kept other own (sym (get_set_other numbers index other (Some number) differs) ∙ there))))
        (cases_eq other index)

-- a proof of this number is cited by now: no number changed, and at most this one is new
pub record IsCitedOn (count : ℕ) (old new : List ℕ) (index number : ℕ) : Type 0 where
  pub is_cited : IsNumber new number index
  pub keeps : (own other : ℕ) → IsNumber old own other → IsNumber new own other
  pub found : All (λ other. other < count) new
  pub once : HaveOneNumber new
  pub names : IsProofNumber (length old) number
  pub named : max (length old) number ≡ length new
  pub few : length new ≤ length old + 1

module _ (count : ℕ) (old : List ℕ) (all_found : All (λ index. index < count) old) (once : HaveOneNumber old) (index : ℕ)
    (within : index < count) where
  cited_again : (number : ℕ) → IsNumber old number index → IsCitedOn count old old index number
  cited_again number is =
      let some = is.positive in
      let last = number_within old number index is in
      record {
        is_cited = is;
        keeps = λ own other its. its;
        found = all_found;
        once = once;
        names = record { positive = some; within = omega arith };
        named = omega arith;
        few = omega arith;
      }

  module _ (none : IsUncited old index) where
    once_more : HaveOneNumber (old ++ index ∷ [])
    once_more own other at is its =
        ⊎_elim
        (λ (before : IsNumber old own at).
        ⊎_elim (λ (too : IsNumber old other at). once own other at before too)
        (λ last. absurd (none own (subst (IsNumber old own) (sym last.1) before)))
        (number_of_push old index at other its))
        (λ (last : (own ≡ length old + 1) × (index ≡ at)).
        ⊎_elim (λ (too : IsNumber old other at). absurd (none other (subst (IsNumber old other) (sym last.1) too)))
        (λ also. last.0 ∙ sym also.0)
        (number_of_push old index at other its))
        (number_of_push old index at own is)

    cited_first : (number : ℕ) → number ≡ length old + 1 → IsCitedOn count old (old ++ index ∷ []) index number
    cited_first number next =
        let more = length_push old index in
        record {
          is_cited = number_new old number index next;
          keeps = λ own other its. number_kept old (index ∷ []) own other its;
          found = All-push (λ (other : ℕ). other < count) old index all_found within;
          once = once_more;
          names = record { positive = omega arith; within = omega arith };
          named = omega arith;
          few = omega arith;
        }

  -- what a citation does
  pub citation : (new : List ℕ) (number : ℕ) → Cites old new index number → IsCitedOn count old new index number
  citation new number (again is same) =
      let P : List ℕ → Type 0 = λ list. IsCitedOn count old list index number in subst P (sym same) (cited_again number is)
  citation new number (first none next adds) =
      let P : List ℕ → Type 0 = λ list. IsCitedOn count old list index number in subst P (sym adds) (cited_first none number next)

-- the proofs with the first numbers were taken out, and the others are left
pub record AreTaken (cited : List ℕ) (found written : List Proof) (left : List (Option Proof)) : Type 0 where
  pub one_each : length written ≡ length cited
  pub size : length left ≡ length found
  pub taken : (number index : ℕ) (proof : Proof) → IsNumber cited number index → slice_get found index ≡ Some proof
      → IsNumber written number proof
  pub others : (index : ℕ) (proof : Proof) → IsUncited cited index → slice_get found index ≡ Some proof
      → slice_get left index ≡ Some (Some proof)

-- at first all are left
pub none_taken : (found : List Proof) (left : List (Option Proof)) → left ≡ map Some found → AreTaken [] found [] left
none_taken found left is = record {
  one_each = refl;
  size = ap length is ∙ length-map found (λ (proof : Proof). Some proof);
  taken = λ number index proof none at. absurd (none-some index none.found);
  others = λ index proof uncited at.
      ap (λ (list : List (Option Proof)). slice_get list index) is ∙ there index proof at;
}
  where
    there : (index : ℕ) (proof : Proof) → slice_get found index ≡ Some proof → slice_get (map Some found) index ≡ Some (Some proof)
    there index proof at = slice_get-map Some found index ∙ cc

module _ (before : List ℕ) (index : ℕ) (behind : List ℕ) (found written : List Proof) (left : List (Option Proof))
    (are : AreTaken before found written left) (once : HaveOneNumber (before ++ index ∷ behind)) (within : index < length found) where
  -- the next one was not taken before
  not_before : IsUncited before index
  not_before number is =
      let last = number_within before number index is in
      let same = once number (length before + 1) index (number_kept before (index ∷ behind) number index is)
      (number_at before (length before + 1) index behind refl) in
      omega arith

  -- so it is left
  pub next_left : (proof : Proof) → slice_get found index ≡ Some proof → slice_get left index ≡ Some (Some proof)
  next_left proof = are.others index proof not_before

  pub takes_next : (proof : Proof) → slice_get found index ≡ Some proof
      → AreTaken (before ++ index ∷ []) found (written ++ proof ∷ []) (set left index None)
  takes_next proof at = record {
    one_each = length_push written proof ∙ ap (λ (n : ℕ). n + 1) are.one_each ∙ sym (length_push before index);
    size = length-set left index None ∙ are.size;
    taken = λ number other own is there.
        ⊎_elim (λ earlier. number_kept written (proof ∷ []) number own (are.taken number other own earlier there))
        (λ last.
        let same : proof ≡ own = same_Some proof own (sym at ∙ ap (slice_get found) last.1 ∙ there) in
        subst (IsNumber (written ++ proof ∷ []) number) same
        (number_new written number proof (last.0 ∙ ap (λ (n : ℕ). n + 1) (sym are.one_each))))
        (number_of_push before index other number is);
    others = λ other own uncited there.
        (let differs : other ≢ index = λ same.
        uncited (length before + 1) (subst (λ (i : ℕ). IsNumber (before ++ index ∷ []) (length before + 1) i) (sym same)
        (number_new before (length before + 1) index refl)) in
        get_set_other left index other None differs
        ∙ are.others other own (λ number is. uncited number (number_kept before (index ∷ []) number other is)) there);
  }

module _ (cited : List ℕ) (once : HaveOneNumber cited) (place : ℕ) (inside : place < length cited) (found written : List Proof)
    (left : List (Option Proof)) (are : AreTaken (take place cited) found written left) (all : All (λ index. index < length found) cited)
    (read : Option Proof) (at : read ≡ get_or left (get_or cited place 0) read) where
  -- the next one to be taken out
  abbrev index : ℕ
  index = get_or cited place 0

  within : index < length found
  within = all place 0 inside

  once_split : HaveOneNumber (take place cited ++ index ∷ drop (suc place) cited)
  once_split =
      let P : List ℕ → Type 0 = λ behind. HaveOneNumber (take place cited ++ behind) in
      subst P (drop-cons cited place 0 inside) (subst HaveOneNumber (sym (take-append-drop place cited)) once)

  is_found : (proof : Proof) × (slice_get found index ≡ Some proof)
  is_found =
      ⊎_elim (λ there. (there.0, there.2)) (λ past. let short = past.0 in let here = within in absurd (omega arith))
      (slice_get_cases found index).1

  is_read : Some is_found.0 ≡ read
  is_read =
      let size = are.size in
      let here = within in
      let stands = next_left (take place cited) index (drop (suc place) cited) found written left are once_split within
      is_found.0 is_found.1 in
      same_Some (Some is_found.0) read
      (sym stands ∙ slice_get-get_or left index read (omega arith) ∙ ap Some (sym at))

  -- is there
  pub none_missing : read ≡ None → ⊥
  none_missing none = let some : Some is_found.0 ≡ None = is_read ∙ none in cc

  -- and when it is taken out
  pub one_more : (proof : Proof) → read ≡ Some proof → (pushed : List Proof) → pushed ≡ written ++ proof ∷ [] → (after : Option Proof)
      → after ≡ None → AreTaken (take (place + 1) cited) found pushed (set left index after)
  one_more proof is pushed push after none =
      let same : is_found.0 ≡ proof = same_Some is_found.0 proof (is_read ∙ is) in
      let P : List ℕ → Type 0 = λ before. AreTaken before found pushed (set left index after) in
      let Q : List Proof → Type 0 = λ list. AreTaken (take place cited ++ index ∷ []) found list (set left index after) in
      let R : Option Proof → Type 0 = λ o. AreTaken (take place cited ++ index ∷ []) found (written ++ proof ∷ []) (set left index o) in
      subst P (sym (take_more cited place 0 inside))
      (subst Q (sym push)
      (subst R (sym none)
      (takes_next (take place cited) index (drop (suc place) cited) found written left are once_split within proof
      (subst (λ (p : Proof). slice_get found index ≡ Some p) same is_found.1))))

-- at the end all cited ones are written
pub all_taken : (cited : List ℕ) (found written : List Proof) (left : List (Option Proof)) → AreTaken cited found written left
    → AreCited cited found written
all_taken cited found written left are = record { one_each = are.one_each; each = are.taken }
