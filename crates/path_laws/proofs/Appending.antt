-- One entry more, behind all others.
use Rattle.std.proofs.Common.{◌≡◌, ◌⊎◌, inl, inr, ⊎_elim, ℕ, ◌+◌, ◌<◌, List, [], ◌∷◌, ◌++◌, length, slice_index_or, refl, sym, ap, ◌∙◌, arith, length-append}
use Rattle.std.specs.List.{fold}
use Rattle.std.proofs.lemmas.Bool.{cases_lt}
use Rattle.std.proofs.lemmas.List.{get_or_append_left}
use Rattle.std.proofs.lemmas.List.Sums.{fold-append}
use Rattle.std.proofs.Math.Seq.{get_or-append_seam}
use Rattle.path_laws.specs.declared.entry.WalkEntry.{WalkEntry}
use Rattle.path_laws.specs.Entries.{walk_of, with_walk, walks_of, walk_at, no_entry, entry_at, IsEntryAt, HasEntry, KeepsEntries, KeepsNode}

-- each entry adds one walk
fold_long : (walks : List (List ℕ)) (entries : List WalkEntry) →
    length (fold with_walk walks entries) ≡ length walks + length entries
fold_long walks [] = omega arith
fold_long walks (entry ∷ entries) =
    omega (arith, fold_long (with_walk walks entry) entries, length-append walks (walk_of walks entry ∷ []))

pub walk_each : (entries : List WalkEntry) → length (walks_of entries) ≡ length entries
walk_each entries = omega (arith, fold_long [] entries)

module _ (entries : List WalkEntry) (entry : WalkEntry) where
  abbrev pub more : List WalkEntry
  more = entries ++ entry ∷ []

  -- the walks of all entries and one more
  walks_more : walks_of more ≡ walks_of entries ++ walk_of (walks_of entries) entry ∷ []
  walks_more = fold-append with_walk [] entries (entry ∷ [])

  pub more_long : length more ≡ length entries + 1
  more_long = omega (arith, length-append entries (entry ∷ []))

  -- the walk and the entry at the new place
  pub new_walk : walk_at more (length entries) ≡ walk_of (walks_of entries) entry
  new_walk =
      ap (λ walks. slice_index_or walks (length entries) []) walks_more
      ∙ ap (λ n. slice_index_or (walks_of entries ++ walk_of (walks_of entries) entry ∷ []) n []) (sym (walk_each entries))
      ∙ get_or-append_seam (walks_of entries) (walk_of (walks_of entries) entry) [] []

  pub new_entry : entry_at more (length entries) ≡ entry
  new_entry = get_or-append_seam entries entry [] no_entry

  pub appended : KeepsEntries entries more
  appended = record {
    longer = omega (arith, more_long);
    same = λ place within. get_or_append_left entries (entry ∷ []) no_entry place within;
    walks = λ place within. ap (λ walks. slice_index_or walks place []) walks_more
        ∙ get_or_append_left (walks_of entries) (walk_of (walks_of entries) entry ∷ []) [] place
        (omega (arith, walk_each entries));
  }

  -- an entry is an old one, or the new one
  pub old_or_new : (node place : ℕ) → IsEntryAt more node place
      → IsEntryAt entries node place ⊎ ((place ≡ length entries) × (entry.node ≡ node))
  old_or_new node place is =
      ⊎_elim
      (λ old. inl (record { within = old; own = ap (λ (e : WalkEntry). e.node) (sym (appended.same place old)) ∙ is.own }))
      (λ past. let at : place ≡ length entries = omega (arith, more_long, is.within) in
      inr (at, ap (λ (e : WalkEntry). e.node) (sym new_entry ∙ ap (entry_at more) (sym at)) ∙ is.own))
      (cases_lt place (length entries))

  -- the new one is an entry of its node
  pub is_new : IsEntryAt more entry.node (length entries)
  is_new = record { within = omega (arith, more_long); own = ap (λ (e : WalkEntry). e.node) new_entry }

  -- no other node has one more
  pub keeps_others : (node : ℕ) → (entry.node ≡ node → ⊥) → KeepsNode entries more node
  keeps_others node other place is =
      ⊎_elim (λ old. old.within) (λ new. absurd (other new.1)) (old_or_new node place is)

-- what is kept where entries come to others
module _ (entries more : List WalkEntry) (extends : KeepsEntries entries more) where
  pub still_entry : (node place : ℕ) → IsEntryAt entries node place → IsEntryAt more node place
  still_entry node place is = record {
    within = omega (arith, is.within, extends.longer);
    own = ap (λ (e : WalkEntry). e.node) (extends.same place is.within) ∙ is.own;
  }

  pub still_listed : (node : ℕ) (walk : List ℕ) → HasEntry entries node walk → HasEntry more node walk
  still_listed node walk is = record {
    place = is.place;
    entry = still_entry node is.place is.entry;
    has = extends.walks is.place is.entry.within ∙ is.has;
  }

  pub was_entry : (node place : ℕ) → place < length entries → IsEntryAt more node place → IsEntryAt entries node place
  was_entry node place within is =
      record { within = within; own = ap (λ (e : WalkEntry). e.node) (sym (extends.same place within)) ∙ is.own }

  pub was_listed : (node : ℕ) (walk : List ℕ) → KeepsNode entries more node → HasEntry more node walk
      → HasEntry entries node walk
  was_listed node walk keeps is = let old = keeps is.place is.entry in record {
    place = is.place;
    entry = was_entry node is.place old is.entry;
    has = sym (extends.walks is.place old) ∙ is.has;
  }

pub extends_itself : (entries : List WalkEntry) → KeepsEntries entries entries
extends_itself entries = record { longer = omega arith; same = λ place within. refl; walks = λ place within. refl }

pub extends_transitive : (a b c : List WalkEntry) → KeepsEntries a b → KeepsEntries b c → KeepsEntries a c
extends_transitive a b c first second = record {
  longer = omega (arith, first.longer, second.longer);
  same = λ place within. second.same place (omega (arith, first.longer)) ∙ first.same place within;
  walks = λ place within. second.walks place (omega (arith, first.longer)) ∙ first.walks place within;
}
