-- The two passes over the sets of a gate's pins: suffixes from the back, then supports from the front.
use Rattle.std.proofs.Common.{◌≡◌, ◌≢◌, ℕ, ◌+◌, ◌<◌, ◌≤◌, ◌^◌, ◌⊎◌, inl, inr, ⊎_elim, List, [], length, take, drop, bit_and, bit_or, sym, ap, ◌∙◌, subst, arith}
use Rattle.std.proofs.Math.ListN.{set}
use Rattle.std.proofs.Math.Seq.{drop-length, take-length}
use Rattle.std.proofs.lemmas.List.{get_or-set_same, get_or-set_other, get_or_default}
use Rattle.std.proofs.lemmas.Bool.{cases_eq}
use Rattle.netlist.specs.declared.op.Op.{Op}
use Rattle.state_sets.specs.declared.state.StateSet.{StateSet}
use Rattle.state_sets.specs.States.{Has, no_states, AreWithin}
use Rattle.state_sets.specs.StateSets.{AreJoins, JoinsInto, AreSupporting}
use Rattle.state_sets.specs.StateAlgebra.{StateAlgebra, HasLaws}
use Rattle.hulls.specs.Sets.{Means, set_at}
use Rattle.hulls.specs.Joins.{Folds, FoldsInto, Supports}
use Rattle.hulls.proofs.Sets.{only_has, only_this, only_within, has_left, has_right, one_has, has_both, both_have}
use Rattle.hulls.proofs.Folds.{folds_none, folds_back, folds_more, supports_at}

-- From this place on each suffix is what choices out of the sets from there join to.
pub record AreSuffixes (a : StateAlgebra) (op : Op) (sets suffixes : List StateSet) (from : ℕ) : Type 0 where
  pub from_within : from ≤ length sets
  pub within : (place : ℕ) → from ≤ place → place ≤ length sets → (set_at suffixes place).0 < 2 ^ a.count
  pub folds : (place : ℕ) → from ≤ place → place ≤ length sets
      → Means a.count (set_at suffixes place) (Folds a op (drop place sets))

-- The set before is what choices out of the sets below this place join to, and each place below it has the states that choices
-- have there, besides what it had.
pub record AreSupported (a : StateAlgebra) (op : Op) (sets : List StateSet) (target : StateSet) (old kept : List StateSet)
    (before : StateSet) (place : ℕ) : Type 0 where
  pub within : before.0 < 2 ^ a.count
  pub folds : Means a.count before (Folds a op (take place sets))
  pub supports : (k : ℕ) → k < length sets → Means a.count (set_at kept k)
      (λ s. Has a.count (set_at old k) s ⊎ ((k < place) × Supports a op sets target k s))

module _ (a : StateAlgebra) (laws : HasLaws a) (op : Op) (sets : List StateSet) where
  -- the unit alone is what no sets join to
  pub unit_folds : (only : StateSet) → only.0 ≡ 2 ^ (a.unit op).0 → Means a.count only (Folds a op [])
  unit_folds only is = folds_none a laws op only
      (λ state. (
        (λ has. only_this a.count only (a.unit op) state is has),
        λ same. subst (Has a.count only) (sym same) (only_has a.count only (a.unit op) is (laws.unit_within op)),
      ))

  -- past the last set stands the unit
  pub suffix_first : (suffixes : List StateSet) → length suffixes ≡ length sets + 1 → (only : StateSet)
      → only.0 ≡ 2 ^ (a.unit op).0 → AreSuffixes a op sets (set suffixes (length sets) only) (length sets)
  suffix_first suffixes places only is =
      let read : set_at (set suffixes (length sets) only) (length sets) ≡ only =
      get_or-set_same suffixes (length sets) only no_states (omega arith) in
      record {
        from_within = omega arith;
        within = λ place low high. let e : place ≡ length sets = omega arith in
            subst (λ p. (set_at (set suffixes (length sets) only) p).0 < 2 ^ a.count) (sym e)
            (subst (λ (s : StateSet). s.0 < 2 ^ a.count) (sym read) (only_within a.count only (a.unit op) is (laws.unit_within op)));
        folds = λ place low high. let e : place ≡ length sets = omega arith in
            subst (λ p. Means a.count (set_at (set suffixes (length sets) only) p) (Folds a op (drop p sets))) (sym e)
            (subst (λ s. Means a.count s (Folds a op (drop (length sets) sets))) (sym read)
            (subst (λ list. Means a.count only (Folds a op list)) (sym (drop-length sets)) (unit_folds only is)));
      }

  -- one suffix more
  pub suffix_next : (suffixes : List StateSet) (from k : ℕ) → k + 1 ≡ from → length suffixes ≡ length sets + 1
      → AreSuffixes a op sets suffixes from → (joins : StateSet) → joins.0 < 2 ^ a.count
      → AreJoins a op (set_at sets k) (set_at suffixes (k + 1)) joins → AreSuffixes a op sets (set suffixes k joins) k
  suffix_next suffixes from k next places before joins joins_within are =
      let room = before.from_within in
      let read : set_at (set suffixes k joins) k ≡ joins = get_or-set_same suffixes k joins no_states (omega arith) in
      let others : (place : ℕ) → place ≢ k → set_at (set suffixes k joins) place ≡ set_at suffixes place =
      λ place away. get_or-set_other suffixes k place joins no_states away in
      record {
        from_within = omega arith;
        within = λ place low high. ⊎_elim
            (λ (here : place ≡ k). subst (λ p. (set_at (set suffixes k joins) p).0 < 2 ^ a.count) (sym here)
            (subst (λ (s : StateSet). s.0 < 2 ^ a.count) (sym read) joins_within))
            (λ (away : place ≢ k). subst (λ (s : StateSet). s.0 < 2 ^ a.count) (sym (others place away))
            (before.within place (omega arith) high))
            (cases_eq place k);
        folds = λ place low high. ⊎_elim
            (λ (here : place ≡ k). subst (λ p. Means a.count (set_at (set suffixes k joins) p) (Folds a op (drop p sets))) (sym here)
            (subst (λ s. Means a.count s (Folds a op (drop k sets))) (sym read)
            (folds_back a laws op sets k (omega arith) (set_at suffixes (k + 1)) joins (before.folds (k + 1) (omega arith) (omega arith)) are)))
            (λ (away : place ≢ k). subst (λ s. Means a.count s (Folds a op (drop place sets))) (sym (others place away))
            (before.folds place (omega arith) high))
            (cases_eq place k);
      }

  -- all suffixes are within the states
  pub suffixes_within : (suffixes : List StateSet) (from : ℕ) → from ≡ 0 → length suffixes ≡ length sets + 1
      → AreSuffixes a op sets suffixes from → AreWithin a.count suffixes
  suffixes_within suffixes from none places all k d inside =
      subst (λ (s : StateSet). s.0 < 2 ^ a.count) (get_or_default suffixes k no_states d inside)
      (all.within k (omega arith) (omega arith))

  module _ (target : StateSet) (old : List StateSet) where
    -- before the first place
    pub supported_first : (only : StateSet) → only.0 ≡ 2 ^ (a.unit op).0 → AreSupported a op sets target old old only 0
    supported_first only is = record {
      within = only_within a.count only (a.unit op) is (laws.unit_within op);
      folds = unit_folds only is;
      supports = λ k inside state. (inl, λ either. ⊎_elim (λ had. had) (λ both. absurd (let h = both.0 in omega arith)) either);
    }

    -- the states of a set that support the target
    pub supporting_cut : (set rest support found : StateSet) → AreSupporting a op rest target support
        → found.0 ≡ bit_and set.0 support.0
        → Means a.count found (λ s. (s.0 < a.count) × (Has a.count set s × JoinsInto a op rest target s))
    supporting_cut set rest support found supports is state = (
      (λ has. let both = both_have a.count set support state found is has in
          (has.in_range, (both.0, ((supports state).0 both.1).1))),
      λ all. has_both a.count set support state found is all.1.0 ((supports state).1 (all.0, all.1.1)),
    )

    -- one place more
    module _ (kept : List StateSet) (before : StateSet) (place : ℕ) (inside : place < length sets)
        (length_kept : length kept ≡ length sets) (was : AreSupported a op sets target old kept before place) where
      pub supported_next : (suffix rest found union next : StateSet)
          → Means a.count suffix (Folds a op (drop (place + 1) sets)) → AreJoins a op before suffix rest
          → Means a.count found (λ s. (s.0 < a.count) × (Has a.count (set_at sets place) s × JoinsInto a op rest target s))
          → union.0 ≡ bit_or (set_at kept place).0 found.0
          → next.0 < 2 ^ a.count → AreJoins a op before (set_at sets place) next
          → AreSupported a op sets target old (set kept place union) next (place + 1)
      supported_next suffix rest found union next means joins finds is next_within next_joins =
          let supported : Means a.count found (Supports a op sets target place) =
          supports_at a laws op sets place inside before suffix rest target was.folds means joins found finds in
          let here_is : set_at (set kept place union) place ≡ union = get_or-set_same kept place union no_states (omega arith) in
          record {
            within = next_within;
            folds = folds_more a laws op sets place inside before next was.folds next_joins;
            supports = λ k in_sets. ⊎_elim
                (λ (here : k ≡ place). subst (λ p. Means a.count (set_at (set kept place union) p)
                (λ s. Has a.count (set_at old p) s ⊎ ((p < place + 1) × Supports a op sets target p s))) (sym here)
                (subst (λ read. Means a.count read
                (λ s. Has a.count (set_at old place) s ⊎ ((place < place + 1) × Supports a op sets target place s))) (sym here_is)
                (λ state. (
                  (λ has. ⊎_elim
                      (λ left. ⊎_elim (λ had. inl had) (λ both. inr (omega arith, both.1)) ((was.supports place inside state).0 left))
                      (λ right. inr (omega arith, (supported state).0 right))
                      (one_has a.count (set_at kept place) found state union is has)),
                  λ either. ⊎_elim
                      (λ had. has_left a.count (set_at kept place) found state union is ((was.supports place inside state).1 (inl had)))
                      (λ both. has_right a.count (set_at kept place) found state union is ((supported state).1 both.1))
                      either,
                ))))
                (λ (away : k ≢ place). subst (λ read. Means a.count read
                (λ s. Has a.count (set_at old k) s ⊎ ((k < place + 1) × Supports a op sets target k s)))
                (sym (get_or-set_other kept place k union no_states away))
                (λ state. (
                  (λ has. ⊎_elim (λ had. inl had) (λ both. inr (let h = both.0 in omega arith, both.1)) ((was.supports k in_sets state).0 has)),
                  λ either. (was.supports k in_sets state).1
                      (⊎_elim (λ had. inl had) (λ both. inr (let h = both.0 in omega arith, both.1)) either),
                )))
                (cases_eq k place);
          }

    -- after the last place
    module _ (kept : List StateSet) (before : StateSet) (place : ℕ) (all : place ≡ length sets)
        (done : AreSupported a op sets target old kept before place) where
      pub supported_each : (k : ℕ) → k < length sets
          → Means a.count (set_at kept k) (λ s. Has a.count (set_at old k) s ⊎ Supports a op sets target k s)
      supported_each k inside state = (
        (λ has. ⊎_elim (λ had. inl had) (λ both. inr both.1) ((done.supports k inside state).0 has)),
        λ either. (done.supports k inside state).1 (⊎_elim (λ had. inl had) (λ supports. inr (omega arith, supports)) either),
      )

      pub supported_all : (cut : StateSet) → cut.0 ≡ bit_and before.0 target.0 → Means a.count cut (FoldsInto a op sets target)
      supported_all cut is state =
          let whole : take place sets ≡ sets = ap (λ p. take p sets) all ∙ take-length sets in (
            (λ has. let both = both_have a.count before target state cut is has in
                record { folds = subst (λ list. Folds a op list state) whole ((done.folds state).0 both.0); hits = both.1 }),
            λ into. has_both a.count before target state cut is
                ((done.folds state).1 (subst (λ list. Folds a op list state) (sym whole) into.folds)) into.hits,
          )
