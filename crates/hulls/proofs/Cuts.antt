-- What cutting the sets of lines does to a labelling: which states are left, and whether any was lost.
use Rattle.std.proofs.Common.{◌≡◌, ◌≢◌, ℕ, ◌+◌, ◌<◌, ◌≤◌, ⊎_elim, Bool, true, false, ◌||◌, List, length, get_or, slice_get, Some, sym, ap, ◌∙◌, subst, arith}
use Rattle.std.proofs.Math.ListN.{set}
use Rattle.std.proofs.lemmas.List.{get_or-set_same, get_or-set_other, set-get_or, length-set, get_or_default}
use Rattle.std.proofs.lemmas.Option.{same_Some}
use Rattle.std.proofs.lemmas.Bool.{cases_eq, or_cases, or_parts}
use Rattle.pd_base.specs.declared.ids.LineId.{LineId}
use Rattle.state_sets.specs.declared.state.State.{State}
use Rattle.state_sets.specs.declared.state.StateSet.{StateSet}
use Rattle.state_sets.specs.States.{Has, no_states, both_sets, AreWithin}
use Rattle.state_sets.specs.Labellings.{label_at}
use Rattle.hulls.specs.Sets.{set_at}
use Rattle.hulls.specs.Changes.{Lessens, HasPinsKept}
use Rattle.hulls.proofs.Sets.{has_both, both_have}

-- one change after another
pub lessens_on : (old mid new : List StateSet) (first second changed : Bool) → changed ≡ (first || second)
    → Lessens old mid first → Lessens mid new second → Lessens old new changed
lessens_on old mid new first second changed is before after = record {
  one_each = after.one_each ∙ before.one_each;
  falls = λ line. let f = before.falls line in let g = after.falls line in omega arith;
  same = λ none. let both = or_parts first second (sym is ∙ none) in after.same both.1 ∙ before.same both.0;
  lower = λ yes. ⊎_elim
      (λ one. let down = before.lower one in (down.0, let f = after.falls down.0 in let g = down.1 in omega arith))
      (λ two. let down = after.lower two in (down.0, let f = before.falls down.0 in let g = down.1 in omega arith))
      (or_cases first second (sym is ∙ yes));
}

module _ (old : List StateSet) (line : ℕ) (inside : line < length old) (cut : StateSet) where
  -- the set of a line after a cut, and the sets of the others
  pub label_cut : label_at (set old line cut) line ≡ cut
  label_cut = get_or-set_same old line cut no_states inside

  pub label_others : (other : ℕ) → other ≢ line → label_at (set old line cut) other ≡ label_at old other
  label_others other differs = get_or-set_other old line other cut no_states differs

  -- a smaller set at one line, where the answer tells whether it is another one
  pub lessens_one : (changed : Bool) → cut.0 ≤ (label_at old line).0
      → (changed ≡ false → cut.0 ≡ (label_at old line).0) → (changed ≡ true → cut.0 ≢ (label_at old line).0)
      → Lessens old (set old line cut) changed
  lessens_one changed below same differs = record {
    one_each = length-set old line cut;
    falls = λ other. ⊎_elim
        (λ (here : other ≡ line). subst (λ l. (label_at (set old line cut) l).0 ≤ (label_at old l).0) (sym here)
        (let e = ap (λ (s : StateSet). s.0) label_cut in omega arith))
        (λ (away : other ≢ line). let e = ap (λ (s : StateSet). s.0) (label_others other away) in omega arith)
        (cases_eq other line);
    same = λ none. let e : cut ≡ label_at old line = ap (λ (n : ℕ). let s : StateSet = record { 0 = n } in s) (same none) in
        ap (set old line) e ∙ set-get_or old line no_states;
    lower = λ yes. (line, let e = ap (λ (s : StateSet). s.0) label_cut in let d = differs yes in omega arith);
  }

  -- what the lines have after a cut of one of them
  module _ (count : ℕ) (to : StateSet) (is : cut ≡ both_sets (label_at old line) to) (other : ℕ) (state : State) where
    pub has_after_cut : Has count (label_at old other) state → (other ≡ line → Has count to state)
        → Has count (label_at (set old line cut) other) state
    has_after_cut had kept = ⊎_elim
        (λ (here : other ≡ line). subst (λ l. Has count (label_at (set old line cut) l) state) (sym here)
        (subst (λ s. Has count s state) (sym label_cut)
        (has_both count (label_at old line) to state cut (ap (λ (s : StateSet). s.0) is)
        (subst (λ l. Has count (label_at old l) state) here had) (kept here))))
        (λ (away : other ≢ line). subst (λ s. Has count s state) (sym (label_others other away)) had)
        (cases_eq other line)

    cut_parts : Has count (label_at (set old line cut) line) state → Has count (label_at old line) state × Has count to state
    cut_parts has = both_have count (label_at old line) to state cut (ap (λ (s : StateSet). s.0) is)
        (subst (λ s. Has count s state) label_cut has)

    pub had_before_cut : Has count (label_at (set old line cut) other) state → Has count (label_at old other) state
    had_before_cut has = ⊎_elim
        (λ (here : other ≡ line). subst (λ l. Has count (label_at old l) state) (sym here)
        (cut_parts (subst (λ l. Has count (label_at (set old line cut) l) state) here has)).0)
        (λ (away : other ≢ line). subst (λ s. Has count s state) (label_others other away) has)
        (cases_eq other line)

    pub kept_by_cut : Has count (label_at (set old line cut) other) state → other ≡ line → Has count to state
    kept_by_cut has here = (cut_parts (subst (λ l. Has count (label_at (set old line cut) l) state) here has)).1

-- before the first pin nothing is cut
pub pins_none : (count : ℕ) (pins : List LineId) (kept labels : List StateSet) → HasPinsKept count pins kept 0 labels labels
pins_none count pins kept labels line state = (
  (λ has. (has, λ pin below reads. absurd (let b = below in omega arith))),
  λ both. both.0,
)

-- one pin more
module _ (count : ℕ) (pins : List LineId) (kept old mid : List StateSet) (k : ℕ) (inside : k < length pins)
    (before : HasPinsKept count pins kept k old mid) where
  pub pins_more : (line : LineId) → slice_get pins k ≡ Some line → line.0 < length mid → (cut : StateSet)
      → cut ≡ both_sets (label_at mid line.0) (set_at kept k) → HasPinsKept count pins kept (k + 1) old (set mid line.0 cut)
  pins_more line reads within cut is other state = (
    (λ has. let had = (before other state).0 (had_before_cut mid line.0 within cut count (set_at kept k) is other state has) in (
      had.0,
      λ pin below at. ⊎_elim
          (λ (here : pin ≡ k). subst (λ p. Has count (set_at kept p) state) (sym here)
          (kept_by_cut mid line.0 within cut count (set_at kept k) is other state has
          (ap (λ (l : LineId). l.0) (same_Some (record { 0 = other }) line (sym at ∙ ap (slice_get pins) here ∙ reads)))))
          (λ (away : pin ≢ k). had.1 pin (let b = below in omega arith) at)
          (cases_eq pin k),
    )),
    λ both. has_after_cut mid line.0 within cut count (set_at kept k) is other state
        ((before other state).1 (both.0, λ pin below at. both.1 pin (let b = below in omega arith) at))
        (λ here. both.1 k (omega arith) (reads ∙ ap (λ (n : ℕ). Some (record { 0 = n })) (sym here))),
  )

-- a labelling that lost states has sets below the count if it had
pub lessened_within : (count : ℕ) (old new : List StateSet) (changed : Bool) → Lessens old new changed
    → AreWithin count old → AreWithin count new
lessened_within count old new changed less within k d inside =
    let old_inside : k < length old = let e = less.one_each in omega arith in
    let f = less.falls k in let g = within k no_states old_inside in
    let same : get_or new k d ≡ get_or new k no_states = get_or_default new k d no_states inside in
    let e = ap (λ (s : StateSet). s.0) same in omega arith
