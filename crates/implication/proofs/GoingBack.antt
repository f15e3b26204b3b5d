-- Going back entry by entry is going back at once.
use Rattle.std.proofs.Common.{◌≡◌, ℕ, ◌-◌, ◌<◌, ◌≤◌, min, ⊎_elim, List, length, take, Option, None, refl, sym, ap, ap₂, ◌∙◌, subst, arith}
use Rattle.std.proofs.lemmas.Bool.{cases_lt, lt-ltb, le-ltb}
use Rattle.std.proofs.lemmas.List.{take-take, take_all, length-take-le}
use Rattle.pd_base.specs.declared.ids.LineId.{LineId}
use Rattle.implication.specs.declared.assumption.Assumption.{Assumption}
use Rattle.implication.specs.Standing.{Standing}
use Rattle.implication.specs.Moves.{back_at, conflict_at}

-- all is as it was when the list had its present length, which is not below the mark
pub record IsGoingBack (first : Standing) (mark : ℕ) (now : Standing) : Type 0 where
  pub back : now ≡ back_at first (length now.assumptions)
  pub short : length now.assumptions ≤ length first.assumptions
  pub far : min mark (length first.assumptions) ≤ length now.assumptions

abbrev with_both : Standing → List Assumption → Option LineId → Standing
with_both s list conflict = record s { assumptions = list; conflict = conflict }

-- going back to the length of the list, or beyond, changes nothing
back_past : (s : Standing) (mark : ℕ) → length s.assumptions ≤ mark → back_at s mark ≡ s
back_past s mark past =
    let e = take_all mark s.assumptions past in
    let f : conflict_at s mark ≡ s.conflict = rw (le-ltb mark (length s.assumptions) past) refl in
    ap₂ (with_both s) e f

-- going back by one from where one went back to
back_again : (s : Standing) (n : ℕ) → 1 ≤ n → n ≤ length s.assumptions → back_at (back_at s n) (n - 1) ≡ back_at s (n - 1)
back_again s n some within =
    let short : length (take n s.assumptions) ≡ n = length-take-le n s.assumptions within in
    let e = take-take (n - 1) n s.assumptions (omega arith) in
    let f : conflict_at (back_at s n) (n - 1) ≡ None = rw (lt-ltb (n - 1) (length (take n s.assumptions)) (omega (arith, short, some))) refl in
    let h : conflict_at s (n - 1) ≡ None = rw (lt-ltb (n - 1) (length s.assumptions) (omega (arith, some, within))) refl in
    ap₂ (with_both s) e (f ∙ sym h)

pub going_from : (first : Standing) (mark : ℕ) → IsGoingBack first mark first
going_from first mark = record {
  back = sym (back_past first (length first.assumptions) (omega arith));
  short = omega arith;
  far = omega arith;
}

module _ (first mid last : Standing) (mark seen : ℕ) (going : IsGoingBack first mark mid) (is : seen ≡ length mid.assumptions)
    (above : mark < seen) (back : last ≡ back_at mid (length mid.assumptions - 1)) where
  abbrev n : ℕ
  n = length mid.assumptions

  length_last : length last.assumptions ≡ n - 1
  length_last = ap (λ (s : Standing). length s.assumptions) back ∙ length-take-le (n - 1) mid.assumptions (omega arith)

  last_is : last ≡ back_at first (n - 1)
  last_is =
      let P : Standing → Type 0 = λ m. back_at m (n - 1) ≡ back_at first (n - 1) in
      back ∙ subst P (sym going.back) (back_again first n (omega (arith, is, above)) going.short)

  pub going_on : IsGoingBack first mark last
  going_on = record {
    back = last_is ∙ ap (back_at first) (sym length_last);
    short = omega (arith, length_last, going.short);
    far = omega (arith, length_last, is, above);
  }

pub went_back : (first mid : Standing) (mark seen : ℕ) → IsGoingBack first mark mid → seen ≡ length mid.assumptions → seen ≤ mark
    → mid ≡ back_at first mark
went_back first mid mark seen going is below = ⊎_elim
    (λ (inside : mark < length first.assumptions).
    let e : length mid.assumptions ≡ mark = omega (arith, going.far, is, below, inside) in
    going.back ∙ ap (back_at first) e)
    (λ (past : length first.assumptions ≤ mark).
    let e : length mid.assumptions ≡ length first.assumptions = omega (arith, going.far, going.short, past) in
    going.back ∙ ap (back_at first) e ∙ back_past first (length first.assumptions) (omega arith)
    ∙ sym (back_past first mark past))
    (cases_lt mark (length first.assumptions))
