-- Two claims that tell of one run are the same.
use Rattle.std.proofs.Common.{◌≡◌, ℕ, ◌<◌, ◌≤◌, List, refl, sym, ap, subst, ◌∙◌, ⊎_elim, arith}
use Rattle.std.proofs.lemmas.Bool.{cases_lt}
use Rattle.pd_base.specs.Route.{Route}
use Rattle.netlist.specs.Circuit.{Circuit}
use Rattle.netlist.specs.Waves.{Delays}
use Rattle.runs.specs.declared.run.Run.{Run}
use Rattle.good_runs.specs.GoodRun.{IsGoodRun}
use Rattle.good_runs.proofs.FirstOnce.{first_once}
use Rattle.claim_check.specs.declared.claim.Claim.{Claim}
use Rattle.claim_check.specs.declared.claim.Claim.TheVariants.{Holds, Fails}
use Rattle.claim_check.specs.declared.claim.Reason.{Reason}
use Rattle.claim_check.specs.declared.claim.Reason.TheVariants.{WrongCount, WrongPath, WrongLength, BadRefutation, BadSpent, NotShared, BadTest, WrongExpected}
use Rattle.claim_check.specs.Claims.{TellsOfRun}
use Rattle.claim_check.specs.Flaws.{IsFirstFlaw, part_of, turn_of}
use Rattle.claim_check.specs.Flaws.IsToldBefore.{earlier_part, lesser_item, earlier_reason}
use Rattle.claim_check.specs.Right.{IsRightAt}
use Rattle.claim_check.proofs.Rightness.{right_of_good}

-- no two reasons have one turn
same_reason : (reason other : Reason) → turn_of reason ≡ turn_of other → reason ≡ other
same_reason WrongCount WrongCount turn = refl
same_reason WrongPath WrongPath turn = refl
same_reason WrongLength WrongLength turn = refl
same_reason BadRefutation BadRefutation turn = refl
same_reason BadSpent BadSpent turn = refl
same_reason NotShared NotShared turn = refl
same_reason BadTest BadTest turn = refl
same_reason WrongExpected WrongExpected turn = refl
same_reason reason other turn = absurd (omega arith)

-- two numbers of which none is below the other one are the same
same_number : (a b : ℕ) → ¬ (a < b) → ¬ (b < a) → a ≡ b
same_number a b no_less no_more =
    ⊎_elim (λ (less : a < b). absurd (no_less less))
    (λ (most : b ≤ a). ⊎_elim (λ (more : b < a). absurd (no_more more)) (λ (least : a ≤ b). omega arith) (cases_lt b a)) (cases_lt a b)

-- one flaw is told first
module _ (IsRight : ℕ → Reason → Type 0) (item other : ℕ) (reason other_reason : Reason) (one : IsFirstFlaw IsRight item reason)
    (its : IsFirstFlaw IsRight other other_reason) where
  same_part : part_of reason ≡ part_of other_reason
  same_part =
      same_number (part_of reason) (part_of other_reason) (λ less. one.flawed (its.before item reason (earlier_part less)))
      (λ less. its.flawed (one.before other other_reason (earlier_part less)))

  pub same_item : item ≡ other
  same_item =
      same_number item other (λ less. one.flawed (its.before item reason (lesser_item same_part less)))
      (λ less. its.flawed (one.before other other_reason (lesser_item (sym same_part) less)))

  pub is_reason : reason ≡ other_reason
  is_reason =
      same_reason reason other_reason
      (same_number (turn_of reason) (turn_of other_reason)
      (λ less. one.flawed (its.before item reason (earlier_reason same_part same_item less)))
      (λ less. its.flawed (one.before other other_reason (earlier_reason (sym same_part) (sym same_item) less))))

module _ (c : Circuit) (delays : Delays) (count budget : ℕ) (run : Run) where
  -- a good run has no first flaw
  none_of_good : (item : ℕ) (reason : Reason) → IsGoodRun c delays count budget run → TellsOfRun c delays count budget run (Fails item reason) → ⊥
  none_of_good item reason good (first, are, is) = is.flawed (right_of_good c delays count budget run first are good item reason)

  pub claims_agree : (claim other : Claim) → TellsOfRun c delays count budget run claim → TellsOfRun c delays count budget run other
      → claim ≡ other
  claims_agree Holds Holds good also = refl
  claims_agree Holds (Fails item reason) good tells = absurd (none_of_good item reason good tells)
  claims_agree (Fails item reason) Holds tells good = absurd (none_of_good item reason good tells)
  claims_agree (Fails item reason) (Fails other other_reason) (first, are, is) (firsts, also, its) =
      let P : List Route → Type 0 = λ paths. IsFirstFlaw (IsRightAt c delays budget paths run) other other_reason in
      let here = subst P (first_once c delays count firsts first also are) its in
      let IsRight : ℕ → Reason → Type 0 = IsRightAt c delays budget first run in
      let items = same_item IsRight item other reason other_reason is here in
      let reasons = is_reason IsRight item other reason other_reason is here in
      ap (λ n. Fails n reason) items ∙ ap (Fails other) reasons
