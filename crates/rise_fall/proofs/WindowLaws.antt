-- What a pin with a rise and a fall delay shows is told by the window between the two delays: its value is the slower one
-- exactly where the wave has that all through the window. So it has the two laws of PinCopies.antt, and with two equal delays
-- it is the copy of one delay.
use Rattle.std.proofs.Common.{◌≡◌, ℕ, zero, suc, ◌+◌, ◌-◌, ◌≤◌, ◌<◌, ℤ, pos, ◌+ℤ◌, ◌-ℤ◌, ◌<ℤ◌, Bool, true, false, not, [], ◌∷◌, nat_le, if◌then◌else◌, refl, sym, ap, ap₂, ◌∙◌, subst, arith, ⊎_elim}
use Rattle.std.proofs.lemmas.Int.{ints}
use Rattle.std.proofs.lemmas.Bool.{and_from, and_left, and_right, or_left, or_right, or_from, cases_Bool, cases_lt, cond-true, cond-false, le-leb, lt-leb}
use Rattle.netlist.specs.Values.{all_true, any_true}
use Rattle.netlist.specs.Waves.{Wave}
use Rattle.rise_fall.specs.Waves.{RiseFallDelays, window, risen_fallen, rise_fall_copy}
use Rattle.path_laws.proofs.PinCopies.{KeepsConstants, Postpones}

module _ (wave : Wave) (time : ℤ) where
  -- so many delay units ago the wave had this value
  abbrev HadAgo : Bool → ℕ → Type 0
  HadAgo bit ago = wave (time -ℤ pos ago) ≡ bit

  -- a window all through which the wave is 1
  all_in_window : (ago more : ℕ) → ((back : ℕ) → ago ≤ back → back ≤ ago + more → HadAgo true back)
      → all_true (window wave time ago more) ≡ true
  all_in_window ago zero each = and_from _ _ (each ago (omega arith) (omega arith)) refl
  all_in_window ago (suc more) each =
      and_from _ _ (each ago (omega arith) (omega arith))
      (all_in_window (ago + 1) more (λ back from upto. each back (omega arith) (omega arith)))

  -- a window in which the wave is 0 somewhere
  not_all_in_window : (ago more back : ℕ) → ago ≤ back → back ≤ ago + more → HadAgo false back
      → all_true (window wave time ago more) ≡ false
  not_all_in_window ago zero back from upto had =
      let at : back ≡ ago = omega arith in and_left _ _ (subst (HadAgo false) at had)
  not_all_in_window ago (suc more) back from upto had =
      ⊎_elim
      (λ less. and_right _ _ (not_all_in_window (ago + 1) more back (omega arith) (omega arith) had))
      (λ least. let at : back ≡ ago = omega arith in and_left _ _ (subst (HadAgo false) at had))
      (cases_lt ago back)

  -- a window all through which the wave is 0
  none_in_window : (ago more : ℕ) → ((back : ℕ) → ago ≤ back → back ≤ ago + more → HadAgo false back)
      → any_true (window wave time ago more) ≡ false
  none_in_window ago zero each = or_from _ _ (each ago (omega arith) (omega arith)) refl
  none_in_window ago (suc more) each =
      or_from _ _ (each ago (omega arith) (omega arith))
      (none_in_window (ago + 1) more (λ back from upto. each back (omega arith) (omega arith)))

  -- a window in which the wave is 1 somewhere
  some_in_window : (ago more back : ℕ) → ago ≤ back → back ≤ ago + more → HadAgo true back
      → any_true (window wave time ago more) ≡ true
  some_in_window ago zero back from upto had =
      let at : back ≡ ago = omega arith in or_left _ _ (subst (HadAgo true) at had)
  some_in_window ago (suc more) back from upto had =
      ⊎_elim
      (λ less. or_right _ _ (some_in_window (ago + 1) more back (omega arith) (omega arith) had))
      (λ least. let at : back ≡ ago = omega arith in or_left _ _ (subst (HadAgo true) at had))
      (cases_lt ago back)

  -- The copy has a value where the wave had it all the time from the delay of that value on backward, and
  -- where it is not the slower one, also where the wave had it once in the window.
  pub record IsShownBy (slow : Bool) (least most : ℕ) (shown : Bool) : Type 0 where
    pub held : ((back : ℕ) → least ≤ back → back ≤ most → HadAgo slow back) → shown ≡ slow
    pub broken : (back : ℕ) → least ≤ back → back ≤ most → HadAgo (not slow) back → shown ≡ not slow

  module _ (rise fall : ℕ) where
    -- where a rise takes as long as a fall or longer, 1 is the slower value
    pub rise_is_slow : fall ≤ rise → IsShownBy true fall rise (risen_fallen rise fall wave time)
    rise_is_slow slow =
        let chosen = cond-true (nat_le fall rise) (all_true (window wave time fall (rise - fall)))
        (any_true (window wave time rise (fall - rise))) (le-leb fall rise slow) in
        record {
          held = λ each. chosen ∙ all_in_window fall (rise - fall) (λ back from upto. each back from (omega arith));
          broken = λ back from upto had. chosen ∙ not_all_in_window fall (rise - fall) back from (omega arith) had;
        }

    -- else 0 is
    pub fall_is_slow : rise < fall → IsShownBy false rise fall (risen_fallen rise fall wave time)
    fall_is_slow slow =
        let chosen = cond-false (nat_le fall rise) (all_true (window wave time fall (rise - fall)))
        (any_true (window wave time rise (fall - rise))) (lt-leb fall rise slow) in
        record {
          held = λ each. chosen ∙ none_in_window rise (fall - rise) (λ back from upto. each back from (omega arith));
          broken = λ back from upto had. chosen ∙ some_in_window rise (fall - rise) back from (omega arith) had;
        }

  module _ (rise fall : ℕ) where
    -- a wave that was 0 all the time from the rise delay backward is shown as 0
    pub not_risen : ((back : ℕ) → rise ≤ back → HadAgo false back) → risen_fallen rise fall wave time ≡ false
    not_risen each =
        ⊎_elim
        (λ slow. (fall_is_slow rise fall slow).held (λ back from upto. each back from))
        (λ slow. (rise_is_slow rise fall slow).broken rise slow (omega arith) (each rise (omega arith)))
        (cases_lt rise fall)

    -- and one that was 1 all the time from the fall delay backward as 1
    pub not_fallen : ((back : ℕ) → fall ≤ back → HadAgo true back) → risen_fallen rise fall wave time ≡ true
    not_fallen each =
        ⊎_elim
        (λ slow. (fall_is_slow rise fall slow).broken fall (omega arith) (omega arith) (each fall (omega arith)))
        (λ slow. (rise_is_slow rise fall slow).held (λ back from upto. each back from))
        (cases_lt rise fall)

module _ (wave other : Wave) (time : ℤ) where
  -- waves that are the same from so long ago backward are the same in a window that begins no later
  same_window : (ago more : ℕ) → ((back : ℕ) → ago ≤ back → wave (time -ℤ pos back) ≡ other (time -ℤ pos back))
      → window wave time ago more ≡ window other time ago more
  same_window ago zero each = ap (λ bit. bit ∷ []) (each ago (omega arith))
  same_window ago (suc more) each =
      ap₂ (λ bit bits. bit ∷ bits) (each ago (omega arith)) (same_window (ago + 1) more (λ back from. each back (omega arith)))

  -- and have the same copy, where both delays are at least as long
  pub same_shown : (rise fall least : ℕ) → least ≤ rise → least ≤ fall
      → ((back : ℕ) → least ≤ back → wave (time -ℤ pos back) ≡ other (time -ℤ pos back))
      → risen_fallen rise fall wave time ≡ risen_fallen rise fall other time
  same_shown rise fall least by_rise by_fall each =
      ap₂ (λ all some. if nat_le fall rise then all_true all else any_true some)
      (same_window fall (rise - fall) (λ back from. each back (omega arith)))
      (same_window rise (fall - rise) (λ back from. each back (omega arith)))

-- a constant wave has a constant copy
pub rise_fall-keeps_constants : (delays : RiseFallDelays) → KeepsConstants (rise_fall_copy delays)
rise_fall-keeps_constants delays pin wave true constant time =
    not_fallen wave time (delays pin true) (delays pin false) (λ back from. constant (time -ℤ pos back))
rise_fall-keeps_constants delays pin wave false constant time =
    not_risen wave time (delays pin true) (delays pin false) (λ back from. constant (time -ℤ pos back))

-- so long ago a time was below a bound
was_below : (time bound : ℤ) (shift back : ℕ) → time <ℤ (bound +ℤ pos shift) → shift ≤ back → (time -ℤ pos back) <ℤ bound
was_below time bound shift back within from = omega (arith, ints)

-- a wave that lacks a value below a time has a copy that lacks it for as long again as the pin takes to show that value
pub rise_fall-postpones : (delays : RiseFallDelays) → Postpones (rise_fall_copy delays) delays
rise_fall-postpones delays pin wave true bound before time within =
    let rise = delays pin true in
    not_risen wave time rise (delays pin false) (λ back from. before (time -ℤ pos back) (was_below time bound rise back within from))
rise_fall-postpones delays pin wave false bound before time within =
    let fall = delays pin false in
    not_fallen wave time (delays pin true) fall (λ back from. before (time -ℤ pos back) (was_below time bound fall back within from))

-- with two equal delays it shows the wave later by that delay
pub one_delay : (delay : ℕ) (wave : Wave) (time : ℤ) → risen_fallen delay delay wave time ≡ wave (time -ℤ pos delay)
one_delay delay wave time =
    let shown = rise_is_slow wave time delay delay (omega arith) in
    ⊎_elim
    (λ high. shown.held (λ back from upto. let at : delay ≡ back = omega arith in subst (HadAgo wave time true) at high) ∙ sym high)
    (λ low. shown.broken delay (omega arith) (omega arith) low ∙ sym low)
    (cases_Bool (wave (time -ℤ pos delay)))
