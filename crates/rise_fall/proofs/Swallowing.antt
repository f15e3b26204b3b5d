-- Why one pass gives the copy: a change to the slower value comes behind all that are kept; one to the faster value comes
-- behind them, or no later than the change to the slower value before it, and then both go. Before the last change to
-- the slower value all that is kept comes early, so that a swallowed pulse takes no other with it.
use Rattle.std.proofs.Common.{◌≡◌, ℕ, ◌≤◌, ℤ, pos, ◌+ℤ◌, ◌-ℤ◌, ◌<ℤ◌, ◌≤ℤ◌, Bool, true, false, not, nat_le, if◌then◌else◌, List, [], ◌∷◌, ◌++◌, length, refl, sym, ap, subst, ◌∙◌, arith, ⊎_elim}
use Rattle.std.specs.List.{All}
use Rattle.std.proofs.Math.Bool.{not-not}
use Rattle.std.proofs.lemmas.Int.{ints, by_lt_z}
use Rattle.std.proofs.lemmas.Bool.{cases_lt, le-leb, lt-leb}
use Rattle.std.proofs.lemmas.List.{length-append}
use Rattle.std.proofs.lemmas.List.Elements.{All-push, All-weaker}
use Rattle.std.proofs.lemmas.List.Quantifiers.{all_pairs_push}
use Rattle.netlist.specs.Waves.{Wave}
use Rattle.rise_fall.specs.Waves.{risen_fallen}
use Rattle.rise_fall.proofs.WindowLaws.{IsShownBy, same_shown, rise_is_slow, fall_is_slow, not_fallen, not_risen}
use Rattle.delay_replay.specs.Changes.{AreTimesRising, wave_at}
use Rattle.delay_replay.specs.LineWaves.{EndsAt}
use Rattle.delay_replay.proofs.Turning.{at_later_change, come_from}
use Rattle.rise_fall.specs.Inside.Moving.{IsPut}
use Rattle.rise_fall.specs.Inside.Moving.IsPut.{behind, swallowed}
use Rattle.rise_fall.proofs.Times.{all_last, same_front, rising_front, units_between, wave_by, from_change, ends_turned, ends_back}

module _ (rise fall : ℕ) where
  -- the delay of a change to this value
  abbrev pub delay_to : Bool → ℕ
  delay_to value = if value then rise else fall

  -- what the pin shows of a wave by its changes
  abbrev pub copy_by : Bool → List ℤ → Wave
  copy_by before seen = risen_fallen rise fall (wave_at (wave_by before seen))

  -- this value is the slower one
  pub record IsSlower (slow : Bool) : Type 0 where
    pub order : delay_to (not slow) ≤ delay_to slow
    pub shown : (wave : Wave) (time : ℤ)
        → IsShownBy wave time slow (delay_to (not slow)) (delay_to slow) (risen_fallen rise fall wave time)

  -- one of the two values is
  pub slower : IsSlower (nat_le fall rise)
  slower =
      ⊎_elim
      (λ less. subst IsSlower (sym (lt-leb fall rise less))
      (record { order = omega arith; shown = λ wave time. fall_is_slow wave time rise fall less }))
      (λ most. subst IsSlower (sym (le-leb fall rise most))
      (record { order = most; shown = λ wave time. rise_is_slow wave time rise fall most }))
      (cases_lt rise fall)

  -- the faster one takes no longer than either delay
  least_upto : (slow : Bool) → delay_to (not slow) ≤ delay_to slow → (delay_to (not slow) ≤ rise) × (delay_to (not slow) ≤ fall)
  least_upto true order = (order, omega arith)
  least_upto false order = (omega arith, order)

  -- what is kept is the copy of what was seen, at whose end the wave has this value
  pub record IsCopied (slow before : Bool) (seen kept : List ℤ) (value : Bool) : Type 0 where
    pub rising : AreTimesRising kept
    pub shows : (time : ℤ) → wave_at (wave_by before kept) time ≡ copy_by before seen time
    pub seen_ends : EndsAt (wave_by before seen) value
    pub kept_ends : EndsAt (wave_by before kept) value
    pub fast_end : value ≡ not slow → (time : ℤ) → All (λ change. change <ℤ time) seen
        → All (λ change. change <ℤ (time +ℤ pos (delay_to (not slow)))) kept
    pub slow_end : value ≡ slow → (front : List ℤ) (last : ℤ) → kept ≡ front ++ last ∷ [] → (time : ℤ)
        → All (λ change. change <ℤ time) seen → All (λ change. change <ℤ (time +ℤ pos (delay_to (not slow)))) front

  module _ (slow : Bool) (is : IsSlower slow) (before : Bool) (seen kept : List ℤ) (change : ℤ)
      (later : All (λ other. other <ℤ change) seen) where
    -- the delays of changes to the slower value, and to the faster one
    abbrev most : ℕ
    most = delay_to slow

    abbrev least : ℕ
    least = delay_to (not slow)

    -- the wave with this change, too
    abbrev more : List ℤ
    more = seen ++ change ∷ []

    -- until the change can be seen the copy is as it was
    as_before : (time : ℤ) → time <ℤ (change +ℤ pos least) → copy_by before more time ≡ copy_by before seen time
    as_before time less =
        let upto = least_upto slow is.order in
        same_shown (wave_at (wave_by before more)) (wave_at (wave_by before seen)) time rise fall least upto.0 upto.1
        (λ back from. at_later_change before seen change (time -ℤ pos back) (omega (arith, ints)))

    -- right before the change, and from it on
    wave_before : (value : Bool) → EndsAt (wave_by before seen) value → wave_at (wave_by before seen) (change -ℤ pos 1) ≡ value
    wave_before value ends = ends (change -ℤ pos 1) (All-weaker _ _ right_before seen later)
      where
        right_before : (other : ℤ) → other <ℤ change → other ≤ℤ (change -ℤ pos 1)
        right_before other less = omega (arith, ints)

    wave_from : (value : Bool) → EndsAt (wave_by before seen) value → (time : ℤ) → change ≤ℤ time
        → wave_at (wave_by before more) time ≡ not value
    wave_from value ends time upto =
        from_change before seen change time upto ∙ ap not (ends time (come_from seen change time later upto))

    -- A change to the slower value: until it is shown, the faster one is shown.
    module _ (c : IsCopied slow before seen kept (not slow)) where
      -- between the two delays
      still_fast : (time : ℤ) → (change +ℤ pos least) ≤ℤ time → time <ℤ (change +ℤ pos most)
          → copy_by before more time ≡ copy_by before seen time
      still_fast time from less =
          let apart = units_between (change -ℤ pos 1) time (omega (arith, ints)) in
          let back = apart.0 in
          let here : (time -ℤ pos back) ≡ (change -ℤ pos 1) = omega (arith, ints, apart.1) in
          let was = ap (wave_at (wave_by before seen)) here ∙ wave_before (not slow) c.seen_ends in
          let is_now = at_later_change before seen change (time -ℤ pos back) (omega (arith, ints, apart.1)) ∙ was in
          let above : least ≤ back = omega (arith, ints, apart.1) in
          let below : back ≤ most = omega (arith, ints, apart.1) in
          (is.shown (wave_at (wave_by before more)) time).broken back above below is_now
          ∙ sym ((is.shown (wave_at (wave_by before seen)) time).broken back above below was)

      -- it comes behind all that are kept
      kept_before : All (λ other. other <ℤ (change +ℤ pos most)) kept
      kept_before = All-weaker _ _ sooner kept (c.fast_end refl change later)
        where
          sooner : (other : ℤ) → other <ℤ (change +ℤ pos least) → other <ℤ (change +ℤ pos most)
          sooner other less = omega (arith, ints, is.order)

      -- and so the copy has it there
      slow_shows : (time : ℤ) → wave_at (wave_by before (kept ++ (change +ℤ pos most) ∷ [])) time ≡ copy_by before more time
      slow_shows time =
          by_lt_z time (change +ℤ pos most)
          (λ less. at_later_change before kept (change +ℤ pos most) time less ∙ c.shows time
          ∙ by_lt_z time (change +ℤ pos least) (λ early. sym (as_before time early)) (λ late. sym (still_fast time late less)))
          (λ upto. from_change before kept (change +ℤ pos most) time upto
          ∙ ap not (c.kept_ends time (come_from kept (change +ℤ pos most) time kept_before upto))
          ∙ not-not slow
          ∙ sym ((is.shown (wave_at (wave_by before more)) time).held
          (λ back from last. wave_from (not slow) c.seen_ends (time -ℤ pos back) (omega (arith, ints)) ∙ not-not slow)))

      slow_added : IsCopied slow before more (kept ++ (change +ℤ pos most) ∷ []) slow
      slow_added = record {
        rising = all_pairs_push (λ a b. a <ℤ b) kept (change +ℤ pos most) c.rising kept_before;
        shows = slow_shows;
        seen_ends = subst (EndsAt (wave_by before more)) (not-not slow) (ends_turned before seen change (not slow) c.seen_ends);
        kept_ends = subst (EndsAt (wave_by before (kept ++ (change +ℤ pos most) ∷ []))) (not-not slow)
            (ends_turned before kept (change +ℤ pos most) (not slow) c.kept_ends);
        fast_end = λ same. absurd (differs slow same);
        slow_end = λ same front last e time all.
            subst (All (λ other. other <ℤ (time +ℤ pos least))) (same_front kept front (change +ℤ pos most) last e)
            (All-weaker _ _ (sooner time (all_last (λ other. other <ℤ time) seen change all)) kept (c.fast_end refl change later));
      }
        where
          differs : (bit : Bool) → bit ≡ not bit → ⊥
          differs true same = cc
          differs false same = cc

          sooner : (time : ℤ) → change <ℤ time → (other : ℤ) → other <ℤ (change +ℤ pos least) → other <ℤ (time +ℤ pos least)
          sooner time less other early = omega (arith, ints)

      -- whether it is put behind them or not
      pub slow_put : (new : List ℤ) → IsPut kept new (change +ℤ pos most) → IsCopied slow before more new slow
      slow_put new (behind all e) = subst (λ now. IsCopied slow before more now slow) (sym e) slow_added
      slow_put new (swallowed last upto e) =
          absurd (never (change +ℤ pos most) last upto
          (all_last (λ other. other <ℤ (change +ℤ pos most)) new last (subst (All (λ other. other <ℤ (change +ℤ pos most))) e kept_before)))
        where
          never : (time last : ℤ) → time ≤ℤ last → last <ℤ time → ⊥
          never time last upto less = omega (arith, ints)

    -- A change to the faster value: it is shown from its delay on.
    module _ (c : IsCopied slow before seen kept slow) where
      fast_shown : (time : ℤ) → (change +ℤ pos least) ≤ℤ time → copy_by before more time ≡ not slow
      fast_shown time from =
          (is.shown (wave_at (wave_by before more)) time).broken least (omega arith) is.order
          (wave_from slow c.seen_ends (time -ℤ pos least) (omega (arith, ints)))

      -- it comes behind all that are kept
      fast_added : All (λ other. other <ℤ (change +ℤ pos least)) kept
          → IsCopied slow before more (kept ++ (change +ℤ pos least) ∷ []) (not slow)
      fast_added kept_before = record {
        rising = all_pairs_push (λ a b. a <ℤ b) kept (change +ℤ pos least) c.rising kept_before;
        shows = λ time.
            by_lt_z time (change +ℤ pos least)
            (λ less. at_later_change before kept (change +ℤ pos least) time less ∙ c.shows time ∙ sym (as_before time less))
            (λ upto. from_change before kept (change +ℤ pos least) time upto
            ∙ ap not (c.kept_ends time (come_from kept (change +ℤ pos least) time kept_before upto))
            ∙ sym (fast_shown time upto));
        seen_ends = ends_turned before seen change slow c.seen_ends;
        kept_ends = ends_turned before kept (change +ℤ pos least) slow c.kept_ends;
        fast_end = λ same time all.
            let less = all_last (λ other. other <ℤ time) seen change all in
            All-push (λ other. other <ℤ (time +ℤ pos least)) kept (change +ℤ pos least)
            (All-weaker _ _ (sooner time less) kept kept_before) (omega (arith, ints));
        slow_end = λ same. absurd (differs slow same);
      }
        where
          differs : (bit : Bool) → not bit ≡ bit → ⊥
          differs true same = cc
          differs false same = cc

          sooner : (time : ℤ) → change <ℤ time → (other : ℤ) → other <ℤ (change +ℤ pos least) → other <ℤ (time +ℤ pos least)
          sooner time less other early = omega (arith, ints)

      -- or it takes out the last change to the slower value, which would come no earlier
      fast_swallowed : (front : List ℤ) (last : ℤ) → kept ≡ front ++ last ∷ [] → (change +ℤ pos least) ≤ℤ last
          → IsCopied slow before more front (not slow)
      fast_swallowed front last e upto =
          let earlier = c.slow_end refl front last e change later in
          let rising = subst AreTimesRising e c.rising in
          let ends = ends_back before front last slow rising (subst (λ times. EndsAt (wave_by before times) slow) e c.kept_ends) in
          record {
            rising = rising_front front last rising;
            shows = λ time.
                by_lt_z time (change +ℤ pos least)
                (λ less. sym (at_later_change before front last time (omega (arith, ints)))
                ∙ ap (λ times. wave_at (wave_by before times) time) (sym e) ∙ c.shows time ∙ sym (as_before time less))
                (λ late. ends time (come_from front (change +ℤ pos least) time earlier late) ∙ sym (fast_shown time late));
            seen_ends = ends_turned before seen change slow c.seen_ends;
            kept_ends = ends;
            fast_end = λ same time all.
                All-weaker _ _ (sooner time (all_last (λ other. other <ℤ time) seen change all)) front earlier;
            slow_end = λ same. absurd (differs slow same);
          }
        where
          differs : (bit : Bool) → not bit ≡ bit → ⊥
          differs true same = cc
          differs false same = cc

          sooner : (time : ℤ) → change <ℤ time → (other : ℤ) → other <ℤ (change +ℤ pos least) → other <ℤ (time +ℤ pos least)
          sooner time less other early = omega (arith, ints)

      -- one of the two
      pub fast_put : (new : List ℤ) → IsPut kept new (change +ℤ pos least) → IsCopied slow before more new (not slow)
      fast_put new (behind all e) = subst (λ now. IsCopied slow before more now (not slow)) (sym e) (fast_added all)
      fast_put new (swallowed last upto e) = fast_swallowed new last e upto

  -- a wave without changes is its own copy
  still_shown : (before : Bool) (time : ℤ) → wave_at (wave_by before []) time ≡ copy_by before [] time
  still_shown true time = sym (not_fallen (wave_at (wave_by true [])) time rise fall (λ back from. refl))
  still_shown false time = sym (not_risen (wave_at (wave_by false [])) time rise fall (λ back from. refl))

  -- and ends as it began
  still_ends : (before : Bool) → EndsAt (wave_by before []) before
  still_ends true time all = refl
  still_ends false time all = refl

  -- before the first change nothing is kept
  pub none_copied : (slow before : Bool) → IsCopied slow before [] [] before
  none_copied slow before = record {
    rising = λ i j d less within. absurd (omega arith);
    shows = still_shown before;
    seen_ends = still_ends before;
    kept_ends = still_ends before;
    fast_end = λ same time all k d within. absurd (omega arith);
    slow_end = λ same front last e. absurd (omega (arith, length-append front (last ∷ []), ap length e));
  }

  -- one change more, put behind those that are kept or taken out together with the last of them
  pub one_more : (slow : Bool) → IsSlower slow → (before : Bool) (seen kept : List ℤ) (change : ℤ) (value : Bool) (new : List ℤ)
      → All (λ other. other <ℤ change) seen → IsCopied slow before seen kept value
      → IsPut kept new (change +ℤ pos (delay_to (not value))) → IsCopied slow before (seen ++ change ∷ []) new (not value)
  one_more true is before seen kept change true new later c put = fast_put true is before seen kept change later c new put
  one_more true is before seen kept change false new later c put = slow_put true is before seen kept change later c new put
  one_more false is before seen kept change false new later c put = fast_put false is before seen kept change later c new put
  one_more false is before seen kept change true new later c put = slow_put false is before seen kept change later c new put
