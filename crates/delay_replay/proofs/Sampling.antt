-- The samples of the observed lines, one after the other, and that for the waves of a circuit they are what its lines have.
use Rattle.std.proofs.Common.{◌≡◌, ℕ, ◌+◌, ◌<◌, ◌≤◌, ℤ, Bool, false, List, [], ◌∷◌, ◌++◌, take, take_all, length, get_or, set, sym, ap, ap₂, ◌∙◌, arith}
use Rattle.std.proofs.lemmas.List.{get_or-map, length-map, take_more, take_more_set}
use Rattle.pd_base.specs.declared.ids.LineId.{LineId}
use Rattle.netlist.specs.Circuit.{Circuit, HasLines, observed_lines}
use Rattle.netlist.specs.Waves.{Wave}
use Rattle.netlist.proofs.Evaluation.{map_agree}
use Rattle.delay_replay.specs.Changes.{Changes, wave_at}
use Rattle.delay_replay.specs.LineWaves.{AreLineWaves, kept_wave}
use Rattle.delay_replay.specs.Settling.{samples, observed_under}

module _ (c : Circuit) (waves : List Changes) (time : ℤ) where
  -- what is sampled of a line
  abbrev sample_of : LineId → Bool
  sample_of line = wave_at (kept_wave waves line.0) time

  module _ (out : List Bool) (place : ℕ) where
    -- the sample of the next line is put behind those before it
    pub one_sample_more : (observed : List LineId) (value : Bool) → observed ≡ observed_lines c → place < length observed
        → place < length out → value ≡ sample_of (get_or observed place (record { 0 = 0 }))
        → take place out ≡ take place (samples c waves time)
        → take (place + 1) (set out place value) ≡ take (place + 1) (samples c waves time)
    one_sample_more observed value are within inside is before =
        let long = length-map (observed_lines c) sample_of in
        let same = ap length are in
        let own = is ∙ ap (λ lines. sample_of (get_or lines place (record { 0 = 0 }))) are
        ∙ sym (get_or-map sample_of (observed_lines c) place (record { 0 = 0 }) false (omega arith)) in
        take_more_set out place value inside
        ∙ ap₂ (λ xs x. xs ++ x ∷ []) before own
        ∙ sym (take_more (samples c waves time) place false (omega arith))

    -- behind the last one all are there
    pub all_sampled : length (observed_lines c) ≤ place → length out ≡ length (observed_lines c)
        → take place out ≡ take place (samples c waves time) → out ≡ samples c waves time
    all_sampled last as_many before =
        let long = length-map (observed_lines c) sample_of in
        sym (take_all place out (omega arith)) ∙ before ∙ take_all place (samples c waves time) (omega arith)

  -- of the waves of a circuit the samples are what its observed lines have
  pub samples_of_waves : (wave : ℕ → Wave) → HasLines c (observed_lines c) → AreLineWaves c wave waves
      → samples c waves time ≡ observed_under c wave time
  samples_of_waves wave lines are =
      map_agree sample_of (λ line. wave line.0 time) (observed_lines c)
      (λ i d within. (are.each (get_or (observed_lines c) i d).0 (lines i d within)).shows time)
