-- The next source has its wave, and the last one ends the list.
use Rattle.std.proofs.Common.{◌≡◌, ◌+◌, [], ◌∷◌, ◌++◌, length, sym, ap, subst, ◌∙◌, ⊎_elim, arith}
use Rattle.std.proofs.lemmas.Bool.{cases_lt}
use Rattle.std.proofs.lemmas.List.{get_or_append_left, get_or_push, length_push}
use Rattle.netlist.specs.Values.{bit_of}
use Rattle.netlist.specs.Waves.{source_wave}
use Rattle.delay_replay.specs.Changes.{AreChangesOf}
use Rattle.delay_replay.specs.LineWaves.{kept_wave, no_changes}
use Rattle.delay_replay.proofs.Replaying.{wave_of_bits}
use Rattle.delay_replay.proofs.line_waves.source_waves.Goals as goal

pub loop-source-preserved : goal.loop-source-preserved
loop-source-preserved c =
    let pair = c.args.pair.now in
    let old = c.loop-source.waves.items in
    let wave = c.in_ok-source_wave.field-0 in
    let source = c.loop-source.source in
    let own = wave_of_bits pair source wave
    (ap (λ bits. bit_of bits source) c.first-first.ensures.bits)
    (ap (λ bits. bit_of bits source) c.second-second.ensures.bits) c.in_ok-source_wave.ensures in
    record {
      so_many = ap length c.push_reserved.ensures.items ∙ length_push old wave ∙ ap (λ n. n + 1) c.loop-source.invariant.so_many;
      each = λ other below. subst (λ all. AreChangesOf (source_wave pair other) (kept_wave all other))
          (sym c.push_reserved.ensures.items)
          (⊎_elim
          (λ less. subst (AreChangesOf (source_wave pair other))
          (sym (get_or_append_left old (wave ∷ []) no_changes other (omega (arith, c.loop-source.invariant.so_many))))
          (c.loop-source.invariant.each other less))
          (λ from.
          let this : source ≡ other = omega arith in
          subst (λ at. AreChangesOf (source_wave pair at) (kept_wave (old ++ wave ∷ []) at)) this
          (subst (AreChangesOf (source_wave pair source))
          (sym (get_or_push old wave no_changes source c.loop-source.invariant.so_many)) own))
          (cases_lt other source));
      room = omega (arith, c.push_reserved.ensures.capacity, c.loop-source.invariant.room);
    }

pub push_reserved-requires : goal.push_reserved-requires
push_reserved-requires c =
    omega (
      arith,
      c.loop-source.invariant.so_many,
      c.loop-source.invariant.room,
      c.loop-source.waves.ok.0,
      c.loop-source-test.true,
      c.requires,
      ap length c.first-first.ensures.bits,
    )

pub returns : goal.returns
returns c =
    let long = ap length c.first-first.ensures.bits in
    let count : c.loop-source.source ≡ length c.first-first.result.now = omega arith in
    record {
      one_each = c.loop-source.invariant.so_many ∙ count ∙ long ∙ c.requires;
      each = λ source within. c.loop-source.invariant.each source (omega (arith, c.requires));
    }
