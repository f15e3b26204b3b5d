-- The bits of one source more.
use Rattle.std.proofs.Common.{◌+◌, ℕ, Bool, take, get_or, set, sym, subst}
use Rattle.pair_judging.specs.ConeStates.{state_in}
use Rattle.pair_judging.specs.SourceBits.{first_bit, HasBitsAt}
use Rattle.cones.proofs.Spreading.{no_line}
use Rattle.pair_judging.proofs.Taking.{bits_none, bits_more, bits_all}
use Rattle.pair_judging.proofs.source_bits.write_bits.Goals as goal

pub loop-source-init : goal.loop-source-init
loop-source-init g c = record {
  first = bits_none (λ source. first_bit g.A.Algebra.algebra (state_in c.args.states.now source)) c.args.sources.now c.args.first.now;
  second = bits_none (λ source. g.A.Algebra.algebra.last (state_in c.args.states.now source)) c.args.sources.now c.args.second.now;
}

pub loop-source-preserved : goal.loop-source-preserved
loop-source-preserved g c =
    let states = c.args.states.now in
    let sources = c.args.sources.now in
    let place = c.loop-source.source-index in
    let at = (get_or sources place no_line).0 in
    let before : ℕ → Bool = λ source. first_bit g.A.Algebra.algebra (state_in states source) in
    let after : ℕ → Bool = λ source. g.A.Algebra.algebra.last (state_in states source) in
    record {
      first = subst (λ (bit : Bool). HasBitsAt before (take (place + 1) sources) c.args.first.now (set c.loop-source.first at bit)) (sym c.bit_before.ensures)
          (bits_more before sources place c.args.first.now c.loop-source.first c.loop-source-test.true
          (c.requires.first place no_line c.loop-source-test.true) c.loop-source.invariant.first);
      second = subst (λ (bit : Bool). HasBitsAt after (take (place + 1) sources) c.args.second.now (set c.loop-source.second at bit)) (sym c.bit_after.ensures)
          (bits_more after sources place c.args.second.now c.loop-source.second c.loop-source-test.true
          (c.requires.second place no_line c.loop-source-test.true) c.loop-source.invariant.second);
    }

pub returns-clause-first : goal.returns-clause-first
returns-clause-first g c =
    bits_all (λ source. first_bit g.A.Algebra.algebra (state_in c.args.states.now source)) c.args.sources.now c.loop-source.source-index c.args.first.now c.loop-source.first
    c.loop-source-test.false c.loop-source.invariant.first

pub returns-clause-second : goal.returns-clause-second
returns-clause-second g c =
    bits_all (λ source. g.A.Algebra.algebra.last (state_in c.args.states.now source)) c.args.sources.now c.loop-source.source-index c.args.second.now c.loop-source.second
    c.loop-source-test.false c.loop-source.invariant.second
