-- The side that fails is one that a pin reads, and where none does, each pin was passed by.
use Rattle.std.proofs.Common.{get_or, sym, ◌∙◌, arith}
use Rattle.std.proofs.lemmas.Bool.{false≢true}
use Rattle.std.proofs.lemmas.Option.{slice_get-get_or, slice_get_within}
use Rattle.pair_judging.proofs.path_states.failing_side.Goals as goal

pub loop-pin-init : goal.loop-pin-init
loop-pin-init g c = λ pin below. absurd (omega (arith, below))

pub bounds-states-side : goal.bounds-states-side
bounds-states-side g c = c.requires.pins c.loop-pin.pin (record { 0 = 0 }) c.loop-pin-test.true

pub passes-requires : goal.passes-requires
passes-requires g c =
    c.requires.states (get_or c.args.pins.now c.loop-pin.pin (record { 0 = 0 })).0 (record { 0 = 0 })
    (c.requires.pins c.loop-pin.pin (record { 0 = 0 }) c.loop-pin-test.true)

pub returns-then-not-passes : goal.returns-then-not-passes
returns-then-not-passes g c = record {
  pin = c.loop-pin.pin;
  other = c.if-pin-on_path.true;
  reads = slice_get-get_or c.args.pins.now c.loop-pin.pin (record { 0 = 0 }) c.loop-pin-test.true;
  fails = λ allows. false≢true (sym c.if-not-passes.true ∙ c.passes.ensures.1 allows);
}

pub returns : goal.returns
returns g c = λ pin side other reads.
    let within = slice_get_within c.args.pins.now pin side reads in
    c.loop-pin.invariant pin (omega (arith, within, c.loop-pin-test.false)) side other reads
