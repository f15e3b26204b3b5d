-- The steps are taken from the last one back. Where the sides of one have not settled, the path's have not.
use Rattle.std.proofs.Common.{◌≡◌, ◌-◌, drop, refl, sym, subst, subst₂, ◌∙◌, to_z, of_z, w64, arith}
use Rattle.std.proofs.lemmas.Int.{to_z-of_z}
use Rattle.std.proofs.lemmas.Bool.{false≢true}
use Rattle.netlist.specs.Paths.{Connects}
use Rattle.delay_annotation.specs.Annotation.{delays_of}
use Rattle.delay_replay.specs.Settling.{HaveSettled}
use Rattle.delay_replay.proofs.EndValues.{small_delay}
use Rattle.delay_replay.proofs.BackwardSteps.{behind_more, one_step_more, one_step_not, step_is_pin, steps_settled}
use Rattle.delay_replay.proofs.PrefixLengths.{rest_small}
use Rattle.delay_replay.proofs.settling.settled.Goals as goal

pub sides_settled-requires-clause-gate : goal.sides_settled-requires-clause-gate
sides_settled-requires-clause-gate c =
    let path = c.args.path.now in
    let connects = subst (Connects c.args.net.now path.source.0) (sym c.steps-steps.ensures) c.requires.prefix.connects in
    (step_is_pin c.args.net.now path.source.0 c.steps-steps.result.now (c.loop-place.place - 1)
    (record { gate = record { 0 = 0 }; pin = 0 }) connects (omega arith)).in_circuit

pub sides_settled-requires-clause-behind : goal.sides_settled-requires-clause-behind
sides_settled-requires-clause-behind c =
    let path = c.args.path.now in
    let net = c.args.net.now in
    let connects = subst (Connects net path.source.0) (sym c.steps-steps.ensures) c.requires.prefix.connects in
    let rest = rest_small (delays_of c.args.net.now c.args.delays.now) net c.lines-lines.ensures.circuit
    (small_delay net c.args.delays.now c.requires.fits) path.source.0 c.steps-steps.result.now c.loop-place.place
    (let source = c.requires.prefix.source in omega arith) connects in
    omega (arith, c.loop-place.invariant.behind)

pub returns-then-not-sides_settled-clause-exactly :
    goal.returns-then-not-sides_settled-clause-exactly
returns-then-not-sides_settled-clause-exactly c =
    let net = c.args.net.now in
    let delays = delays_of c.args.net.now c.args.delays.now in
    let time = to_z w64 (of_z w64 c.args.time) in
    let not_settled = one_step_not net delays c.args.waves.now time c.steps-steps.result.now c.loop-place.place
    (record { gate = record { 0 = 0 }; pin = 0 }) c.loop-place-test.true c.loop-place.auto.place
    c.loop-place.behind c.loop-place.invariant.behind
    (λ sides. false≢true (sym c.if-not-sides_settled.true ∙ c.sides_settled.ensures.1 sides)) in (
      λ is. absurd (false≢true is),
      λ have. absurd (not_settled (subst₂ (λ t steps. HaveSettled net delays c.args.waves.now t steps)
          (sym (to_z-of_z w64 c.args.time c.ranges.time)) (sym c.steps-steps.ensures) have)),
    )

pub returns-then-not-sides_settled-clause-of_waves :
    goal.returns-then-not-sides_settled-clause-of_waves
returns-then-not-sides_settled-clause-of_waves c = λ pair are.
    let both = steps_settled c.args.net.now c.lines-lines.ensures.circuit pair (delays_of c.args.net.now c.args.delays.now) c.args.waves.now are
    c.args.path.now.source.0 c.args.path.now.steps c.requires.prefix.connects c.args.time in
    let exactly = returns-then-not-sides_settled-clause-exactly c in
    (λ is. both.0 (exactly.0 is), λ settled. exactly.1 (both.1 settled))

pub delay-requires-clause-gate : goal.delay-requires-clause-gate
delay-requires-clause-gate c =
    let path = c.args.path.now in
    let connects = subst (Connects c.args.net.now path.source.0) (sym c.steps-steps.ensures) c.requires.prefix.connects in
    (step_is_pin c.args.net.now path.source.0 c.steps-steps.result.now (c.loop-place.place - 1)
    (record { gate = record { 0 = 0 }; pin = 0 }) connects (omega arith)).in_circuit

pub delay-requires-clause-pin : goal.delay-requires-clause-pin
delay-requires-clause-pin c =
    let path = c.args.path.now in
    let connects = subst (Connects c.args.net.now path.source.0) (sym c.steps-steps.ensures) c.requires.prefix.connects in
    (step_is_pin c.args.net.now path.source.0 c.steps-steps.result.now (c.loop-place.place - 1)
    (record { gate = record { 0 = 0 }; pin = 0 }) connects (omega arith)).in_gate

pub overflow_add-behind : goal.overflow_add-behind
overflow_add-behind c =
    let path = c.args.path.now in
    let net = c.args.net.now in
    let connects = subst (Connects net path.source.0) (sym c.steps-steps.ensures) c.requires.prefix.connects in
    let rest = rest_small (delays_of c.args.net.now c.args.delays.now) net c.lines-lines.ensures.circuit
    (small_delay net c.args.delays.now c.requires.fits) path.source.0 c.steps-steps.result.now c.loop-place.place
    (let source = c.requires.prefix.source in omega arith) connects in
    omega (arith, c.loop-place.invariant.behind, c.from-behind.ensures, c.delay.ensures.bounded)

pub loop-place-preserved : goal.loop-place-preserved
loop-place-preserved c =
    let net = c.args.net.now in
    let delays = delays_of c.args.net.now c.args.delays.now in
    let time = to_z w64 (of_z w64 c.args.time) in
    let steps = c.steps-steps.result.now in
    let place = c.loop-place.place in
    record {
      behind = behind_more net delays c.args.waves.now time steps place (record { gate = record { 0 = 0 }; pin = 0 })
          c.loop-place-test.true c.loop-place.auto.place c.loop-place.behind c.from-behind.result
          c.loop-place.invariant.behind (c.from-behind.ensures ∙ c.delay.ensures.delay);
      settled = one_step_more net delays c.args.waves.now time steps place (record { gate = record { 0 = 0 }; pin = 0 })
          c.loop-place-test.true c.loop-place.auto.place c.loop-place.behind c.loop-place.invariant.behind
          (c.sides_settled.ensures.0 c.if-not-sides_settled.false) c.loop-place.invariant.settled;
    }

pub returns-clause-exactly : goal.returns-clause-exactly
returns-clause-exactly c =
    let none : c.loop-place.place ≡ 0 = omega arith in
    let all = subst (λ place. HaveSettled c.args.net.now (delays_of c.args.net.now c.args.delays.now) c.args.waves.now
    (to_z w64 (of_z w64 c.args.time)) (drop place c.steps-steps.result.now)) none c.loop-place.invariant.settled in (
      λ is. subst₂ (λ t steps. HaveSettled c.args.net.now (delays_of c.args.net.now c.args.delays.now) c.args.waves.now t steps)
          (to_z-of_z w64 c.args.time c.ranges.time) c.steps-steps.ensures all,
      λ have. refl,
    )

pub returns-clause-of_waves : goal.returns-clause-of_waves
returns-clause-of_waves c = λ pair are.
    let both = steps_settled c.args.net.now c.lines-lines.ensures.circuit pair (delays_of c.args.net.now c.args.delays.now) c.args.waves.now are
    c.args.path.now.source.0 c.args.path.now.steps c.requires.prefix.connects c.args.time in
    let exactly = returns-clause-exactly c in
    (λ is. both.0 (exactly.0 is), λ settled. exactly.1 (both.1 settled))
