-- When no gate is ready any more, the levels say which gates are looped, and what the levels of all lines are.
use Rattle.std.proofs.Common.{refl, subst, arith}
use Rattle.std.proofs.lemmas.List.{nil_from_length}
use Rattle.net_builder.specs.Progress.{AllGiven, IsFirstWithout, IsProgress}
use Rattle.net_builder.proofs.Levelled.{first_looped, levels_are, loop_free}
use Rattle.net_builder.proofs.levels.levels_of.Goals as goal

pub returns-in-Some-first_without-clause-refused : goal.returns-in-Some-first_without-clause-refused
returns-in-Some-first_without-clause-refused c =
    let gates = c.args.pins.now in
    let at_end = c.loop-gate.progress in
    let empty = nil_from_length at_end.ready.items (omega (arith, c.in_default.ensures.cases, at_end.ready.ok.0)) in
    let progress = subst (IsProgress c.args.sources gates at_end.levels.items at_end.waits.items) empty c.loop-gate.invariant in
    let first = subst (λ l. IsFirstWithout c.args.sources l c.in-Some-first_without.gate.0) c.as_slice.ensures.value
    c.in-Some-first_without.ensures in
    λ circuit wired.
    first_looped _ _ _ _ progress _ refl c.requires.fits circuit wired
    c.in-Some-first_without.gate.0 first

pub returns-clause-levels : goal.returns-clause-levels
returns-clause-levels c =
    let gates = c.args.pins.now in
    let at_end = c.loop-gate.progress in
    let empty = nil_from_length at_end.ready.items (omega (arith, c.in_default.ensures.cases, at_end.ready.ok.0)) in
    let progress = subst (IsProgress c.args.sources gates at_end.levels.items at_end.waits.items) empty c.loop-gate.invariant in
    let all : AllGiven c.args.sources at_end.levels.items =
    subst (AllGiven c.args.sources) c.as_slice.ensures.value c.in-None.ensures in
    λ circuit wired.
    levels_are _ _ _ _ progress _ refl c.requires.fits circuit wired all

pub returns-clause-loop_free : goal.returns-clause-loop_free
returns-clause-loop_free c =
    let gates = c.args.pins.now in
    let at_end = c.loop-gate.progress in
    let empty = nil_from_length at_end.ready.items (omega (arith, c.in_default.ensures.cases, at_end.ready.ok.0)) in
    let progress = subst (IsProgress c.args.sources gates at_end.levels.items at_end.waits.items) empty c.loop-gate.invariant in
    let all : AllGiven c.args.sources at_end.levels.items =
    subst (AllGiven c.args.sources) c.as_slice.ensures.value c.in-None.ensures in
    λ circuit wired.
    loop_free _ _ _ _ progress _ refl c.requires.fits circuit wired all
