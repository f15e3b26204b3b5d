-- Where the walk had come to the place at the beginning, it has come to that of each turn.
use Rattle.prefix_sensitize.proofs.lifting.lift.Goals as goal

pub lift_once-requires-clause-come : goal.lift_once-requires-clause-come
lift_once-requires-clause-come g c =
    let come = c.requires.come in
    record { begin = come.begin; steps = come.steps; come = c.lifts.invariant.on.come come.begin come.steps come.come }
