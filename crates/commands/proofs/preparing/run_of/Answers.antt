-- The paths are the first ones for the number that was asked for, and the run is good for it.
use Rattle.std.proofs.Common.{◌≡◌}
use Rattle.std.proofs.lemmas.Result.{IfOk-weaker}
use Rattle.delay_annotation.specs.Annotation.{delays_of}
use Rattle.runs.specs.Lawful.{IsLawfulRun}
use Rattle.runs.specs.declared.run.Run.{Run}
use Rattle.good_runs.specs.GoodRun.{IsGoodRun}
use Rattle.good_runs.specs.Shortest.{IsShortestRun}
use Rattle.good_runs.specs.ZeroOutside.{LeavesZeroOutside}
use Rattle.prefix_sensitize.specs.SearchedRuns.{IsSearchedRun}
use Rattle.commands.proofs.preparing.run_of.Goals as goal

pub sensitize_all-requires-clause-first : goal.sensitize_all-requires-clause-first
sensitize_all-requires-clause-first c =
    record { count = c.args.paths; few = c.requires.paths; are_first = c.in_ok-first.ensures }

pub returns-clause-good : goal.returns-clause-good
returns-clause-good c =
    let net = c.args.net.now in
    let delays = delays_of net c.args.delays.now in
    IfOk-weaker c.sensitize_all.result (IsSearchedRun net delays c.in_ok-first.first.items c.args.budget c.args.rules)
    (IsGoodRun net delays c.args.paths c.args.budget) (λ run is. is.good c.args.paths c.in_ok-first.ensures) c.sensitize_all.ensures.run

pub returns-clause-rules : goal.returns-clause-rules
returns-clause-rules c =
    let net = c.args.net.now in
    IfOk-weaker c.sensitize_all.result
    (IsSearchedRun net (delays_of net c.args.delays.now) c.in_ok-first.first.items c.args.budget c.args.rules)
    (λ (run : Run). run.rules ≡ c.args.rules)
    (λ run is. is.of_rules) c.sensitize_all.ensures.run

pub returns-clause-lawful : goal.returns-clause-lawful
returns-clause-lawful c =
    let net = c.args.net.now in
    IfOk-weaker c.sensitize_all.result
    (IsSearchedRun net (delays_of net c.args.delays.now) c.in_ok-first.first.items c.args.budget c.args.rules) (IsLawfulRun net)
    (λ run is. is.lawful) c.sensitize_all.ensures.run

pub returns-clause-shortest : goal.returns-clause-shortest
returns-clause-shortest c =
    let net = c.args.net.now in
    IfOk-weaker c.sensitize_all.result
    (IsSearchedRun net (delays_of net c.args.delays.now) c.in_ok-first.first.items c.args.budget c.args.rules) (IsShortestRun net)
    (λ run is. is.shortest) c.sensitize_all.ensures.run

pub returns-clause-zero_outside : goal.returns-clause-zero_outside
returns-clause-zero_outside c =
    let net = c.args.net.now in
    IfOk-weaker c.sensitize_all.result
    (IsSearchedRun net (delays_of net c.args.delays.now) c.in_ok-first.first.items c.args.budget c.args.rules) (LeavesZeroOutside net)
    (λ run is. is.zero_outside) c.sensitize_all.ensures.run
