-- What is listed and written of the searches is good and lawful, and stands at its shortest.
use Rattle.std.proofs.lemmas.Result.{IfOk-weaker}
use Rattle.delay_annotation.specs.Annotation.{delays_of}
use Rattle.runs.specs.declared.run.Run.{Run}
use Rattle.prefix_sensitize.specs.Answers.{written_by}
use Rattle.prefix_sensitize.specs.Listed.{IsRunWith}
use Rattle.prefix_sensitize.specs.SearchedRuns.{IsSearchedRun}
use Rattle.prefix_sensitize.proofs.GoodRuns.{run_is_good, run_is_shortest, run_leaves_zero}
use Rattle.prefix_sensitize.proofs.LawfulRuns.{run_is_lawful}
use Rattle.prefix_sensitize.proofs.listing.run_of.Goals as goal

pub returns : goal.returns
returns g c =
    let net = c.args.net.now in
    let delays = delays_of net c.args.delays.now in
    let are = c.requires.1.1.1.are_searches in
    let listed = c.in_ok-listed.listed.items in
    let written = written_by c.list_paths.new.writer in
    IfOk-weaker c.run_with.result (λ (run : Run). IsRunWith net g.searches listed written run)
    (λ (run : Run). IsSearchedRun net delays g.searches.routes g.searches.budget g.searches.rules run)
    (λ run is.
    record {
      good = run_is_good net delays g.searches are listed written c.in_ok-listed.ensures.listed run is;
      lawful =
          run_is_lawful net c.in_ok-writer.ensures.circuit delays g.searches are listed written c.in_ok-listed.ensures.listed run is;
      of_rules = is.rules;
      shortest = run_is_shortest net delays g.searches are listed written c.in_ok-listed.ensures.listed run is;
      zero_outside = run_leaves_zero net delays g.searches are listed written c.in_ok-listed.ensures.listed run is;
    })
    c.run_with.ensures
