-- What is done at status 0, when a call completes, and what its status means, by the laws of all calls and those of its command.
use Rattle.command_line.specs.Commands.{bytes_of_words}
use Rattle.calls.proofs.Calls.{is_done, completes}
use Rattle.calls.proofs.Laws.{keeps_laws}
use Rattle.commands.proofs.AskedLaws.{asked_laws}
use Rattle.commands.proofs.calling.run.Goals as goal

pub returns-clause-done : goal.returns-clause-done
returns-clause-done g c done =
    is_done _ _ _ _ (record {
      ending = c.perform-ending.result;
      performed = c.perform-ending.ensures;
      reported = c.tell.ensures;
    }) done

pub returns-clause-complete : goal.returns-clause-complete
returns-clause-complete g c accepted none =
    completes _ _ _ _ (record {
      ending = c.perform-ending.result;
      performed = c.perform-ending.ensures;
      reported = c.tell.ensures;
    }) accepted none

pub returns-clause-laws : goal.returns-clause-laws
returns-clause-laws g c =
    keeps_laws _ _ _ _ (record {
      ending = c.perform-ending.result;
      performed = c.perform-ending.ensures;
      reported = c.tell.ensures;
    })

pub returns-clause-own : goal.returns-clause-own
returns-clause-own g c =
    asked_laws (bytes_of_words c.args.words.now) _ _ _ (record {
      ending = c.perform-ending.result;
      performed = c.perform-ending.ensures;
      reported = c.tell.ensures;
    })
