-- The lists hold the readers of the gates so far, and there is room for all.
use Rattle.std.proofs.Common.{◌≡◌, ◌<◌, [], length, take, get_or, sym, ap, subst, ◌∙◌, arith}
use Rattle.std.proofs.lemmas.List.{take_all}
use Rattle.std.proofs.lemmas.List.Sums.{sum_by_more_le}
use Rattle.std.proofs.lemmas.Result.{IfOk-weaker}
use Rattle.netlist.specs.Circuit.{Circuit}
use Rattle.netlist.specs.Pins.{AreFanouts}
use Rattle.net_builder.specs.Readers.{readers}
use Rattle.net_builder.specs.Wiring.{IsWired, NamesReaders, times_read}
use Rattle.net_builder.proofs.ReaderCounts.{readers-length}
use Rattle.net_builder.proofs.Readers.{are_fanouts, gate_added, names_readers}
use Rattle.net_builder.proofs.fanouts.fanouts_of.Goals as goal

pub add_readers-requires-clause-room : goal.add_readers-requires-clause-room
add_readers-requires-clause-room c =
    let pins = c.args.pins.now in
    let i = c.loop-gate.gate in
    λ line low.
    (let known : line < c.args.lines = omega (arith, low, c.loop-gate.invariant.long) in
    omega (
      arith,
      ap length (c.loop-gate.invariant.added line known),
      readers-length 0 (take i pins) line,
      c.loop-gate.invariant.rooms line known,
      sum_by_more_le (times_read line) pins i [] (omega arith),
      ap (times_read line) c.list.ensures,
    ))

pub loop-gate-preserved : goal.loop-gate-preserved
loop-gate-preserved c =
    let pins = c.args.pins.now in
    let i = c.loop-gate.gate in
    record {
      long = c.add_readers.ensures.count ∙ c.loop-gate.invariant.long;
      rooms = λ line low. ap (λ rooms. get_or rooms line 0) c.add_readers.ensures.rooms ∙ c.loop-gate.invariant.rooms line low;
      added = λ line low.
          gate_added pins i c.loop-gate.filling.lists c.add_readers.new.filling.lists c.list.result.now line (omega arith) c.list.ensures
          (c.loop-gate.invariant.added line low)
          (c.add_readers.ensures.added line (omega (arith, low, c.loop-gate.invariant.long)));
    }

pub returns-clause-fanouts : goal.returns-clause-fanouts
returns-clause-fanouts c =
    let pins = c.args.pins.now in
    let lists = c.loop-gate.filling.lists in
    let all = take_all c.loop-gate.gate pins (omega arith) in
    let are : (circuit : Circuit) → IsWired circuit c.args.lines pins → AreFanouts circuit lists =
    are_fanouts c.args.lines pins lists c.loop-gate.invariant.long
    (λ line low. c.loop-gate.invariant.added line low ∙ ap (λ l. readers 0 l line) all) in
    IfOk-weaker c.lists.result (λ fanouts. fanouts ≡ lists)
    (λ fanouts. (circuit : Circuit) → IsWired circuit c.args.lines pins → AreFanouts circuit fanouts)
    (λ fanouts is circuit wired. subst (AreFanouts circuit) (sym is) (are circuit wired)) c.lists.ensures

pub returns-clause-readers : goal.returns-clause-readers
returns-clause-readers c =
    let pins = c.args.pins.now in
    let lists = c.loop-gate.filling.lists in
    let all = take_all c.loop-gate.gate pins (omega arith) in
    let are = names_readers c.args.lines pins lists c.loop-gate.invariant.long
    (λ line low. c.loop-gate.invariant.added line low ∙ ap (λ l. readers 0 l line) all) in
    IfOk-weaker c.lists.result (λ fanouts. fanouts ≡ lists) (NamesReaders c.args.lines pins)
    (λ fanouts is. subst (NamesReaders c.args.lines pins) (sym is) are) c.lists.ensures
