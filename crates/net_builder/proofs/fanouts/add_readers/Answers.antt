-- One more pin of the gate: there is room for all that read its line.
use Rattle.std.proofs.Common.{◌<◌, ◌++◌, [], ◌∷◌, refl, length, take, get_or, ap, ◌∙◌, arith}
use Rattle.std.proofs.lemmas.List.{length-append, length-set}
use Rattle.std.proofs.lemmas.List.Sums.{sum_by_more_le}
use Rattle.pd_base.specs.declared.ids.LineId.{LineId}
use Rattle.net_builder.specs.Readers.{own_readers, gate_pin}
use Rattle.net_builder.proofs.Placing.{one_read, reads_one}
use Rattle.net_builder.proofs.ReaderCounts.{own_readers-length}
use Rattle.net_builder.proofs.Readers.{pin_added}
use Rattle.net_builder.proofs.fanouts.add_readers.Goals as goal

pub push-requires-clause-room : goal.push-requires-clause-room
push-requires-clause-room c =
    let reads = c.args.reads.now in
    let i = c.loop-pin.pin in
    let none : LineId = record { 0 = 0 } in
    let read = get_or reads i none in
    let known = c.requires.in_range i none c.loop-pin-test.true in
    let own = own_readers c.args.gate.0 0 (take i reads) read.0 in
    omega (
      arith,
      ap length (c.loop-pin.invariant.added read.0 known),
      length-append (get_or c.args.filling.now.lists read.0 []) own,
      own_readers-length c.args.gate.0 0 (take i reads) read.0,
      c.requires.room read.0 known,
      sum_by_more_le (one_read read.0) reads i none c.loop-pin-test.true,
      reads_one read.0 read refl,
      ap (λ rooms. get_or rooms read.0 0) c.loop-pin.invariant.rooms,
    )

pub loop-pin-preserved : goal.loop-pin-preserved
loop-pin-preserved c =
    let reads = c.args.reads.now in
    let i = c.loop-pin.pin in
    let none : LineId = record { 0 = 0 } in
    let at = (get_or reads i none).0 in
    let so_far = c.loop-pin.filling.lists in
    let more = get_or so_far at [] ++ gate_pin c.args.gate.0 i ∷ [] in
    let known : at < length so_far = omega (arith, c.requires.in_range i none c.loop-pin-test.true, c.loop-pin.invariant.count) in
    record {
      count = ap length c.push.ensures.lists ∙ length-set so_far at more ∙ c.loop-pin.invariant.count;
      rooms = c.push.ensures.rooms ∙ c.loop-pin.invariant.rooms;
      added = λ line low.
          ap (λ lists. get_or lists line []) c.push.ensures.lists
          ∙ pin_added c.args.gate.0 reads i none c.args.filling.now.lists so_far more c.loop-pin-test.true known refl line
          (c.loop-pin.invariant.added line low);
    }
