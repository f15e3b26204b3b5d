-- What the cone keeps is of the circuit.
use Rattle.netlist.specs.Paths.{end_of}
use Rattle.search_hints.proofs.Cones.{cone_in}
use Rattle.search_hints.proofs.justifier.Justifier.prefer.Goals as goal

pub write_liked-requires-clause-cone : goal.write_liked-requires-clause-cone
write_liked-requires-clause-cone g c =
    let net = c.args.sight.now.net.now in
    cone_in net (end_of net c.args.path.now) c.args.cone.now c.requires.cone_for c.requires.cone_at

pub set_frames-requires-clause-cone : goal.set_frames-requires-clause-cone
set_frames-requires-clause-cone g c =
    let net = c.args.sight.now.net.now in
    cone_in net (end_of net c.args.path.now) c.args.cone.now c.requires.cone_for c.requires.cone_at
