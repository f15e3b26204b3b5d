-- The walk is that of its entry.
use Rattle.std.proofs.Common.{◌<◌, length, ap, arith}
use Rattle.std.proofs.lemmas.Grind.{common_steps}
use Rattle.std.proofs.lemmas.List.{get_or_read, length-map}
use Rattle.path_laws.specs.Entries.{walk_at}
use Rattle.path_lister.proofs.listing.Listing.walk.Goals as goal

pub index-requires : goal.index-requires
index-requires c =
    omega (
      arith,
      c.requires,
      ap length c.self.view_is,
      length-map c.self.inside.places.items (walk_at c.self.inside.entries.items),
      c.self.inside.places.ok.0,
    )

pub walk_from-requires-clause-place : goal.walk_from-requires-clause-place
walk_from-requires-clause-place c =
    let places = c.self.inside.places.items in
    let within : c.args.place < length places = omega (
      arith,
      c.requires,
      ap length c.self.view_is,
      length-map places (walk_at c.self.inside.entries.items),
    ) in
    let read = get_or_read places c.args.place c.index.result.now within c.index.ensures 0 in
    omega (arith, read, c.self.invariant.1 c.args.place within, ap length c.as_slice.ensures.value)

pub returns : goal.returns
returns c = grind (arith, common_steps)
