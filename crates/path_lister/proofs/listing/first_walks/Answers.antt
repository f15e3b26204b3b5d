-- The walks at the places that were found are the first ones.
use Rattle.std.proofs.Common.{List, sym, subst}
use Rattle.path_laws.specs.declared.entry.WalkEntry.{WalkEntry}
use Rattle.path_laws.specs.Entries.{walks_at}
use Rattle.path_laws.specs.Order.{AreFirstWalks}
use Rattle.path_laws.proofs.FirstWalks.{first_walks_are}
use Rattle.path_lister.proofs.listing.first_walks.Goals as goal

pub returns : goal.returns
returns c =
    subst (λ (entries : List WalkEntry). AreFirstWalks c.args.graph.now 0 c.args.count
    (walks_at entries c.in_ok-places.places.items))
    (sym c.into_entries.ensures)
    (first_walks_are c.args.graph.now c.in_ok-lists.ensures.graph c.first_places.new.lists c.args.count
    c.in_ok-places.places.items c.in_ok-places.ensures)
