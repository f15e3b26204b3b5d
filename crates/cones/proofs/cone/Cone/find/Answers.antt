-- No cone is kept while one is found.
use Rattle.std.proofs.Common.{subst, sym}
use Rattle.cones.specs.KeptCones.{IsConeFor}
use Rattle.cones.proofs.Keeping.{none_kept}
use Rattle.cones.proofs.cone.Cone.find.Goals as goal

pub list_by_marks-requires-clause-made : goal.list_by_marks-requires-clause-made
list_by_marks-requires-clause-made c =
    let made : IsConeFor c.args.net.now _ = subst (IsConeFor c.args.net.now) (sym c.self.view_is) c.requires.made in
    none_kept c.args.net.now _ c.find_cone.new.found c.find_cone.ensures.room made

pub list_by_places-requires-clause-made : goal.list_by_places-requires-clause-made
list_by_places-requires-clause-made c =
    let made : IsConeFor c.args.net.now _ = subst (IsConeFor c.args.net.now) (sym c.self.view_is) c.requires.made in
    none_kept c.args.net.now _ c.find_cone.new.found c.find_cone.ensures.room made
