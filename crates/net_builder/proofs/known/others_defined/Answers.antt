-- The uses of one statement more are among the names, and in the end those of all.
use Rattle.std.proofs.Common.{refl, arith, ap, subst}
use Rattle.std.specs.List.{All, Contains, flat_map}
use Rattle.std.proofs.lemmas.List.{take_all}
use Rattle.net_builder.specs.Groups.{other_uses}
use Rattle.net_builder.proofs.KnownUses.{others_more}
use Rattle.net_builder.proofs.known.others_defined.Goals as goal
use Rattle.net_builder.specs.KnownNames.{known_names}

pub loop-place-preserved : goal.loop-place-preserved
loop-place-preserved c =
    others_more c.args.raw.now c.loop-place.place (omega arith) (Contains (known_names c.args.names.now)) c.loop-place.invariant
    (c.if-not-other_defined.ensures refl)

pub returns : goal.returns
returns c =
    λ yes. subst (All (Contains (known_names c.args.names.now)))
    (ap (flat_map (λ s. other_uses s.statement)) (take_all c.loop-place.place c.args.raw.now (omega arith))) c.loop-place.invariant
