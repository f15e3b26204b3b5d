-- What a test is looked for, as contracts see it (this project's own).
use Rattle.pd_base.specs.Target.{Target, target_of}
use Rattle.pair_judging.specs.declared.target.Target.{Target as Borrowed}

-- a target that borrows its path, as the target with the path itself
abbrev pub seen_target : Borrowed → Target
seen_target target = target_of target.path.now target.direction target.kind
