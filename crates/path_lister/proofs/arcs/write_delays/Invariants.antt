use Rattle.std.proofs.Common.{◌≡◌, ◌+◌, ◌++◌, map, take}
use Rattle.delay_annotation.specs.Annotation.{delays_of}
use Rattle.path_lister.proofs.arcs.write_delays.Given as goal

-- the delays of the pins before this one are written
abbrev pub invariant-loop-place : goal.invariant-loop-place
invariant-loop-place l =
    take (l.begin + l.place) l.times ≡ take l.begin l.initial.times ++ map (delays_of l.net l.delays) (take l.place l.pins)
