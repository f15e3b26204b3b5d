use Rattle.std.proofs.Common.{take}
use Rattle.std.specs.List.{All}
use Rattle.hulls.specs.Awaiting.{IsMore}
use Rattle.hulls.proofs.Readers.{WaitsInside}
use Rattle.hulls.proofs.waking.wake_all.Given as goal

abbrev pub invariant-loop-pin : goal.invariant-loop-pin
invariant-loop-pin l = record {
  more : IsMore l.initial.waiting l.waiting;
  waits : All (λ pin. WaitsInside l.initial.waiting.inside l.waiting.waiting pin.gate) (take l.pin-index l.pins);
}
