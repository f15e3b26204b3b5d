-- A gate has no more pins than all gates together.
use Rattle.std.proofs.Common.{[], length, ap, arith}
use Rattle.std.proofs.lemmas.List.Sums.{get_or-le-sum_by}
use Rattle.net_builder.proofs.progress.gate_pins.Goals as goal

pub count_gates-requires : goal.count_gates-requires
count_gates-requires c =
    omega (
      arith,
      ap length c.list.ensures,
      get_or-le-sum_by length c.args.pins.now c.loop-gate.gate [] (omega arith),
      c.requires.few_pins,
    )
