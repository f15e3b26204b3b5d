-- A name has an end.
use Rattle.std.proofs.Common.{ap, length, arith}
use Rattle.net_builder.proofs.NameParts.{parts-length}
use Rattle.net_builder.proofs.name_list.NameList.get.Goals as goal

pub part_at-requires-clause-place : goal.part_at-requires-clause-place
part_at-requires-clause-place c =
    omega (
      arith,
      c.requires,
      ap length c.as_slice-2.ensures.value,
      ap length c.self.view_is,
      parts-length c.self.inside.text.items 0 c.self.inside.ends.items,
    )
