-- There are as many names as ends.
use Rattle.std.proofs.Common.{ap, length, arith}
use Rattle.net_builder.proofs.NameParts.{parts-length}
use Rattle.net_builder.proofs.name_list.NameList.len.Goals as goal

pub returns : goal.returns
returns c =
    omega (arith, c.len.ensures, c.self.inside.ends.ok.0, ap length c.self.view_is, parts-length c.self.inside.text.items 0 c.self.inside.ends.items)
