-- A part of the text stands in it.
use Rattle.std.proofs.Common.{ap, get_or, sym, ◌∙◌}
use Rattle.std.specs.Prelude.{slice_range}
use Rattle.net_builder.proofs.NameParts.{part_at}
use Rattle.net_builder.proofs.name_list.part_at.Goals as goal

pub returns : goal.returns
returns c =
    ap (λ start. slice_range c.args.text.now start (get_or c.args.ends.now c.args.place 0)) c.start_of-start.ensures
    ∙ sym (part_at c.args.text.now 0 c.args.ends.now c.args.place c.requires.place)
