-- The text of parts of a line, one behind another (this project's own).
use Rattle.std.specs.Prelude.{ℕ, List, map, decimal}
use Rattle.std.specs.List.{concat}
use Rattle.calls.specs.declared.part.Part.{Part}
use Rattle.calls.specs.declared.part.Part.TheVariants.{Words, Number}

-- the text of a part
abbrev pub part_text : Part → List ℕ
part_text (Words words) = words.now
part_text (Number number) = decimal number

-- the text of parts
abbrev pub parts_text : List Part → List ℕ
parts_text parts = concat (map part_text parts)
