-- What files kept in memory hold and were asked (this project's own).
use Rattle.std.specs.Prelude.{ℕ, List, map, Option, option_map, string_bytes, String, Vec}
use Rattle.std.specs.BTreeMap.{BTreeMap, get_by_text}
use Rattle.pd_io.specs.declared.shelf.OpenFile.{OpenFile}
use Rattle.pd_io.specs.declared.shelf.Shelf.{Shelf}
use Rattle.pd_io.specs.Folder.{Contents, Folder, Reader}

-- what stands under each name
abbrev pub contents_of : {Y Z : Type 0} → BTreeMap (String Y) (Vec ℕ Z) → Contents
contents_of {Y} {Z} files name = option_map (λ (bytes : Vec ℕ Z). bytes.items) (get_by_text files name)

-- what a shelf holds, and the names that it was asked
abbrev pub folder_of : Shelf → Folder
folder_of shelf = record { held = contents_of shelf.files; asked = map string_bytes shelf.asked.items }

-- the file that a shelf has open for reading, by its name's bytes
abbrev pub reader_of : Shelf → Option Reader
reader_of shelf =
    option_map (λ (file : OpenFile). record { name = string_bytes file.name; place = file.place }) shelf.reading

-- the name of the file that a shelf has open for writing, by its bytes
abbrev pub writer_of : Shelf → Option (List ℕ)
writer_of shelf = option_map string_bytes shelf.writing
