use Rattle.std.proofs.Common.{◌≡◌, ◌++◌, take, Ok, Some, sym, ap, ◌∙◌, option_map, string_bytes}
use Rattle.std.proofs.lemmas.Result.{IfOk-weaker}
use Rattle.pd_io.specs.Folder.{bytes_at, put, contents_after_write}
use Rattle.pd_io.specs.Shelf.{contents_of, folder_of, writer_of}
use Rattle.pd_io.proofs.shelf.Shelf.write.Goals as goal

-- the bytes that were taken stand behind those of the open file
pub returns-clause-ok : goal.returns-clause-ok
returns-clause-ok c =
    let shelf = c.args.self.now in
    let held = contents_of shelf.files in
    let name = c.as_str.result.now in
    let bytes = c.args.bytes.now in
    let writer : writer_of shelf ≡ Some name = ap (option_map string_bytes) c.in-Some.is ∙ ap Some (sym c.as_str.ensures.value) in
    IfOk-weaker c.append.result
    (λ count. contents_of c.append.new.files ≡ put held name (bytes_at held name ++ take count bytes)) _
    (λ count e. ap (λ contents. record (folder_of shelf) { held = contents })
    (e ∙ ap (λ w. contents_after_write held w (Ok count) bytes) (sym writer)))
    c.append.ensures.ok
