use Rattle.std.proofs.Common.{ap, ◌∙◌, string_bytes}
use Rattle.pd_io.specs.Folder.{put}
use Rattle.pd_io.specs.Shelf.{contents_of}
use Rattle.pd_io.proofs.NamedFiles.{contents_of-update}
use Rattle.pd_io.proofs.named.store.Goals as goal

-- the name holds the bytes, and all others what they held
pub returns-clause-ok : goal.returns-clause-ok
returns-clause-ok c =
    let files = c.args.files.now in
    let bytes = c.args.bytes in
    contents_of-update files c.insert.new.self (string_bytes c.in_ok-name.name) bytes c.in_ok-insert.ensures.updates
    ∙ ap (λ name. put (contents_of files) name bytes.items) c.in_ok-name.ensures.ok
