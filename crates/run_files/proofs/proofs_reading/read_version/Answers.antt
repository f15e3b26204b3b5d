-- Where the line of no version stands first no version is read, else the one whose line stands there.
use Rattle.std.proofs.Common.{None}
use Rattle.run_files.specs.declared.version.ProofsVersion.TheVariants.{First, Second, Third, Fourth, Fifth}
use Rattle.run_files.proofs.ProofFiles.{version_unread, ReadsBehind}
use Rattle.run_files.proofs.proofs_reading.read_version.Goals as goal

pub returns-in_err-lines-clause-reads : goal.returns-in_err-lines-clause-reads
returns-in_err-lines-clause-reads c =
    let first : ReadsBehind First c.args.bytes.now None = rw c.line.ensures at c.in_default.ensures in
    let second : ReadsBehind Second c.args.bytes.now None = rw c.line-2.ensures at c.in_default-text_behind.ensures in
    let third : ReadsBehind Third c.args.bytes.now None = rw c.line-3.ensures at c.in_default-text_behind-2.ensures in
    let fourth : ReadsBehind Fourth c.args.bytes.now None = rw c.line-4.ensures at c.in_default-text_behind-3.ensures in
    let fifth : ReadsBehind Fifth c.args.bytes.now None = rw c.line-5.ensures at c.in_err-lines.ensures in
    rw c.from_residual.ensures (version_unread c.args.bytes.now (record { first = first; second = second; third = third; fourth = fourth; fifth = fifth }))
