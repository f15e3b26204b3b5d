-- The bytes are cut where their longest front of parts of a name ends.
use Rattle.bench_reader.proofs.Scanning.{begins_with_name}
use Rattle.bench_reader.proofs.token.first_name.Goals as goal

pub returns : goal.returns
returns c =
    begins_with_name c.args.code.now c.split_at.result.0.now c.split_at.result.1.now c.name_length.result c.requires
    c.name_length.ensures.longest c.split_at.ensures.front c.split_at.ensures.back
