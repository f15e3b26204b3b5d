-- The laws of every call, from how it ended.
use Rattle.std.proofs.Common.{refl}
use Rattle.pd_io.specs.Seen.{Outside}
use Rattle.calls.specs.declared.status.Status.{Status}
use Rattle.calls.specs.Work.{Work}
use Rattle.calls.specs.Calls.{Ends}
use Rattle.calls.specs.Laws.{KeepsLaws}
use Rattle.calls.proofs.Failures.{read_failed, write_failed}
use Rattle.calls.proofs.Refusals.{refusal_answered, was_refused}

pub keeps_laws : (work : Work) (status : Status) (old new : Outside) → Ends work status old new → KeepsLaws work status old new
keeps_laws work status old new ends = record {
  refused = λ cause of. was_refused work cause status old new of ends;
  unread = λ failed. read_failed work status old new ends failed;
  unwritten = λ failed. write_failed work status old new ends failed;
  answered = λ leads none. refusal_answered work old.files.folder leads status old new ends refl none;
}
