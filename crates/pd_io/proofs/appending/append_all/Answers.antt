use Rattle.std.proofs.Common.{List, ℕ, sym, subst, ◌∙◌}
use Rattle.std.proofs.lemmas.Bool.{eqb-true}
use Rattle.std.proofs.lemmas.List.{nil_from_length, take_rest}
use Rattle.pd_io.specs.OpenFile.{TakesUpTo}
use Rattle.pd_io.specs.Telling.{Tells}
use Rattle.pd_io.proofs.Tellings.{on_err}
use Rattle.pd_io.proofs.OpenFile.{told_both, told_both_front, told_failed, told_written}
use Rattle.pd_io.proofs.appending.append_all.Goals as goal

-- what the loop keeps, after one more write
pub loop-rest-preserved : goal.loop-rest-preserved
loop-rest-preserved g c =
    let writer = g.F.Files.writer c.args.files.now in
    record {
      taken = told_both writer _ _ _ _ _ _ c.loop-rest.invariant.taken
          (told_written writer _ c.loop-rest.invariant.keeps.writer _ _ _ _ _ c.in_ok-count.ensures.told
          (take_rest c.loop-rest.rest.now c.in_ok-count.count));
      keeps = record {
        reader = c.write.ensures.reader ∙ c.loop-rest.invariant.keeps.reader;
        writer = c.write.ensures.writer ∙ c.loop-rest.invariant.keeps.writer;
        read_faults = c.write.ensures.read_faults ∙ c.loop-rest.invariant.keeps.read_faults;
      };
      unchanged = c.in_ok-count.ensures.cause.only_then ∙ c.loop-rest.invariant.unchanged;
    }

-- what stands after a write that failed
pub returns-in_err-count-clause-err : goal.returns-in_err-count-clause-err
returns-in_err-count-clause-err g c =
    let writer = g.F.Files.writer c.args.files.now in
    on_err c.from_residual.result
    (told_both_front writer _ _ _ _ _ c.loop-rest.invariant.taken
    (told_failed writer _ c.loop-rest.invariant.keeps.writer _ _ _ _ c.in_err-count.ensures.told))

-- in the end all bytes were taken
pub returns-clause-ok : goal.returns-clause-ok
returns-clause-ok g c =
    let files = g.F.Files in
    subst (λ (left : List ℕ). Tells (files.folder c.args.files.now) (files.folder c.loop-rest.files)
    (TakesUpTo (files.writer c.args.files.now) c.args.bytes.now left))
    (nil_from_length _ (eqb-true _ _ (sym c.is_empty.ensures ∙ c.loop-rest-test.false))) c.loop-rest.invariant.taken
