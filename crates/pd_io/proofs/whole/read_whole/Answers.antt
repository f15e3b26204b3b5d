use Rattle.std.proofs.Common.{◌≡◌, ◌≤◌, ◌++◌, ℕ, length, sym, ap, subst, ◌∙◌, refl, take, drop, arith, length-append, Ok, Err, Vec, Global}
use Rattle.std.proofs.lemmas.List.{length-drop, length-take, length-take-le}
use Rattle.pd_io.specs.declared.fault.ReadFault.TheVariants.{TooLong}
use Rattle.pd_io.proofs.Reading.{Reading, more_bytes, reading_asked, reading_asks, reading_begun, reading_ended, reading_more, reading_over}
use Rattle.pd_io.proofs.whole.read_whole.Goals as goal

-- the file was opened, and nothing was read yet
pub loop-buffer-init : goal.loop-buffer-init
loop-buffer-init g c =
    let F = g.F.Files in
    let opened = c.begin_read.new.self in
    let begun = reading_begun _ _ _ _ c.in_ok-begin_read.ensures.begins c.in_ok-begin_read.ensures.told in
    record {
      reading = subst (Reading (F.folder c.args.files.now) (F.folder opened) (F.reader opened) c.args.name.now)
          (sym c.new-bytes.ensures.items) begun;
      within = omega arith;
      buffer = refl;
      writer = c.in_ok-begin_read.ensures.writer;
      unchanged = c.in_ok-begin_read.ensures.cause.only_then;
      counted = omega arith;
      write_faults = c.begin_read.ensures.write_faults;
    }

-- one more read gave the next bytes
pub loop-buffer-preserved : goal.loop-buffer-preserved
loop-buffer-preserved g c =
    let count = c.in_ok-count.count in
    let buffer = c.read.new.buf in
    let piece = take count buffer in
    let bytes = c.loop-buffer.bytes.items in
    let rest = drop c.min-room.result c.loop-buffer.buffer in
    let fits : count ≤ length buffer = c.in_ok-count.ensures.within in
    let more : c.extend_from_slice.new.self.items ≡ bytes ++ piece =
    more_bytes _ bytes buffer rest count c.in_ok-extend_from_slice.ensures.items fits in
    let size : length buffer ≡ c.min-room.result = omega (arith, c.read.auto.buf, length-take {A = ℕ}) in
    record {
      reading = reading_more _ _ _ _ _ c.loop-buffer.invariant.reading _ _ buffer _ _ fits c.in_ok-count.ensures.bytes
          c.read.ensures.folder c.in_ok-count.ensures.place more;
      within = omega (arith, ap length more, length-append bytes piece, length-take-le count buffer fits, size);
      buffer = length-append buffer rest ∙ omega (arith, size, length-drop c.min-room.result c.loop-buffer.buffer);
      writer = c.read.ensures.writer ∙ c.loop-buffer.invariant.writer;
      unchanged = c.in_ok-count.ensures.cause.only_then ∙ c.loop-buffer.invariant.unchanged;
      counted = omega arith;
      write_faults = c.read.ensures.write_faults ∙ c.loop-buffer.invariant.write_faults;
    }

-- the name was asked once, however the reading ends
pub returns-in_err-count-clause-told : goal.returns-in_err-count-clause-told
returns-in_err-count-clause-told g c =
    reading_asked _ _ _ _ _ c.loop-buffer.invariant.reading _ c.read.ensures.folder c.from_residual-in_err-count.result

pub returns-then-count-eq0-clause-told : goal.returns-then-count-eq0-clause-told
returns-then-count-eq0-clause-told g c =
    reading_asked _ _ _ _ _ c.loop-buffer.invariant.reading _ c.read.ensures.folder (Ok c.loop-buffer.bytes)

pub returns-in_err-extend_from_slice-clause-told : goal.returns-in_err-extend_from_slice-clause-told
returns-in_err-extend_from_slice-clause-told g c =
    reading_asked _ _ _ _ _ c.loop-buffer.invariant.reading _ c.read.ensures.folder
    c.from_residual-in_err-extend_from_slice.result

-- at its end all bytes were read
pub returns-then-count-eq0-clause-bytes : goal.returns-then-count-eq0-clause-bytes
returns-then-count-eq0-clause-bytes g c =
    reading_ended _ _ _ _ _ c.loop-buffer.invariant.reading _ c.read.new.buf c.in_ok-count.count c.if-count-eq0.true
    c.in_ok-count.ensures.bytes c.read.ensures.folder

-- over the limit the file holds more
pub returns-clause-too_long : goal.returns-clause-too_long
returns-clause-too_long g c = λ _. reading_over _ _ _ _ _ c.loop-buffer.invariant.reading c.args.limit (omega arith)

pub returns-clause-told : goal.returns-clause-told
returns-clause-told g c =
    reading_asks _ _ _ _ _ c.loop-buffer.invariant.reading {T = Vec ℕ Global} (Err TooLong)
