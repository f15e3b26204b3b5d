-- Each line goes on, or is the first that lacks its form.
use Rattle.std.proofs.Common.{◌≡◌, ◌+◌, ◌++◌, ◌∷◌, ℕ, List, [], length, subst, arith}
use Rattle.text_pieces.proofs.ReadLines.{all_read, none_left, none_read, none_split, none_told, one_more, some_left, unread, IsReadSoFar}
use Rattle.run_files.specs.ProofsReading.{spelled_form}
use Rattle.run_files.proofs.ProofLines.{number_after, one_line, reads_text}
use Rattle.run_files.proofs.proofs_reading.read_proof_lines.Goals as goal

pub loop-rest-init : goal.loop-rest-init
loop-rest-init c = record {
  read = rw c.new-proofs.ensures.items (none_read (spelled_form c.args.net.now c.args.version) 1 c.args.text.now);
  numbered = omega arith;
}

-- where no line is split off
pub returns-in_default : goal.returns-in_default
returns-in_default c =
    let none = none_split (spelled_form c.args.net.now c.args.version) c.loop-rest.number (one_line c.args.net.now c.args.version c.loop-rest.number) c.loop-rest.rest.now c.in_default.ensures.reads in
    let some = some_left _ _ c.is_empty.ensures c.loop-rest-test.true in
    let is = unread (spelled_form c.args.net.now c.args.version) 1 c.args.text.now c.loop-rest.proofs.items c.loop-rest.number c.loop-rest.rest.now
    c.loop-rest.invariant.read (λ e h. some e) none in
    (is.0, (length c.loop-rest.proofs.items + 1, omega (arith, c.loop-rest.invariant.read.left_by, number_after c.args.net.now c.args.version 1 c.loop-rest.proofs.items), is.1))

-- where the line tells no proof
pub returns-in_default-2 : goal.returns-in_default-2
returns-in_default-2 c =
    let reads = reads_text c.args.net.now c.args.version c.loop-rest.number c.in-Some.line.now _ (rw c.in_default-2.is at c.in_ok-proof.ensures) in
    let none = none_told (spelled_form c.args.net.now c.args.version) c.loop-rest.number (one_line c.args.net.now c.args.version c.loop-rest.number) c.loop-rest.rest.now c.in-Some.line.now
    c.in-Some.behind.now c.in-Some.ensures.reads reads in
    let some = some_left _ _ c.is_empty.ensures c.loop-rest-test.true in
    let is = unread (spelled_form c.args.net.now c.args.version) 1 c.args.text.now c.loop-rest.proofs.items c.loop-rest.number c.loop-rest.rest.now
    c.loop-rest.invariant.read (λ e h. some e) none in
    (is.0, (length c.loop-rest.proofs.items + 1, omega (arith, c.loop-rest.invariant.read.left_by, number_after c.args.net.now c.args.version 1 c.loop-rest.proofs.items), is.1))

pub loop-rest-preserved : goal.loop-rest-preserved
loop-rest-preserved c =
    let pushed : c.push.new.self.items ≡ c.loop-rest.proofs.items ++ c.in-Some-2.proof ∷ [] = c.in_ok-push.ensures.items in
    record {
      read = rw pushed
          (one_more (spelled_form c.args.net.now c.args.version) 1 c.args.text.now c.loop-rest.proofs.items c.loop-rest.number
          (one_line c.args.net.now c.args.version c.loop-rest.number) c.loop-rest.rest.now c.in-Some.line.now c.in-Some.behind.now
          c.in-Some-2.proof c.loop-rest.invariant.read c.in-Some.ensures.reads
          (reads_text c.args.net.now c.args.version c.loop-rest.number c.in-Some.line.now _ (rw c.in-Some-2.is at c.in_ok-proof.ensures)));
      numbered = omega (arith, c.in-Some.ensures.shorter);
    }

pub returns : goal.returns
returns c =
    all_read (spelled_form c.args.net.now c.args.version) 1 c.args.text.now c.loop-rest.proofs.items c.loop-rest.number
    (subst (λ (rest : List ℕ). IsReadSoFar (spelled_form c.args.net.now c.args.version) 1 c.args.text.now c.loop-rest.proofs.items c.loop-rest.number rest)
    (none_left _ _ c.is_empty.ensures c.loop-rest-test.false) c.loop-rest.invariant.read) tt
