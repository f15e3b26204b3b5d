-- How many pins read a line.
use Rattle.std.proofs.Common.{◌≡◌, ℕ, ◌+◌, Bool, true, false, eqb, cond, List, [], ◌∷◌, length, sum_by, refl, sym, ap₂, ◌∙◌}
use Rattle.std.proofs.lemmas.List.{length-append}
use Rattle.std.proofs.lemmas.List.Sums.{sum_by-cons}
use Rattle.pd_base.specs.declared.ids.LineId.{LineId}
use Rattle.pd_base.specs.declared.ids.PinRef.{PinRef}
use Rattle.net_builder.specs.Readers.{own_readers, readers}
use Rattle.net_builder.specs.Wiring.{times_read}
use Rattle.net_builder.proofs.Placing.{one_read}

-- a list of one item or of none
one_or_none : {X : Type 0} (test : Bool) (item : X) → length (cond test (item ∷ []) []) ≡ cond test 1 0
one_or_none true item = refl
one_or_none false item = refl

-- as many pins of a gate are listed as read the line
pub own_readers-length : (gate first : ℕ) (reads : List LineId) (line : ℕ)
    → length (own_readers gate first reads line) ≡ times_read line reads
own_readers-length gate first [] line = refl
own_readers-length gate first (read ∷ reads) line =
    let pin : PinRef = record { gate = record { 0 = gate }; pin = first } in
    length-append (cond (eqb read.0 line) (pin ∷ []) []) (own_readers gate (first + 1) reads line)
    ∙ ap₂ (λ a b. a + b) (one_or_none (eqb read.0 line) pin) (own_readers-length gate (first + 1) reads line)
    ∙ sym (sum_by-cons (one_read line) read reads)

-- and as many pins of all gates
pub readers-length : (first : ℕ) (pins : List (List LineId)) (line : ℕ)
    → length (readers first pins line) ≡ sum_by (times_read line) pins
readers-length first [] line = refl
readers-length first (reads ∷ pins) line =
    length-append (own_readers first 0 reads line) (readers (first + 1) pins line)
    ∙ ap₂ (λ a b. a + b) (own_readers-length first 0 reads line) (readers-length (first + 1) pins line)
    ∙ sym (sum_by-cons (times_read line) reads pins)
