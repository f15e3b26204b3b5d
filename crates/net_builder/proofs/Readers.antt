-- The list of the pins that read a line: how it grows, and that it is the line's fan-out.
use Rattle.std.proofs.Common.{◌≡◌, ◌≢◌, ⊎_elim, ℕ, zero, suc, ◌+◌, ◌-◌, ◌<◌, ◌≤◌, Bool, true, false, eqb, cond, List, [], ◌∷◌, ◌++◌, length, take, get_or, set, slice_get, slice_index_or, Some, sum_by, All, AllPairs, Contains, refl, sym, ap, ap₂, subst, ◌∙◌, arith}
use Rattle.std.proofs.lemmas.Bool.{cases_eq, cond-true, cond-false, eq-eqb, eqb-true, ne_eqb}
use Rattle.std.proofs.lemmas.List.{append-nil, append_assoc, get_or-set_other, get_or-set_same, get_or_default, length-take-le, take_more}
use Rattle.std.proofs.lemmas.List.Elements.{All-append, All-cons, All-weaker, Contains-append_left, Contains-append_right}
use Rattle.std.proofs.lemmas.List.Kept.{AllPairs-cons}
use Rattle.std.proofs.lemmas.List.Sums.{sum_by-append, sum_by-cons, sum_by-le}
use Rattle.pd_base.specs.declared.ids.LineId.{LineId}
use Rattle.pd_base.specs.declared.ids.PinRef.{PinRef}
use Rattle.netlist.specs.Circuit.{Circuit, line_count}
use Rattle.netlist.specs.Pins.{AreFanouts, IsFanout, IsPinBefore, IsPinOn}
use Rattle.netlist.specs.Pins.IsPinBefore.{lesser_gate, lesser_pin}
use Rattle.net_builder.specs.Readers.{own_readers, gate_pin, readers}
use Rattle.net_builder.specs.Wiring.{IsWired, NamesReaders, times_named, times_read}
use Rattle.net_builder.proofs.Placing.{one_read}
use Rattle.net_builder.proofs.Releasing.{one_named}
use Rattle.net_builder.proofs.Wired.{gates_are, pins_are}

-- this pin where it reads the line, and else none
abbrev pub this_reader : ℕ → ℕ → LineId → ℕ → List PinRef
this_reader gate pin read line = cond (eqb read.0 line) (gate_pin gate pin ∷ []) []

-- 1 where a test passes, and else 0
abbrev one_if : Bool → ℕ
one_if test = cond test 1 0

-- what holds of a list with and without a first pin holds where a test decides
with_first : (test : Bool) (P : List PinRef → Type 0) (pin : PinRef) (rest : List PinRef) → (test ≡ true → P (pin ∷ rest))
    → (test ≡ false → P rest) → P (cond test (pin ∷ []) [] ++ rest)
with_first true P pin rest passes fails = passes refl
with_first false P pin rest passes fails = fails refl

-- two lists of which all pairs are in order, the first list before the second
all_pairs-append : {X : Type 0} (R : X → X → Type 0) (xs ys : List X) → AllPairs R xs → AllPairs R ys
    → All (λ x. All (R x) ys) xs → AllPairs R (xs ++ ys)
all_pairs-append R [] ys first second between = second
all_pairs-append R (x ∷ xs) ys first second between =
    AllPairs-cons R x (xs ++ ys)
    (All-append (R x) xs ys (λ k d within. first 0 (suc k) d (omega arith) (omega arith)) (between 0 x (omega arith)))
    (all_pairs-append R xs ys (λ i j d before within. first (suc i) (suc j) d (omega arith) (omega arith)) second
    (λ k d within. between (suc k) d (omega arith)))

-- a sum of zeros
sum_of_none : {X : Type 0} (f : X → ℕ) (xs : List X) → All (λ x. f x ≡ 0) xs → sum_by f xs ≡ 0
sum_of_none f xs none =
    let low = sum_by-le f 0 xs (λ k d within. omega (arith, none k d within)) in
    omega (arith, low)

-- one more pin of a gate
pub own_readers-push : (gate pin : ℕ) (reads : List LineId) (read : LineId) (line : ℕ)
    → own_readers gate pin (reads ++ read ∷ []) line
    ≡ own_readers gate pin reads line ++ this_reader gate (pin + length reads) read line
own_readers-push gate pin [] read line =
    let same : pin ≡ pin + 0 = omega arith in
    append-nil (this_reader gate pin read line) ∙ ap (λ n. this_reader gate n read line) same
own_readers-push gate pin (own ∷ reads) read line =
    let first = this_reader gate pin own line in
    let same : pin + 1 + length reads ≡ pin + length (own ∷ reads) = omega arith in
    ap (λ more. first ++ more) (own_readers-push gate (pin + 1) reads read line)
    ∙ sym (append_assoc first (own_readers gate (pin + 1) reads line) (this_reader gate (pin + 1 + length reads) read line))
    ∙ ap (λ n. first ++ own_readers gate (pin + 1) reads line ++ this_reader gate n read line) same

-- one more gate
pub readers-push : (gate : ℕ) (pins : List (List LineId)) (reads : List LineId) (line : ℕ)
    → readers gate (pins ++ reads ∷ []) line ≡ readers gate pins line ++ own_readers (gate + length pins) 0 reads line
readers-push gate [] reads line =
    let same : gate ≡ gate + 0 = omega arith in
    append-nil (own_readers gate 0 reads line) ∙ ap (λ n. own_readers n 0 reads line) same
readers-push gate (own ∷ pins) reads line =
    let first = own_readers gate 0 own line in
    let same : gate + 1 + length pins ≡ gate + length (own ∷ pins) = omega arith in
    ap (λ more. first ++ more) (readers-push (gate + 1) pins reads line)
    ∙ sym (append_assoc first (readers (gate + 1) pins line) (own_readers (gate + 1 + length pins) 0 reads line))
    ∙ ap (λ n. first ++ readers (gate + 1) pins line ++ own_readers n 0 reads line) same

-- one more pin of a gate is added to the list of its line
pub pin_added : (gate : ℕ) (reads : List LineId) (i : ℕ) (none : LineId) (before so_far : List (List PinRef))
    (pins : List PinRef) → i < length reads → (get_or reads i none).0 < length so_far
    → pins ≡ get_or so_far (get_or reads i none).0 [] ++ gate_pin gate i ∷ [] → (line : ℕ)
    → get_or so_far line [] ≡ get_or before line [] ++ own_readers gate 0 (take i reads) line
    → get_or (set so_far (get_or reads i none).0 pins) line []
    ≡ get_or before line [] ++ own_readers gate 0 (take (i + 1) reads) line
pin_added gate reads i none before so_far pins within known pushed line added =
    ⊎_elim here elsewhere (cases_eq read.0 line) ∙ ap (λ l. get_or before line [] ++ l) (sym more)
  where
    read : LineId
    read = get_or reads i none

    own : List PinRef
    own = own_readers gate 0 (take i reads) line

    more : own_readers gate 0 (take (i + 1) reads) line ≡ own ++ this_reader gate i read line
    more =
        let same : 0 + length (take i reads) ≡ i = omega (arith, length-take-le i reads (omega arith)) in
        ap (λ l. own_readers gate 0 l line) (take_more reads i none within)
        ∙ own_readers-push gate 0 (take i reads) read line ∙ ap (λ n. own ++ this_reader gate n read line) same

    here : read.0 ≡ line
        → get_or (set so_far read.0 pins) line [] ≡ get_or before line [] ++ (own ++ this_reader gate i read line)
    here same =
        let test = eq-eqb read.0 line same in
        ap (λ n. get_or (set so_far read.0 pins) n []) (sym same)
        ∙ get_or-set_same so_far read.0 pins [] known
        ∙ pushed
        ∙ ap (λ l. l ++ gate_pin gate i ∷ []) (ap (λ n. get_or so_far n []) same ∙ added)
        ∙ append_assoc (get_or before line []) own (gate_pin gate i ∷ [])
        ∙ ap (λ b. get_or before line [] ++ (own ++ cond b (gate_pin gate i ∷ []) [])) (sym test)

    elsewhere : (read.0 ≡ line → ⊥)
        → get_or (set so_far read.0 pins) line [] ≡ get_or before line [] ++ (own ++ this_reader gate i read line)
    elsewhere differs =
        let test = ne_eqb read.0 line differs in
        get_or-set_other so_far read.0 line pins [] (λ same. differs (sym same))
        ∙ added
        ∙ ap (λ l. get_or before line [] ++ l) (sym (append-nil own))
        ∙ ap (λ b. get_or before line [] ++ (own ++ cond b (gate_pin gate i ∷ []) [])) (sym test)

-- the pins of one more gate are added
pub gate_added : (pins : List (List LineId)) (i : ℕ) (before now : List (List PinRef)) (reads : List LineId) (line : ℕ)
    → i < length pins → reads ≡ get_or pins i [] → get_or before line [] ≡ readers 0 (take i pins) line
    → get_or now line [] ≡ get_or before line [] ++ own_readers i 0 reads line
    → get_or now line [] ≡ readers 0 (take (i + 1) pins) line
gate_added pins i before now reads line within own so_far added =
    let place : i ≡ 0 + length (take i pins) = omega (arith, length-take-le i pins (omega arith)) in
    added
    ∙ (λ k. so_far k ++ own_readers (place k) 0 (own k) line)
    ∙ sym (readers-push 0 (take i pins) (get_or pins i []) line)
    ∙ ap (λ l. readers 0 l line) (sym (take_more pins i [] within))

module _ (line : ℕ) where
  -- the line that the pins read
  abbrev this_line : LineId
  this_line = record { 0 = line }

  -- a pin of this gate, at this place or a later one, that reads the line
  record IsOwn (gate first : ℕ) (reads : List LineId) (pin : PinRef) : Type 0 where
    of_gate : pin.gate.0 ≡ gate
    later : first ≤ pin.pin
    on_line : slice_get reads (pin.pin - first) ≡ Some this_line

  -- a pin of the later ones is one of all
  later_own : (gate first : ℕ) (read : LineId) (reads : List LineId) (pin : PinRef) → IsOwn gate (first + 1) reads pin
      → IsOwn gate first (read ∷ reads) pin
  later_own gate first read reads pin own =
      let place : pin.pin - first ≡ suc (pin.pin - (first + 1)) = omega (arith, own.later) in
      record {
        of_gate = own.of_gate;
        later = omega (arith, own.later);
        on_line = ap (slice_get (read ∷ reads)) place ∙ own.on_line;
      }

  -- the first pin is one of all, where it reads the line
  first_own : (gate first : ℕ) (read : LineId) (reads : List LineId) → read.0 ≡ line
      → IsOwn gate first (read ∷ reads) (gate_pin gate first)
  first_own gate first read reads same =
      let start : first - first ≡ 0 = omega arith in
      record {
        of_gate = refl;
        later = omega arith;
        on_line = ap (slice_get (read ∷ reads)) start ∙ ap (λ (n : ℕ). Some (record { 0 = n })) same;
      }

  own_all : (gate first : ℕ) (reads : List LineId) → All (IsOwn gate first reads) (own_readers gate first reads line)
  own_all gate first [] = λ k d within. absurd (omega arith)
  own_all gate first (read ∷ reads) =
      let more = own_readers gate (first + 1) reads line in
      let rest = All-weaker (IsOwn gate (first + 1) reads) (IsOwn gate first (read ∷ reads))
      (later_own gate first read reads) more (own_all gate (first + 1) reads) in
      with_first (eqb read.0 line) (All (IsOwn gate first (read ∷ reads))) (gate_pin gate first) more
      (λ yes. All-cons (IsOwn gate first (read ∷ reads)) (gate_pin gate first) more
      (first_own gate first read reads (eqb-true read.0 line yes)) rest) (λ none. rest)

  -- they rise
  own_rising : (gate first : ℕ) (reads : List LineId) → AllPairs IsPinBefore (own_readers gate first reads line)
  own_rising gate first [] = λ i j d before within. absurd (omega arith)
  own_rising gate first (read ∷ reads) =
      let more = own_readers gate (first + 1) reads line in
      let rest = own_rising gate (first + 1) reads in
      let above = All-weaker (IsOwn gate (first + 1) reads) (IsPinBefore (gate_pin gate first))
      (λ pin own. lesser_pin (ap (λ (n : ℕ). record { 0 = n }) (sym own.of_gate)) (omega (arith, own.later))) more
      (own_all gate (first + 1) reads) in
      with_first (eqb read.0 line) (AllPairs IsPinBefore) (gate_pin gate first) more
      (λ yes. AllPairs-cons IsPinBefore (gate_pin gate first) more above rest) (λ none. rest)

  -- each pin of the gate that reads the line is one
  own_whole : (gate first : ℕ) (reads : List LineId) (place : ℕ) → slice_get reads place ≡ Some this_line
      → Contains (own_readers gate first reads line) (gate_pin gate (first + place))
  own_whole gate first [] place at = absurd cc
  own_whole gate first (read ∷ reads) zero at =
      let same : read ≡ this_line = cc in
      let more = own_readers gate (first + 1) reads line in
      let test = eq-eqb read.0 line (ap (λ (l : LineId). l.0) same) in
      subst (λ b. Contains (cond b (gate_pin gate first ∷ []) [] ++ more) (gate_pin gate (first + 0))) (sym test)
      (0, omega arith, ap (λ n. gate_pin gate n) (omega arith))
  own_whole gate first (read ∷ reads) (suc place) at =
      let more = own_readers gate (first + 1) reads line in
      let same : first + 1 + place ≡ first + suc place = omega arith in
      Contains-append_right (this_reader gate first read line) more (gate_pin gate (first + suc place))
      (subst (λ n. Contains more (gate_pin gate n)) same (own_whole gate (first + 1) reads place at))

  -- they name the gate as often as it reads the line, and no other gate
  own_named : (gate first : ℕ) (reads : List LineId)
      → times_named gate (own_readers gate first reads line) ≡ times_read line reads
  own_named gate first [] = refl
  own_named gate first (read ∷ reads) =
      let more = own_readers gate (first + 1) reads line in
      let own : one_if (eqb gate gate) ≡ 1 = cond-true (eqb gate gate) 1 0 (eq-eqb gate gate refl) in
      let rest = own_named gate (first + 1) reads in
      let split = sum_by-cons (one_read line) read reads in
      with_first (eqb read.0 line) (λ pins. times_named gate pins ≡ times_read line (read ∷ reads)) (gate_pin gate first) more
      (λ yes. omega (arith, sum_by-cons (one_named gate) (gate_pin gate first) more, own, rest, split, ap one_if yes))
      (λ none. omega (arith, rest, split, ap one_if none))

  own_unnamed : (other gate first : ℕ) (reads : List LineId) → other ≢ gate
      → times_named other (own_readers gate first reads line) ≡ 0
  own_unnamed other gate first reads differs =
      sum_of_none (one_named other) (own_readers gate first reads line)
      (All-weaker (IsOwn gate first reads) (λ pin. one_named other pin ≡ 0)
      (λ pin own. cond-false (eqb pin.gate.0 other) 1 0 (ne_eqb pin.gate.0 other (λ same. differs (sym same ∙ own.of_gate))))
      (own_readers gate first reads line) (own_all gate first reads))

  -- a pin of these gates that reads the line
  record IsOne (first : ℕ) (pins : List (List LineId)) (pin : PinRef) : Type 0 where
    later : first ≤ pin.gate.0
    known : pin.gate.0 < first + length pins
    on_line : slice_get (get_or pins (pin.gate.0 - first) []) pin.pin ≡ Some this_line

  later_one : (first : ℕ) (reads : List LineId) (pins : List (List LineId)) (pin : PinRef) → IsOne (first + 1) pins pin
      → IsOne first (reads ∷ pins) pin
  later_one first reads pins pin one =
      let place : pin.gate.0 - first ≡ suc (pin.gate.0 - (first + 1)) = omega (arith, one.later) in
      record {
        later = omega (arith, one.later);
        known = omega (arith, one.known);
        on_line = ap (λ n. slice_get (get_or (reads ∷ pins) n []) pin.pin) place ∙ one.on_line;
      }

  own_one : (first : ℕ) (reads : List LineId) (pins : List (List LineId)) (pin : PinRef) → IsOwn first 0 reads pin
      → IsOne first (reads ∷ pins) pin
  own_one first reads pins pin own =
      let place : pin.gate.0 - first ≡ 0 = omega (arith, own.of_gate) in
      let same : pin.pin ≡ pin.pin - 0 = omega arith in
      record {
        later = omega (arith, own.of_gate);
        known = omega (arith, own.of_gate);
        on_line =
            ap (λ n. slice_get (get_or (reads ∷ pins) n []) pin.pin) place ∙ ap (slice_get reads) same ∙ own.on_line;
      }

  readers_all : (first : ℕ) (pins : List (List LineId)) → All (IsOne first pins) (readers first pins line)
  readers_all first [] = λ k d within. absurd (omega arith)
  readers_all first (reads ∷ pins) =
      All-append (IsOne first (reads ∷ pins)) (own_readers first 0 reads line) (readers (first + 1) pins line)
      (All-weaker (IsOwn first 0 reads) (IsOne first (reads ∷ pins)) (own_one first reads pins)
      (own_readers first 0 reads line) (own_all first 0 reads))
      (All-weaker (IsOne (first + 1) pins) (IsOne first (reads ∷ pins)) (later_one first reads pins)
      (readers (first + 1) pins line) (readers_all (first + 1) pins))

  -- all of them rise
  readers_rising : (first : ℕ) (pins : List (List LineId)) → AllPairs IsPinBefore (readers first pins line)
  readers_rising first [] = λ i j d before within. absurd (omega arith)
  readers_rising first (reads ∷ pins) =
      let own = own_readers first 0 reads line in
      let more = readers (first + 1) pins line in
      all_pairs-append IsPinBefore own more (own_rising first 0 reads) (readers_rising (first + 1) pins)
      (All-weaker (IsOwn first 0 reads) (λ pin. All (IsPinBefore pin) more)
      (λ pin is_own.
      All-weaker (IsOne (first + 1) pins) (IsPinBefore pin)
      (λ other one. lesser_gate (omega (arith, is_own.of_gate, one.later))) more (readers_all (first + 1) pins))
      own (own_all first 0 reads))

  -- each pin of the gates that reads the line is one
  readers_whole : (first : ℕ) (pins : List (List LineId)) (gate place : ℕ)
      → slice_get (get_or pins gate []) place ≡ Some this_line
      → Contains (readers first pins line) (gate_pin (first + gate) place)
  readers_whole first [] gate place at = absurd cc
  readers_whole first (reads ∷ pins) zero place at =
      let same : gate_pin first (0 + place) ≡ gate_pin (first + 0) place = ap₂ gate_pin (omega arith) (omega arith) in
      Contains-append_left (own_readers first 0 reads line) (readers (first + 1) pins line) (gate_pin (first + 0) place)
      (subst (Contains (own_readers first 0 reads line)) same (own_whole first 0 reads place at))
  readers_whole first (reads ∷ pins) (suc gate) place at =
      let same : first + 1 + gate ≡ first + suc gate = omega arith in
      Contains-append_right (own_readers first 0 reads line) (readers (first + 1) pins line)
      (gate_pin (first + suc gate) place)
      (subst (λ n. Contains (readers (first + 1) pins line) (gate_pin n place)) same
      (readers_whole (first + 1) pins gate place at))

  -- they name each gate as often as it reads the line
  readers_unnamed : (gate first : ℕ) (pins : List (List LineId)) → gate < first
      → times_named gate (readers first pins line) ≡ 0
  readers_unnamed gate first pins below =
      sum_of_none (one_named gate) (readers first pins line)
      (All-weaker (IsOne first pins) (λ pin. one_named gate pin ≡ 0)
      (λ pin one. cond-false (eqb pin.gate.0 gate) 1 0 (ne_eqb pin.gate.0 gate (λ same. omega (arith, one.later))))
      (readers first pins line) (readers_all first pins))

  readers_named : (first : ℕ) (pins : List (List LineId)) (gate : ℕ)
      → times_named (first + gate) (readers first pins line) ≡ times_read line (get_or pins gate [])
  readers_named first [] gate = refl
  readers_named first (reads ∷ pins) zero =
      let start : first + 0 ≡ first = omega arith in
      let split = sum_by-append (one_named first) (own_readers first 0 reads line) (readers (first + 1) pins line) in
      ap (λ n. times_named n (readers first (reads ∷ pins) line)) start
      ∙ (omega (arith, split, own_named first 0 reads, readers_unnamed first (first + 1) pins (omega arith)))
  readers_named first (reads ∷ pins) (suc gate) =
      let same : first + 1 + gate ≡ first + suc gate = omega arith in
      let split = sum_by-append (one_named (first + suc gate)) (own_readers first 0 reads line) (readers (first + 1) pins line) in
      let rest = ap (λ n. times_named n (readers (first + 1) pins line)) (sym same) ∙ readers_named (first + 1) pins gate in
      omega (arith, split, rest, own_unnamed (first + suc gate) first 0 reads (λ e. omega arith))

module _ (lines : ℕ) (pins : List (List LineId)) (fanouts : List (List PinRef)) (long : length fanouts ≡ lines)
    (are : (line : ℕ) → line < lines → slice_index_or fanouts line [] ≡ readers 0 pins line) where
  -- the list of a line, whatever is read past the last
  list_of : (line : ℕ) (d : List PinRef) → line < length fanouts → get_or fanouts line d ≡ readers 0 pins line
  list_of line d within = get_or_default fanouts line d [] within ∙ are line (omega arith)

  -- the lists name the readers
  pub names_readers : NamesReaders lines pins fanouts
  names_readers = record {
    one_each = long;
    gates =
        λ line d within.
        subst (All (λ pin. pin.gate.0 < length pins)) (sym (list_of line d within))
        (All-weaker (IsOne line 0 pins) (λ pin. pin.gate.0 < length pins) (λ pin one. omega (arith, one.known))
        (readers 0 pins line) (readers_all line 0 pins));
    as_often =
        λ line gate low known.
        (let start : gate ≡ 0 + gate = omega arith in
        ap (times_named gate) (are line low) ∙ ap (λ n. times_named n (readers 0 pins line)) start
        ∙ readers_named line 0 pins gate);
  }

  -- and are the fan-outs of each circuit that is wired so
  pub are_fanouts : (c : Circuit) → IsWired c lines pins → AreFanouts c fanouts
  are_fanouts c wired = record { one_each = long ∙ sym wired.line_total; each = fanout }
    where
      on_line : (line : ℕ) (pin : PinRef) → IsOne line 0 pins pin → IsPinOn c pin line
      on_line line pin one =
          let place : pin.gate.0 - 0 ≡ pin.gate.0 = omega arith in
          record {
            in_circuit = omega (arith, one.known, gates_are c lines pins wired);
            reads =
                ap (λ l. slice_get l pin.pin)
                (pins_are c lines pins wired pin.gate.0 ∙ ap (λ n. get_or pins n []) (sym place))
                ∙ one.on_line;
          }

      whole : (line : ℕ) (pin : PinRef) → IsPinOn c pin line → Contains (readers 0 pins line) pin
      whole line pin on =
          let start : 0 + pin.gate.0 ≡ pin.gate.0 = omega arith in
          let at = ap (λ l. slice_get l pin.pin) (sym (pins_are c lines pins wired pin.gate.0)) ∙ on.reads in
          subst (λ n. Contains (readers 0 pins line) (gate_pin n pin.pin)) start
          (readers_whole line 0 pins pin.gate.0 pin.pin at)

      fanout : (line : ℕ) → line < line_count c → IsFanout c line (slice_index_or fanouts line [])
      fanout line within =
          subst (IsFanout c line) (sym (are line (omega (arith, wired.line_total))))
          (record {
            rising = readers_rising line 0 pins;
            on_line =
                All-weaker (IsOne line 0 pins) (λ pin. IsPinOn c pin line) (on_line line) (readers 0 pins line)
                (readers_all line 0 pins);
            whole = whole line;
          })
