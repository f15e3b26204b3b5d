-- Pins are released one after another.
use Rattle.std.proofs.Common.{◌≡◌, ◌≢◌, ⊎_elim, ℕ, ◌+◌, ◌<◌, ◌≤◌, eqb, List, [], ◌∷◌, ◌++◌, length, take, get_or, slice_index, Contains, refl, sym, ap, subst, ◌∙◌, cond, arith}
use Rattle.std.proofs.lemmas.Bool.{cond-true, eq-eqb}
use Rattle.std.proofs.lemmas.List.{take_more}
use Rattle.std.proofs.lemmas.List.Sums.{sum_by_push, sum_by_more_le}
use Rattle.pd_base.specs.declared.ids.GateId.{GateId}
use Rattle.pd_base.specs.declared.ids.PinRef.{PinRef}
use Rattle.net_builder.specs.Progress.{AreReleased}
use Rattle.net_builder.specs.Wiring.{times_named}
use Rattle.net_builder.proofs.Counting.{zero_or_not}

-- 1 for a pin of the gate, and else 0
abbrev pub one_named : ℕ → PinRef → ℕ
one_named gate pin = cond (eqb pin.gate.0 gate) 1 0

-- nothing is released yet
pub released_none : (waits : List ℕ) (ready : List GateId) → AreReleased [] waits ready waits ready
released_none waits ready = record {
  wait_each = refl;
  fewer = λ gate within. omega arith;
  idle = λ all. all;
  kept = λ gate has. has;
  found = λ gate within none some. absurd (some none);
  less_work = omega arith;
}

module _ (readers : List PinRef) (waits : List ℕ) (ready : List GateId) (i : ℕ) (pin none : PinRef)
    (waits_so_far : List ℕ) (ready_so_far : List GateId) (within : i < length readers) (at : pin ≡ get_or readers i none)
    (before : AreReleased (take i readers) waits ready waits_so_far ready_so_far) where
  -- the gate of the next pin waits, where all pins together end no more waits than there are
  pub still_waits : pin.gate.0 < length waits → times_named pin.gate.0 readers ≤ slice_index waits pin.gate.0
      → 0 < slice_index waits_so_far pin.gate.0
  still_waits known enough =
      let own : one_named pin.gate.0 pin ≡ 1 = cond-true (eqb pin.gate.0 pin.gate.0) 1 0 (eq-eqb pin.gate.0 pin.gate.0 refl) in
      omega (
        arith,
        before.fewer pin.gate.0 known,
        sum_by_more_le (one_named pin.gate.0) readers i none within,
        ap (one_named pin.gate.0) at,
        own,
      )

  -- one more pin is released
  pub released_more : (waits_left : List ℕ) (ready_now : List GateId)
      → AreReleased (pin ∷ []) waits_so_far ready_so_far waits_left ready_now
      → AreReleased (take (i + 1) readers) waits ready waits_left ready_now
  released_more waits_left ready_now next =
      subst (λ pins. AreReleased pins waits ready waits_left ready_now)
      (sym (take_more readers i none within ∙ ap (λ p. take i readers ++ p ∷ []) (sym at))) both
    where
      found_now : (gate : ℕ) → gate < length waits → slice_index waits_left gate ≡ 0 → slice_index waits gate ≢ 0
          → Contains ready_now (record { 0 = gate })
      found_now gate known none some =
          ⊎_elim (λ idle. next.kept (record { 0 = gate }) (before.found gate known idle some))
          (λ waited. next.found gate (omega (arith, before.wait_each)) none waited)
          (zero_or_not (slice_index waits_so_far gate))

      both : AreReleased (take i readers ++ pin ∷ []) waits ready waits_left ready_now
      both = record {
        wait_each = next.wait_each ∙ before.wait_each;
        fewer =
            λ gate known.
            omega (
              arith,
              before.fewer gate known,
              next.fewer gate (omega (arith, before.wait_each)),
              sum_by_push (one_named gate) (take i readers) pin,
              sum_by_push (one_named gate) [] pin,
            );
        idle = λ all. next.idle (before.idle all);
        kept = λ gate has. next.kept gate (before.kept gate has);
        found = found_now;
        less_work = omega (arith, before.less_work, next.less_work);
      }
