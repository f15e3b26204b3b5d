-- Each turn compares the bits of one link more.
use Rattle.std.proofs.Common.{◌≡◌, ◌-◌, Bool, List, false, subst, sym, arith}
use Rattle.std.specs.Prelude.{slice_index_or}
use Rattle.std.proofs.lemmas.List.{take_all}
use Rattle.pd_base.specs.declared.ids.LineId.{LineId}
use Rattle.scan_load.specs.Shifting.{ShiftsOn}
use Rattle.scan_load.proofs.Shifts.{bits_agree, bits_differ, moved_to, one_more_moved}
use Rattle.scan_load.proofs.launching.shifts_on.Goals as goal

pub returns-then-second-chain : goal.returns-then-second-chain
returns-then-second-chain c = (
  (λ never. cc never),
  λ shifts.
      let moved = moved_to c.args.chain.now c.args.pair.now c.loop-at.at (record { 0 = 0 }) (omega arith) (omega arith) shifts in
      absurd (bits_differ _ _ c.if-second-chain.true
      (subst (λ (first : List Bool). slice_index_or c.second-second.result.now (slice_index_or c.args.chain.now c.loop-at.at (record { 0 = 0 })).0 false
      ≡ slice_index_or first (slice_index_or c.args.chain.now (c.loop-at.at - 1) (record { 0 = 0 })).0 false) (sym c.first-first.ensures.bits)
      (subst (λ (second : List Bool). slice_index_or second (slice_index_or c.args.chain.now c.loop-at.at (record { 0 = 0 })).0 false
      ≡ slice_index_or c.args.pair.now.first (slice_index_or c.args.chain.now (c.loop-at.at - 1) (record { 0 = 0 })).0 false)
      (sym c.second-second.ensures.bits) moved))),
)

pub loop-at-preserved : goal.loop-at-preserved
loop-at-preserved c =
    one_more_moved c.args.chain.now c.args.pair.now c.loop-at.at (record { 0 = 0 }) (omega arith) (omega arith) c.loop-at.invariant
    (subst (λ (first : List Bool). slice_index_or c.args.pair.now.second (slice_index_or c.args.chain.now c.loop-at.at (record { 0 = 0 })).0 false
    ≡ slice_index_or first (slice_index_or c.args.chain.now (c.loop-at.at - 1) (record { 0 = 0 })).0 false) c.first-first.ensures.bits
    (subst (λ (second : List Bool). slice_index_or second (slice_index_or c.args.chain.now c.loop-at.at (record { 0 = 0 })).0 false
    ≡ slice_index_or c.first-first.result.now (slice_index_or c.args.chain.now (c.loop-at.at - 1) (record { 0 = 0 })).0 false)
    c.second-second.ensures.bits (bits_agree _ _ c.if-second-chain.false)))

pub returns : goal.returns
returns c = (
  (λ is. subst (λ (chain : List LineId). ShiftsOn chain c.args.pair.now) (take_all c.loop-at.at c.args.chain.now (omega arith)) c.loop-at.invariant),
  λ shifts. cc,
)
