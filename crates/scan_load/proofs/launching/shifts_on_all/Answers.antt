-- One chain more, or the first in which the pair is not launched; and what is launched in all chains is loaded by some bits.
use Rattle.std.proofs.Common.{All, List, ap, arith, length, subst, sym, ◌∙◌}
use Rattle.std.specs.Prelude.{slice_index_or}
use Rattle.std.proofs.lemmas.Bool.{false≢true}
use Rattle.std.proofs.lemmas.List.{take_all}
use Rattle.std.proofs.lemmas.List.Elements.{All-more}
use Rattle.pd_base.specs.declared.ids.LineId.{LineId}
use Rattle.scan_load.specs.Shifting.{ShiftsOn}
use Rattle.scan_load.proofs.Shifts.{shifting_is_loadable}
use Rattle.scan_load.proofs.launching.shifts_on_all.Goals as goal

pub loop-chain-preserved : goal.loop-chain-preserved
loop-chain-preserved c =
    All-more (λ chain. ShiftsOn chain c.args.pair.now) c.args.chains.now c.loop-chain.chain-index (c.chain-item.result) (omega (arith, ap length c.chains-chain-items.ensures.chains)) c.loop-chain.invariant
    (subst (λ (chain : List LineId). ShiftsOn chain c.args.pair.now)
    (c.as_slice.ensures ∙ c.chain-item.is
    ∙ ap (λ (chains : List (List LineId)). slice_index_or chains c.loop-chain.chain-index c.chain-item.result) c.chains-chain-items.ensures.chains)
    (c.shifts_on.ensures.0 c.if-not-shifts_on.false))

pub returns-clause-shifts : goal.returns-clause-shifts
returns-clause-shifts c = (
  (λ is. subst (All (λ chain. ShiftsOn chain c.args.pair.now)) (take_all c.loop-chain.chain-index c.args.chains.now (omega (arith, ap length c.chains-chain-items.ensures.chains))) c.loop-chain.invariant),
  λ shifts. cc,
)

pub returns-clause-loads : goal.returns-clause-loads
returns-clause-loads c =
    let same = shifting_is_loadable c.args.chains.now c.chains-chain-items.ensures.are.some c.args.pair.now in
    (λ is. same.0 ((returns-clause-shifts c).0 is), λ loads. cc)

pub returns-then-not-shifts_on-clause-loads : goal.returns-then-not-shifts_on-clause-loads
returns-then-not-shifts_on-clause-loads c = (
  λ never. absurd (false≢true never),
  λ loads.
      let all = (shifting_is_loadable c.args.chains.now c.chains-chain-items.ensures.are.some c.args.pair.now).1 loads in
      let here = all c.loop-chain.chain-index c.chain-item.result (omega (arith, ap length c.chains-chain-items.ensures.chains)) in
      let is = c.shifts_on.ensures.1 (subst (λ (chain : List LineId). ShiftsOn chain c.args.pair.now)
      (sym (c.as_slice.ensures ∙ c.chain-item.is
      ∙ ap (λ (chains : List (List LineId)). slice_index_or chains c.loop-chain.chain-index c.chain-item.result) c.chains-chain-items.ensures.chains)) here) in
      absurd (false≢true (sym c.if-not-shifts_on.true ∙ is)),
)
