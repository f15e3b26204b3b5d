-- One bit more a turn; and then the bits are those that load the chain.
use Rattle.std.proofs.Common.{◌∙◌, ◌-◌, ◌++◌, ◌∷◌, [], length, false, get_or, reverse, Bool, List, ap, ap₂, arith}
use Rattle.scan_load.specs.Shifting.{chain_bits}
use Rattle.scan_load.proofs.Shifts.{all_bits, first_bit, loads_of, one_more_bit}
use Rattle.scan_load.proofs.loading.put_load_string.Goals as goal

pub loop-at-preserved : goal.loop-at-preserved
loop-at-preserved c =
    c.in_ok-push.ensures.items
    ∙ ap (λ (vector : List Bool). c.loop-at.string.items
    ++ get_or vector (get_or c.args.chain.now (length c.args.chain.now - 1 - c.loop-at.at) (record { 0 = 0 })).0 false ∷ []) c.first-first.ensures.bits
    ∙ one_more_bit c.args.chain.now c.args.pair.now.first c.loop-at.string.items c.loop-at.at (record { 0 = 0 }) c.loop-at-test.true
    c.loop-at.invariant

pub returns-clause-loads : goal.returns-clause-loads
returns-clause-loads c =
    let bits = all_bits c.args.chain.now c.args.pair.now.first c.loop-at.string.items c.loop-at.at (omega arith) c.loop-at.invariant in
    loads_of c.args.pair.now c.args.chain.now (record { 0 = 0 }) c.push-2.new.self.items c.requires.some c.requires.shifts_on
    (c.in_ok-push-2.ensures.items
    ∙ ap₂ (λ (front last : List Bool). front ++ get_or last (get_or c.args.chain.now 0 (record { 0 = 0 })).0 false ∷ []) bits c.second-second.ensures.bits)

pub returns-clause-bits : goal.returns-clause-bits
returns-clause-bits c =
    let bits = all_bits c.args.chain.now c.args.pair.now.first c.loop-at.string.items c.loop-at.at (omega arith) c.loop-at.invariant in
    c.in_ok-push-2.ensures.items
    ∙ ap₂ (λ (front last : List Bool). front ++ get_or last (get_or c.args.chain.now 0 (record { 0 = 0 })).0 false ∷ []) bits c.second-second.ensures.bits
    ∙ ap (λ (last : List Bool). reverse (chain_bits c.args.chain.now c.args.pair.now.first) ++ last)
    (first_bit c.args.chain.now (record { 0 = 0 }) c.args.pair.now.second c.requires.some)
