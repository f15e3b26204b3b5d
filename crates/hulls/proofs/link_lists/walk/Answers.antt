-- A step along the chain: its link waits now, and the rest of the chain is to come.
use Rattle.std.proofs.Common.{◌≡◌, true, ◌<◌, ◌+◌, ◌-◌, ℕ, inl, inr, ⊎_elim, length, get_or, sym, ap, ◌∙◌, subst, arith}
use Rattle.std.specs.List.{Contains}
use Rattle.std.proofs.lemmas.List.{get_or_read}
use Rattle.hulls.specs.declared.turn.Turn.{Turn}
use Rattle.hulls.specs.Awaiting.{is_inside}
use Rattle.hulls.specs.Links.{IsInChain}
use Rattle.hulls.proofs.Chains.{on_step}
use Rattle.hulls.proofs.Readers.{more_on}
use Rattle.hulls.proofs.link_lists.walk.Goals as goal

pub loop-at-preserved : goal.loop-at-preserved
loop-at-preserved c =
    let nexts = c.args.chains.now.nexts.items in let heads = c.args.chains.now.heads.items in let gates = c.args.gates in
    let at = c.loop-at.at in let first = at - 1 in let old = c.loop-at.waiting.waiting in let new = c.add.new.self.waiting in
    let is : at ≡ first + 1 = omega (arith, c.loop-at-test.true) in
    let inside : first < length nexts = omega (arith, is, c.loop-at.invariant.low) in
    let next : c.index-at.result.now ≡ get_or nexts first 0 = get_or_read nexts first c.index-at.result.now inside c.index-at.ensures 0 in
    record {
      low = omega (arith, next, c.requires.falls first inside, inside);
      more = more_on c.args.waiting.now c.loop-at.waiting c.add.new.self c.loop-at.invariant.more c.add.ensures.more;
      waits = λ link on. ⊎_elim
          (λ (waits : Contains old (record { 0 = gates + link })). inl (c.add.ensures.more.stays (record { 0 = gates + link }) waits))
          (λ (rest : IsInChain nexts link at). ⊎_elim
          (λ (same : link ≡ first).
          inl (subst (λ (n : ℕ). Contains new (record { 0 = gates + n })) (sym same)
          (subst (λ (t : Turn). is_inside c.loop-at.waiting.inside t.0 ≡ true → Contains new t) c.of_link.ensures c.add.ensures.waits
          (ap (λ flags. is_inside flags (gates + first)) c.loop-at.invariant.more.inside ∙ c.requires.links_inside first inside))))
          (λ (further : IsInChain nexts link (get_or nexts first 0)). inr (subst (IsInChain nexts link) (sym next) further))
          (on_step nexts link at first is rest))
          (c.loop-at.invariant.waits link on);
    }
