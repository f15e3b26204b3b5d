-- Both vectors have bits at the sources, the second those of links, and nothing else.
use Rattle.std.proofs.Common.{ℕ, List, Bool, false, replicate, length, sym, ap, ◌∙◌, subst, subst₂, []}
use Rattle.std.specs.Vec.{with_items}
use Rattle.std.proofs.lemmas.List.{with_items_is}
use Rattle.pd_base.specs.Links.{LinkList}
use Rattle.pd_base.specs.declared.ids.LineId.{LineId}
use Rattle.cones.specs.FoundLines.{HasMark}
use Rattle.cones.specs.KeptCones.{IsConeAt}
use Rattle.netlist.specs.Circuit.{source_count}
use Rattle.netlist.specs.Values.{value}
use Rattle.pair_judging.specs.ConeStates.{state_in, IsLinkedFrom}
use Rattle.pair_judging.specs.SourceBits.{first_bit, HasBitsAt, HasStateBits, AreLinkBits}
use Rattle.pair_judging.proofs.Taking.{read_linked_is}
use Rattle.pair_judging.proofs.cone_judge.ConeJudge.read_linked.Given.{Over}
use Rattle.pair_judging.proofs.cone_judge.ConeJudge.read_linked.Goals.{After-new}
use Rattle.pair_judging.proofs.cone_judge.ConeJudge.read_linked.Goals as goal

-- the pair is linked, and has the bits of the states
read : (g : Over) (c : After-new g) (end : ℕ) → IsConeAt c.args.net.now end c.args.cone.now
    → IsLinkedFrom c.args.net.now c.args.cone.now.links end c.new.result
    × HasStateBits g.A.Algebra.algebra c.args.net.now c.args.cone.now.links end c.args.states.now c.new.result
read g c end is =
    let a = g.A.Algebra.algebra in
    let net = c.args.net.now in
    let states = c.args.states.now in
    let cone = c.args.cone.now in
    let before : ℕ → Bool = λ source. first_bit a (state_in states source) in
    let after : ℕ → Bool = λ source. a.last (state_in states source) in
    let Kept : ℕ → Type 0 = HasMark [] in
    let first = c.in_ok-first.first in
    let second = c.in_ok-second.second in
    let zeros = λ (n : ℕ). replicate n false in
    let first_start = c.as_mut_slice.ensures.value ∙ c.in_ok-first.ensures.items_if_clones_equal (λ y same. same) ∙ ap zeros c.sources-places.ensures.count in
    let second_start = c.as_mut_slice-2.ensures.value ∙ c.in_ok-second.ensures.items_if_clones_equal (λ y same. same) ∙ ap zeros c.sources-places.ensures.count in
    let first_is = with_items_is first c.write_bits.new.first (c.write_bits.ensures.first.places ∙ ap length c.as_mut_slice.ensures.value ∙ sym first.ok.0) in
    let second_long = c.write_bits.ensures.second.places ∙ ap length c.as_mut_slice-2.ensures.value ∙ sym second.ok.0 in
    let second_is = c.as_mut_slice-3.ensures.value ∙ with_items_is second c.write_bits.new.second second_long in
    let read_first = subst (λ (ls : List LineId). HasBitsAt before ls (zeros (source_count net)) c.write_bits.new.first) c.sources.ensures
    (subst (λ (start : List Bool). HasBitsAt before c.sources.result.now start c.write_bits.new.first) first_start c.write_bits.ensures.first) in
    let read_second = subst (λ (ls : List LineId). HasBitsAt after ls (zeros (source_count net)) c.write_bits.new.second) c.sources.ensures
    (subst (λ (start : List Bool). HasBitsAt after c.sources.result.now start c.write_bits.new.second) second_start c.write_bits.ensures.second) in
    let second_end = c.new.ensures.second ∙ with_items_is (with_items second c.write_bits.new.second) c.give_link_bits.new.second
    (c.give_link_bits.ensures.places ∙ ap length second_is ∙ second_long) in
    let linked : AreLinkBits (value net c.write_bits.new.first) cone.links Kept c.write_bits.new.second c.give_link_bits.new.second =
    subst (λ (links : LinkList). AreLinkBits (value net c.write_bits.new.first) links Kept c.write_bits.new.second c.give_link_bits.new.second)
    c.links.ensures
    (subst₂ (λ (bits old : List Bool). AreLinkBits (value net bits) c.links.result.now Kept old c.give_link_bits.new.second)
    (c.as_slice.ensures.value ∙ first_is) second_is c.give_link_bits.ensures.linked) in
    read_linked_is a net states cone c.new.result c.write_bits.new.second
    (subst (HasBitsAt before cone.sources (zeros (source_count net))) (sym (c.new.ensures.first ∙ first_is)) read_first)
    read_second
    (ap length second_end ∙ c.give_link_bits.ensures.places ∙ ap length second_is)
    (subst₂ (λ (bits new : List Bool). AreLinkBits (value net bits) cone.links Kept c.write_bits.new.second new)
    (sym (c.new.ensures.first ∙ first_is)) (sym second_end) linked)
    end is

pub returns-clause-linked : goal.returns-clause-linked
returns-clause-linked g c = λ end is. (read g (goal.at.returns-clause-linked g c).After-new end is).0

pub returns-clause-bits : goal.returns-clause-bits
returns-clause-bits g c = λ end is. (read g (goal.at.returns-clause-bits g c).After-new end is).1
