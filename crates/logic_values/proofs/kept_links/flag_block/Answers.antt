-- One test more is flagged.
use Rattle.std.proofs.Common.{◌↔◌, ◌-◌, Bool, List, get_or, subst, ◌∙◌, arith}
use Rattle.std.specs.Prelude.{IsTrue}
use Rattle.std.proofs.lemmas.List.{length-set}
use Rattle.std.proofs.lemmas.Option.{slice_get-get_or}
use Rattle.pd_base.specs.declared.test.Test.{Test}
use Rattle.logic_values.specs.KeptLinks.{HasLinkBits}
use Rattle.logic_values.proofs.Flagging.{none_flagged, one_flagged}
use Rattle.logic_values.proofs.kept_links.flag_block.Goals as goal

pub loop-place-init : goal.loop-place-init
loop-place-init c = record {
  flagged = none_flagged (λ lane test. HasLinkBits c.args.links.now test.pair.second c.args.words.now lane) c.args.begin c.args.tests.now
      c.args.flags.now;
  places = c.requires.flags;
}

pub loop-place-preserved : goal.loop-place-preserved
loop-place-preserved c =
    let tests = c.args.tests.now in
    let place = c.loop-place.place in
    let turn = c.loop-place.invariant in
    let own : Test = get_or tests place c.index-tests-place.result in
    let flag = c.has_link_bits.result in
    let last = c.loop-place-test.true in
    let within = c.requires.within in
    record {
      flagged = one_flagged (λ lane test. HasLinkBits c.args.links.now test.pair.second c.args.words.now lane) c.args.begin place tests
          c.args.flags.now c.loop-place.flags own flag c.loop-place.auto.place (let same = turn.places in omega arith)
          (slice_get-get_or tests place c.index-tests-place.result (omega arith))
          (subst (λ (bits : List Bool). IsTrue flag ↔ HasLinkBits c.args.links.now bits c.args.words.now (place - c.args.begin))
          c.second-second.ensures.bits c.has_link_bits.ensures)
          turn.flagged;
      places = length-set c.loop-place.flags place flag ∙ turn.places;
    }
