-- A wave without changes is one more that is bounded.
use Rattle.std.proofs.Common.{◌+◌, ◌++◌, ◌∷◌, [], ◌≡◌, refl, sym, ap, subst, ◌∙◌, append-nil, append_assoc, arith}
use Rattle.std.proofs.lemmas.List.{length_push}
use Rattle.std.proofs.lemmas.List.Elements.{All-push}
use Rattle.delay_replay.specs.Changes.{IsBounded}
use Rattle.delay_replay.specs.ReplayTurns.{AddsWaves}
use Rattle.delay_replay.proofs.Replaying.{still_bounded}
use Rattle.delay_replay.proofs.line_waves.add_still_waves.Goals as goal

pub loop-init : goal.loop-init
loop-init c = record {
  added = [];
  so_many = refl;
  bounded = λ i d within. absurd (omega arith);
  behind = sym (append-nil c.args.waves.now.items);
}

pub loop-preserved : goal.loop-preserved
loop-preserved c =
    let adds = c.loop.invariant in
    let still = c.in_ok-source_wave.field-0 in
    record {
      added = adds.added ++ still ∷ [];
      so_many = length_push adds.added still ∙ ap (λ n. n + 1) adds.so_many;
      bounded = All-push IsBounded adds.added still adds.bounded (still_bounded still c.in_ok-source_wave.ensures);
      behind = c.in_ok-push.ensures.items ∙ ap (λ items. items ++ still ∷ []) adds.behind
          ∙ append_assoc c.args.waves.now.items adds.added (still ∷ []);
    }

pub returns : goal.returns
returns c =
    let last : c.loop.counter ≡ c.args.gates = omega arith in
    subst (λ count. AddsWaves count c.args.waves.now.items c.loop.waves.items) last c.loop.invariant
