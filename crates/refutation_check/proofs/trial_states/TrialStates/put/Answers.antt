-- The gates that read the line are stale, and no others but those that were.
use Rattle.std.proofs.Common.{◌≡◌, ◌<◌, Bool, true, false, List, get_or, length, refl, set, sym, ap, subst, ◌∙◌, arith}
use Rattle.std.proofs.lemmas.Bool.Decides.{nat_tests}
use Rattle.std.proofs.lemmas.List.{length-set, get_or_read, with_items_is}
use Rattle.std.proofs.lemmas.List.Elements.{All-set}
use Rattle.state_sets.specs.declared.state.State.{State}
use Rattle.pair_judging.specs.ConeStates.{state_in}
use Rattle.refutation_check.proofs.TrialStates.{written_here, made_stays, fresh_reads_not, reads_not_apart}
use Rattle.refutation_check.proofs.trial_states.TrialStates.put.Goals as goal

pub returns-then-eq-clause-written : goal.returns-then-eq-clause-written
returns-then-eq-clause-written g c =
    let states = c.args.self.now.states.items in let line = c.args.line.0 in
    let seen : c.index.result.now ≡ state_in states line =
    get_or_read states line c.index.result.now (omega (arith, c.requires.line, c.requires.room.states.places)) c.index.ensures (record { 0 = 0 }) in
    let number : c.index.result.now.0 ≡ c.args.state.0 = grind (arith, nat_tests) in
    record { here = sym seen ∙ ap (λ n. record { 0 = n }) number; elsewhere = λ other away. refl }

pub returns-clause-room : goal.returns-clause-room
returns-clause-room g c =
    let old = c.args.self.now in let at = c.args.line.0 in let room = c.requires.room in
    record {
      states = record {
        places = length-set old.states.items at c.args.state ∙ room.states.places;
        below = All-set (λ (s : State). s.0 < g.A.Algebra.algebra.count) old.states.items at c.args.state c.requires.state room.states.below;
      };
      stale = ap length (with_items_is old.stale c.make_stale.new.stale (c.make_stale.ensures.places ∙ c.as_mut_slice.ensures.len))
          ∙ c.make_stale.ensures.places ∙ ap length c.as_mut_slice.ensures.value ∙ room.stale;
    }

pub returns-clause-written : goal.returns-clause-written
returns-clause-written g c =
    written_here c.args.self.now.states.items c.args.line.0 c.args.state (omega (arith, c.requires.line, c.requires.room.states.places))

pub returns-clause-made : goal.returns-clause-made
returns-clause-made g c = λ gate within apart made not.
    let old = c.args.self.now.states.items in let line = c.args.line.0 in
    let written = written_here old line c.args.state (omega (arith, c.requires.line, c.requires.room.states.places)) in
    let IsFresh : List Bool → Type 0 = λ stale. get_or stale gate true ≡ false in
    let stale = with_items_is c.args.self.now.stale c.make_stale.new.stale (c.make_stale.ensures.places ∙ c.as_mut_slice.ensures.len) in
    let stays_not = subst IsFresh stale not in
    made_stays g.A.Algebra.algebra c.args.net.now line c.args.state old (set old line c.args.state) written gate apart
    (fresh_reads_not c.args.net.now line c.fanout.result.now c.fanout.ensures c.make_stale.new.stale c.make_stale.ensures.stale gate within stays_not)
    (made (subst IsFresh c.as_mut_slice.ensures.value (c.make_stale.ensures.stay gate stays_not)))

pub returns-clause-fresh : goal.returns-clause-fresh
returns-clause-fresh g c = λ gate not reads.
    let IsFresh : List Bool → Type 0 = λ stale. get_or stale gate true ≡ false in
    subst IsFresh (sym (with_items_is c.args.self.now.stale c.make_stale.new.stale (c.make_stale.ensures.places ∙ c.as_mut_slice.ensures.len)))
    (c.make_stale.ensures.others gate (subst IsFresh (sym c.as_mut_slice.ensures.value) not)
    (reads_not_apart c.args.net.now c.args.line.0 c.fanout.result.now c.fanout.ensures gate reads))
