-- Each turn writes one arc, and what is left stands at an earlier entry.
use Rattle.std.proofs.Common.{◌≡◌, ◌<◌, ◌++◌, ℕ, List, [], ◌∷◌, refl, sym, ap, ◌∙◌, arith, append_assoc}
use Rattle.std.proofs.lemmas.List.{append-nil}
use Rattle.path_laws.specs.declared.entry.WalkEntry.{WalkEntry}
use Rattle.path_laws.specs.declared.entry.TheConstants.{NONE}
use Rattle.path_laws.specs.Entries.{entry_at, walk_at}
use Rattle.path_laws.proofs.Unfolding.{walk_ends, walk_goes_on}
use Rattle.path_lister.proofs.listing.walk_from.Goals as goal

pub loop-entry-preserved : goal.loop-entry-preserved
loop-entry-preserved c =
    let entries = c.args.entries.now in
    let at = c.loop-entry.at in
    let here = c.loop-entry.invariant.here in
    let goes : (entry_at entries at).arc ≡ NONE → ⊥ =
    λ none. c.loop-entry-test.true (ap (λ (e : WalkEntry). e.arc) here ∙ none) in
    let tail : c.loop-entry.entry.tail < at =
    omega (arith, ap (λ (e : WalkEntry). e.tail) here, c.requires.tails at c.loop-entry.invariant.within goes) in
    let walk : walk_at entries at ≡ c.loop-entry.entry.arc ∷ walk_at entries c.loop-entry.entry.tail =
    walk_goes_on entries c.requires.tails at c.loop-entry.invariant.within goes
    ∙ ap (λ (e : WalkEntry). e.arc ∷ walk_at entries e.tail) (sym here) in record {
      within = omega (arith, c.loop-entry.invariant.within);
      here = refl;
      walk =
          ap (λ (arcs : List ℕ). arcs ++ walk_at entries c.loop-entry.entry.tail) c.in_ok-push.ensures.items
          ∙ append_assoc c.loop-entry.arcs.items (c.loop-entry.entry.arc ∷ []) (walk_at entries c.loop-entry.entry.tail)
          ∙ ap (λ (rest : List ℕ). c.loop-entry.arcs.items ++ rest) (sym walk)
          ∙ c.loop-entry.invariant.walk;
    }

pub returns : goal.returns
returns c =
    let entries = c.args.entries.now in
    let at = c.loop-entry.at in
    let ends = walk_ends entries c.requires.tails at c.loop-entry.invariant.within
    (ap (λ (e : WalkEntry). e.arc) (sym c.loop-entry.invariant.here) ∙ c.loop-entry-test.false) in
    sym (append-nil c.loop-entry.arcs.items)
    ∙ ap (λ (rest : List ℕ). c.loop-entry.arcs.items ++ rest) (sym ends)
    ∙ c.loop-entry.invariant.walk
