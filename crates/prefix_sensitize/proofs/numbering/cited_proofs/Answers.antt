-- Each cited proof is left when its number comes.
use Rattle.std.proofs.Common.{ℕ, List, [], ◌∙◌, sym, subst}
use Rattle.std.proofs.lemmas.List.{take_all}
use Rattle.runs.specs.declared.run.Proof.{Proof}
use Rattle.prefix_sensitize.proofs.Citing.{AreTaken, all_taken, none_missing, none_taken, one_more}
use Rattle.prefix_sensitize.proofs.numbering.cited_proofs.Goals as goal

pub unreachable-requires : goal.unreachable-requires
unreachable-requires c =
    none_missing c.args.cited.now c.requires.once c.loop-index.index-index c.loop-index-test.true c.args.found.items
    c.loop-index.written.items c.loop-index.left.items c.loop-index.invariant c.requires.found c.index_mut.result.now
    c.index_mut.ensures.value (sym c.take.ensures.value ∙ c.in-None.is)

pub loop-index-preserved : goal.loop-index-preserved
loop-index-preserved c =
    one_more c.args.cited.now c.requires.once c.loop-index.index-index c.loop-index-test.true c.args.found.items
    c.loop-index.written.items c.loop-index.left.items c.loop-index.invariant c.requires.found c.index_mut.result.now
    c.index_mut.ensures.value c.in-Some.proof (sym c.take.ensures.value ∙ c.in-Some.is) c.push.new.self.items
    c.in_ok-push-in-Some.ensures.items c.take.new.self c.take.ensures.after

pub loop-index-init : goal.loop-index-init
loop-index-init c =
    let P : List Proof → Type 0 = λ written. AreTaken [] c.args.found.items written c.in_ok-left.left.items in
    subst P (sym c.in_ok-written.ensures.items) (none_taken c.args.found.items c.in_ok-left.left.items c.in_ok-left.ensures)

pub returns : goal.returns
returns c =
    let P : List ℕ → Type 0 = λ cited. AreTaken cited c.args.found.items c.loop-index.written.items c.loop-index.left.items in
    all_taken c.args.cited.now c.args.found.items c.loop-index.written.items c.loop-index.left.items
    (subst P (take_all c.loop-index.index-index c.args.cited.now c.loop-index-test.false) c.loop-index.invariant)
