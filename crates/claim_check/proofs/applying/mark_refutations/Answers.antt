-- Proof by proof.
use Rattle.std.proofs.Common.{◌≡◌, ◌+◌, ℕ, List, [], ◌∷◌, ◌++◌, Option, set, take, sym, ap, subst, ◌∙◌, arith}
use Rattle.std.proofs.lemmas.Bool.{false≢true}
use Rattle.std.proofs.lemmas.List.{length-take-le, take_all, take_more}
use Rattle.runs.specs.declared.run.Proof.{Proof}
use Rattle.claim_check.specs.Prefixes.{AreLeastMarks}
use Rattle.claim_check.proofs.Marking.{mark_passed, mark_written, marked_none}
use Rattle.claim_check.proofs.applying.mark_refutations.Goals as goal
use Rattle.claim_check.proofs.applying.mark_refutations.Goals.{then-refutes_about, else-refutes_about}

pub loop-place-init : goal.loop-place-init
loop-place-init c = marked_none c.args.prefixes.now c.args.kind c.args.direction c.args.marks.now c.requires.none

pub loop-place-preserved : goal.loop-place-preserved
loop-place-preserved c =
    let proofs = c.args.proofs.now in
    let place = c.loop-place.place in
    let proof = c.index-proofs-place.result in
    let more : take (place + 1) proofs ≡ take place proofs ++ proof ∷ [] =
    take_more proofs place proof c.loop-place-test.true
    ∙ ap (λ (p : Proof). take place proofs ++ p ∷ []) (sym c.index-proofs-place.is) in
    let P : List Proof → Type 0 = λ these. AreLeastMarks c.args.prefixes.now these c.args.kind c.args.direction c.if-refutes_about.marks in
    let Q : List (Option ℕ) → Type 0 =
    λ marks. AreLeastMarks c.args.prefixes.now (take place proofs ++ proof ∷ []) c.args.kind c.args.direction marks in
    subst P (sym more)
    (elim c.if-refutes_about.branch [
      | then-refutes_about w ↦
          let node = w.node_of_proof-node.result in
          let long = length-take-le place proofs (omega arith) in
          subst Q (sym (w.marks-is ∙ ap (set c.loop-place.marks node) w.lesser.ensures))
          (mark_written c.args.prefixes.now c.args.kind c.args.direction (take place proofs) proof c.loop-place.marks c.loop-place.invariant
          (c.refutes_about.ensures.0 w.if-refutes_about.true) node w.node_of_proof-node.ensures.node w.node_of_proof-node.ensures.within
          (place + 1) (omega arith))
      | else-refutes_about w ↦
          subst Q (sym w.marks-is)
          (mark_passed c.args.prefixes.now c.args.kind c.args.direction (take place proofs) proof c.loop-place.marks c.loop-place.invariant
          (λ about. false≢true (sym w.if-refutes_about.false ∙ c.refutes_about.ensures.1 about)))
    ])

pub returns : goal.returns
returns c =
    let P : List Proof → Type 0 = λ these. AreLeastMarks c.args.prefixes.now these c.args.kind c.args.direction c.loop-place.marks in
    subst P (take_all c.loop-place.place c.args.proofs.now c.loop-place-test.false) c.loop-place.invariant
