-- One source more is listed, with its state, if it is told.
use Rattle.std.proofs.Common.{Vec, List, take, ap, sym, ◌+◌, ◌∙◌, subst}
use Rattle.std.proofs.lemmas.Bool.{false≢true}
use Rattle.implication.specs.Scopes.{standing}
use Rattle.justify.specs.declared.trial.Tried.{Tried}
use Rattle.justify.specs.Trying.{AreTriedIn}
use Rattle.justify.proofs.TriedSources.{tried_more, tried_as_before}
use Rattle.justify.proofs.trying.collect.Goals.{then-tells+in_ok-push, else-tells}
use Rattle.justify.proofs.trying.collect.Goals as goal

pub loop-source-preserved : goal.loop-source-preserved
loop-source-preserved g c =
    let now = standing c.args.scope.now in let sources = c.args.sources.now in let states = c.args.states.now in
    let place = c.loop-source.source-index in
    elim c.if-tells.branch [
      | then-tells+in_ok-push w ↦
          tried_more now sources states place _ c.loop-source.tried.items c.if-tells.tried.items c.loop-source-test.true
          (c.tells.ensures.0 w.if-tells.true) c.loop-source.invariant
          (ap (λ (v : Vec _ _). v.items) w.tried-is ∙ w.in_ok-push.ensures.items)
      | else-tells w ↦
          let P : List Tried → Type 0 = λ xs. AreTriedIn now (take (place + 1) sources) states xs in
          subst P (sym (ap (λ (v : Vec _ _). v.items) w.tried-is))
          (tried_as_before now sources states place _ c.loop-source.tried.items c.loop-source-test.true
          (λ told. false≢true (sym w.if-tells.false ∙ c.tells.ensures.1 told)) c.loop-source.invariant)
    ]
