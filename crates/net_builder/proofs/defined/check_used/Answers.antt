-- One use more is checked, and in the end all of the statement.
use Rattle.std.proofs.Common.{[], sym, subst, arith, ◌∙◌, List, ℕ}
use Rattle.std.specs.List.{All, Contains}
use Rattle.std.proofs.lemmas.List.{take_all}
use Rattle.std.proofs.lemmas.List.Elements.{All-more}
use Rattle.netlist.specs.Description.{defined_names}
use Rattle.netlist.specs.Statements.{used_by}
use Rattle.net_builder.specs.Reading.{statement_at}
use Rattle.net_builder.specs.Refusals.{RefusesUndefined, mention_of}
use Rattle.net_builder.proofs.ByLine.{is_defined, is_line}
use Rattle.net_builder.proofs.Defining.{undefined_here}
use Rattle.net_builder.proofs.defined.check_used.Goals as goal

pub returns-then-not-has_name-clause-refused : goal.returns-then-not-has_name-clause-refused
returns-then-not-has_name-clause-refused c =
    let raw = c.args.raw.now in
    let missing = λ (has : Contains (defined_names raw) c.used-name.result.now).
    c.if-not-has_name.ensures (subst (λ (names : List (List ℕ)). Contains names c.used-name.result.now) (sym c.requires.names)
    (is_line raw c.used-name.result.now has)) in
    let undefined = undefined_here raw c.args.place c.requires.within c.loop-argument.argument (omega arith) c.requires.limits
    c.requires.distinct c.requires.before c.loop-argument.invariant
    (subst (λ (name : List ℕ). Contains (defined_names raw) name → ⊥) c.used-name.ensures missing) in
    subst (RefusesUndefined raw) (λ i. mention_of (sym c.line.ensures i) ((sym c.used-name.ensures ∙ sym c.in_ok-copied.ensures) i)) undefined

pub loop-argument-preserved : goal.loop-argument-preserved
loop-argument-preserved c =
    let raw = c.args.raw.now in
    let own = used_by (statement_at raw c.args.place) in
    let has = is_defined raw c.used-name.result.now
    (subst (λ (names : List (List ℕ)). Contains names c.used-name.result.now) c.requires.names c.if-not-has_name.ensures) in
    All-more (Contains (defined_names raw)) own c.loop-argument.argument [] (omega arith) c.loop-argument.invariant
    (subst (Contains (defined_names raw)) c.used-name.ensures has)

pub returns-clause-defined : goal.returns-clause-defined
returns-clause-defined c =
    let raw = c.args.raw.now in
    subst (All (Contains (defined_names raw)))
    (take_all c.loop-argument.argument (used_by (statement_at raw c.args.place)) (omega arith)) c.loop-argument.invariant
