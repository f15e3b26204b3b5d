-- Each row's least number is that of the refutation that is looked for.
use Rattle.std.proofs.Common.{◌<◌, ℕ, List, [], Option, Vec, Global, get_or, length, sym, subst, ap, arith}
use Rattle.std.specs.Prelude.{None}
use Rattle.std.proofs.lemmas.List.Elements.{All-weaker}
use Rattle.std.proofs.lemmas.Result.{IfOk-weaker}
use Rattle.claim_check.specs.Prefixes.{AreLeastMarks, AreLeastRefutations, HasItsNode, IsLeastMark, NamesPrefix}
use Rattle.claim_check.proofs.LeastNumbers.{least_are, rows_within}
use Rattle.claim_check.proofs.Marking.{its_node}
use Rattle.claim_check.proofs.applying.least_refutations.Goals as goal

pub marks_of-requires-clause-nodes : goal.marks_of-requires-clause-nodes
marks_of-requires-clause-nodes c =
    let routes = c.args.paths.now in
    let nodes = c.args.prefixes.now in
    All-weaker (NamesPrefix routes) (HasItsNode nodes) (λ proof names. its_node routes nodes proof c.requires.nodes names) c.args.proofs.now
    c.requires.names

pub least_by_rows-requires-clause-rows : goal.least_by_rows-requires-clause-rows
least_by_rows-requires-clause-rows c = let each = c.requires.nodes.rows_each in omega arith

pub least_by_rows-requires-clause-within : goal.least_by_rows-requires-clause-within
least_by_rows-requires-clause-within c = λ row within k d inside.
    let below = rows_within c.args.paths.now c.args.prefixes.now c.requires.nodes row within k d inside in
    let count = c.in_ok-marks.ensures.one_each in
    let long = ap length c.as_slice.ensures.value in
    omega arith

pub returns-clause-least : goal.returns-clause-least
returns-clause-least c =
    let routes = c.args.paths.now in
    let nodes = c.args.prefixes.now in
    let P : List (Option ℕ) → Type 0 = λ marks. AreLeastMarks nodes c.args.proofs.now c.args.kind c.args.direction marks in
    IfOk-weaker c.least_by_rows.result
    (λ (least : Vec (Option ℕ) Global).
    (row : ℕ) → row < length routes → IsLeastMark c.as_slice.result.now (get_or nodes.rows row []) (get_or least.items row None))
    (λ (least : Vec (Option ℕ) Global). AreLeastRefutations routes c.args.proofs.now c.args.direction c.args.kind least.items)
    (λ least found.
    least_are routes nodes c.requires.nodes c.args.proofs.now c.requires.names c.args.kind c.args.direction c.as_slice.result.now
    (subst P (sym c.as_slice.ensures.value) c.in_ok-marks.ensures) least.items found)
    c.least_by_rows.ensures.least
