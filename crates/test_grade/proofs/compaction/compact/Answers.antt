-- The words tell what is served, the flags are a compact choice by them, and the tests are those whose flags are set.
use Rattle.std.proofs.Common.{◌≡◌, ℕ, ◌*◌, Bool, List, length, Contains, ap, sym, subst, ◌∙◌, arith}
use Rattle.std.specs.List.{items_where_true}
use Rattle.pd_base.specs.declared.test.Test.{Test}
use Rattle.test_grade.specs.declared.kind_asked.KindAsked.TheVariants.{Serving}
use Rattle.test_grade.specs.Compact.{HasWords, IsCompact, serves_in}
use Rattle.test_grade.specs.Compacted.{IsCompacted}
use Rattle.test_grade.specs.Serving.{IsMatrix, Serves}
use Rattle.test_grade.proofs.Served.{served_compacted}
use Rattle.test_grade.proofs.compaction.compact.Goals as goal

pub keep_needed-requires-clause-words : goal.keep_needed-requires-clause-words
keep_needed-requires-clause-words c =
    let faults = 2 * length c.args.paths.now in
    let count : length c.as_slice.result.now ≡ c.len-count.result = ap (λ (l : List Test). length l) c.as_slice.ensures.value ∙ (omega arith) in
    subst (λ (w : List ℕ). HasWords w c.len-count.result faults) (sym c.as_slice-3.ensures.value)
    (subst (λ n. HasWords c.in_ok-words.words.items n faults) count c.in_ok-words.ensures.places)

pub keep_needed-requires-clause-whole : goal.keep_needed-requires-clause-whole
keep_needed-requires-clause-whole c test inside =
    subst (λ (l : List ℕ). Contains l test) (sym c.as_slice-4.ensures.value) (c.in_ok-order.ensures.1 test inside)

pub returns : goal.returns
returns c =
    let net = c.args.net.now in
    let paths = c.args.paths.now in
    let tests = c.args.tests.items in
    let faults = 2 * length paths in
    let words = c.in_ok-words.words.items in
    let same : c.as_slice.result.now ≡ tests = c.as_slice.ensures.value in
    let are : IsMatrix Serving net paths tests (length tests) words =
    subst (λ (l : List Test). IsMatrix Serving net paths l (length l) words) same c.in_ok-words.ensures.tells in
    let chosen : IsCompact (length tests) faults (serves_in words faults) c.in_ok-kept.kept.items =
    subst (λ n. IsCompact n faults (serves_in words faults) c.in_ok-kept.kept.items) (let n : c.len-count.result ≡ length tests = omega arith in n)
    (subst (λ (w : List ℕ). IsCompact c.len-count.result faults (serves_in w faults) c.in_ok-kept.kept.items) c.as_slice-3.ensures.value
    c.in_ok-kept.ensures) in
    subst (λ (l : List Test). IsCompacted (Serves net paths) tests l)
    (sym (c.in_ok-left.ensures ∙ ap (λ (flags : List Bool). items_where_true flags tests) c.as_slice-5.ensures.value))
    (served_compacted net paths tests words are c.in_ok-kept.kept.items chosen)
