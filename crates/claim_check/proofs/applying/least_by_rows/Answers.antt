-- One row more has its own.
use Rattle.std.proofs.Common.{◌≡◌, ◌+◌, ◌++◌, ◌∷◌, [], ℕ, ⊎_elim, length, get_or, sym, ap, subst, ◌∙◌, arith}
use Rattle.std.specs.Prelude.{Option, None}
use Rattle.std.proofs.lemmas.Bool.{cases_lt}
use Rattle.std.proofs.lemmas.List.{get_or_append_left, get_or_push, length_push}
use Rattle.claim_check.specs.Prefixes.{IsLeastMark}
use Rattle.claim_check.proofs.applying.least_by_rows.Goals as goal

pub push_reserved-requires : goal.push_reserved-requires
push_reserved-requires c =
    omega (arith, c.loop-row.invariant.so_many, c.loop-row.invariant.room, c.loop-row.least.ok.0, c.loop-row-test.true)

pub loop-row-preserved : goal.loop-row-preserved
loop-row-preserved c =
    let marks = c.args.marks.now in
    let rows = c.args.prefixes.now.rows in
    let row = c.loop-row.row in
    let old = c.loop-row.least.items in
    let least = c.least_mark.result in
    let none : Option ℕ = None in
    let so_many = c.loop-row.invariant.so_many in
    let own = subst (λ nodes. IsLeastMark marks nodes least) c.nodes.ensures c.least_mark.ensures in
    record {
      so_many = ap length c.push_reserved.ensures.items ∙ length_push old least ∙ ap (λ n. n + 1) so_many;
      found = λ other below. subst (λ all. IsLeastMark marks (get_or rows other []) (get_or all other none))
          (sym c.push_reserved.ensures.items)
          (⊎_elim
          (λ less. subst (IsLeastMark marks (get_or rows other []))
          (sym (get_or_append_left old (least ∷ []) none other (omega (arith, so_many))))
          (c.loop-row.invariant.found other less))
          (λ from.
          let this : row ≡ other = omega arith in
          subst (λ at. IsLeastMark marks (get_or rows at []) (get_or (old ++ least ∷ []) at none)) this
          (subst (IsLeastMark marks (get_or rows row [])) (sym (get_or_push old least none row so_many)) own))
          (cases_lt other row));
      room = omega (arith, c.push_reserved.ensures.capacity, c.loop-row.invariant.room);
    }
