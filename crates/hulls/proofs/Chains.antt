-- Chains of links: a link more, and a walk along one.
use Rattle.std.proofs.Common.{◌≡◌, ◌≢◌, ℕ, ◌+◌, ◌<◌, ◌≤◌, ◌⊎◌, inl, inr, ⊎_elim, Bool, List, [], ◌∷◌, ◌++◌, length, get_or, sym, ap, ◌∙◌, subst, arith}
use Rattle.std.proofs.Math.ListN.{set}
use Rattle.std.proofs.lemmas.Bool.{cases_eq}
use Rattle.std.proofs.lemmas.List.{length_push, get_or-set_same, get_or-set_other, get_or_past, get_or_append_left, get_or_push}
use Rattle.pd_base.specs.Links.{LinkList}
use Rattle.hulls.specs.Links.{IsInChain, IsChained, chained_line, link_at}
use Rattle.hulls.specs.Links.IsInChain.{here, later}

-- no links stand in no chains
pub chained_none : (second : Bool) (links : LinkList) (bound : ℕ) (heads nexts : List ℕ) → bound ≡ 0 → heads ≡ [] → nexts ≡ []
    → IsChained second links bound heads nexts
chained_none second links bound heads nexts none no_heads no_nexts = record {
  one_each = ap length no_nexts ∙ sym none;
  falls = λ link below. absurd (omega (arith, below, none));
  heads_low = λ line. omega (arith, get_or_past heads line 0 (omega (arith, ap length no_heads)));
  on = λ link below. absurd (omega (arith, below, none));
}

-- a step along a chain
pub on_step : (nexts : List ℕ) (link at first : ℕ) → at ≡ first + 1 → IsInChain nexts link at
    → (link ≡ first) ⊎ IsInChain nexts link (get_or nexts first 0)
on_step nexts link at first is (here e) = inl (omega (arith, e, is))
on_step nexts link at first is (later other e rest) =
    let same : other ≡ first = omega (arith, e, is) in inr (subst (λ (n : ℕ). IsInChain nexts link (get_or nexts n 0)) same rest)

module _ (nexts : List ℕ) (next : ℕ) (falls : (link : ℕ) → link < length nexts → get_or nexts link 0 ≤ link) where
  abbrev more : List ℕ
  more = nexts ++ next ∷ []

  -- what stands in a chain stands there with a link more
  pub on_more : (link at : ℕ) → at ≤ length nexts → IsInChain nexts link at → IsInChain more link at
  on_more link at low (here is) = here is
  on_more link at low (later other is rest) =
      let inside : other < length nexts = omega (arith, low, is) in
      let same : get_or more other 0 ≡ get_or nexts other 0 = get_or_append_left nexts (next ∷ []) 0 other inside in
      later other is (subst (IsInChain more link) (sym same)
      (on_more link (get_or nexts other 0) (omega (arith, falls other inside, inside)) rest))

-- a link more at the head of its line's chain
module _ (second : Bool) (links : LinkList) (bound : ℕ) (heads nexts : List ℕ) (is : IsChained second links bound heads nexts)
    (line : ℕ) (at_line : (chained_line second (link_at links bound)).0 ≡ line) (inside : line < length heads) where
  abbrev next : ℕ
  next = get_or heads line 0

  abbrev new_heads : List ℕ
  new_heads = set heads line (bound + 1)

  abbrev new_nexts : List ℕ
  new_nexts = nexts ++ next ∷ []

  falls_below : (link : ℕ) → link < length nexts → get_or nexts link 0 ≤ link
  falls_below link below = is.falls link (omega (arith, below, is.one_each))

  last_next : get_or new_nexts bound 0 ≡ next
  last_next = get_or_push nexts next 0 bound is.one_each

  head_here : get_or new_heads line 0 ≡ bound + 1
  head_here = get_or-set_same heads line (bound + 1) 0 inside

  head_away : (other : ℕ) → other ≢ line → get_or new_heads other 0 ≡ get_or heads other 0
  head_away other away = get_or-set_other heads line other (bound + 1) 0 away

  chained_falls : (link : ℕ) → link < bound + 1 → get_or new_nexts link 0 ≤ link
  chained_falls link below = ⊎_elim
      (λ (same : link ≡ bound). subst (λ (n : ℕ). get_or new_nexts n 0 ≤ n) (sym same) (omega (arith, last_next, is.heads_low line)))
      (λ (away : link ≡ bound → ⊥).
      let low : link < bound = omega (arith, below, away) in
      omega (arith, get_or_append_left nexts (next ∷ []) 0 link (omega (arith, low, is.one_each)), is.falls link low))
      (cases_eq link bound)

  chained_heads : (other : ℕ) → get_or new_heads other 0 ≤ bound + 1
  chained_heads other = ⊎_elim
      (λ (same : other ≡ line). subst (λ (n : ℕ). get_or new_heads n 0 ≤ bound + 1) (sym same) (omega (arith, head_here)))
      (λ (away : other ≡ line → ⊥). omega (arith, head_away other away, is.heads_low other))
      (cases_eq other line)

  chained_on : (link : ℕ) → link < bound + 1 → IsInChain new_nexts link (get_or new_heads (chained_line second (link_at links link)).0 0)
  chained_on link below =
      let key : ℕ = (chained_line second (link_at links link)).0 in
      ⊎_elim
      (λ (same : link ≡ bound).
      let own : key ≡ line = ap (λ (n : ℕ). (chained_line second (link_at links n)).0) same ∙ at_line in
      here (ap (λ (n : ℕ). get_or new_heads n 0) own ∙ head_here ∙ ap (λ (n : ℕ). n + 1) (sym same)))
      (λ (away : link ≡ bound → ⊥).
      let low : link < bound = omega (arith, below, away) in
      let old : IsInChain new_nexts link (get_or heads key 0) =
      on_more nexts next falls_below link (get_or heads key 0) (omega (arith, is.heads_low key, is.one_each)) (is.on link low) in
      ⊎_elim
      (λ (own : key ≡ line).
      later bound (ap (λ (n : ℕ). get_or new_heads n 0) own ∙ head_here)
      (subst (IsInChain new_nexts link) (ap (λ (n : ℕ). get_or heads n 0) own ∙ sym last_next) old))
      (λ (other : key ≡ line → ⊥). subst (IsInChain new_nexts link) (sym (head_away key other)) old)
      (cases_eq key line))
      (cases_eq link bound)

  pub chained_more : IsChained second links (bound + 1) new_heads new_nexts
  chained_more = record {
    one_each = length_push nexts next ∙ ap (λ (n : ℕ). n + 1) is.one_each;
    falls = chained_falls;
    heads_low = chained_heads;
    on = chained_on;
  }
