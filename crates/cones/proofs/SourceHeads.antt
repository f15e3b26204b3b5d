-- The lines of links, written by source one after another.
use Rattle.std.proofs.Common.{◌≡◌, ◌≢◌, ⊎_elim, ℕ, ◌+◌, ◌<◌, ◌≤◌, List, [], ◌∷◌, ◌++◌, Option, Some, None, take, take_all, length, get_or, set, get_or-set_same, get_or-set_other, sym, ap, subst, ◌∙◌, arith}
use Rattle.std.specs.Prelude.{IfSome, IfNone}
use Rattle.std.specs.List.{AllPairs, Contains}
use Rattle.std.proofs.lemmas.Bool.{cases_eq}
use Rattle.std.proofs.lemmas.List.{take_more, length-take-le, get_or-take, get_or_default}
use Rattle.std.proofs.lemmas.List.Elements.{Contains-append_left, Contains-push, Contains-push_cases}
use Rattle.pd_base.specs.Links.{LinkList, IsLink}
use Rattle.pd_base.specs.declared.ids.LineId.{LineId}
use Rattle.cones.specs.SourceLinks.{AreHeads, head_at}

-- what is read where there is no link
abbrev pub no_link : LineId × LineId
no_link = (record { 0 = 0 }, record { 0 = 0 })

-- a link by the numbers of its lines
abbrev pub link_of : ℕ → ℕ → LineId × LineId
link_of source line = (record { 0 = source }, record { 0 = line })

-- where no line is written, there are no links
pub heads_none : (heads : List (Option LineId)) → ((source : ℕ) (line : LineId) → ¬ (head_at heads source ≡ Some line)) → AreHeads [] heads
heads_none heads none = record {
  each = λ source line among. absurd (omega (arith, among.1));
  only = λ source line is. absurd (none source line is);
}

some_is : (x y : LineId) → Some x ≡ Some y → x ≡ y
some_is x y same = ap (λ (o : Option LineId). at o) same
  where
    at : Option LineId → LineId
    at None = x
    at (Some z) = z

-- the source of a link before another one has another number
pub link_away : (links : LinkList) (place : ℕ) → place < length links → AllPairs (λ a b. a.0 ≢ b.0) links
    → (source line : ℕ) → IsLink (take place links) source line → source ≢ (get_or links place no_link).0.0
link_away links place inside once source line (k, early, is) same =
    let before : k < place = omega (arith, early, length-take-le place links (omega (arith, inside))) in
    let at : get_or links k no_link ≡ link_of source line =
    get_or_default links k no_link (link_of source line) (omega (arith, before, inside))
    ∙ sym (get_or-take place links k (link_of source line) before) ∙ is in
    let own : (get_or links k no_link).0 ≡ (get_or links place no_link).0 =
    ap (λ (l : LineId × LineId). l.0) at ∙ (λ i. record { 0 = same i }) in
    once k place no_link before inside own

-- one link more, of a source that had none
pub heads_more : (links : LinkList) (place : ℕ) (heads : List (Option LineId)) → place < length links
    → (get_or links place no_link).0.0 < length heads → AllPairs (λ a b. a.0 ≢ b.0) links → AreHeads (take place links) heads
    → AreHeads (take (place + 1) links) (set heads (get_or links place no_link).0.0 (Some (get_or links place no_link).1))
heads_more links place heads inside within once are = record { each = each; only = only }
  where
    next : LineId × LineId
    next = get_or links place no_link

    now : List (Option LineId)
    now = set heads next.0.0 (Some next.1)

    longer : take (place + 1) links ≡ take place links ++ next ∷ []
    longer = take_more links place no_link inside

    here : head_at now next.0.0 ≡ Some next.1
    here = get_or-set_same heads next.0.0 (Some next.1) None within

    each : (source line : ℕ) → IsLink (take (place + 1) links) source line → head_at now source ≡ Some (record { 0 = line })
    each source line among = ⊎_elim
        (λ (before : Contains (take place links) (link_of source line)).
        get_or-set_other heads next.0.0 source (Some next.1) None (link_away links place inside once source line before) ∙ are.each source line before)
        (λ (this : next ≡ link_of source line).
        let own : next.0.0 ≡ source = ap (λ (l : LineId × LineId). l.0.0) this in
        ap (head_at now) (sym own) ∙ here ∙ ap (λ (l : LineId × LineId). Some l.1) this)
        (Contains-push_cases (take place links) next (link_of source line) (subst (λ ls. Contains ls (link_of source line)) longer among))

    only : (source : ℕ) (line : LineId) → head_at now source ≡ Some line → IsLink (take (place + 1) links) source line.0
    only source line is =
        subst (λ ls. Contains ls (link_of source line.0)) (sym longer)
        (⊎_elim
        (λ (same : source ≡ next.0.0).
        let own : next.1 ≡ line = some_is next.1 line (sym here ∙ ap (head_at now) (sym same) ∙ is) in
        let whole : next ≡ link_of source line.0 = λ i. (record { 0 = (sym same) i }, record { 0 = (own i).0 }) in
        subst (Contains (take place links ++ next ∷ [])) whole (Contains-push (take place links) next))
        (λ (differs : source ≢ next.0.0).
        Contains-append_left (take place links) (next ∷ []) (link_of source line.0)
        (are.only source line (sym (get_or-set_other heads next.0.0 source (Some next.1) None differs) ∙ is)))
        (cases_eq source next.0.0))

pub heads_all : (links : LinkList) (place : ℕ) (heads : List (Option LineId)) → length links ≤ place → AreHeads (take place links) heads
    → AreHeads links heads
heads_all links place heads past are = subst (λ ls. AreHeads ls heads) (take_all place links past) are

-- what stands there at a source tells whether it is linked, and to which line
pub head_linked : (links : LinkList) (heads : List (Option LineId)) (source : ℕ) → AreHeads links heads → (found : Option LineId)
    → found ≡ head_at heads source → IfSome found (λ line. IsLink links source line.0)
head_linked links heads source are None is = tt
head_linked links heads source are (Some line) is = are.only source line (sym is)

none_some : (line : LineId) → None ≡ Some line → ⊥
none_some line same = absurd cc

pub head_alone : (links : LinkList) (heads : List (Option LineId)) (source : ℕ) → AreHeads links heads → (found : Option LineId)
    → found ≡ head_at heads source → IfSome found (λ line. (other : ℕ) → IsLink links source other → other ≡ line.0)
head_alone links heads source are None is = tt
head_alone links heads source are (Some line) is = λ other among.
    ap (λ (l : LineId). l.0) (some_is (record { 0 = other }) line (sym (are.each source other among) ∙ sym is))

pub head_free : (links : LinkList) (heads : List (Option LineId)) (source : ℕ) → AreHeads links heads → (found : Option LineId)
    → found ≡ head_at heads source → IfNone found ((line : ℕ) → ¬ IsLink links source line)
head_free links heads source are None is = λ line among. none_some (record { 0 = line }) (is ∙ are.each source line among)
head_free links heads source are (Some line) is = tt
