-- Bits that are written at linked sources one after another.
use Rattle.std.proofs.Common.{◌≡◌, ◌≢◌, ⊎_elim, ℕ, ◌+◌, ◌<◌, ◌≤◌, ◌↔◌, Bool, false, List, [], ◌∷◌, ◌++◌, take, take_all, length, get_or, set, get_or-set_same, get_or-set_other, refl, sym, ap, subst, ◌∙◌, arith}
use Rattle.std.specs.List.{AllPairs, Contains}
use Rattle.std.proofs.lemmas.List.{take_more}
use Rattle.std.proofs.lemmas.List.Elements.{Contains-append_left, Contains-push, Contains-push_cases}
use Rattle.pd_base.specs.Links.{LinkList, IsLink}
use Rattle.pd_base.specs.declared.ids.LineId.{LineId}
use Rattle.pair_judging.specs.SourceBits.{AreLinkBits}
use Rattle.cones.proofs.SourceHeads.{no_link, link_of, link_away}

module _ (due : ℕ → Bool) (Kept : ℕ → Type 0) (old : List Bool) where
  pub link_bits_none : AreLinkBits due [] Kept old old
  link_bits_none = record {
    linked = λ source line other among. absurd (omega (arith, among.1));
    kept = λ source is. refl;
    free = λ source none. refl;
  }

  module _ (links : LinkList) (place : ℕ) (inside : place < length links) (now : List Bool) (are : AreLinkBits due (take place links) Kept old now) where
    abbrev next : LineId × LineId
    next = get_or links place no_link

    longer : take (place + 1) links ≡ take place links ++ next ∷ []
    longer = take_more links place no_link inside

    earlier : (source line : ℕ) → IsLink (take place links) source line → IsLink (take (place + 1) links) source line
    earlier source line among =
        subst (λ ls. Contains ls (link_of source line)) (sym longer)
        (Contains-append_left (take place links) (next ∷ []) (link_of source line) among)

    cases : {X : Type 0} (source line : ℕ) → IsLink (take (place + 1) links) source line → (IsLink (take place links) source line → X)
        → (next ≡ link_of source line → X) → X
    cases source line among before this =
        ⊎_elim before this
        (Contains-push_cases (take place links) next (link_of source line) (subst (λ ls. Contains ls (link_of source line)) longer among))

    -- the source of one link more is kept
    pub link_bits_kept : Kept next.0.0 → AreLinkBits due (take (place + 1) links) Kept old now
    link_bits_kept is = record {
      linked = λ source line other among. cases source line among (are.linked source line other)
          (λ this. absurd (other (subst Kept (ap (λ (l : LineId × LineId). l.0.0) this) is)));
      kept = are.kept;
      free = λ source none. are.free source (λ line among. none line (earlier source line among));
    }

    -- or its bit is written
    pub link_bits_more : AllPairs (λ a b. a.0 ≢ b.0) links → next.0.0 < length now → (Kept next.0.0 → ⊥)
        → AreLinkBits due (take (place + 1) links) Kept old (set now next.0.0 (due next.1.0))
    link_bits_more once within not_kept = record {
      linked = λ source line other among. cases source line among
          (λ before. get_or-set_other now next.0.0 source (due next.1.0) false (link_away links place inside once source line before)
          ∙ are.linked source line other before)
          (λ this. ap (λ n. get_or (set now next.0.0 (due next.1.0)) n false) (sym (ap (λ (l : LineId × LineId). l.0.0) this))
          ∙ get_or-set_same now next.0.0 (due next.1.0) false within ∙ ap (λ (l : LineId × LineId). due l.1.0) this);
      kept = λ source is.
          get_or-set_other now next.0.0 source (due next.1.0) false (λ same. not_kept (subst Kept same is)) ∙ are.kept source is;
      free = λ source none.
          get_or-set_other now next.0.0 source (due next.1.0) false
          (λ same. none next.1.0 (subst (λ ls. Contains ls (link_of source next.1.0)) (sym longer)
          (subst (λ l. Contains (take place links ++ next ∷ []) l) (own source same) (Contains-push (take place links) next))))
          ∙ are.free source (λ line among. none line (earlier source line among));
    }
      where
        own : (source : ℕ) → source ≡ next.0.0 → next ≡ link_of source next.1.0
        own source same = λ i. (record { 0 = (sym same) i }, record { 0 = next.1.0 })

  pub link_bits_all : (links : LinkList) (place : ℕ) (now : List Bool) → length links ≤ place → AreLinkBits due (take place links) Kept old now
      → AreLinkBits due links Kept old now
  link_bits_all links place now past are = subst (λ ls. AreLinkBits due ls Kept old now) (take_all place links past) are

-- the same of other bits that are due, which are those at the lines of links, and of other sources that are kept, which are the same ones
pub link_bits_as : (due other : ℕ → Bool) (Kept Same : ℕ → Type 0) (links : LinkList) (old new : List Bool)
    → ((source line : ℕ) → IsLink links source line → due line ≡ other line) → ((source : ℕ) → Kept source ↔ Same source)
    → AreLinkBits due links Kept old new → AreLinkBits other links Same old new
link_bits_as due other Kept Same links old new equal same are = record {
  linked = λ source line outside link. are.linked source line (λ kept. outside ((same source).0 kept)) link ∙ equal source line link;
  kept = λ source is. are.kept source ((same source).1 is);
  free = are.free;
}

-- where there are no links, nothing is written
pub link_bits_empty : (due : ℕ → Bool) (Kept : ℕ → Type 0) (old : List Bool) (links : LinkList) → length links ≡ 0
    → AreLinkBits due links Kept old old
link_bits_empty due Kept old [] none = link_bits_none due Kept old
link_bits_empty due Kept old (link ∷ links) none = absurd (omega (arith, none))
