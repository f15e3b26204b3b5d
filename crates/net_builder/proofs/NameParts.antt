-- Names that stand one after another in a text: the one at a place, and what stands when a name more is put last.
use Rattle.std.proofs.Common.{◌≡◌, ℕ, zero, suc, ◌≤◌, ◌<◌, List, [], ◌∷◌, ◌++◌, length, get_or, drop, refl, sym, ap, ◌∙◌, arith}
use Rattle.std.specs.Prelude.{slice_range}
use Rattle.std.proofs.lemmas.List.{drop_at, take-append-le, take_all}
use Rattle.std.proofs.lemmas.Slice.{between_is}
use Rattle.net_builder.specs.NameLists.{parts, Reach}

-- there are as many parts as ends
pub parts-length : (text : List ℕ) (start : ℕ) (ends : List ℕ) → length (parts text start ends) ≡ length ends
parts-length text start [] = refl
parts-length text start (end ∷ ends) = ap suc (parts-length text end ends)

-- the part at a place begins where the one before it ends
pub part_at : (text : List ℕ) (start : ℕ) (ends : List ℕ) (place : ℕ) → place < length ends
    → get_or (parts text start ends) place [] ≡ slice_range text (get_or (start ∷ ends) place 0) (get_or ends place 0)
part_at text start [] place within = absurd (omega arith)
part_at text start (end ∷ ends) zero within = refl
part_at text start (end ∷ ends) (suc place) within = part_at text end ends place (omega arith)

-- parts reach on
pub reach_on : (start : ℕ) (ends : List ℕ) (last : ℕ) → Reach start ends last → start ≤ last
reach_on start [] last reach = omega (arith, reach)
reach_on start (end ∷ ends) last reach = omega (arith, reach.0, reach_on end ends last reach.1)

-- no part ends before it begins
pub begins_before : (start : ℕ) (ends : List ℕ) (last place : ℕ) → Reach start ends last → place < length ends
    → get_or (start ∷ ends) place 0 ≤ get_or ends place 0
begins_before start [] last place reach within = absurd (omega arith)
begins_before start (end ∷ ends) last zero reach within = reach.0
begins_before start (end ∷ ends) last (suc place) reach within = begins_before end ends last place reach.1 (omega arith)

-- and none behind the last end
pub ends_within : (start : ℕ) (ends : List ℕ) (last place : ℕ) → Reach start ends last → place < length ends
    → get_or ends place 0 ≤ last
ends_within start [] last place reach within = absurd (omega arith)
ends_within start (end ∷ ends) last zero reach within = reach_on end ends last reach.1
ends_within start (end ∷ ends) last (suc place) reach within = ends_within end ends last place reach.1 (omega arith)

-- one end more
pub reach_pushed : (start : ℕ) (ends : List ℕ) (last next : ℕ) → Reach start ends last → last ≤ next
    → Reach start (ends ++ next ∷ []) next
reach_pushed start [] last next reach on = (omega (arith, reach, on), refl)
reach_pushed start (end ∷ ends) last next reach on = (reach.0, reach_pushed end ends last next reach.1 on)

module _ (text more : List ℕ) where
  -- a part of the text stands there still when more is put behind it
  part_kept : (start end : ℕ) → end ≤ length text → slice_range (text ++ more) start end ≡ slice_range text start end
  part_kept start end within =
      between_is (text ++ more) start end
      ∙ ap (drop start) (take-append-le end text more within)
      ∙ sym (between_is text start end)

  -- what is put behind stands from the end of the text on
  part_last : (start end : ℕ) → start ≡ length text → end ≡ length (text ++ more) → slice_range (text ++ more) start end ≡ more
  part_last start end first last =
      between_is (text ++ more) start end
      ∙ ap (drop start) (take_all end (text ++ more) (omega (arith, last)))
      ∙ drop_at text more start (sym first)

  -- and is one part more
  pub parts_pushed : (start : ℕ) (ends : List ℕ) (next : ℕ) → Reach start ends (length text) → next ≡ length (text ++ more)
      → parts (text ++ more) start (ends ++ next ∷ []) ≡ parts text start ends ++ more ∷ []
  parts_pushed start [] next reach last = ap (λ part. part ∷ []) (part_last start next reach last)
  parts_pushed start (end ∷ ends) next reach last =
      λ i. part_kept start end (reach_on end ends (length text) reach.1) i ∷ parts_pushed end ends next reach.1 last i
